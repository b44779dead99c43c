-- A run of a script, line by line.
use Rattle.std.proofs.Common.{◌≡◌, inl, inr, ℕ, ◌+◌, ◌<◌, ◌≤◌, ◌&&◌, ◌||◌, Bool, true, false, is_some, slice_get, if◌then◌else◌, Result, Ok, Err, List, [], ◌∷◌, ◌++◌, length, Option, refl, sym, ap, subst, ◌∙◌, arith, append-nil, length-append, append_assoc}
use Rattle.std.proofs.lemmas.Bool.Decides.{nat_tests}
use Rattle.std.proofs.Math.Bool.{or_assoc, or-false, or-true}
use Rattle.std.specs.Io.KnownBytes.{Appends}
use Rattle.std.proofs.KnownBytes.{Appends-nil}
use Rattle.mrt_events.specs.declared.stamp.Stamp.{Stamp}
use Rattle.mrt_wire.specs.declared.SourceFault.{SourceFault}
use Rattle.mrt_wire.specs.declared.next.Phase.TheVariants.{Ended}
use Rattle.mrt_wire.specs.Results.{RecordResult, Found, Bad, SourceState, start_state}
use Rattle.mrt_wire.proofs.SoFarLaws.{HasAnswered-start}
use Rattle.rib_player.specs.Calls.{StandsFor}
use Rattle.rib_player.specs.Timeline.{fresh}
use Rattle.rib_player.proofs.TimelineLaws.{StandsFor-fresh}
use Rattle.bgpdump_tool.specs.declared.command.Command.{Command}
use Rattle.bgpdump_lines.specs.declared.dump.TheConstants.{INPUT_LIMIT}
use Rattle.bgpdump_lines.specs.declared.outcome.Outcome.{Outcome}
use Rattle.bgpdump_lines.specs.Run.{AppendsPrefix, Texts, joined_texts, Outputs, Writes, WritesPrefixes, reports}
use Rattle.bgpdump_lines.specs.WrittenSoFar.{has_fault}
use Rattle.bgpdump_tool.specs.Script.{Line, Empty, HasCommand, NoCommand, IsLine, AreLines, script_lines, bad_line_report}
use Rattle.bgpdump_tool.specs.Meaning.{State, start, meaning, meets_end, reports_of_taken}
use Rattle.bgpdump_tool.specs.Course.{Course, course_after, course_from, course, play_texts, WritesBeyond}
use Rattle.bgpdump_tool.specs.Execution.{RunState, HasFound, HasProgress, FindsNothingAfterEnd, HasRoom, state_with_unread, IsLed, IsCutOff, IsBrokenOff, ExecutesLineFrom, ExecutesLine, HasExecuted, ExecutionCutOff, ExecutionBrokenOff, ExecutesNextLine, HasExecutedScript}
use Rattle.bgpdump_lines.proofs.WritingLaws.{AppendsPrefix-none, Writes-append, WritesPrefixes-behind, WritesPrefixes-longer, AppendsPrefix-longer}
use Rattle.bgpdump_tool.proofs.CarryLaws.{AppendsPrefix-whole, take_over}
use Rattle.bgpdump_tool.proofs.MoveLaws.{reports-append}

-- ---- texts and courses

is_some-append : (xs ys : List ℕ) → is_some (slice_get (xs ++ ys) 0) ≡ (is_some (slice_get xs 0) || is_some (slice_get ys 0))
is_some-append [] ys = refl
is_some-append (x ∷ xs) ys = refl

is_some-reports : (found : List RecordResult) → is_some (slice_get (reports found) 0) ≡ has_fault found
is_some-reports [] = refl
is_some-reports (Found event ∷ found) = is_some-reports found
is_some-reports (Bad fault ∷ found) = refl

joined-twice : (a b c : Texts) → joined_texts a (joined_texts b c) ≡ joined_texts (joined_texts a b) c
joined-twice a b c = λ i. record { out = sym (append_assoc a.out b.out c.out) i; err = sym (append_assoc a.err b.err c.err) i }

course_after-twice : (a b : Texts) (x y : Bool) (c : Course) → course_after a x (course_after b y c) ≡ course_after (joined_texts a b) (x || y) c
course_after-twice a b x y c = λ i. record { texts = joined-twice a b c.texts i; ended = sym (or_assoc x y c.ended) i; left = c.left }

-- one line more was carried out
after_line : (cut : Bool) (done lines : List Line) (line : Line) (s : State) → course_from cut 1 ((done ++ line ∷ []) ++ lines) s ≡ course_from cut 1 (done ++ line ∷ lines) s
after_line cut done lines line s = ap (λ l. course_from cut 1 l s) (append_assoc done (line ∷ []) lines)

next_number : (cut : Bool) (done lines : List Line) (line : Line) (s : State) → course_from cut (length done + 1 + 1) lines s ≡ course_from cut (length (done ++ line ∷ []) + 1) lines s
next_number cut done lines line s = ap (λ n. course_from cut n lines s) (omega (arith, length-append done (line ∷ [])))

-- ---- the start

pub HasExecuted-start : (stamp : Stamp) (left : Option (List ℕ)) (scene : RunState) (outputs : Outputs) → scene.player ≡ fresh → scene.place ≡ start_state stamp INPUT_LIMIT → scene.reported ≡ false → scene.left ≡ left
    → HasExecuted (start_state stamp INPUT_LIMIT) left [] scene outputs outputs
HasExecuted-start stamp left scene outputs player place reported same = record {
  standing = record { history = []; cursor = 0; floor = 0; found = []; ended = false };
  stands = record {
    history = subst (λ t. StandsFor t []) (sym player) StandsFor-fresh;
    cursor = ap (λ t. t.cursor) player;
    floor = ap (λ t. t.floor) player;
    taking = subst (λ q. HasFound (start_state stamp INPUT_LIMIT) left q scene.left [] false) (sym place) (subst (λ l. HasFound (start_state stamp INPUT_LIMIT) left (start_state stamp INPUT_LIMIT) l [] false) (sym same) (record {
      so_far = HasAnswered-start (start_state stamp INPUT_LIMIT) left refl;
      seen = λ ended none. cc;
      ends = λ e. cc;
      within = omega arith;
    }));
  };
  texts = record { out = []; err = [] };
  written = (Appends-nil outputs.out, Appends-nil outputs.err);
  told = reported;
  goes = λ cut lines more h. refl;
}

-- what was written, by what is known of the reports
abbrev with_reports : Option (List ℕ) → RunState → Outputs
with_reports out scene = record { out = out; err = scene.err }

-- ---- a line that asks for nothing

pub HasExecuted-empty : (from : SourceState) (left : Option (List ℕ)) (done : List Line) (scene : RunState) (old new : Outputs) → HasExecuted from left done scene old new → HasExecuted from left (done ++ Empty ∷ []) scene old new
HasExecuted-empty from left done scene old new p = record {
  standing = p.standing;
  stands = p.stands;
  texts = p.texts;
  written = p.written;
  told = p.told;
  goes = λ cut lines more h.
      after_line cut done lines Empty (start (p.standing.found ++ more)) ∙ p.goes cut (Empty ∷ lines) more h
      ∙ ap (course_after p.texts p.standing.ended) (next_number cut done lines Empty (state_with_unread p.standing more));
}

-- ---- a line that is no command

pub HasExecuted-report : (from : SourceState) (left : Option (List ℕ)) (done : List Line) (number : ℕ) (a b : RunState) (old : Outputs) (mid new : Option (List ℕ)) → HasExecuted from left done a old (with_reports mid a) → number ≡ length done + 1
    → b ≡ record a { reported = true; err = b.err } → new ≡ mid → Appends a.err b.err (bad_line_report number) → HasExecuted from left (done ++ NoCommand ∷ []) b old (with_reports new b)
HasExecuted-report from left done number a b old mid new p is same quiet appended =
    let texts : Texts = record { out = []; err = bad_line_report number } in
    record {
      standing = p.standing;
      stands = subst (λ x. HasProgress from left x p.standing) (sym same) (record { history = p.stands.history; cursor = p.stands.cursor; floor = p.stands.floor; taking = p.stands.taking });
      texts = joined_texts p.texts texts;
      written = Writes-append p.texts texts old (with_reports mid a) (with_reports new b) p.written (subst (λ o. Appends mid o []) (sym quiet) (Appends-nil mid), appended);
      told = ap (λ x. x.reported) same ∙ sym (is_some-append p.texts.err (bad_line_report number) ∙ or-true (is_some (slice_get p.texts.err 0)));
      goes = λ cut lines more h.
          after_line cut done lines NoCommand (start (p.standing.found ++ more)) ∙ p.goes cut (NoCommand ∷ lines) more (λ e. h (ap (λ x. x.place.phase) same ∙ e))
          ∙ course_after-twice p.texts (record { out = []; err = bad_line_report (length done + 1) }) p.standing.ended false (course_from cut (length done + 1 + 1) lines (state_with_unread p.standing more))
          ∙ (λ i. course_after (joined_texts p.texts (record { out = []; err = bad_line_report (sym is i) })) (or-false p.standing.ended i) (next_number cut done lines NoCommand (state_with_unread p.standing more) i));
    }

-- ---- a command

-- the run goes on behind a command only where the input isn't cut off, or the command doesn't meet the end
not_cut : (cut meets : Bool) → (meets ≡ true → cut ≡ false) → (cut && meets) ≡ false
not_cut cut meets h = grind (arith, h)

-- what follows a command, by whether the input is cut off in it
course_by : (cut : Bool) (number : ℕ) (command : Command) (lines : List Line) (s : State) (test : Bool) → (cut && meets_end command s) ≡ test
    → course_from cut number (HasCommand command ∷ lines) s ≡ (if test then record { texts = record { out = []; err = reports s.unread }; ended = true; left = [] }
    else course_after (record { out = (meaning command s).reply; err = reports_of_taken command s }) (meets_end command s) (course_from cut (number + 1) lines (meaning command s).after))
course_by cut number command lines s test is =
    ap (λ test. if test then record { texts = record { out = []; err = reports s.unread }; ended = true; left = [] }
    else course_after (record { out = (meaning command s).reply; err = reports_of_taken command s }) (meets_end command s) (course_from cut (number + 1) lines (meaning command s).after)) is

-- nothing more is found where the run had ended before, or has now
none_more : (a b : SourceState) (taken more : List RecordResult) → FindsNothingAfterEnd a b taken → (b.phase ≡ Ended → more ≡ []) → a.phase ≡ Ended → taken ++ more ≡ []
none_more a b taken more follows none ended = λ i. follows.quiet ended i ++ none (follows.stays ended) i

pub HasExecuted-command : (from : SourceState) (left : Option (List ℕ)) (done : List Line) (command : Command) (a b : RunState) (old : Outputs) (mid new : Option (List ℕ)) → (p : HasExecuted from left done a old (with_reports mid a))
    → (led : IsLed command from left p.standing a b) × Appends mid new led.reply → HasExecuted from left (done ++ HasCommand command ∷ []) b old (with_reports new b)
HasExecuted-command from left done command a b old mid new p (led, replied) =
    let s = p.standing in
    let t = led.after in
    let texts : Texts = record { out = led.reply; err = reports led.taken } in
    record {
      standing = t;
      stands = led.stands;
      texts = joined_texts p.texts texts;
      written = Writes-append p.texts texts old (with_reports mid a) (with_reports new b) p.written (replied, led.reported);
      told = led.told ∙ (λ i. p.told i || sym (is_some-reports led.taken) i) ∙ sym (is_some-append p.texts.err (reports led.taken));
      goes = λ cut lines more h.
          let none = λ (e : b.place.phase ≡ Ended). (h e).0 in
          let leads = led.leads more none in
          let st = state_with_unread s (led.taken ++ more) in
          let on = not_cut cut (meets_end command st) (λ met. (h (led.stands.taking.ends (leads.ended ∙ ap (λ x. s.ended || x) met ∙ or-true s.ended))).1) in
          after_line cut done lines (HasCommand command) (start (t.found ++ more))
          ∙ ap (λ l. course_from cut 1 (done ++ HasCommand command ∷ lines) (start l)) (ap (λ l. l ++ more) led.found ∙ append_assoc s.found led.taken more)
          ∙ p.goes cut (HasCommand command ∷ lines) (led.taken ++ more) (λ e. (none_more a.place b.place led.taken more led.follows none e, (h (led.follows.stays e)).1))
          ∙ ap (course_after p.texts s.ended) (course_by cut (length done + 1) command lines st false on)
          ∙ course_after-twice p.texts (record { out = (meaning command st).reply; err = reports_of_taken command st }) s.ended (meets_end command st) (course_from cut (length done + 1 + 1) lines (meaning command st).after)
          ∙ (λ i. course_after (joined_texts p.texts (record { out = leads.replied i; err = reports (leads.took i) })) (sym leads.ended i) (course_from cut (length done + 1 + 1) lines (leads.after i)))
          ∙ ap (course_after (joined_texts p.texts texts) t.ended) (next_number cut done lines (HasCommand command) (state_with_unread t more));
    }

-- ---- a run that is stopped

-- the course of lines that were carried out, whatever is found behind
pub course_of_done : (from : SourceState) (left : Option (List ℕ)) (lines : List Line) (scene : RunState) (old new : Outputs) (later : List RecordResult) → (p : HasExecuted from left lines scene old new) → (scene.place.phase ≡ Ended → later ≡ [])
    → course false lines (p.standing.found ++ later) ≡ record { texts = p.texts; ended = p.standing.ended; left = later }
course_of_done from left lines scene old new later p none =
    ap (λ l. course false l (p.standing.found ++ later)) (sym (append-nil lines)) ∙ p.goes false [] later (λ e. (none e, refl))
    ∙ (λ i. record { texts = record { out = append-nil p.texts.out i; err = append-nil p.texts.err i }; ended = or-false p.standing.ended i; left = later })

-- the texts of lines that were carried out were written, and fronts of what one more line adds
past_line : (from : SourceState) (left : Option (List ℕ)) (done : List Line) (line : Line) (a : RunState) (old mid new : Outputs) (found taken more : List RecordResult) → (p : HasExecuted from left done a old mid) → found ≡ p.standing.found ++ taken
    → (a.place.phase ≡ Ended → taken ++ more ≡ []) → WritesPrefixes (course_from false (length done + 1) (line ∷ []) (state_with_unread p.standing (taken ++ more))).texts mid new
    → WritesBeyond (play_texts done (found ++ more)) (play_texts (done ++ line ∷ []) (found ++ more)) old new
past_line from left done line a old mid new found taken more p is none fronts =
    let all : found ++ more ≡ p.standing.found ++ (taken ++ more) = ap (λ l. l ++ more) is ∙ append_assoc p.standing.found taken more in
    let own : play_texts done (found ++ more) ≡ p.texts = ap (λ l. play_texts done l) all ∙ ap (λ c. c.texts) (course_of_done from left done a old mid (taken ++ more) p none) in
    record {
      mid = mid;
      written = subst (λ t. Writes t old mid) (sym own) p.written;
      more = (course_from false (length done + 1) (line ∷ []) (state_with_unread p.standing (taken ++ more))).texts;
      whole = ap (λ l. play_texts (done ++ line ∷ []) l) all ∙ ap (λ c. c.texts) (p.goes false (line ∷ []) (taken ++ more) (λ e. (none e, refl)))
          ∙ ap (λ t. joined_texts t (course_from false (length done + 1) (line ∷ []) (state_with_unread p.standing (taken ++ more))).texts) (sym own);
      fronts = fronts;
    }

-- lines behind others write more
texts_behind : (a all begun : Texts) → (rest : Texts) × (all ≡ joined_texts begun rest) → (rest : Texts) × (joined_texts a all ≡ joined_texts (joined_texts a begun) rest)
texts_behind a all begun (rest, is) = (rest, ap (joined_texts a) is ∙ joined-twice a begun rest)

texts_more : (number : ℕ) (begun lines : List Line) (s : State) → (rest : Texts) × ((course_from false number (begun ++ lines) s).texts ≡ joined_texts (course_from false number begun s).texts rest)
texts_more number [] lines s = ((course_from false number lines s).texts, refl)
texts_more number (Empty ∷ begun) lines s = texts_more (number + 1) begun lines s
texts_more number (NoCommand ∷ begun) lines s = texts_behind (record { out = []; err = bad_line_report number }) _ _ (texts_more (number + 1) begun lines s)
texts_more number (HasCommand command ∷ begun) lines s =
    texts_behind (record { out = (meaning command s).reply; err = reports_of_taken command s }) _ _ (texts_more (number + 1) begun lines (meaning command s).after)

-- fronts of what a last line adds are fronts of what any lines write that begin so
pub fronts_past : (done behind : List Line) (line : Line) (found : List RecordResult) (old new : Outputs) → WritesBeyond (play_texts done found) (play_texts (done ++ line ∷ []) found) old new
    → WritesPrefixes (play_texts ((done ++ line ∷ []) ++ behind) found) old new
fronts_past done behind line found old new past =
    let first = play_texts done found in
    let more = texts_more 1 (done ++ line ∷ []) behind (start found) in
    subst (λ t. WritesPrefixes t old new) (sym (more.1 ∙ ap (λ t. joined_texts t more.0) past.whole))
    (WritesPrefixes-longer (joined_texts first past.more) more.0 old new (WritesPrefixes-behind first past.more old past.mid new past.written past.fronts))

-- by its source
pub ExecutionCutOff-command : (from : SourceState) (left : Option (List ℕ)) (done : List Line) (command : Command) (a b : RunState) (old : Outputs) (mid new : Option (List ℕ)) (fault : SourceFault) → (p : HasExecuted from left done a old (with_reports mid a))
    → IsCutOff command from left p.standing a b mid new fault → ExecutionCutOff from left done (HasCommand command) b old (with_reports new b) fault
ExecutionCutOff-command from left done command a b old mid new fault p stop =
    let s = p.standing in
    let taken = stop.taken in
    let met : meets_end command (state_with_unread s taken) ≡ true =
    grind (arith, nat_tests, subst (λ l. length taken < (meaning command (state_with_unread s l)).wanted) (append-nil taken) (stop.wants [])) in
    let course_is : (lines : List Line) → course true ((done ++ HasCommand command ∷ []) ++ lines) (s.found ++ taken) ≡ course_after p.texts s.ended (record { texts = record { out = []; err = reports taken }; ended = true; left = [] }) =
    λ lines. after_line true done lines (HasCommand command) (start (s.found ++ taken)) ∙ p.goes true (HasCommand command ∷ lines) taken (λ e. absurd (stop.reads e))
    ∙ ap (course_after p.texts s.ended) (course_by true (length done + 1) command lines (state_with_unread s taken) true met) in
    record {
      found = s.found ++ taken;
      faulty = stop.faulty;
      wants = λ lines. ap (λ c. c.ended) (course_is lines) ∙ or-true s.ended;
      exact = λ lines.
          subst (λ c. Writes c.texts old (with_reports new b)) (sym (course_is lines))
          (Writes-append p.texts (record { out = []; err = reports taken }) old (with_reports mid a) (with_reports new b) p.written (stop.quiet, stop.reported));
      past = λ more.
          let st = state_with_unread s (taken ++ more) in
          let rest = take_over taken more (meaning command st).wanted (omega (arith, stop.wants more)) in
          past_line from left done (HasCommand command) a old (with_reports mid a) (with_reports new b) (s.found ++ taken) taken more p refl (λ e. absurd (stop.reads e))
          (WritesPrefixes-longer (record { out = (meaning command st).reply; err = reports_of_taken command st }) (record { out = []; err = [] }) (with_reports mid a) (with_reports new b) (
            record { front = []; back = (meaning command st).reply; whole = refl; appended = stop.quiet },
            subst (AppendsPrefix a.err b.err) (sym (ap reports rest.1 ∙ reports-append taken rest.0)) (AppendsPrefix-longer a.err b.err (reports taken) (reports rest.0) (AppendsPrefix-whole a.err b.err (reports taken) stop.reported)),
          ));
    }

-- by memory or an output
pub ExecutionBrokenOff-command : (from : SourceState) (left : Option (List ℕ)) (done : List Line) (command : Command) (a b : RunState) (old : Outputs) (mid new : Option (List ℕ)) → (p : HasExecuted from left done a old (with_reports mid a))
    → IsBrokenOff command from left p.standing a b mid new → ExecutionBrokenOff from left done (HasCommand command) b old (with_reports new b)
ExecutionBrokenOff-command from left done command a b old mid new p stop =
    let s = p.standing in
    let taken = stop.taken in
    record {
      found = s.found ++ taken;
      ended = stop.ended;
      taking = stop.taking;
      met = λ e lines.
          ap (λ c. c.ended) (after_line false done lines (HasCommand command) (start (s.found ++ taken)) ∙ p.goes false (HasCommand command ∷ lines) taken (λ x. (stop.follows.quiet x, refl)))
          ∙ sym (or_assoc s.ended (meets_end command (state_with_unread s taken)) (course_from false (length done + 1 + 1) lines (meaning command (state_with_unread s taken)).after).ended)
          ∙ ap (λ x. x || (course_from false (length done + 1 + 1) lines (meaning command (state_with_unread s taken)).after).ended) (stop.met e);
      past = λ more none.
          let st = state_with_unread s (taken ++ more) in
          past_line from left done (HasCommand command) a old (with_reports mid a) (with_reports new b) (s.found ++ taken) taken more p refl (none_more a.place b.place taken more stop.follows none)
          (WritesPrefixes-longer (record { out = (meaning command st).reply; err = reports_of_taken command st }) (record { out = []; err = [] }) (with_reports mid a) (with_reports new b) (stop.fronts more none));
    }

-- at a line that is no command
pub ExecutionBrokenOff-report : (from : SourceState) (left : Option (List ℕ)) (done : List Line) (number : ℕ) (a b : RunState) (old : Outputs) (mid new : Option (List ℕ)) → (p : HasExecuted from left done a old (with_reports mid a)) → number ≡ length done + 1
    → b ≡ record a { reported = true; err = b.err } → new ≡ mid → AppendsPrefix a.err b.err (bad_line_report number) → ExecutionBrokenOff from left done NoCommand b old (with_reports new b)
ExecutionBrokenOff-report from left done number a b old mid new p is same quiet front =
    let s = p.standing in
    record {
      found = s.found;
      ended = s.ended;
      taking = subst (λ x. HasFound from left x.place x.left s.found s.ended) (sym same) p.stands.taking;
      met = λ e lines.
          ap (λ l. (course false ((done ++ NoCommand ∷ []) ++ lines) l).ended) (sym (append-nil s.found))
          ∙ ap (λ c. c.ended) (after_line false done lines NoCommand (start (s.found ++ [])) ∙ p.goes false (NoCommand ∷ lines) [] (λ x. (refl, refl)))
          ∙ ap (λ x. x || (course_from false (length done + 1 + 1) lines (state_with_unread s [])).ended) e;
      past = λ more none.
          past_line from left done NoCommand a old (with_reports mid a) (with_reports new b) s.found [] more p (sym (append-nil s.found)) (λ x. none (ap (λ y. y.place.phase) same ∙ x))
          (WritesPrefixes-longer (record { out = []; err = bad_line_report (length done + 1) }) (record { out = []; err = [] }) (with_reports mid a) (with_reports new b)
          (subst (λ o. AppendsPrefix mid o []) (sym quiet) (AppendsPrefix-none mid []), subst (λ n. AppendsPrefix a.err b.err (bad_line_report n)) is front));
    }

-- ---- a line, whatever it asks for

pub ExecutesNextLine-line : (line : Line) (from : SourceState) (left : Option (List ℕ)) (done : List Line) (number : ℕ) (a b : RunState) (old : Outputs) (mid new : Option (List ℕ)) (result : Result (Unit {0}) Outcome) → (p : HasExecuted from left done a old (with_reports mid a)) → number ≡ length done + 1
    → ExecutesLineFrom line number from left p.standing a b mid new result → ExecutesNextLine from left done line b old (with_reports new b) result
ExecutesNextLine-line Empty from left done number a b old mid new (Ok done') p is (ok, same, quiet) =
    subst (λ x. HasExecuted from left (done ++ Empty ∷ []) x old (with_reports new x)) (sym same)
    (subst (λ o. HasExecuted from left (done ++ Empty ∷ []) a old (with_reports o a)) (sym quiet) (HasExecuted-empty from left done a old (with_reports mid a) p))
ExecutesNextLine-line Empty from left done number a b old mid new (Err outcome) p is (ok, same, quiet) = cc
ExecutesNextLine-line (HasCommand command) from left done number a b old mid new (Ok done') p is does = HasExecuted-command from left done command a b old mid new p does
ExecutesNextLine-line (HasCommand command) from left done number a b old mid new (Err outcome) p is (inl (fault, e, stop)) =
    inl (fault, e, ExecutionCutOff-command from left done command a b old mid new fault p stop)
ExecutesNextLine-line (HasCommand command) from left done number a b old mid new (Err outcome) p is (inr (fault, e, stop)) =
    inr (fault, e, ExecutionBrokenOff-command from left done command a b old mid new p stop)
ExecutesNextLine-line NoCommand from left done number a b old mid new (Ok done') p is (same, quiet, reported) =
    HasExecuted-report from left done number a b old mid new p is same quiet reported
ExecutesNextLine-line NoCommand from left done number a b old mid new (Err outcome) p is (same, quiet, (fault, e, front)) =
    inr (fault, e, ExecutionBrokenOff-report from left done number a b old mid new p is same quiet front)

-- ---- the lines of a script

-- lines that were carried out, each of which asks for what was done
pub record LinesDone (from : SourceState) (left : Option (List ℕ)) (script rest : List ℕ) (number : ℕ) (scene : RunState) (old new : Outputs) : Type 0 where
  pub done : List Line
  pub octets : List (List ℕ)
  pub whole : script_lines script ≡ octets ++ script_lines rest
  pub are : AreLines done octets
  pub count : number ≡ length done + 1
  pub plays : HasExecuted from left done scene old new
  pub room : HasRoom scene.player scene.place (length done)
  pub few : number + length rest ≤ length script + 1

AreLines-more : (lines : List Line) (octets : List (List ℕ)) (line : Line) (one : List ℕ) → AreLines lines octets → IsLine line one → AreLines (lines ++ line ∷ []) (octets ++ one ∷ [])
AreLines-more [] [] line one are is = (is, tt)
AreLines-more [] (x ∷ octets) line one are is = absurd are
AreLines-more (y ∷ lines) [] line one are is = absurd are
AreLines-more (y ∷ lines) (x ∷ octets) line one are is = (are.0, AreLines-more lines octets line one are.1 is)

pub LinesDone-start : (left : Option (List ℕ)) (script : List ℕ) (scene : RunState) (outputs : Outputs) → scene.player ≡ fresh → scene.place ≡ start_state scene.place.stamp INPUT_LIMIT → scene.reported ≡ false → scene.left ≡ left
    → LinesDone scene.place left script script 1 scene outputs outputs
LinesDone-start left script scene outputs player place reported same = record {
  done = [];
  octets = [];
  whole = refl;
  are = tt;
  count = refl;
  plays = subst (λ q. HasExecuted q left [] scene outputs outputs) (sym place) (HasExecuted-start scene.place.stamp left scene outputs player place reported same);
  room = subst (λ t. HasRoom t scene.place 0) (sym player) (subst (λ q. HasRoom fresh q 0) (sym place) (record { floor = omega arith; cursor = omega arith; steps = omega arith; within = omega arith; limit = refl }));
  few = omega arith;
}

pub LinesDone-line : (from : SourceState) (left : Option (List ℕ)) (script rest one behind : List ℕ) (number : ℕ) (a b : RunState) (old : Outputs) (mid new : Option (List ℕ)) → LinesDone from left script rest number a old (with_reports mid a)
    → script_lines rest ≡ one ∷ script_lines behind → length behind < length rest → ExecutesLine one number a b mid new (Ok tt)
    → ((lost : ℕ) → HasRoom a.player a.place lost → HasRoom b.player b.place (lost + 1)) → LinesDone from left script behind (number + 1) b old (with_reports new b)
LinesDone-line from left script rest one behind number a b old mid new d split shorter (line, is, does) room = record {
  done = d.done ++ line ∷ [];
  octets = d.octets ++ one ∷ [];
  whole = d.whole ∙ ap (λ l. d.octets ++ l) split ∙ sym (append_assoc d.octets (one ∷ []) (script_lines behind));
  are = AreLines-more d.done d.octets line one d.are is;
  count = omega (arith, d.count, length-append d.done (line ∷ []));
  plays = ExecutesNextLine-line line from left d.done number a b old mid new (Ok tt) d.plays d.count (does from left d.plays.standing d.plays.stands);
  room = subst (HasRoom b.player b.place) (sym (length-append d.done (line ∷ []))) (room (length d.done) d.room);
  few = omega (arith, d.few, shorter);
}

-- the line that a fault stopped
pub HasExecutedScript-stopped : (from : SourceState) (left : Option (List ℕ)) (script rest one : List ℕ) (more : List (List ℕ)) (number : ℕ) (a b : RunState) (old : Outputs) (mid new : Option (List ℕ)) (outcome : Outcome)
    → LinesDone from left script rest number a old (with_reports mid a) → script_lines rest ≡ one ∷ more → ExecutesLine one number a b mid new (Err outcome) → HasExecutedScript from left script b old (with_reports new b) (Err outcome)
HasExecutedScript-stopped from left script rest one more number a b old mid new outcome d split (line, is, does) = (
  d.done,
  line,
  d.octets ++ one ∷ [],
  more,
  d.whole ∙ ap (λ l. d.octets ++ l) split ∙ sym (append_assoc d.octets (one ∷ []) more),
  AreLines-more d.done d.octets line one d.are is,
  ExecutesNextLine-line line from left d.done number a b old mid new (Err outcome) d.plays d.count (does from left d.plays.standing d.plays.stands),
)

-- the last line
pub HasExecutedScript-last : (from : SourceState) (left : Option (List ℕ)) (script rest : List ℕ) (number : ℕ) (a b : RunState) (old : Outputs) (mid new : Option (List ℕ)) (result : Result (Unit {0}) Outcome)
    → LinesDone from left script rest number a old (with_reports mid a) → script_lines rest ≡ rest ∷ [] → ExecutesLine rest number a b mid new result → HasExecutedScript from left script b old (with_reports new b) result
HasExecutedScript-last from left script rest number a b old mid new (Ok done) d split (line, is, does) = (
  d.done ++ line ∷ [],
  subst (AreLines (d.done ++ line ∷ [])) (sym (d.whole ∙ ap (λ l. d.octets ++ l) split)) (AreLines-more d.done d.octets line rest d.are is),
  ExecutesNextLine-line line from left d.done number a b old mid new (Ok done) d.plays d.count (does from left d.plays.standing d.plays.stands),
)
HasExecutedScript-last from left script rest number a b old mid new (Err outcome) d split carries =
    HasExecutedScript-stopped from left script rest rest [] number a b old mid new outcome d split carries
