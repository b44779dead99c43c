-- Commands that are carried out.
use Rattle.std.proofs.Common.{codes, ◌≡◌, inl, inr, ℕ, zero, suc, ◌+◌, ◌-◌, ◌<◌, ◌≤◌, ◌||◌, min, max, Bool, true, false, Result, Ok, Err, List, [], ◌∷◌, ◌++◌, length, take, drop, nat_lt, Option, refl, sym, ap, subst, ◌∙◌, arith, append-nil, length-append, length-drop, take_at, drop_at}
use Rattle.std.proofs.lemmas.Bool.Decides.{nat_tests}
use Rattle.std.proofs.lemmas.List.{append_assoc, take_all, drop_all}
use Rattle.std.proofs.Math.Bool.{or-false}
use Rattle.std.specs.Io.KnownBytes.{Appends, Keeps}
use Rattle.std.proofs.KnownBytes.{Appends-kept, Appends-nil}
use Rattle.mrt_events.specs.declared.peer.Peer.{Peer}
use Rattle.mrt_events.specs.declared.event.Event.{Event}
use Rattle.rib_player.specs.Tables.{Routes, table}
use Rattle.rib_player.specs.Timeline.{Timeline, undoable, ahead_of, end_of, current, after_play, forgotten_count, after_forget}
use Rattle.rib_player.specs.Calls.{StandsFor}
use Rattle.rib_player.proofs.TimelineLaws.{StandsFor-current, StandsFor-end, StandsFor-after_play, StandsFor-after_forget}
use Rattle.mrt_wire.specs.Results.{RecordResult, SourceState}
use Rattle.bgpdump_tool.specs.declared.command.Command.{Command}
use Rattle.bgpdump_tool.specs.declared.command.Command.TheVariants.{Next, Back, Goto, Position, Lose, Forget}
use Rattle.bgpdump_lines.specs.declared.fault.WriteFault.{WriteFault}
use Rattle.bgpdump_lines.specs.declared.outcome.Outcome.{Outcome}
use Rattle.bgpdump_lines.specs.Run.{AppendsPrefix, reports}
use Rattle.bgpdump_lines.specs.WrittenSoFar.{outcome_of_write_fault, with_outcome_error, Puts, PutsAllOrFront}
use Rattle.bgpdump_tool.specs.Replies.{at_text, labelled_numbers_line}
use Rattle.bgpdump_tool.specs.Meaning.{events, results_needed, loss, answer, retreat_to, forward_then_play, meaning, meets_end, reports_of_taken}
use Rattle.bgpdump_tool.specs.Execution.{Progress, RunState, HasFound, HasProgress, state_with_unread, at_cursor, progress_after, HasRoom, MovesForward, StepsFrom, Steps, IsLed, ExecutesFrom}
use Rattle.bgpdump_tool.proofs.WalkLaws.{PutsAllOrFront-put, PutsAllOrFront-behind}
use Rattle.bgpdump_tool.proofs.StepLaws.{kept-Appends, kept-AppendsPrefix}
use Rattle.bgpdump_tool.proofs.MoveLaws.{HasProgress-inside, FindsNothingAfterEnd-twice, MovesForward-twice, Forth, Reaches, all_over, reports-append, needed_beyond, events_few}
use Rattle.bgpdump_lines.proofs.WritingLaws.{AppendsPrefix-none, AppendsPrefix-behind, AppendsPrefix-longer}

-- ---- fronts

pub AppendsPrefix-whole : (a b : Option (List ℕ)) (text : List ℕ) → Appends a b text → AppendsPrefix a b text
AppendsPrefix-whole a b text appended = record { front = text; back = []; whole = sym (append-nil text); appended = appended }

-- ---- results that are taken

-- more than were found
pub take_over : (found more : List RecordResult) (count : ℕ) → length found ≤ count → (rest : List RecordResult) × (take count (found ++ more) ≡ found ++ rest)
take_over [] more count h = (take count more, refl)
take_over (x ∷ found) more zero h = absurd (omega (arith, h))
take_over (x ∷ found) more (suc count) h =
    let rest = take_over found more count (omega (arith, h)) in
    (rest.0, ap (λ l. x ∷ l) rest.1)

-- ---- a move on

-- what was taken, by whether the end was met
taken_by : (found more : List RecordResult) (count : ℕ) (ended : Bool) → (ended ≡ false → length found ≡ count) → (ended ≡ true → (length found < count) × (more ≡ []))
    → (take count (found ++ more) ≡ found) × (drop count (found ++ more) ≡ more) × (nat_lt (length (found ++ more)) count ≡ ended)
taken_by found more count false all few =
    let size = all refl in
    (take_at found more count size, drop_at found more count size, grind (arith, nat_tests, size, length-append found more))
taken_by found more count true all few =
    let (below, none) = few refl in
    let same : found ++ more ≡ found = ap (λ l. found ++ l) none ∙ append-nil found in
    let within : length found ≤ count = omega (arith, below) in
    let size : length (found ++ more) < count = omega (arith, below, ap length same) in
    (ap (take count) same ∙ take_all count found within, ap (drop count) same ∙ drop_all count found within ∙ sym none, grind (arith, nat_tests, size))

-- a run that went on was led by a command that takes so many results
pub IsLed-forward_then_play : (command : Command) (from : SourceState) (left : Option (List ℕ)) (s : Progress) (old new : RunState) (over : ℕ) (found : List RecordResult) (ended : Bool) (count : List RecordResult → ℕ) → MovesForward from left s old new over found ended
    → ((more : List RecordResult) → meaning command (state_with_unread s (found ++ more)) ≡ forward_then_play over (count more) (state_with_unread s (found ++ more)))
    → (ended ≡ false → (more : List RecordResult) → length found ≡ count more) → (ended ≡ true → (more : List RecordResult) → length found < count more)
    → (led : IsLed command from left s old new) × (led.reply ≡ at_text new.player.cursor ended)
IsLed-forward_then_play command from left s old new over found ended count goes means all few = (
  record {
    after = progress_after over found ended s;
    taken = found;
    reply = at_text (s.cursor + over + length (events found)) ended;
    found = refl;
    stands = goes.stands;
    follows = goes.follows;
    leads = λ more none.
        let (took, left, test) = taken_by found more (count more) ended (λ e. all e more) (λ e. (few e more, none (goes.met e).1)) in
        record {
          after = ap (λ m. m.after) (means more) ∙ (λ i. record { history = s.history ++ events (took i); cursor = s.cursor + over + length (events (took i)); floor = s.floor; unread = left i });
          replied = ap (λ m. m.reply) (means more) ∙ (λ i. at_text (s.cursor + over + length (events (took i))) (test i));
          took = ap (λ m. take m.wanted (found ++ more)) (means more) ∙ took;
          ended = ap (λ b. s.ended || b) (sym (ap (λ m. nat_lt (length (found ++ more)) m.wanted) (means more) ∙ test));
        };
    reported = goes.reported;
    told = goes.told;
  },
  ap (λ n. at_text n ended) (sym goes.stands.cursor),
)

-- ---- the reply

-- a reply that was written, or a front of it
pub Execution-replied : (command : Command) (from : SourceState) (left : Option (List ℕ)) (s : Progress) (old new : RunState) (out out' : Option (List ℕ)) (text : List ℕ) (result : Result (Unit {0}) WriteFault) → (led : IsLed command from left s old new)
    → led.reply ≡ text → PutsAllOrFront out out' text result → ExecutesFrom command from left s old new out out' (with_outcome_error result)
Execution-replied command from left s old new out out' text (Ok done) led is replied = (led, subst (Appends out out') (sym is) replied)
Execution-replied command from left s old new out out' text (Err fault) led is replied = inr (
  fault,
  refl,
  record {
    taken = led.taken;
    ended = led.after.ended;
    taking = subst (λ f. HasFound from left new.place new.left f led.after.ended) led.found led.stands.taking;
    follows = led.follows;
    met = λ e. ap (λ l. s.ended || meets_end command (state_with_unread s l)) (sym (append-nil led.taken)) ∙ sym (led.leads [] (λ _. refl)).ended ∙ e;
    fronts = λ more none.
        let leads = led.leads more none in (
          subst (AppendsPrefix out out') (sym (leads.replied ∙ is)) replied,
          subst (AppendsPrefix old.err new.err) (ap reports (sym leads.took)) (AppendsPrefix-whole old.err new.err (reports led.taken) led.reported),
        );
  },
)

-- a run that moved on tells where it stands
pub Execution-moved : (command : Command) (from : SourceState) (left : Option (List ℕ)) (s : Progress) (old new : RunState) (out mid out' : Option (List ℕ)) (at : ℕ) (ended : Bool) (result : Result (Unit {0}) WriteFault) → (led : IsLed command from left s old new) × (led.reply ≡ at_text new.player.cursor ended)
    → at ≡ new.player.cursor → Keeps out mid → Puts mid out' (at_text at ended) result → ExecutesFrom command from left s old new out out' (with_outcome_error result)
Execution-moved command from left s old new out mid out' at ended result (led, is) at_is kept put =
    Execution-replied command from left s old new out out' (at_text at ended) result led (is ∙ ap (λ n. at_text n ended) (sym at_is))
    (PutsAllOrFront-behind out mid out' [] (at_text at ended) result (kept-Appends out mid mid [] kept (Appends-nil mid)) put)

-- ---- a fault on the way

-- a step that is stopped where the command wants more than was found stops the command
Execution-stopped : (command : Command) (from : SourceState) (left : Option (List ℕ)) (s : Progress) (a b c : RunState) (out out' : Option (List ℕ)) (over : ℕ) (found : List RecordResult) (outcome : Outcome) → Keeps out out'
    → ((more : List RecordResult) → length found < (meaning command (state_with_unread s (found ++ more))).wanted) → MovesForward from left s a b over found false
    → StepsFrom from left (progress_after over found false s) b c (Err outcome) → ExecutesFrom {A = Unit {0}} command from left s a c out out' (Err outcome)
Execution-stopped command from left s a b c out out' over found outcome kept few first (end, inl (fault, is, stop)) = inl (
  fault,
  is,
  record {
    taken = found;
    wants = few;
    reads = λ e. stop.reads (first.follows.stays e);
    faulty = stop.faulty;
    reported = Appends-kept a.err b.err c.err (reports found) first.reported stop.kept;
    quiet = kept-Appends out out' out' [] kept (Appends-nil out');
  },
)
Execution-stopped command from left s a b c out out' over found outcome kept few first (end, inr (fault, is, new, one, stop)) = inr (
  fault,
  is,
  record {
    taken = found ++ new;
    ended = s.ended;
    taking = subst (λ e. HasFound from left c.place c.left (s.found ++ (found ++ new)) e) (or-false s.ended) (subst (λ f. HasFound from left c.place c.left f (s.ended || false)) (append_assoc s.found found new) stop.taking);
    follows = FindsNothingAfterEnd-twice a.place b.place c.place found new first.follows stop.follows;
    met = λ e. ap (λ b. b || meets_end command (state_with_unread s (found ++ new))) e;
    fronts = λ more none.
        let wanted = (meaning command (state_with_unread s ((found ++ new) ++ more))).wanted in
        let has : length (found ++ new) ≤ wanted = omega (arith, one, length-append found new, few (new ++ more), ap (λ l. (meaning command (state_with_unread s l)).wanted) (append_assoc found new more)) in
        let rest = take_over (found ++ new) more wanted has in (
          kept-AppendsPrefix out out' out' _ kept (AppendsPrefix-none out' _),
          subst (AppendsPrefix a.err c.err) (sym (ap reports rest.1 ∙ reports-append (found ++ new) rest.0 ∙ ap (λ l. l ++ reports rest.0) (reports-append found new)))
              (AppendsPrefix-longer a.err c.err (reports found ++ reports new) (reports rest.0) (AppendsPrefix-behind a.err b.err c.err (reports found) (reports new) first.reported stop.fronts)),
        );
  },
)

-- ---- `next`

pub Next-all : (count n : ℕ) (from : SourceState) (left : Option (List ℕ)) (s : Progress) (a b : RunState) → n ≡ count → Forth n from left s a b → (led : IsLed (Next count) from left s a b) × (led.reply ≡ at_text b.player.cursor false)
Next-all count n from left s a b e (over, found, sum, goes) =
    let same : min count (length s.history - s.cursor) ≡ over = grind (arith, goes.few, goes.all, sum, e) in
    IsLed-forward_then_play (Next count) from left s a b over found false (λ more. count - over) goes
    (λ more. ap (λ o. forward_then_play o (count - o) (state_with_unread s (found ++ more))) same)
    (λ _ more. omega (arith, sum, e)) (λ x more. cc)

pub Next-end : (count n : ℕ) (from : SourceState) (left : Option (List ℕ)) (s : Progress) (a b c : RunState) (ended : Bool) → HasProgress from left a s → n < count → Forth n from left s a b → ended ≡ true → Steps b c (Ok ended)
    → (led : IsLed (Next count) from left s a c) × (led.reply ≡ at_text c.player.cursor ended)
Next-end count n from left s a b c false stands below forth e step = cc
Next-end count n from left s a b c true stands below (over, found, sum, first) e step =
    let goes = MovesForward-twice from left s a b c over 0 found [] true stands first (step from left (progress_after over found false s) first.stands) in
    let same : min count (length s.history - s.cursor) ≡ over + 0 = omega (arith, (goes.met refl).0, sum, below) in
    IsLed-forward_then_play (Next count) from left s a c (over + 0) (found ++ []) true (λ more. count - (over + 0)) goes
    (λ more. ap (λ o. forward_then_play o (count - o) (state_with_unread s ((found ++ []) ++ more))) same)
    (λ x more. cc) (λ _ more. omega (arith, sum, below, length-append found []))

pub Next-stops : (count n : ℕ) (from : SourceState) (left : Option (List ℕ)) (s : Progress) (a b c : RunState) (out out' : Option (List ℕ)) (outcome : Outcome) → HasProgress from left a s → n < count → Forth n from left s a b → Steps b c (Err outcome)
    → Keeps out out' → ExecutesFrom {A = Unit {0}} (Next count) from left s a c out out' (Err outcome)
Next-stops count n from left s a b c out out' outcome stands below (over, found, sum, first) step kept =
    let stop = step from left (progress_after over found false s) first.stands in
    let all = all_over from left s a b over found stands first stop.0 in
    Execution-stopped (Next count) from left s a b c out out' over found outcome kept (λ more. omega (arith, sum, below, all)) first stop

-- ---- `goto` that goes on

-- on to a position it takes the results that are needed
goto_means : (k : ℕ) (s : Progress) (over : ℕ) (found more : List RecordResult) → s.cursor ≤ k → min (k - s.cursor) (length s.history - s.cursor) ≡ over
    → meaning (Goto k) (state_with_unread s (found ++ more)) ≡ forward_then_play over (results_needed (k - length s.history) (found ++ more)) (state_with_unread s (found ++ more))
goto_means k s over found more above same =
    let test : nat_lt k s.cursor ≡ false = grind (arith, nat_tests, above) in
    rw test (ap (λ o. forward_then_play o (results_needed (k - length s.history) (found ++ more)) (state_with_unread s (found ++ more))) same)

pub Goto-all : (k : ℕ) (from : SourceState) (left : Option (List ℕ)) (s : Progress) (a b : RunState) → s.cursor ≤ k → Reaches k from left s a b → ¬ (b.player.cursor < k) → (led : IsLed (Goto k) from left s a b) × (led.reply ≡ at_text b.player.cursor false)
Goto-all k from left s a b above r done =
    let e : b.player.cursor ≡ k = omega (arith, r.within) in
    let same : min (k - s.cursor) (length s.history - s.cursor) ≡ r.over = grind (arith, e, r.goes.stands.cursor, r.goes.few, r.goes.all, events_few r.found) in
    IsLed-forward_then_play (Goto k) from left s a b r.over r.found false (λ more. results_needed (k - length s.history) (r.found ++ more)) r.goes
    (λ more. goto_means k s r.over r.found more above same)
    (λ _ more. sym (r.needs e more)) (λ x more. cc)

pub Goto-end : (k : ℕ) (from : SourceState) (left : Option (List ℕ)) (s : Progress) (a b c : RunState) (ended : Bool) → s.cursor ≤ k → HasProgress from left a s → b.player.cursor < k → Reaches k from left s a b → ended ≡ true → Steps b c (Ok ended)
    → (led : IsLed (Goto k) from left s a c) × (led.reply ≡ at_text c.player.cursor true)
Goto-end k from left s a b c false above stands below r e step = cc
Goto-end k from left s a b c true above stands below r e step =
    let last = step from left (progress_after r.over r.found false s) r.goes.stands in
    let goes = MovesForward-twice from left s a b c r.over 0 r.found [] true stands r.goes last in
    let all = (goes.met refl).0 in
    let few : length (events (r.found ++ [])) < k - length s.history = omega (arith, HasProgress-inside from left a s stands, all, below, last.stands.cursor, r.goes.stands.cursor, goes.stands.cursor) in
    let same : min (k - s.cursor) (length s.history - s.cursor) ≡ r.over + 0 = omega (arith, few, all) in
    IsLed-forward_then_play (Goto k) from left s a c (r.over + 0) (r.found ++ []) true (λ more. results_needed (k - length s.history) ((r.found ++ []) ++ more)) goes
    (λ more. goto_means k s (r.over + 0) (r.found ++ []) more above same)
    (λ x more. cc) (λ _ more. needed_beyond (k - length s.history) (r.found ++ []) more few)

pub Goto-stops : (k : ℕ) (from : SourceState) (left : Option (List ℕ)) (s : Progress) (a b c : RunState) (out out' : Option (List ℕ)) (outcome : Outcome) → s.cursor ≤ k → HasProgress from left a s → b.player.cursor < k → Reaches k from left s a b → Steps b c (Err outcome)
    → Keeps out out' → ExecutesFrom {A = Unit {0}} (Goto k) from left s a c out out' (Err outcome)
Goto-stops k from left s a b c out out' outcome above stands below r step kept =
    let stop = step from left (progress_after r.over r.found false s) r.goes.stands in
    let all = all_over from left s a b r.over r.found stands r.goes stop.0 in
    let few : length (events r.found) < k - length s.history = omega (arith, below, all, r.goes.stands.cursor, HasProgress-inside from left a s stands) in
    Execution-stopped (Goto k) from left s a b c out out' r.over r.found outcome kept
    (λ more. omega (arith, needed_beyond (k - length s.history) r.found more few, ap (λ m. m.wanted) (goto_means k s (min (k - s.cursor) (length s.history - s.cursor)) r.found more above refl)))
    r.goes stop

-- ---- commands that take nothing

-- nothing is found, the player goes elsewhere, and a reply was written, or a front of it
abbrev Execution-still : (command : Command) (from : SourceState) (left : Option (List ℕ)) (s t : Progress) (old : RunState) (u : Timeline) (out out' : Option (List ℕ)) (reply text : List ℕ) (result : Result (Unit {0}) WriteFault) → t.found ≡ s.found → t.ended ≡ s.ended
    → HasProgress from left (record old { player = u }) t → ((more : List RecordResult) → meaning command (state_with_unread s more) ≡ answer reply (state_with_unread t more)) → reply ≡ text → PutsAllOrFront out out' text result
    → ExecutesFrom command from left s old (record old { player = u }) out out' (with_outcome_error result)
Execution-still command from left s t old u out out' reply text result found ended stands means is replied =
    Execution-replied command from left s old (record old { player = u }) out out' text result (record {
      after = t;
      taken = [];
      reply = reply;
      found = found ∙ sym (append-nil s.found);
      stands = stands;
      follows = record { quiet = λ _. refl; stays = λ e. e };
      leads = λ more none.
          let within : nat_lt (length more) 0 ≡ false = grind (arith, nat_tests) in
          record {
            after = ap (λ m. m.after) (means more);
            replied = ap (λ m. m.reply) (means more);
            took = ap (λ m. take m.wanted more) (means more);
            ended = ended ∙ sym (or-false s.ended) ∙ ap (λ b. s.ended || b) (sym within) ∙ ap (λ m. s.ended || nat_lt (length more) m.wanted) (sym (means more));
          };
      reported = Appends-nil old.err;
      told = sym (or-false old.reported);
    }) is replied

-- the cursor goes back
Execution-retreat_to : (command : Command) (from : SourceState) (left : Option (List ℕ)) (s : Progress) (old : RunState) (u : Timeline) (cursor : ℕ) (out out' : Option (List ℕ)) (result : Result (Unit {0}) WriteFault) → HasProgress from left old s → u ≡ at_cursor cursor old.player
    → s.floor ≤ cursor → cursor ≤ s.cursor → ((more : List RecordResult) → meaning command (state_with_unread s more) ≡ retreat_to cursor (state_with_unread s more)) → Puts out out' (at_text u.cursor false) result
    → ExecutesFrom command from left s old (record old { player = u }) out out' (with_outcome_error result)
Execution-retreat_to command from left s old u cursor out out' result stands is floor within means put =
    let stood : HasProgress from left (record old { player = at_cursor cursor old.player }) (record s { cursor = cursor }) = record {
      history = record { floor = omega (arith, floor, stands.floor); cursor = omega (arith, within, stands.cursor, stands.history.cursor); tables = stands.history.tables; steps = stands.history.steps };
      cursor = refl;
      floor = stands.floor;
      taking = stands.taking;
    } in
    Execution-still command from left s (record s { cursor = cursor }) old u out out' (at_text cursor false) (at_text u.cursor false) result refl refl
    (subst (λ t. HasProgress from left (record old { player = t }) (record s { cursor = cursor })) (sym is) stood)
    means (ap (λ t. at_text t.cursor false) (sym is)) (PutsAllOrFront-put out out' (at_text u.cursor false) result put)

-- a run stands no further back than it can go
floor_behind : (from : SourceState) (left : Option (List ℕ)) (s : Progress) (old : RunState) → HasProgress from left old s → s.floor ≤ s.cursor
floor_behind from left s old stands = omega (arith, stands.history.floor, stands.floor, stands.cursor)

-- `back`
pub Execution-back : (n : ℕ) (from : SourceState) (left : Option (List ℕ)) (s : Progress) (old : RunState) (u : Timeline) (out out' : Option (List ℕ)) (result : Result (Unit {0}) WriteFault) → HasProgress from left old s
    → u ≡ at_cursor (old.player.cursor - min n (undoable old.player)) old.player → Puts out out' (at_text u.cursor false) result
    → ExecutesFrom (Back n) from left s old (record old { player = u }) out out' (with_outcome_error result)
Execution-back n from left s old u out out' result stands is put =
    Execution-retreat_to (Back n) from left s old u (s.cursor - min n (s.cursor - s.floor)) out out' result stands (is ∙ (λ i. at_cursor (stands.cursor i - min n (stands.cursor i - stands.floor i)) old.player))
    (omega (arith, floor_behind from left s old stands)) (omega arith) (λ more. refl) put

-- `goto` that goes back
pub Execution-retreats : (k count : ℕ) (from : SourceState) (left : Option (List ℕ)) (s : Progress) (old : RunState) (u : Timeline) (out out' : Option (List ℕ)) (result : Result (Unit {0}) WriteFault) → k < old.player.cursor → count ≡ old.player.cursor - k → HasProgress from left old s
    → u ≡ at_cursor (old.player.cursor - min count (undoable old.player)) old.player → Puts out out' (at_text u.cursor false) result
    → ExecutesFrom (Goto k) from left s old (record old { player = u }) out out' (with_outcome_error result)
Execution-retreats k count from left s old u out out' result below number stands is put =
    let stood = floor_behind from left s old stands in
    let back : nat_lt k s.cursor ≡ true = grind (arith, nat_tests, below, stands.cursor) in
    Execution-retreat_to (Goto k) from left s old u (max k s.floor) out out' result stands (is ∙ ap (λ n. at_cursor n old.player) (omega (arith, below, number, stands.floor, stands.cursor, stood)))
    (omega arith) (omega (arith, below, stands.cursor, stood)) (λ more. rw back refl) put

-- a question
pub Execution-question : (command : Command) (from : SourceState) (left : Option (List ℕ)) (s : Progress) (old : RunState) (out out' : Option (List ℕ)) (routes : Routes) (text : Routes → List ℕ) (result : Result (Unit {0}) WriteFault) → HasProgress from left old s
    → ((more : List RecordResult) → meaning command (state_with_unread s more) ≡ answer (text (table (take s.cursor s.history))) (state_with_unread s more)) → routes ≡ current old.player → PutsAllOrFront out out' (text routes) result
    → ExecutesFrom command from left s old old out out' (with_outcome_error result)
Execution-question command from left s old out out' routes text result stands means is replied =
    let same : routes ≡ table (take s.cursor s.history) = is ∙ StandsFor-current old.player s.history stands.history ∙ ap (λ n. table (take n s.history)) stands.cursor in
    Execution-still command from left s s old old.player out out' (text (table (take s.cursor s.history))) (text routes) result refl refl stands means (ap text (sym same)) replied

-- how many steps are ahead
ahead_is : (from : SourceState) (left : Option (List ℕ)) (s : Progress) (old : RunState) → HasProgress from left old s → ahead_of old.player ≡ length s.history - s.cursor
ahead_is from left s old stands = omega (arith, StandsFor-end old.player s.history stands.history, stands.cursor)

-- where the player stands
pub Execution-position : (from : SourceState) (left : Option (List ℕ)) (s : Progress) (old : RunState) (out out' : Option (List ℕ)) (at ahead : ℕ) (result : Result (Unit {0}) WriteFault) → HasProgress from left old s → at ≡ old.player.cursor → ahead ≡ ahead_of old.player
    → Puts out out' (labelled_numbers_line ((codes "at ", at) ∷ (codes " ahead ", ahead) ∷ [])) result → ExecutesFrom Position from left s old old out out' (with_outcome_error result)
Execution-position from left s old out out' at ahead result stands at_is ahead_of_it put =
    Execution-still Position from left s s old old.player out out' (labelled_numbers_line ((codes "at ", s.cursor) ∷ (codes " ahead ", length s.history - s.cursor) ∷ [])) (labelled_numbers_line ((codes "at ", at) ∷ (codes " ahead ", ahead) ∷ [])) result refl refl stands (λ more. refl)
    (sym (λ i. labelled_numbers_line ((codes "at ", (at_is ∙ stands.cursor) i) ∷ (codes " ahead ", (ahead_of_it ∙ ahead_is from left s old stands) i) ∷ []))) (PutsAllOrFront-put out out' (labelled_numbers_line ((codes "at ", at) ∷ (codes " ahead ", ahead) ∷ [])) result put)

-- the loss of a session
pub Execution-lose : (peer : Peer) (from : SourceState) (left : Option (List ℕ)) (s : Progress) (old : RunState) (u : Timeline) (out out' : Option (List ℕ)) (at dropped : ℕ) (result : Result (Unit {0}) WriteFault) → HasProgress from left old s → u ≡ after_play old.player (loss peer)
    → at ≡ u.cursor → dropped ≡ ahead_of old.player → Puts out out' (labelled_numbers_line ((codes "at ", at) ∷ (codes " dropped ", dropped) ∷ [])) result
    → ExecutesFrom (Lose peer) from left s old (record old { player = u }) out out' (with_outcome_error result)
Execution-lose peer from left s old u out out' at dropped result stands is at_is dropped_is put =
    let history : List Event = take s.cursor s.history ++ loss peer ∷ [] in
    let cursor : u.cursor ≡ s.cursor + 1 = ap (λ x. x.cursor) is ∙ ap (λ n. n + 1) stands.cursor in
    Execution-still (Lose peer) from left s (record s { history = history; cursor = s.cursor + 1 }) old u out out' (labelled_numbers_line ((codes "at ", s.cursor + 1) ∷ (codes " dropped ", length s.history - s.cursor) ∷ [])) (labelled_numbers_line ((codes "at ", at) ∷ (codes " dropped ", dropped) ∷ [])) result refl refl
    (record {
      history = subst (λ x. StandsFor x history) (sym is)
          (subst (λ n. StandsFor (after_play old.player (loss peer)) (take n s.history ++ loss peer ∷ [])) stands.cursor (StandsFor-after_play old.player s.history (loss peer) stands.history));
      cursor = cursor;
      floor = ap (λ x. x.floor) is ∙ stands.floor;
      taking = stands.taking;
    })
    (λ more. refl) (sym (λ i. labelled_numbers_line ((codes "at ", (at_is ∙ cursor) i) ∷ (codes " dropped ", (dropped_is ∙ ahead_is from left s old stands) i) ∷ []))) (PutsAllOrFront-put out out' (labelled_numbers_line ((codes "at ", at) ∷ (codes " dropped ", dropped) ∷ [])) result put)

-- `forget`
pub Execution-forget : (n : ℕ) (from : SourceState) (left : Option (List ℕ)) (s : Progress) (old : RunState) (u : Timeline) (out out' : Option (List ℕ)) (at floor number : ℕ) (result : Result (Unit {0}) WriteFault) → HasProgress from left old s
    → u ≡ after_forget old.player n → at ≡ u.cursor → floor ≡ u.floor → number ≡ forgotten_count old.player n → Puts out out' (labelled_numbers_line ((codes "at ", at) ∷ (codes " floor ", floor) ∷ (codes " forgot ", number) ∷ [])) result
    → ExecutesFrom (Forget n) from left s old (record old { player = u }) out out' (with_outcome_error result)
Execution-forget n from left s old u out out' at floor number result stands is at_is floor_is number_is put =
    let raised : ℕ = max s.floor (s.cursor - n) in
    let same : old.player.floor + forgotten_count old.player n ≡ raised = omega (arith, stands.floor, stands.cursor) in
    let cursor : u.cursor ≡ s.cursor = ap (λ x. x.cursor) is ∙ stands.cursor in
    let rises : u.floor ≡ raised = ap (λ x. x.floor) is ∙ same in
    let count : number ≡ raised - s.floor = omega (arith, number_is, same, stands.floor) in
    Execution-still (Forget n) from left s (record s { floor = raised }) old u out out' (labelled_numbers_line ((codes "at ", s.cursor) ∷ (codes " floor ", raised) ∷ (codes " forgot ", raised - s.floor) ∷ [])) (labelled_numbers_line ((codes "at ", at) ∷ (codes " floor ", floor) ∷ (codes " forgot ", number) ∷ [])) result refl refl
    (record {
      history = subst (λ x. StandsFor x s.history) (sym is) (StandsFor-after_forget old.player s.history n stands.history);
      cursor = cursor;
      floor = rises;
      taking = stands.taking;
    })
    (λ more. refl) (sym (λ i. labelled_numbers_line ((codes "at ", (at_is ∙ cursor) i) ∷ (codes " floor ", (floor_is ∙ rises) i) ∷ (codes " forgot ", count i) ∷ []))) (PutsAllOrFront-put out out' (labelled_numbers_line ((codes "at ", at) ∷ (codes " floor ", floor) ∷ (codes " forgot ", number) ∷ [])) result put)

-- nothing was played or written, for want of memory
pub Execution-refused : (command : Command) (from : SourceState) (left : Option (List ℕ)) (s : Progress) (old : RunState) (u : Timeline) (out : Option (List ℕ)) (fault : WriteFault) → HasProgress from left old s → u ≡ old.player
    → ExecutesFrom {A = Unit {0}} command from left s old (record old { player = u }) out out (Err (outcome_of_write_fault fault))
Execution-refused command from left s old u out fault stands same = inr (
  fault,
  refl,
  record {
    taken = [];
    ended = s.ended;
    taking = subst (λ f. HasFound from left old.place old.left f s.ended) (sym (append-nil s.found)) stands.taking;
    follows = record { quiet = λ _. refl; stays = λ e. e };
    met = λ e. ap (λ b. b || meets_end command (state_with_unread s [])) e;
    fronts = λ more none. (AppendsPrefix-none out (meaning command (state_with_unread s more)).reply, AppendsPrefix-none old.err (reports_of_taken command (state_with_unread s more)));
  },
)

-- ---- room for steps

pub HasRoom-up : (t : Timeline) (q : SourceState) (lost most : ℕ) → lost ≤ most → HasRoom t q lost → HasRoom t q most
HasRoom-up t q lost most few room = record { floor = room.floor; cursor = room.cursor; steps = omega (arith, room.steps, few); within = room.within; limit = room.limit }

-- where steps were forgotten there is room too
pub HasRoom-forget : (t u : Timeline) (keep : ℕ) (q : SourceState) (lost : ℕ) → u ≡ after_forget t keep → HasRoom t q lost → HasRoom u q lost
HasRoom-forget t u keep q lost is room =
    let few : forgotten_count t keep ≤ length t.steps = omega (arith, room.floor, room.cursor) in
    let end : end_of (after_forget t keep) ≡ end_of t = omega (arith, few, length-drop (forgotten_count t keep) t.steps) in
    subst (λ x. HasRoom x q lost) (sym is) (record {
      floor = omega (arith, room.floor);
      cursor = omega (arith, room.cursor, end);
      steps = omega (arith, room.steps, end);
      within = room.within;
      limit = room.limit;
    })
