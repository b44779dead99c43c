-- A run that goes on by several steps, and a player whose cursor goes back.
use Rattle.std.proofs.Common.{◌≡◌, ℕ, zero, suc, ◌+◌, ◌-◌, ◌<◌, ◌≤◌, ◌||◌, Bool, true, false, Ok, List, [], ◌∷◌, ◌++◌, length, Option, refl, sym, ap, ap₂, subst, ◌∙◌, arith, append-nil, length-append, min, append_assoc}
use Rattle.std.proofs.lemmas.Grind.{flat_map-append}
use Rattle.std.proofs.Math.Bool.{or_assoc, or-false}
use Rattle.std.specs.Io.KnownBytes.{Appends}
use Rattle.std.proofs.KnownBytes.{Appends-nil, Appends-trans}
use Rattle.mrt_events.specs.declared.event.Event.{Event}
use Rattle.mrt_wire.specs.Results.{RecordResult, Found, Bad, SourceState}
use Rattle.bgpdump_lines.specs.Run.{result_report, reports}
use Rattle.bgpdump_tool.specs.Meaning.{event_of, events, results_needed}
use Rattle.bgpdump_tool.specs.Execution.{Progress, RunState, HasProgress, FindsNothingAfterEnd, progress_after, at_cursor, MovesForward, Steps}
use Rattle.bgpdump_lines.specs.WrittenSoFar.{has_fault}
use Rattle.bgpdump_lines.proofs.RunLaws.{has_fault-append}
use Rattle.std.proofs.lemmas.Bool.Decides.{nat_tests}
use Rattle.rib_player.specs.Timeline.{Timeline, undoable, after_undo}

pub events-append : (found more : List RecordResult) → events (found ++ more) ≡ events found ++ events more
events-append found more = flat_map-append event_of found more

pub reports-append : (found more : List RecordResult) → reports (found ++ more) ≡ reports found ++ reports more
reports-append found more = flat_map-append result_report found more

pub events_few : (found : List RecordResult) → length (events found) ≤ length found
events_few [] = omega arith
events_few (Found event ∷ found) = omega (arith, events_few found)
events_few (Bad fault ∷ found) = omega (arith, events_few found)

-- ---- one move behind another

progress_after-twice : (s : Progress) (over more : ℕ) (found new : List RecordResult) (ended : Bool) → progress_after more new ended (progress_after over found false s) ≡ progress_after (over + more) (found ++ new) ended s
progress_after-twice s over more found new ended =
    let parts = events-append found new in
    let sum : s.cursor + over + length (events found) + more + length (events new) ≡ s.cursor + (over + more) + length (events (found ++ new)) = omega (arith, ap length parts, length-append (events found) (events new)) in
    λ i. record {
      history = (append_assoc s.history (events found) (events new) ∙ ap (λ l. s.history ++ l) (sym parts)) i;
      cursor = sum i;
      floor = s.floor;
      found = append_assoc s.found found new i;
      ended = or_assoc s.ended false ended i;
    }

pub FindsNothingAfterEnd-twice : (a b c : SourceState) (found new : List RecordResult) → FindsNothingAfterEnd a b found → FindsNothingAfterEnd b c new → FindsNothingAfterEnd a c (found ++ new)
FindsNothingAfterEnd-twice a b c found new first second = record {
  quiet = λ e. (λ i. first.quiet e i ++ second.quiet (first.stays e) i);
  stays = λ e. second.stays (first.stays e);
}

-- a run that stands so stands within its history
pub HasProgress-inside : (from : SourceState) (left : Option (List ℕ)) (scene : RunState) (s : Progress) → HasProgress from left scene s → s.cursor ≤ length s.history
HasProgress-inside from left scene s stands = omega (arith, stands.history.cursor, stands.cursor)

pub MovesForward-twice : (from : SourceState) (left : Option (List ℕ)) (s : Progress) (a b c : RunState) (over more : ℕ) (found new : List RecordResult) (ended : Bool) → HasProgress from left a s
    → MovesForward from left s a b over found false → MovesForward from left (progress_after over found false s) b c more new ended → MovesForward from left s a c (over + more) (found ++ new) ended
MovesForward-twice from left s a b c over more found new ended stands first second =
    let inside = HasProgress-inside from left a s stands in
    let size = length-append s.history (events found) in
    let none = events_few found in
    record {
      few = grind (arith, first.few, second.few, first.all, inside, none, size);
      all = λ some. grind (arith, some, length-append found new, first.few, second.few, first.all, second.all, inside, none, size);
      stands = subst (HasProgress from left c) (progress_after-twice s over more found new ended) second.stands;
      follows = FindsNothingAfterEnd-twice a.place b.place c.place found new first.follows second.follows;
      met = λ e. (grind (arith, (second.met e).0, first.few, first.all, inside, none, size), (second.met e).1);
      reported = subst (Appends a.err c.err) (sym (reports-append found new)) (Appends-trans a.err b.err c.err (reports found) (reports new) first.reported second.reported);
      told = second.told ∙ ap (λ b. b || has_fault new) first.told ∙ or_assoc a.reported (has_fault found) (has_fault new) ∙ ap (λ b. a.reported || b) (sym (has_fault-append found new));
    }

-- nothing moved yet
pub MovesForward-none : (from : SourceState) (left : Option (List ℕ)) (s : Progress) (a : RunState) → HasProgress from left a s → MovesForward from left s a a 0 [] false
MovesForward-none from left s a stands =
    let sum : s.cursor ≡ s.cursor + 0 + length (events []) = omega arith in
    let same : s ≡ progress_after 0 [] false s = λ i. record { history = sym (append-nil s.history) i; cursor = sum i; floor = s.floor; found = sym (append-nil s.found) i; ended = sym (or-false s.ended) i } in
    record {
      few = omega arith;
      all = λ none. absurd (omega (arith, none));
      stands = subst (HasProgress from left a) same stands;
      follows = record { quiet = λ _. refl; stays = λ e. e };
      met = λ e. cc;
      reported = Appends-nil a.err;
      told = sym (or-false a.reported);
    }

-- ---- so many steps on

-- after so many
abbrev pub Forth : ℕ → SourceState → Option (List ℕ) → Progress → RunState → RunState → Type 0
Forth n from left s old new = (over : ℕ) × (found : List RecordResult) × (over + length found ≡ n) × MovesForward from left s old new over found false

pub Forth-none : (from : SourceState) (left : Option (List ℕ)) (s : Progress) (a : RunState) → HasProgress from left a s → Forth 0 from left s a a
Forth-none from left s a stands = (0, [], refl, MovesForward-none from left s a stands)

pub Forth-step : (n : ℕ) (from : SourceState) (left : Option (List ℕ)) (s : Progress) (a b c : RunState) (ended : Bool) → HasProgress from left a s → Forth n from left s a b → ended ≡ false → Steps b c (Ok ended)
    → Forth (n + 1) from left s a c
Forth-step n from left s a b c true stands forth e step = cc
Forth-step n from left s a b c false stands (over, found, sum, first) e step =
    let (more, new, one, second) = step from left (progress_after over found false s) first.stands in
    (over + more, found ++ new, omega (arith, sum, one, length-append found new), MovesForward-twice from left s a b c over more found new false stands first second)

-- all steps ahead were gone over, where the next one would be read
pub all_over : (from : SourceState) (left : Option (List ℕ)) (s : Progress) (a b : RunState) (over : ℕ) (found : List RecordResult) → HasProgress from left a s → MovesForward from left s a b over found false
    → (progress_after over found false s).cursor ≡ length (progress_after over found false s).history → over ≡ length s.history - s.cursor
all_over from left s a b over found stands first end =
    omega (arith, end, first.few, HasProgress-inside from left a s stands, length-append s.history (events found))

-- ---- on to a position

-- results up to an event hold one event more than those before it, and no fewer hold as many
needed_found : (found : List RecordResult) (event : Event) (more : List RecordResult) → results_needed (suc (length (events found))) (found ++ Found event ∷ more) ≡ suc (length found)
needed_found [] event more = refl
needed_found (Found first ∷ found) event more = ap suc (needed_found found event more)
needed_found (Bad fault ∷ found) event more = ap suc (needed_found found event more)

-- results with too few events aren't all that is needed
pub needed_beyond : (count : ℕ) (found more : List RecordResult) → length (events found) < count → length found < results_needed count (found ++ more)
needed_beyond zero found more few = absurd (omega (arith, few))
needed_beyond (suc count) [] [] few = omega arith
needed_beyond (suc count) [] (Found event ∷ more) few = omega arith
needed_beyond (suc count) [] (Bad fault ∷ more) few = omega arith
needed_beyond (suc count) (Found event ∷ found) more few = omega (arith, needed_beyond count found more (omega (arith, few)))
needed_beyond (suc count) (Bad fault ∷ found) more few = omega (arith, needed_beyond (suc count) found more few)

-- the position isn't passed, and where it is reached no fewer results would do
pub record Reaches (k : ℕ) (from : SourceState) (left : Option (List ℕ)) (s : Progress) (old new : RunState) : Type 0 where
  pub over : ℕ
  pub found : List RecordResult
  pub within : new.player.cursor ≤ k
  pub needs : new.player.cursor ≡ k → (more : List RecordResult) → results_needed (k - length s.history) (found ++ more) ≡ length found
  pub goes : MovesForward from left s old new over found false

pub Reaches-none : (k : ℕ) (from : SourceState) (left : Option (List ℕ)) (s : Progress) (a : RunState) → HasProgress from left a s → a.player.cursor ≤ k → Reaches k from left s a a
Reaches-none k from left s a stands below = record {
  over = 0;
  found = [];
  within = below;
  needs = λ e more.
      let none : k - length s.history ≡ 0 = omega (arith, e, stands.cursor, HasProgress-inside from left a s stands) in
      ap (λ n. results_needed n more) none;
  goes = MovesForward-none from left s a stands;
}

-- what one step needs
needs_more : (k : ℕ) (from : SourceState) (left : Option (List ℕ)) (s : Progress) (a b c : RunState) (r : Reaches k from left s a b) (over : ℕ) (new : List RecordResult) → HasProgress from left a s → b.player.cursor < k → over + length new ≡ 1
    → MovesForward from left (progress_after r.over r.found false s) b c over new false → c.player.cursor ≡ k → (more : List RecordResult) → results_needed (k - length s.history) ((r.found ++ new) ++ more) ≡ length (r.found ++ new)
needs_more k from left s a b c r over [] stands below one goes e more =
    let inside = HasProgress-inside from left a s stands in
    let size = length-append s.history (events r.found) in
    let none : length r.found ≡ 0 = grind (arith, one, goes.few, r.goes.all, size, inside) in
    let reached : k - length s.history ≡ 0 = omega (arith, e, goes.stands.cursor, goes.few, r.goes.few, size, events_few r.found, none, inside) in
    ap (λ n. results_needed n ((r.found ++ []) ++ more)) reached ∙ omega (arith, length-append r.found [], none)
needs_more k from left s a b c r over (Bad fault ∷ []) stands below one goes e more = absurd (omega (arith, one, e, below, goes.stands.cursor, r.goes.stands.cursor))
needs_more k from left s a b c r over (Found event ∷ []) stands below one goes e more =
    let inside = HasProgress-inside from left a s stands in
    let size = length-append s.history (events r.found) in
    let reached : k - length s.history ≡ suc (length (events r.found)) = omega (arith, e, one, goes.stands.cursor, goes.all (omega arith), r.goes.stands.cursor, size, inside) in
    ap₂ results_needed reached (append_assoc r.found (Found event ∷ []) more) ∙ needed_found r.found event more ∙ omega (arith, length-append r.found (Found event ∷ []))
needs_more k from left s a b c r over (x ∷ y ∷ new) stands below one goes e more = absurd (omega (arith, one))

pub Reaches-step : (k : ℕ) (from : SourceState) (left : Option (List ℕ)) (s : Progress) (a b c : RunState) (ended : Bool) → HasProgress from left a s → b.player.cursor < k → Reaches k from left s a b → ended ≡ false → Steps b c (Ok ended)
    → Reaches k from left s a c
Reaches-step k from left s a b c true stands below r e step = cc
Reaches-step k from left s a b c false stands below r e step =
    let (over, new, one, goes) = step from left (progress_after r.over r.found false s) r.goes.stands in
    record {
      over = r.over + over;
      found = r.found ++ new;
      within = omega (arith, below, one, goes.stands.cursor, r.goes.stands.cursor, events_few new);
      needs = needs_more k from left s a b c r over new stands below one goes;
      goes = MovesForward-twice from left s a b c r.over over r.found new false stands r.goes goes;
    }

-- ---- back

-- one step more is there
pub back_more : (t u v : Timeline) (done : ℕ) → u ≡ at_cursor (t.cursor - done) t → done ≤ undoable t → v ≡ after_undo u → u.floor < u.cursor → (v ≡ at_cursor (t.cursor - (done + 1)) t) × (done + 1 ≤ undoable t)
back_more t u v done at few undo can =
    let moves : after_undo u ≡ at_cursor (u.cursor - 1) u = grind (arith, nat_tests) in (
      undo ∙ moves ∙ ap (λ x. at_cursor (x.cursor - 1) x) at ∙ ap (λ n. at_cursor n t) (omega arith),
      omega (arith, can, ap (λ x. x.cursor) at, ap (λ x. x.floor) at, few),
    )

-- so many steps back
pub back_all : (t u : Timeline) (done count : ℕ) → u ≡ at_cursor (t.cursor - done) t → done ≡ count → done ≤ undoable t → u ≡ at_cursor (t.cursor - min count (undoable t)) t
back_all t u done count at e few = at ∙ ap (λ n. at_cursor (t.cursor - n) t) (omega (arith, e, few))

-- or as many as there are
pub back_fewer : (t u v : Timeline) (done count : ℕ) → u ≡ at_cursor (t.cursor - done) t → done ≤ undoable t → done < count → v ≡ after_undo u → ¬ (u.floor < u.cursor) → v ≡ at_cursor (t.cursor - min count (undoable t)) t
back_fewer t u v done count at few below undo cannot =
    let stays : after_undo u ≡ u = grind (arith, nat_tests) in
    let all : done ≡ undoable t = omega (arith, cannot, ap (λ x. x.cursor) at, ap (λ x. x.floor) at, few) in
    undo ∙ stays ∙ at ∙ ap (λ n. at_cursor (t.cursor - n) t) (omega (arith, all, below))
