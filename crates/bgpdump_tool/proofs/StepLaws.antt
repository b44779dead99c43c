-- A run that goes on by one step.
use Rattle.std.proofs.Common.{◌≡◌, inl, inr, ℕ, ◌+◌, ◌<◌, ◌≤◌, ◌||◌, Bool, true, false, Result, Ok, Err, List, [], ◌∷◌, ◌++◌, length, take, Option, refl, sym, ap, subst, ◌∙◌, arith, append-nil, take_all, is_ok, OnOk}
use Rattle.std.proofs.lemmas.Bool.Decides.{nat_tests}
use Rattle.std.proofs.Math.Bool.{or-false, or-true}
use Rattle.std.specs.Io.KnownBytes.{Consumes, Appends, Keeps}
use Rattle.std.proofs.KnownBytes.{Appends-kept, Appends-nil, Appends-trans}
use Rattle.mrt_events.specs.declared.event.Event.{Event}
use Rattle.mrt_wire.specs.declared.RecordFault.{RecordFault}
use Rattle.mrt_wire.specs.declared.SourceFault.{SourceFault}
use Rattle.mrt_wire.specs.declared.next.Next.{Next}
use Rattle.mrt_wire.specs.declared.next.Next.TheVariants as next
use Rattle.mrt_wire.specs.declared.next.Phase.TheVariants.{Reading, Ended}
use Rattle.mrt_wire.specs.Results.{RecordResult, Found, Bad, SourceState}
use Rattle.mrt_wire.specs.Answered.{answer_results, NextReturns, is_nothing}
use Rattle.mrt_wire.proofs.SoFarLaws.{Promises, HasAnswered-answer, HasAnswered-told, ends_with_none, told_by}
use Rattle.rib_player.specs.Timeline.{Timeline, end_of, after_play, after_redo}
use Rattle.rib_player.specs.Calls.{StandsFor}
use Rattle.rib_player.proofs.TimelineLaws.{StandsFor-after_play, StandsFor-after_redo, StandsFor-end}
use Rattle.bgpdump_lines.specs.declared.fault.WriteFault.{WriteFault}
use Rattle.bgpdump_lines.specs.declared.fault.WriteFault.TheVariants as write
use Rattle.bgpdump_lines.specs.declared.outcome.Outcome.TheVariants as outcome
use Rattle.bgpdump_lines.specs.Run.{AppendsPrefix, fault_report, reports}
use Rattle.bgpdump_lines.specs.WrittenSoFar.{outcome_of_source_fault, outcome_of_write_fault, Puts}
use Rattle.bgpdump_tool.specs.Execution.{Progress, RunState, HasFound, HasProgress, FindsNothingAfterEnd, MovesForward, StepsFrom}
use Rattle.bgpdump_lines.proofs.RunLaws.{TookUntilSourceFault-behind}
use Rattle.bgpdump_lines.proofs.WritingLaws.{AppendsPrefix-none}
use Rattle.bgpdump_tool.proofs.WalkLaws.{PutsAllOrFront-put}

-- ---- the player

-- a redo where a step is ahead, and where none is
redo_on : (t : Timeline) → t.cursor < end_of t → after_redo t ≡ record t { cursor = t.cursor + 1 }
redo_on t h = grind (arith, nat_tests)

pub redo_off : (t : Timeline) → ¬ (t.cursor < end_of t) → after_redo t ≡ t
redo_off t h = grind (arith, nat_tests)

-- what holds of a call's answers holds where it has one
pub after_ok : {A E P : Type 0} (r : Result A E) → is_ok r ≡ true → OnOk r P → P
after_ok (Ok a) is p = p
after_ok (Err e) is p = cc

-- there the cursor stands behind the history
pub cursor_at_end : (from : SourceState) (left : Option (List ℕ)) (scene : RunState) (s : Progress) → HasProgress from left scene s → ¬ (scene.player.cursor < end_of scene.player) → s.cursor ≡ length s.history
cursor_at_end from left scene s stands off =
    omega (arith, StandsFor-end scene.player s.history stands.history, stands.history.cursor, stands.cursor)

-- ---- the source

-- an answer more that tells something
pub HasFound-told : (from q q' : SourceState) (left left' left'' : Option (List ℕ)) (found : List RecordResult) (ended : Bool) (answer : Next) → HasFound from left q left' found ended → Promises q q' left' left'' answer
    → is_nothing (answer_results answer) ≡ false → q'.offset ≤ q'.limit → HasFound from left q' left'' (found ++ answer_results answer) ended
HasFound-told from q q' left left' left'' found ended answer taking promised some within =
    let told = HasAnswered-told from q q' left left' left'' found answer taking.so_far promised some in
    record {
      so_far = told.0;
      seen = λ ends none. absurd (told.1 ends none);
      ends = λ e. ap (λ x. x.phase) (promised.1 (taking.ends e)).1 ∙ taking.ends e;
      within = omega (arith, within, told.0.limit);
    }

-- the end was answered
HasFound-end : (from q q' : SourceState) (left left' left'' : Option (List ℕ)) (found : List RecordResult) (ended : Bool) → HasFound from left q left' found ended → Promises q q' left' left'' next.End
    → q'.offset ≤ q'.limit → HasFound from left q' left'' (found ++ []) (ended || true)
HasFound-end from q q' left left' left'' found ended taking promised within =
    let so_far = HasAnswered-answer from q q' left left' left'' found next.End taking.so_far promised in
    record {
      so_far = so_far;
      seen = λ ends none. or-true ended;
      ends = λ _. ends_with_none from q q' left left' left'' found next.End taking.so_far promised refl;
      within = omega (arith, within, so_far.limit);
    }

-- what an answer promises
pub promised : {I : Type 0} (left : I → Option (List ℕ)) (p q : SourceState) (a b : I) (answer told : Next) → answer ≡ told → (p.phase ≡ Reading → (octets : List ℕ) × Consumes (left a) (left b) octets × NextReturns p q (left b) octets (Ok answer))
    → (p.phase ≡ Ended → ◌≡◌ {A = Result Next SourceFault} (Ok answer) (Ok next.End) × (q ≡ p) × (b ≡ a)) → Promises p q (left a) (left b) told
promised left p q a b answer told is reads ended = subst (Promises p q (left a) (left b)) is (reads, λ e. (ap told_by (ended e).0, (ended e).1, ap left (ended e).2))

FindsNothingAfterEnd-answer : (q q' : SourceState) (left left' : Option (List ℕ)) (answer : Next) → Promises q q' left left' answer → FindsNothingAfterEnd q q' (answer_results answer)
FindsNothingAfterEnd-answer q q' left left' answer promised = record {
  quiet = λ e. (promised.1 e).0;
  stays = λ e. ap (λ x. x.phase) (promised.1 e).1 ∙ e;
}

-- ---- outputs that passed on what they held

-- what is appended then
pub kept-Appends : (a b c : Option (List ℕ)) (text : List ℕ) → Keeps a b → Appends b c text → Appends a c text
kept-Appends a b c text kept more = Appends-trans a b c [] text (Appends-kept a a b [] (Appends-nil a) kept) more

pub kept-AppendsPrefix : (a b c : Option (List ℕ)) (text : List ℕ) → Keeps a b → AppendsPrefix b c text → AppendsPrefix a c text
kept-AppendsPrefix a b c text kept fronts = record { front = fronts.front; back = fronts.back; whole = fronts.whole; appended = kept-Appends a b c fronts.front kept fronts.appended }

-- ---- one step

-- over the step ahead
pub step_over : (from : SourceState) (left : Option (List ℕ)) (old : RunState) (s : Progress) (t : Timeline) → HasProgress from left old s → t ≡ after_redo old.player → old.player.cursor < end_of old.player
    → StepsFrom from left s old (record old { player = t }) (Ok false)
step_over from left old s t stands e on =
    let same : t ≡ record (old.player) { cursor = old.player.cursor + 1 } = e ∙ redo_on old.player on in
    let end = StandsFor-end old.player s.history stands.history in (
      1,
      [],
      refl,
      record {
        few = omega (arith, end, stands.cursor);
        all = λ none. absurd (omega (arith, none));
        stands = record {
          history = subst (StandsFor t) (sym (append-nil s.history)) (subst (λ x. StandsFor x s.history) (sym e) (StandsFor-after_redo old.player s.history stands.history));
          cursor = ap (λ x. x.cursor) same ∙ omega (arith, stands.cursor);
          floor = ap (λ x. x.floor) same ∙ stands.floor;
          taking = subst (λ b. HasFound from left old.place old.left (s.found ++ []) b) (sym (or-false s.ended)) (subst (λ f. HasFound from left old.place old.left f s.ended) (sym (append-nil s.found)) stands.taking);
        };
        follows = record { quiet = λ _. refl; stays = λ ended. ended };
        met = λ ended. cc;
        reported = Appends-nil old.err;
        told = sym (or-false old.reported);
      },
    )

-- over an event that is played
pub step_found : (from : SourceState) (left : Option (List ℕ)) (old : RunState) (s : Progress) (t u : Timeline) (q : SourceState) (left' err : Option (List ℕ)) (event : Event) → HasProgress from left old s → Keeps old.err err → t ≡ after_redo old.player
    → ¬ (old.player.cursor < end_of old.player) → u ≡ after_play t event → Promises old.place q old.left left' (next.Event event) → q.offset ≤ q.limit
    → StepsFrom from left s old (record { player = u; place = q; left = left'; err = err; reported = old.reported }) (Ok false)
step_found from left old s t u q left' err event stands kept e off plays promised within =
    let now : u ≡ after_play old.player event = plays ∙ ap (λ x. after_play x event) (e ∙ redo_off old.player off) in
    let end = cursor_at_end from left old s stands off in
    let all : take old.player.cursor s.history ≡ s.history = take_all old.player.cursor s.history (omega (arith, end, stands.cursor)) in (
      0,
      Found event ∷ [],
      refl,
      record {
        few = omega arith;
        all = λ one. omega (arith, end);
        stands = record {
          history = subst (λ l. StandsFor u (l ++ event ∷ [])) all (subst (λ x. StandsFor x (take old.player.cursor s.history ++ event ∷ [])) (sym now) (StandsFor-after_play old.player s.history event stands.history));
          cursor = ap (λ x. x.cursor) now ∙ omega (arith, stands.cursor);
          floor = ap (λ x. x.floor) now ∙ stands.floor;
          taking = subst (λ b. HasFound from left q left' (s.found ++ Found event ∷ []) b) (sym (or-false s.ended)) (HasFound-told from old.place q left old.left left' s.found s.ended (next.Event event) stands.taking promised refl within);
        };
        follows = FindsNothingAfterEnd-answer old.place q old.left left' (next.Event event) promised;
        met = λ ended. cc;
        reported = Appends-kept old.err old.err err [] (Appends-nil old.err) kept;
        told = sym (or-false old.reported);
      },
    )

-- a player that can't go on stays
HasProgress-stays : (from : SourceState) (left : Option (List ℕ)) (old : RunState) (s : Progress) (t : Timeline) (q : SourceState) (left' err : Option (List ℕ)) (reported : Bool) (new : List RecordResult) (ended : Bool) → HasProgress from left old s → t ≡ after_redo old.player
    → ¬ (old.player.cursor < end_of old.player) → HasFound from left q left' (s.found ++ new) (s.ended || ended)
    → HasProgress from left (record { player = t; place = q; left = left'; err = err; reported = reported }) (record { history = s.history ++ []; cursor = s.cursor + 0 + 0; floor = s.floor; found = s.found ++ new; ended = s.ended || ended })
HasProgress-stays from left old s t q left' err reported new ended stands e off taking =
    let same : t ≡ old.player = e ∙ redo_off old.player off in
    record {
      history = subst (StandsFor t) (sym (append-nil s.history)) (subst (λ x. StandsFor x s.history) (sym same) stands.history);
      cursor = ap (λ x. x.cursor) same ∙ omega (arith, stands.cursor);
      floor = ap (λ x. x.floor) same ∙ stands.floor;
      taking = taking;
    }

-- over a fault that is reported
pub step_bad : (from : SourceState) (left : Option (List ℕ)) (old : RunState) (s : Progress) (t : Timeline) (q : SourceState) (left' mid err : Option (List ℕ)) (fault : RecordFault) → HasProgress from left old s → Keeps old.err mid → t ≡ after_redo old.player
    → ¬ (old.player.cursor < end_of old.player) → Promises old.place q old.left left' (next.Bad fault) → q.offset ≤ q.limit → Appends mid err (fault_report fault)
    → StepsFrom from left s old (record { player = t; place = q; left = left'; err = err; reported = true }) (Ok false)
step_bad from left old s t q left' mid err fault stands kept e off promised within appended =
    let end = cursor_at_end from left old s stands off in (
      0,
      Bad fault ∷ [],
      refl,
      record {
        few = omega arith;
        all = λ one. omega (arith, end);
        stands = HasProgress-stays from left old s t q left' err true (Bad fault ∷ []) false stands e off
            (subst (λ b. HasFound from left q left' (s.found ++ Bad fault ∷ []) b) (sym (or-false s.ended)) (HasFound-told from old.place q left old.left left' s.found s.ended (next.Bad fault) stands.taking promised refl within));
        follows = FindsNothingAfterEnd-answer old.place q old.left left' (next.Bad fault) promised;
        met = λ ended. cc;
        reported = subst (Appends old.err err) (sym (append-nil (fault_report fault))) (kept-Appends old.err mid err (fault_report fault) kept appended);
        told = sym (or-true old.reported);
      },
    )

-- to the end
pub step_end : (from : SourceState) (left : Option (List ℕ)) (old : RunState) (s : Progress) (t : Timeline) (q : SourceState) (left' err : Option (List ℕ)) → HasProgress from left old s → Keeps old.err err → t ≡ after_redo old.player
    → ¬ (old.player.cursor < end_of old.player) → Promises old.place q old.left left' next.End → q.offset ≤ q.limit
    → MovesForward from left s old (record { player = t; place = q; left = left'; err = err; reported = old.reported }) 0 [] true
step_end from left old s t q left' err stands kept e off promised within =
    let end = cursor_at_end from left old s stands off in
    record {
      few = omega arith;
      all = λ one. absurd (omega (arith, one));
      stands = HasProgress-stays from left old s t q left' err old.reported [] true stands e off (HasFound-end from old.place q left old.left left' s.found s.ended stands.taking promised within);
      follows = FindsNothingAfterEnd-answer old.place q old.left left' next.End promised;
      met = λ _. (omega (arith, end), ends_with_none from old.place q left old.left left' s.found next.End stands.taking.so_far promised refl);
      reported = Appends-kept old.err old.err err [] (Appends-nil old.err) kept;
      told = sym (or-false old.reported);
    }

-- ---- a step that a fault stops

pub step_stops_reading : (from : SourceState) (left : Option (List ℕ)) (old : RunState) (s : Progress) (t : Timeline) (q : SourceState) (left' err : Option (List ℕ)) (reported : Bool) (fault : SourceFault) → HasProgress from left old s → Keeps old.err err
    → ¬ (old.player.cursor < end_of old.player) → (old.place.phase ≡ Reading → (octets : List ℕ) × Consumes old.left left' octets × NextReturns old.place q left' octets (Err fault))
    → (old.place.phase ≡ Ended → ◌≡◌ {A = Result Next SourceFault} (Err fault) (Ok next.End)) → q.offset ≤ q.limit
    → StepsFrom from left s old (record { player = t; place = q; left = left'; err = err; reported = reported }) (Err (outcome_of_source_fault fault))
step_stops_reading from left old s t q left' err reported fault stands kept off promised ended within = (
  cursor_at_end from left old s stands off,
  inl (
    fault,
    refl,
    record {
      reads = λ e. let other : ◌≡◌ {A = Result Next SourceFault} (Err fault) (Ok next.End) = ended e in cc;
      faulty = TookUntilSourceFault-behind from old.place q left old.left left' s.found fault stands.taking.so_far promised ended within;
      kept = kept;
    },
  ),
)

-- behind an answer that tells something
stops_told : (from : SourceState) (left : Option (List ℕ)) (old : RunState) (s : Progress) (u : Timeline) (q : SourceState) (left' err : Option (List ℕ)) (reported : Bool) (answer : Next) (fault : WriteFault) → HasProgress from left old s
    → ¬ (old.player.cursor < end_of old.player) → Promises old.place q old.left left' answer → is_nothing (answer_results answer) ≡ false → length (answer_results answer) ≡ 1 → q.offset ≤ q.limit
    → AppendsPrefix old.err err (reports (answer_results answer)) → StepsFrom from left s old (record { player = u; place = q; left = left'; err = err; reported = reported }) (Err (outcome_of_write_fault fault))
stops_told from left old s u q left' err reported answer fault stands off promised some one within fronts = (
  cursor_at_end from left old s stands off,
  inr (
    fault,
    refl,
    answer_results answer,
    omega (arith, one),
    record {
      taking = HasFound-told from old.place q left old.left left' s.found s.ended answer stands.taking promised some within;
      follows = FindsNothingAfterEnd-answer old.place q old.left left' answer promised;
      fronts = fronts;
    },
  ),
)

pub step_stops_playing : (from : SourceState) (left : Option (List ℕ)) (old : RunState) (s : Progress) (u : Timeline) (q : SourceState) (left' err : Option (List ℕ)) (event : Event) → HasProgress from left old s → Keeps old.err err
    → ¬ (old.player.cursor < end_of old.player) → Promises old.place q old.left left' (next.Event event) → q.offset ≤ q.limit
    → StepsFrom from left s old (record { player = u; place = q; left = left'; err = err; reported = old.reported }) (Err outcome.Memory)
step_stops_playing from left old s u q left' err event stands kept off promised within =
    stops_told from left old s u q left' err old.reported (next.Event event) write.Memory stands off promised refl refl within (kept-AppendsPrefix old.err err err [] kept (AppendsPrefix-none err []))

pub step_stops_reporting : (from : SourceState) (left : Option (List ℕ)) (old : RunState) (s : Progress) (u : Timeline) (q : SourceState) (left' mid err : Option (List ℕ)) (bad : RecordFault) (fault : WriteFault) → HasProgress from left old s → Keeps old.err mid
    → ¬ (old.player.cursor < end_of old.player) → Promises old.place q old.left left' (next.Bad bad) → q.offset ≤ q.limit → Puts {A = Unit {0}} mid err (fault_report bad) (Err fault)
    → StepsFrom from left s old (record { player = u; place = q; left = left'; err = err; reported = true }) (Err (outcome_of_write_fault fault))
step_stops_reporting from left old s u q left' mid err bad fault stands kept off promised within put =
    stops_told from left old s u q left' err true (next.Bad bad) fault stands off promised refl refl within
    (subst (AppendsPrefix old.err err) (sym (append-nil (fault_report bad))) (kept-AppendsPrefix old.err mid err (fault_report bad) kept (PutsAllOrFront-put {A = Unit {0}} mid err (fault_report bad) (Err fault) put)))

-- a fault of passing on stops it
pub step_stops_waiting : (from : SourceState) (left : Option (List ℕ)) (old : RunState) (s : Progress) (t : Timeline) (err : Option (List ℕ)) → HasProgress from left old s → ¬ (old.player.cursor < end_of old.player) → Keeps old.err err
    → StepsFrom from left s old (record old { player = t; err = err }) (Err outcome.WriteFault)
step_stops_waiting from left old s t err stands off kept = (
  cursor_at_end from left old s stands off,
  inr (
    write.Write,
    refl,
    [],
    omega arith,
    record {
      taking = subst (λ f. HasFound from left old.place old.left f s.ended) (sym (append-nil s.found)) stands.taking;
      follows = record { quiet = λ _. refl; stays = λ e. e };
      fronts = record { front = []; back = []; whole = refl; appended = Appends-kept old.err old.err err [] (Appends-nil old.err) kept };
    },
  ),
)
