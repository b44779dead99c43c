-- What was found so far, and what the input may hold on the whole.
use Rattle.std.proofs.Common.{None, ◌≡◌, inl, inr, ℕ, ◌+◌, ◌≤◌, List, [], ◌++◌, Option, length, sym, ap, ◌∙◌, refl, subst, arith, append-nil, length-append, append_assoc}
use Rattle.std.specs.Io.KnownBytes.{Consumes, IsAtEnd}
use Rattle.std.proofs.KnownBytes.{Consumes-trans}
use Rattle.mrt_wire.specs.declared.SourceFault.{SourceFault}
use Rattle.mrt_wire.specs.declared.SourceFault.TheVariants as source
use Rattle.mrt_wire.specs.declared.RecordKind.TheVariants.{CutRecord}
use Rattle.mrt_events.specs.declared.stamp.Stamp.{Stamp}
use Rattle.mrt_wire.specs.declared.next.Phase.{Phase}
use Rattle.mrt_wire.specs.declared.next.Phase.TheVariants.{Reading, Ended, Spent}
use Rattle.mrt_wire.specs.Results.{Frame, Splits, spellings, RecordResult, SourceState, start_state, results, TakesFront}
use Rattle.mrt_wire.specs.Record.{rest_fault_kind, IsRest, IsUnfinished}
use Rattle.mrt_wire.specs.Answered.{IsUndecided, HasAnswered, MayBeRestIn}
use Rattle.mrt_wire.specs.Taken.{MayFailAt}
use Rattle.mrt_wire.proofs.FirstLaws.{same_taken}
use Rattle.mrt_frames.proofs.RecordLaws.{BeginsWithNoRecord-short}
use Rattle.mrt_wire.proofs.SplitLaws.{frames_all}
use Rattle.mrt_wire.proofs.SoFarLaws.{FirstSoFar, first_so_far, front_so_far, no_rest}
use Rattle.bgpdump_lines.specs.declared.dump.TheConstants.{INPUT_LIMIT}
use Rattle.bgpdump_lines.specs.declared.outcome.Outcome.{Outcome}
use Rattle.bgpdump_lines.specs.declared.outcome.Outcome.TheVariants as outcome
use Rattle.bgpdump_lines.specs.Run.{MayHold, EndedByInputFault, IsTaken, MayTakeAfterFrames, all_results}
use Rattle.bgpdump_lines.specs.WrittenSoFar.{outcome_of_source_fault, TookWithoutResult, TookUntilSourceFault}

-- what a source has left behind the frames is a rest
pub rest_so_far : (p q : SourceState) (left left' : Option (List ℕ)) (found : List RecordResult) → (s : HasAnswered p q left left' found) → IsRest s.rest
rest_so_far p q left left' found s = by_phase q.phase s.rest_is
  where
    by_phase : (phase : Phase) → MayBeRestIn phase left' s.rest → IsRest s.rest
    by_phase Reading none = subst IsRest (sym none) (record { none = BeginsWithNoRecord-short [] (omega arith); stops = inl refl })
    by_phase Ended ends = ends.rest
    by_phase Spent none = absurd none

-- what was found so far is first in whatever the input may hold, where a cut record shows that the end was seen
pub first_held : (stamp : Stamp) (q : SourceState) (left left' : Option (List ℕ)) (found : List RecordResult) (Saw : List Frame → List ℕ → Type 0) → (s : HasAnswered (start_state stamp INPUT_LIMIT) q left left' found)
    → (rest_fault_kind s.rest ≡ CutRecord → Saw s.frames s.rest) → (octets : List ℕ) (frames : List Frame) (rest : List ℕ) → MayHold stamp Saw left left' octets → Splits stamp None octets frames rest
    → FirstSoFar (start_state stamp INPUT_LIMIT) q found frames rest
first_held stamp q left left' found Saw s saw octets frames rest may split =
    let p : SourceState = start_state stamp INPUT_LIMIT in
    let same = same_taken left left' (spellings s.frames ++ s.rest) may.taken may.after s.consumed may.took in
    let own : Splits stamp None may.taken s.frames s.rest = record { whole = same; are_frames = s.are_frames; none = (rest_so_far p q left left' found s).none } in
    let split' = subst (λ o. Splits stamp None o frames rest) (may.whole ∙ ap (λ l. l ++ may.more) same) split in
    first_so_far p q left left' found s may.more (λ _ cut end. may.follows s.frames s.rest own (saw cut) (subst IsAtEnd may.took.now end)) frames rest split'

-- and where nothing was taken behind the frames, whether the end was seen or not
pub front_held : (stamp : Stamp) (q : SourceState) (left left' : Option (List ℕ)) (found : List RecordResult) (Saw : List Frame → List ℕ → Type 0) → (s : HasAnswered (start_state stamp INPUT_LIMIT) q left left' found)
    → s.rest ≡ [] → (octets : List ℕ) (frames : List Frame) (rest : List ℕ) → MayHold stamp Saw left left' octets → Splits stamp None octets frames rest
    → (later : List RecordResult) × (all_results stamp frames rest ≡ found ++ later)
front_held stamp q left left' found Saw s none octets frames rest may split =
    let same = same_taken left left' (spellings s.frames ++ s.rest) may.taken may.after s.consumed may.took in
    let split' = subst (λ o. Splits stamp None o frames rest) (may.whole ∙ ap (λ l. l ++ may.more) same) split in
    front_so_far (start_state stamp INPUT_LIMIT) q left left' found s none may.more frames rest split'

-- ---- octets of which nothing is told

-- nothing but frames stands before them
only_frames : (p : SourceState) (left left' : Option (List ℕ)) (found : List RecordResult) → (u : TookWithoutResult p left left' found) → spellings u.so_far.frames ++ u.so_far.rest ≡ spellings u.so_far.frames
only_frames p left left' found u =
    let s = u.so_far in
    ap (λ l. spellings s.frames ++ l) (no_rest p u.place left u.mid found s u.reading) ∙ append-nil (spellings s.frames)

-- the octets taken are those of the frames, and then they
Consumes-untold : (p : SourceState) (left left' : Option (List ℕ)) (found : List RecordResult) → (u : TookWithoutResult p left left' found) → Consumes left left' (spellings u.so_far.frames ++ u.octets)
Consumes-untold p left left' found u =
    let s = u.so_far in
    subst (λ l. Consumes left left' (l ++ u.octets)) (only_frames p left left' found u)
    (Consumes-trans left u.mid left' (spellings s.frames ++ s.rest) u.octets s.consumed u.consumed)

-- what was found is first in all that the input may hold, whatever follows
pub untold_held : (stamp : Stamp) (left left' : Option (List ℕ)) (found : List RecordResult) (Saw : List Frame → List ℕ → Type 0) → TookWithoutResult (start_state stamp INPUT_LIMIT) left left' found
    → (octets : List ℕ) (frames : List Frame) (rest : List ℕ) → MayHold stamp Saw left left' octets → Splits stamp None octets frames rest → (later : List RecordResult) × (all_results stamp frames rest ≡ found ++ later)
untold_held stamp left left' found Saw u octets frames rest may split =
    let s = u.so_far in
    let p : SourceState = start_state stamp INPUT_LIMIT in
    let same = same_taken left left' (spellings s.frames ++ u.octets) may.taken may.after (Consumes-untold p left left' found u) may.took in
    let whole = may.whole ∙ ap (λ l. l ++ may.more) same ∙ append_assoc (spellings s.frames) u.octets may.more ∙ ap (λ l. l ++ (u.octets ++ may.more)) (sym (only_frames p left left' found u)) in
    let split' = subst (λ o. Splits stamp None o frames rest) whole split in
    front_so_far p u.place left u.mid found s (no_rest p u.place left u.mid found s u.reading) (u.octets ++ may.more) frames rest split'

-- what was taken
pub IsTaken-untold : (stamp : Stamp) (left left' : Option (List ℕ)) (outcome : Outcome) (found : List RecordResult) → (u : TookWithoutResult (start_state stamp INPUT_LIMIT) left left' found) → MayTakeAfterFrames outcome u.octets
    → (taken : List ℕ) × Consumes left left' taken × IsTaken stamp outcome taken
IsTaken-untold stamp left left' outcome found u last =
    let s = u.so_far in
    let p : SourceState = start_state stamp INPUT_LIMIT in (
      spellings s.frames ++ u.octets,
      Consumes-untold p left left' found u,
      record {
        frames = s.frames;
        rest = u.octets;
        whole = refl;
        are_frames = s.are_frames;
        last = last;
        few = omega (arith, u.within, s.offset, ap length (only_frames p left left' found u), length-append (spellings s.frames) u.octets);
      },
    )

-- what was taken by a source that reads or has ended
pub IsTaken-told : (stamp : Stamp) (q : SourceState) (left left' : Option (List ℕ)) (outcome : Outcome) (found : List RecordResult) → (s : HasAnswered (start_state stamp INPUT_LIMIT) q left left' found) → q.offset ≤ INPUT_LIMIT → MayTakeAfterFrames outcome s.rest
    → (taken : List ℕ) × Consumes left left' taken × IsTaken stamp outcome taken
IsTaken-told stamp q left left' outcome found s within last = (
  spellings s.frames ++ s.rest,
  s.consumed,
  record {
    frames = s.frames;
    rest = s.rest;
    whole = refl;
    are_frames = s.are_frames;
    last = last;
    few = omega (arith, within, s.offset);
  },
)

-- ---- a source that a fault stopped

-- a fault of the input leaves a record that has begun
begun_by_input : (fault : SourceFault) (octets : List ℕ) → EndedByInputFault (outcome_of_source_fault fault) → IsUndecided fault octets → IsUnfinished octets
begun_by_input fault octets by_input (inl begun) = begun
begun_by_input fault octets by_input (inr (memory, whole)) = absurd (subst (λ f. EndedByInputFault (outcome_of_source_fault f)) memory by_input)

-- what was found is what the frames give that were taken whole, if the input failed or was too long
pub whole_found : (stamp : Stamp) (left left' : Option (List ℕ)) (found : List RecordResult) (fault : SourceFault) → TookUntilSourceFault (start_state stamp INPUT_LIMIT) left left' found fault → EndedByInputFault (outcome_of_source_fault fault)
    → (taken after : List ℕ) (frames : List Frame) (rest : List ℕ) → TakesFront left left' taken after → Splits stamp None taken frames rest → found ≡ all_results stamp frames []
whole_found stamp left left' found fault at by_input taken after frames rest took split =
    let u = at.untold in
    let s = u.so_far in
    let p : SourceState = start_state stamp INPUT_LIMIT in
    let none = no_rest p u.place left u.mid found s u.reading in
    let same = same_taken left left' (spellings s.frames ++ u.octets) taken after (Consumes-untold p left left' found u) took in
    let begun = begun_by_input fault u.octets by_input at.left_over in
    let all = frames_all stamp None s.frames frames u.octets rest s.are_frames split.are_frames begun.none split.none (sym same ∙ split.whole) in
    s.found_is ∙ (λ i. results p (sym all.0 i) (none i))

-- what stands behind the frames
last_of_source : (fault : SourceFault) (octets : List ℕ) → IsUndecided fault octets → MayTakeAfterFrames (outcome_of_source_fault fault) octets
last_of_source source.Read octets (inl begun) = begun
last_of_source source.InputTooLong octets (inl begun) = begun
last_of_source source.Memory octets (inl begun) = inl (record { none = begun.none; stops = inl begun.cut })
last_of_source source.Spent octets (inl begun) = inl (record { none = begun.none; stops = inl begun.cut })
last_of_source source.Read octets (inr (memory, whole)) = cc
last_of_source source.InputTooLong octets (inr (memory, whole)) = cc
last_of_source source.Memory octets (inr (memory, whole)) = inr whole
last_of_source source.Spent octets (inr (memory, whole)) = cc

-- what was taken
pub IsTaken-faulty : (stamp : Stamp) (left left' : Option (List ℕ)) (found : List RecordResult) (fault : SourceFault) → TookUntilSourceFault (start_state stamp INPUT_LIMIT) left left' found fault
    → (taken : List ℕ) × Consumes left left' taken × IsTaken stamp (outcome_of_source_fault fault) taken
IsTaken-faulty stamp left left' found fault at =
    IsTaken-untold stamp left left' (outcome_of_source_fault fault) found at.untold (last_of_source fault at.untold.octets at.left_over)

-- and of an input that was too long
pub length-faulty : (stamp : Stamp) (left left' : Option (List ℕ)) (found : List RecordResult) (fault : SourceFault) → TookUntilSourceFault (start_state stamp INPUT_LIMIT) left left' found fault → outcome_of_source_fault fault ≡ outcome.InputTooLong
    → (taken after : List ℕ) → TakesFront left left' taken after → length taken ≡ INPUT_LIMIT
length-faulty stamp left left' found fault at too_long taken after took =
    let u = at.untold in
    let s = u.so_far in
    let p : SourceState = start_state stamp INPUT_LIMIT in
    let same = same_taken left left' (spellings s.frames ++ u.octets) taken after (Consumes-untold p left left' found u) took in
    let full = by_fault fault (u.place.offset + length u.octets) too_long at.full in
    omega (arith, ap length same, full, s.offset, ap length (only_frames p left left' found u), length-append (spellings s.frames) u.octets)
  where
    by_fault : (fault : SourceFault) (n : ℕ) → outcome_of_source_fault fault ≡ outcome.InputTooLong → MayFailAt fault n INPUT_LIMIT → n ≡ INPUT_LIMIT
    by_fault source.Read n e stops = cc
    by_fault source.InputTooLong n e stops = stops
    by_fault source.Memory n e stops = cc
    by_fault source.Spent n e stops = absurd stops
