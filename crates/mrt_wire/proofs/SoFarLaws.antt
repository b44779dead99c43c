-- What a source has answered so far goes on by an answer, and is first in whatever the input may hold.
use Rattle.std.proofs.Common.{◌≡◌, ◌⊎◌, inl, inr, ℕ, ◌+◌, ◌<◌, true, false, Result, List, [], ◌∷◌, ◌++◌, Option, Ok, Err, length, sym, ap, ◌∙◌, refl, subst, arith, length-append, append-nil, append_assoc}
use Rattle.std.proofs.lemmas.Grind.{flat_map-append}
use Rattle.std.specs.Io.KnownBytes.{Consumes, IsAtEnd}
use Rattle.std.proofs.KnownBytes.{Consumes-nil, Consumes-trans}
use Rattle.mrt_frames.specs.declared.fault.RecordKind.TheVariants.{CutRecord}
use Rattle.mrt_frames.specs.declared.fault.SourceFault.{SourceFault}
use Rattle.mrt_wire.specs.declared.next.Next.{Next}
use Rattle.mrt_wire.specs.declared.next.Phase.{Phase}
use Rattle.mrt_wire.specs.declared.next.Phase.TheVariants.{Reading, Ended, Spent}
use Rattle.mrt_frames.specs.Record.{header_octets, spelling, IsRecord, BeginsWithNoRecord, rest_fault_kind, rest_fault}
use Rattle.mrt_frames.specs.Taken.{EndsAt}
use Rattle.mrt_wire.specs.Results.{Frame, ReadsAs, index_after, AreFrames, Splits, spellings, RecordResult, record_result, fault_if_any, SourceState, state_after, results}
use Rattle.mrt_wire.specs.Answered.{NextReturns, answer_results, AnswersFrame, AnswersRest, HasAnswered, MayBeRestIn, is_nothing, state_after_all}
use Rattle.mrt_wire.proofs.SplitLaws.{frames_first, frames_all}
use Rattle.mrt_wire.proofs.FirstLaws.{RestStays-rest}

-- ---- frames behind a place

-- the octets of one frame more
spellings-push : (frames : List Frame) (frame : Frame) → spellings (frames ++ frame ∷ []) ≡ spellings frames ++ spelling frame.mrt
spellings-push frames frame = flat_map-append (λ f. spelling f.mrt) frames (frame ∷ []) ∙ ap (λ l. spellings frames ++ l) (append-nil (spelling frame.mrt))

-- the octets taken behind frames
pub state_after_all-offset : (p : SourceState) (frames : List Frame) → (state_after_all p frames).offset ≡ p.offset + length (spellings frames)
state_after_all-offset p [] = omega arith
state_after_all-offset p (f ∷ frames) = omega (arith, state_after_all-offset (state_after p f) frames, length-append (spelling f.mrt) (spellings frames))

state_after_all-push : (p : SourceState) (frames : List Frame) (frame : Frame) → state_after_all p (frames ++ frame ∷ []) ≡ state_after (state_after_all p frames) frame
state_after_all-push p [] frame = refl
state_after_all-push p (f ∷ frames) frame = state_after_all-push (state_after p f) frames frame

-- one frame more
AreFrames-push : (p : SourceState) (frames : List Frame) (frame : Frame) → AreFrames p.stamp p.index frames → IsRecord frame.mrt
    → ReadsAs p.stamp (state_after_all p frames).index frame.mrt frame.outcome → AreFrames p.stamp p.index (frames ++ frame ∷ [])
AreFrames-push p [] frame are is_record reads = (is_record, reads, tt)
AreFrames-push p (f ∷ frames) frame are is_record reads = (are.0, are.1, AreFrames-push (state_after p f) frames frame are.2 is_record reads)

-- what is found in more frames, or in a rest
pub results-append : (p : SourceState) (frames later : List Frame) (rest : List ℕ) → results p (frames ++ later) rest ≡ results p frames [] ++ results (state_after_all p frames) later rest
results-append p [] later rest = refl
results-append p (f ∷ frames) later rest = ap (λ l. record_result (p.number + 1) p.offset f.outcome ∷ l) (results-append (state_after p f) frames later rest)

results-rest : (p : SourceState) (frames : List Frame) (rest : List ℕ) → results p frames rest ≡ results p frames [] ++ results (state_after_all p frames) [] rest
results-rest p frames rest = ap (λ f. results p f rest) (sym (append-nil frames)) ∙ results-append p frames [] rest

-- ---- so far

pub HasAnswered-start : (p : SourceState) (left : Option (List ℕ)) → p.phase ≡ Reading → HasAnswered p p left left []
HasAnswered-start p left reading = record {
  frames = [];
  rest = [];
  are_frames = tt;
  consumed = Consumes-nil left;
  found_is = refl;
  index = refl;
  number = refl;
  offset = omega arith;
  limit = refl;
  stamp = refl;
  rest_is = subst (λ s. MayBeRestIn s left []) (sym reading) refl;
}

-- nothing but frames was taken while the source reads
pub no_rest : (p q : SourceState) (left left' : Option (List ℕ)) (found : List RecordResult) → (s : HasAnswered p q left left' found) → q.phase ≡ Reading → s.rest ≡ []
no_rest p q left left' found s reading = subst (λ t. MayBeRestIn t left' s.rest) reading s.rest_is

-- a frame more was taken
abbrev HasAnswered-frame : (p q q' : SourceState) (left left' left'' : Option (List ℕ)) (found : List RecordResult) (answer : Next) (octets : List ℕ) (frame : Frame) → HasAnswered p q left left' found → q.phase ≡ Reading
    → Consumes left' left'' octets → AnswersFrame q q' answer octets frame → HasAnswered p q' left left'' (found ++ answer_results answer)
HasAnswered-frame p q q' left left' left'' found answer octets frame s reading taken at =
    let b : SourceState = state_after_all p s.frames in
    let none = no_rest p q left left' found s reading in
    let only : spellings s.frames ++ s.rest ≡ spellings s.frames = ap (λ l. spellings s.frames ++ l) none ∙ append-nil (spellings s.frames) in
    let offset : q.offset ≡ b.offset = omega (arith, s.offset, ap length only, state_after_all-offset p s.frames) in
    let reads = subst (λ x. ReadsAs x b.index frame.mrt frame.outcome) s.stamp (subst (λ x. ReadsAs q.stamp x frame.mrt frame.outcome) s.index at.reads) in
    let all : List Frame = s.frames ++ frame ∷ [] in
    let phase : q'.phase ≡ Reading = ap (λ x. x.phase) at.state ∙ reading in
    let octets_are : (spellings s.frames ++ s.rest) ++ octets ≡ spellings all ++ [] =
    (λ i. only i ++ at.whole i) ∙ sym (append-nil (spellings all) ∙ spellings-push s.frames frame) in
    let end : state_after b frame ≡ state_after_all p all = sym (state_after_all-push p s.frames frame) in
    record {
      frames = all;
      rest = [];
      are_frames = AreFrames-push p s.frames frame s.are_frames at.is_record reads;
      consumed = subst (Consumes left left'') octets_are (Consumes-trans left left' left'' (spellings s.frames ++ s.rest) octets s.consumed taken);
      found_is = (λ i. (s.found_is ∙ ap (results p s.frames) none) i ++ at.tells i) ∙ (λ i. results p s.frames [] ++ record_result (s.number i + 1) (offset i) frame.outcome ∷ []) ∙ sym (results-append p s.frames (frame ∷ []) []);
      index = ap (λ x. x.index) at.state ∙ ap (λ x. index_after x frame.outcome) s.index ∙ ap (λ x. x.index) end;
      number = ap (λ x. x.number) at.state ∙ ap (λ n. n + 1) s.number ∙ ap (λ x. x.number) end;
      offset = omega (arith, ap (λ x. x.offset) at.state, s.offset, ap length at.whole, ap length octets_are, length-append (spellings s.frames ++ s.rest) octets);
      limit = ap (λ x. x.limit) at.state ∙ s.limit;
      stamp = ap (λ x. x.stamp) at.state ∙ s.stamp;
      rest_is = subst (λ t. MayBeRestIn t left'' []) (sym phase) refl;
    }

-- the rest was taken
abbrev HasAnswered-rest : (p q q' : SourceState) (left left' left'' : Option (List ℕ)) (found : List RecordResult) (answer : Next) (octets : List ℕ) → HasAnswered p q left left' found → q.phase ≡ Reading
    → Consumes left' left'' octets → AnswersRest q q' left'' answer octets → HasAnswered p q' left left'' (found ++ answer_results answer)
HasAnswered-rest p q q' left left' left'' found answer octets s reading taken at =
    let b : SourceState = state_after_all p s.frames in
    let none = no_rest p q left left' found s reading in
    let only : spellings s.frames ++ s.rest ≡ spellings s.frames = ap (λ l. spellings s.frames ++ l) none ∙ append-nil (spellings s.frames) in
    let offset : q.offset ≡ b.offset = omega (arith, s.offset, ap length only, state_after_all-offset p s.frames) in
    let octets_are : (spellings s.frames ++ s.rest) ++ octets ≡ spellings s.frames ++ octets = ap (λ l. l ++ octets) only in
    record {
      frames = s.frames;
      rest = octets;
      are_frames = s.are_frames;
      consumed = subst (Consumes left left'') octets_are (Consumes-trans left left' left'' (spellings s.frames ++ s.rest) octets s.consumed taken);
      found_is = (λ i. (s.found_is ∙ ap (results p s.frames) none) i ++ at.tells i) ∙ (λ i. results p s.frames [] ++ fault_if_any (s.number i + 1) (offset i) (rest_fault octets)) ∙ sym (results-rest p s.frames octets);
      index = ap (λ x. x.index) at.state ∙ s.index;
      number = ap (λ x. x.number) at.state ∙ s.number;
      offset = omega (arith, ap (λ x. x.offset) at.state, s.offset, ap length octets_are, length-append (spellings s.frames ++ s.rest) octets);
      limit = ap (λ x. x.limit) at.state ∙ s.limit;
      stamp = ap (λ x. x.stamp) at.state ∙ s.stamp;
      rest_is = subst (λ t. MayBeRestIn t left'' octets) (sym (ap (λ x. x.phase) at.state)) at.ends;
    }

-- what is found so far is first in whatever the input may hold, and all of it where the source has ended
pub record FirstSoFar (p q : SourceState) (found : List RecordResult) (frames : List Frame) (rest : List ℕ) : Type 0 where
  pub later : List RecordResult
  pub first : results p frames rest ≡ found ++ later
  pub all : q.phase ≡ Ended → later ≡ []

-- what frames tell is first, whatever follows them
first_of_frames : (p : SourceState) (done frames : List Frame) (more rest : List ℕ) → AreFrames p.stamp p.index done → AreFrames p.stamp p.index frames → BeginsWithNoRecord rest
    → spellings done ++ more ≡ spellings frames ++ rest → (later : List RecordResult) × (results p frames rest ≡ results p done [] ++ later)
first_of_frames p done frames more rest are are' none joined =
    let behind = frames_first p.stamp p.index done frames more rest are are' none joined in
    (results (state_after_all p done) behind.later rest, ap (λ f. results p f rest) behind.frames_are ∙ results-append p done behind.later rest)

-- whatever follows frames and a rest
all_of_frames : (p q : SourceState) (left : Option (List ℕ)) (done frames : List Frame) (last more rest : List ℕ) → EndsAt left last → (rest_fault_kind last ≡ CutRecord → more ≡ []) → AreFrames p.stamp p.index done
    → AreFrames p.stamp p.index frames → BeginsWithNoRecord rest → spellings done ++ (last ++ more) ≡ spellings frames ++ rest → FirstSoFar p q (results p done last) frames rest
all_of_frames p q left done frames last more rest ends follows are are' none joined =
    let stays = RestStays-rest last more ends.rest follows in
    let all = frames_all p.stamp p.index done frames (last ++ more) rest are are' stays.none none joined in
    record {
      later = [];
      first = (λ i. results p (all.0 i) (all.1 i)) ∙ results-rest p done (last ++ more)
          ∙ ap (λ f. results p done [] ++ fault_if_any ((state_after_all p done).number + 1) (state_after_all p done).offset f) stays.fault
          ∙ sym (results-rest p done last) ∙ sym (append-nil (results p done last));
      all = λ _. refl;
    }

pub first_so_far : (p q : SourceState) (left left' : Option (List ℕ)) (found : List RecordResult) → (s : HasAnswered p q left left' found) → (more : List ℕ)
    → (q.phase ≡ Ended → rest_fault_kind s.rest ≡ CutRecord → IsAtEnd left' → more ≡ [])
    → (frames : List Frame) (rest : List ℕ) → Splits p.stamp p.index ((spellings s.frames ++ s.rest) ++ more) frames rest → FirstSoFar p q found frames rest
first_so_far p q left left' found s more follows frames rest split = subst (λ f. FirstSoFar p q f frames rest) (sym s.found_is) (by_phase q.phase refl s.rest_is)
  where
    joined : spellings s.frames ++ (s.rest ++ more) ≡ spellings frames ++ rest
    joined = sym (append_assoc (spellings s.frames) s.rest more) ∙ split.whole

    by_phase : (phase : Phase) → q.phase ≡ phase → MayBeRestIn phase left' s.rest → FirstSoFar p q (results p s.frames s.rest) frames rest
    by_phase Reading is none =
        let first = first_of_frames p s.frames frames (s.rest ++ more) rest s.are_frames split.are_frames split.none joined in
        subst (λ l. FirstSoFar p q (results p s.frames l) frames rest) (sym none) (record { later = first.0; first = first.1; all = λ ended. cc })
    by_phase Ended is ends = all_of_frames p q left' s.frames frames s.rest more rest ends (λ cut. follows is cut (ends.seen cut)) s.are_frames split.are_frames split.none joined
    by_phase Spent is none = absurd none

-- where nothing was taken behind the frames, what is found is first, whatever follows
pub front_so_far : (p q : SourceState) (left left' : Option (List ℕ)) (found : List RecordResult) → (s : HasAnswered p q left left' found) → s.rest ≡ [] → (more : List ℕ)
    → (frames : List Frame) (rest : List ℕ) → Splits p.stamp p.index ((spellings s.frames ++ s.rest) ++ more) frames rest
    → (later : List RecordResult) × (results p frames rest ≡ found ++ later)
front_so_far p q left left' found s none more frames rest split =
    let joined : spellings s.frames ++ (s.rest ++ more) ≡ spellings frames ++ rest = sym (append_assoc (spellings s.frames) s.rest more) ∙ split.whole in
    let first = first_of_frames p s.frames frames (s.rest ++ more) rest s.are_frames split.are_frames split.none joined in
    (first.0, first.1 ∙ ap (λ f. f ++ first.0) (sym (s.found_is ∙ ap (results p s.frames) none)))

-- what `next` promises of a source that reads, and of one that has ended
abbrev pub Promises : SourceState → SourceState → Option (List ℕ) → Option (List ℕ) → Next → Type 0
Promises q q' left' left'' answer =
    (q.phase ≡ Reading → (octets : List ℕ) × Consumes left' left'' octets × NextReturns q q' left'' octets (Ok answer))
    × (q.phase ≡ Ended → (answer_results answer ≡ []) × (q' ≡ q) × (left'' ≡ left'))

-- the promises of an answer, by what it says of the result
abbrev pub told_by : Result Next SourceFault → List RecordResult
told_by (Ok answer) = answer_results answer
told_by (Err fault) = []

-- what an answer took and told of a source that read, or of one that had ended
abbrev IsAnswer : SourceState → SourceState → Option (List ℕ) → Option (List ℕ) → Next → Type 0
IsAnswer q q' left' left'' answer =
    ((q.phase ≡ Reading) × ((octets : List ℕ) × Consumes left' left'' octets × NextReturns q q' left'' octets (Ok answer)))
    ⊎ ((q.phase ≡ Ended) × (answer_results answer ≡ []) × (q' ≡ q) × (left'' ≡ left'))

cases_answer : (p q q' : SourceState) (left left' left'' : Option (List ℕ)) (found : List RecordResult) (answer : Next) → HasAnswered p q left left' found → Promises q q' left' left'' answer
    → IsAnswer q q' left' left'' answer
cases_answer p q q' left left' left'' found answer s promised = by_phase q.phase refl s.rest_is
  where
    by_phase : (phase : Phase) → q.phase ≡ phase → MayBeRestIn phase left' s.rest → IsAnswer q q' left' left'' answer
    by_phase Reading is rest = inl (is, promised.0 is)
    by_phase Ended is rest =
        let (tells, same, unasked) = promised.1 is in
        inr (is, tells, same, unasked)
    by_phase Spent is rest = absurd rest

-- an answer more
pub HasAnswered-answer : (p q q' : SourceState) (left left' left'' : Option (List ℕ)) (found : List RecordResult) (answer : Next) → HasAnswered p q left left' found → Promises q q' left' left'' answer
    → HasAnswered p q' left left'' (found ++ answer_results answer)
HasAnswered-answer p q q' left left' left'' found answer s promised = by_cases (cases_answer p q q' left left' left'' found answer s promised)
  where
    by_cases : IsAnswer q q' left' left'' answer → HasAnswered p q' left left'' (found ++ answer_results answer)
    by_cases (inl (is, (octets, taken, inl (frame, at)))) = HasAnswered-frame p q q' left left' left'' found answer octets frame s is taken at
    by_cases (inl (is, (octets, taken, inr at))) = HasAnswered-rest p q q' left left' left'' found answer octets s is taken at
    by_cases (inr (is, tells, same, unasked)) =
        subst (λ f. HasAnswered p q' left left'' f) (sym (append-nil found) ∙ ap (λ l. found ++ l) (sym tells))
        (subst (λ x. HasAnswered p x left left'' found) (sym same) (subst (λ l. HasAnswered p q left l found) (sym unasked) s))

-- an answer that tells nothing is the end
pub ends_with_none : (p q q' : SourceState) (left left' left'' : Option (List ℕ)) (found : List RecordResult) (answer : Next) → HasAnswered p q left left' found → Promises q q' left' left'' answer
    → is_nothing (answer_results answer) ≡ true → q'.phase ≡ Ended
ends_with_none p q q' left left' left'' found answer s promised none = by_cases (cases_answer p q q' left left' left'' found answer s promised)
  where
    by_cases : IsAnswer q q' left' left'' answer → q'.phase ≡ Ended
    by_cases (inl (is, (octets, taken, inl (frame, at)))) = let e : false ≡ true = sym (ap is_nothing at.tells) ∙ none in cc
    by_cases (inl (is, (octets, taken, inr at))) = ap (λ x. x.phase) at.state
    by_cases (inr (is, tells, same, unasked)) = ap (λ x. x.phase) same ∙ is

-- an answer that tells something takes octets
pub goes_on_with_some : (p q q' : SourceState) (left left' left'' : Option (List ℕ)) (found : List RecordResult) (answer : Next) → HasAnswered p q left left' found → Promises q q' left' left'' answer
    → is_nothing (answer_results answer) ≡ false → q.offset < q'.offset
goes_on_with_some p q q' left left' left'' found answer s promised some = by_cases (cases_answer p q q' left left' left'' found answer s promised)
  where
    nonempty : (octets : List ℕ) → AnswersRest q q' left'' answer octets → 0 < length octets
    nonempty [] at = let e : true ≡ false = sym (ap is_nothing at.tells) ∙ some in cc
    nonempty (octet ∷ octets) at = omega arith

    by_cases : IsAnswer q q' left' left'' answer → q.offset < q'.offset
    by_cases (inl (is, (octets, taken, inl (frame, at)))) =
        let r = frame.mrt in
        omega (arith, ap (λ x. x.offset) at.state, length-append (header_octets r.seconds r.kind r.subtype (length r.body)) r.body)
    by_cases (inl (is, (octets, taken, inr at))) = omega (arith, ap (λ x. x.offset) at.state, nonempty octets at)
    by_cases (inr (is, tells, same, unasked)) = let e : true ≡ false = sym (ap is_nothing tells) ∙ some in cc

-- an answer more that tells something: where it ends the reading, something was taken behind the frames
pub HasAnswered-told : (p q q' : SourceState) (left left' left'' : Option (List ℕ)) (found : List RecordResult) (answer : Next) → HasAnswered p q left left' found → Promises q q' left' left'' answer
    → is_nothing (answer_results answer) ≡ false → (s' : HasAnswered p q' left left'' (found ++ answer_results answer)) × (q'.phase ≡ Ended → s'.rest ≡ [] → ⊥)
HasAnswered-told p q q' left left' left'' found answer s promised some = by_cases (cases_answer p q q' left left' left'' found answer s promised)
  where
    by_cases : IsAnswer q q' left' left'' answer → (s' : HasAnswered p q' left left'' (found ++ answer_results answer)) × (q'.phase ≡ Ended → s'.rest ≡ [] → ⊥)
    by_cases (inl (is, (octets, taken, inl (frame, at)))) = (
      HasAnswered-frame p q q' left left' left'' found answer octets frame s is taken at,
      (λ ended none. let e : Ended ≡ Reading = sym ended ∙ ap (λ x. x.phase) at.state ∙ is in cc),
    )
    by_cases (inl (is, (octets, taken, inr at))) = (
      HasAnswered-rest p q q' left left' left'' found answer octets s is taken at,
      (λ ended none. let e : true ≡ false = sym (ap is_nothing (at.tells ∙ ap (λ o. fault_if_any (q.number + 1) q.offset (rest_fault o)) none)) ∙ some in cc),
    )
    by_cases (inr (is, tells, same, unasked)) = let e : true ≡ false = sym (ap is_nothing tells) ∙ some in cc
