-- What a run leaves at its end, by how it ended.
use Rattle.std.proofs.Common.{None, ◌≡◌, ◌≢◌, ◌⊎◌, inl, inr, ℕ, Bool, true, false, List, [], ◌∷◌, ◌++◌, Option, Ok, Err, length, sym, ap, ◌∙◌, refl, subst, append-nil}
use Rattle.std.specs.Io.KnownBytes.{Consumes, Keeps}
use Rattle.mrt_wire.specs.declared.SourceFault.{SourceFault}
use Rattle.mrt_wire.specs.declared.SourceFault.TheVariants as source
use Rattle.mrt_wire.specs.declared.RecordKind.TheVariants.{CutRecord}
use Rattle.mrt_events.specs.declared.stamp.Stamp.{Stamp}
use Rattle.mrt_wire.specs.declared.next.Phase.TheVariants.{Ended}
use Rattle.mrt_wire.specs.Results.{Frame, Splits, RecordResult, Found, Bad, SourceState, start_state, TakesFront}
use Rattle.mrt_wire.specs.Record.{rest_fault_kind}
use Rattle.mrt_wire.specs.Answered.{HasAnswered}
use Rattle.bgpdump_lines.specs.declared.fault.WriteFault.{WriteFault}
use Rattle.bgpdump_lines.specs.declared.fault.WriteFault.TheVariants as write
use Rattle.bgpdump_lines.specs.declared.outcome.Outcome.{Outcome}
use Rattle.bgpdump_lines.specs.declared.outcome.Outcome.TheVariants as outcome
use Rattle.bgpdump_lines.specs.Run.{reports, dump_texts, Texts, Outputs, MayHold, SawEnd, Writes, WritesPrefixes, EndsWithTexts, EndedByInputFault, IsTaken, all_results}
use Rattle.bgpdump_lines.specs.declared.dump.TheConstants.{INPUT_LIMIT}
use Rattle.bgpdump_lines.specs.WrittenSoFar.{outcome_of_finished_run, outcome_of_source_fault, outcome_of_write_fault, has_fault, StopsAtWriting, EndsUnfinished}
use Rattle.bgpdump_lines.proofs.WritingLaws.{dump_texts-append, WritesPrefixes-longer, WritesPrefixes-whole, Writes-kept}
use Rattle.bgpdump_lines.proofs.HeldLaws.{rest_so_far, first_held, front_held, untold_held, IsTaken-told, IsTaken-untold, IsTaken-faulty, whole_found, length-faulty}

reports_none : (found : List RecordResult) → has_fault found ≡ false → reports found ≡ []
reports_none [] e = refl
reports_none (Found event ∷ found) e = reports_none found e
reports_none (Bad fault ∷ found) e = cc

reports_some : (found : List RecordResult) → has_fault found ≡ true → reports found ≢ []
reports_some [] e none = cc
reports_some (Found event ∷ found) e none = reports_some found e none
reports_some (Bad fault ∷ found) e none = cc

pub written_all : (fault : WriteFault) → EndedByInputFault (outcome_of_write_fault fault) → ⊥
written_all write.Write by_input = by_input
written_all write.Memory by_input = by_input

-- octets are none, or some
pub cases_none : (octets : List ℕ) → (octets ≡ []) ⊎ (octets ≢ [])
cases_none [] = inl refl
cases_none (octet ∷ octets) = inr (λ e. cc)

-- fronts of the texts of what is found first are fronts of those of all
WritesPrefixes-later : (all found later : List RecordResult) (a b : Outputs) → all ≡ found ++ later → WritesPrefixes (dump_texts found) a b → WritesPrefixes (dump_texts all) a b
WritesPrefixes-later all found later a b is fronts =
    subst (λ t. WritesPrefixes t a b) (dump_texts-append found later ∙ ap dump_texts (sym is)) (WritesPrefixes-longer (dump_texts found) (dump_texts later) a b fronts)

-- fronts of what was found so far are fronts of all that the input may hold, where an output failed
WritesPrefixes-held : (stamp : Stamp) (q : SourceState) (left left' : Option (List ℕ)) (found : List RecordResult) (a b : Outputs) → HasAnswered (start_state stamp INPUT_LIMIT) q left left' found → WritesPrefixes (dump_texts found) a b
    → (octets : List ℕ) (frames : List Frame) (rest : List ℕ) → MayHold stamp (SawEnd outcome.WriteFault) left left' octets → Splits stamp None octets frames rest → WritesPrefixes (dump_texts (all_results stamp frames rest)) a b
WritesPrefixes-held stamp q left left' found a b s fronts octets frames rest may split = elim (cases_none s.rest) [
  | inr some ↦
      let first = first_held stamp q left left' found (SawEnd outcome.WriteFault) s (λ cut. (cut, some)) octets frames rest may split in
      WritesPrefixes-later (all_results stamp frames rest) found first.later a b first.first fronts
  | inl none ↦
      let (later, first) = front_held stamp q left left' found (SawEnd outcome.WriteFault) s none octets frames rest may split in
      WritesPrefixes-later (all_results stamp frames rest) found later a b first fronts
]

-- all that the input may hold was found, where the source has ended
all_held : (stamp : Stamp) (q : SourceState) (left left' : Option (List ℕ)) (found : List RecordResult) (outcome : Outcome) → (s : HasAnswered (start_state stamp INPUT_LIMIT) q left left' found) → q.phase ≡ Ended
    → (rest_fault_kind s.rest ≡ CutRecord → SawEnd outcome s.frames s.rest) → (octets : List ℕ) (frames : List Frame) (rest : List ℕ) → MayHold stamp (SawEnd outcome) left left' octets → Splits stamp None octets frames rest
    → found ≡ all_results stamp frames rest
all_held stamp q left left' found outcome s ended saw octets frames rest may split =
    let first = first_held stamp q left left' found (SawEnd outcome) s saw octets frames rest may split in
    sym (first.first ∙ ap (λ l. found ++ l) (first.all ended) ∙ append-nil found)

-- a run that read all, and then finished its outputs, by whether that failed and whether something was reported
EndsWithTexts-finished : (stamp : Stamp) (q : SourceState) (left left' : Option (List ℕ)) (found : List RecordResult) (a b : Outputs) (failed reported : Bool) → HasAnswered (start_state stamp INPUT_LIMIT) q left left' found → q.phase ≡ Ended
    → reported ≡ has_fault found → Writes (dump_texts found) a b → (octets : List ℕ) (frames : List Frame) (rest : List ℕ) → MayHold stamp (SawEnd (outcome_of_finished_run failed reported)) left left' octets → Splits stamp None octets frames rest
    → EndsWithTexts (outcome_of_finished_run failed reported) (dump_texts (all_results stamp frames rest)) a b
EndsWithTexts-finished stamp q left left' found a b true reported s ended bad writes octets frames rest may split =
    WritesPrefixes-held stamp q left left' found a b s (WritesPrefixes-whole (dump_texts found) a b writes) octets frames rest may split
EndsWithTexts-finished stamp q left left' found a b false true s ended bad writes octets frames rest may split =
    subst (λ f. EndsWithTexts outcome.Reported (dump_texts f) a b) (all_held stamp q left left' found outcome.Reported s ended (λ cut. cut) octets frames rest may split) (reports_some found (sym bad), writes)
EndsWithTexts-finished stamp q left left' found a b false false s ended bad writes octets frames rest may split =
    subst (λ f. EndsWithTexts outcome.Done (dump_texts f) a b) (all_held stamp q left left' found outcome.Done s ended (λ cut. cut) octets frames rest may split) (reports_none found (sym bad), writes)

pub EndsWithTexts-read : (stamp : Stamp) (left left' : Option (List ℕ)) (a b c : Outputs) (failed reported : Bool) (outcome : Outcome) → EndsUnfinished (start_state stamp INPUT_LIMIT) (Ok reported) left left' a b
    → outcome ≡ outcome_of_finished_run failed reported → Keeps b.out c.out → Keeps b.err c.err
    → (octets : List ℕ) (frames : List Frame) (rest : List ℕ) → MayHold stamp (SawEnd outcome) left left' octets → Splits stamp None octets frames rest → EndsWithTexts outcome (dump_texts (all_results stamp frames rest)) a c
EndsWithTexts-read stamp left left' a b c failed reported outcome (q, ended, g) is_outcome out err octets frames rest may split =
    subst (λ o. EndsWithTexts o (dump_texts (all_results stamp frames rest)) a c) (sym is_outcome)
    (EndsWithTexts-finished stamp q left left' g.found a c failed reported g.so_far ended g.reported_is (Writes-kept (dump_texts g.found) a b c g.written out err) octets frames rest (subst (λ o. MayHold stamp (SawEnd o) left left' octets) is_outcome may) split)

-- ---- a run that its source or its writing stopped

pub EndsWithTexts-source : (fault : SourceFault) (t : Texts) (a b : Outputs) → WritesPrefixes t a b → EndsWithTexts (outcome_of_source_fault fault) t a b
EndsWithTexts-source source.Read t a b p = p
EndsWithTexts-source source.InputTooLong t a b p = p
EndsWithTexts-source source.Memory t a b p = p
EndsWithTexts-source source.Spent t a b p = p

EndsWithTexts-write : (fault : WriteFault) (stamp : Stamp) (left left' : Option (List ℕ)) (a b : Outputs) → StopsAtWriting (start_state stamp INPUT_LIMIT) left left' a b fault
    → (octets : List ℕ) (frames : List Frame) (rest : List ℕ) → MayHold stamp (SawEnd (outcome_of_write_fault fault)) left left' octets → Splits stamp None octets frames rest
    → EndsWithTexts (outcome_of_write_fault fault) (dump_texts (all_results stamp frames rest)) a b
EndsWithTexts-write write.Write stamp left left' a b stop octets frames rest may split = WritesPrefixes-held stamp stop.place left left' stop.found a b stop.so_far stop.fronts octets frames rest may split
EndsWithTexts-write write.Memory stamp left left' a b (inl (stop, last)) octets frames rest may split =
    let (later, first) = untold_held stamp left left' stop.found (SawEnd outcome.Memory) stop.untold octets frames rest may split in
    WritesPrefixes-later (all_results stamp frames rest) stop.found later a b first (WritesPrefixes-whole (dump_texts stop.found) a b stop.written)
EndsWithTexts-write write.Memory stamp left left' a b (inr (stop, none)) octets frames rest may split =
    let (later, first) = front_held stamp stop.place left left' stop.found (SawEnd outcome.Memory) stop.so_far none octets frames rest may split in
    WritesPrefixes-later (all_results stamp frames rest) stop.found later a b first stop.fronts

-- a run that stopped
pub EndsWithTexts-stopped : (stamp : Stamp) (left left' : Option (List ℕ)) (a b : Outputs) (outcome : Outcome) → EndsUnfinished (start_state stamp INPUT_LIMIT) (Err outcome) left left' a b
    → (octets : List ℕ) (frames : List Frame) (rest : List ℕ) → MayHold stamp (SawEnd outcome) left left' octets → Splits stamp None octets frames rest → EndsWithTexts outcome (dump_texts (all_results stamp frames rest)) a b
EndsWithTexts-stopped stamp left left' a b outcome (inl (fault, is, at)) octets frames rest may split =
    let (later, first) = untold_held stamp left left' at.found (SawEnd outcome) at.faulty.untold octets frames rest may split in
    let all : List RecordResult = all_results stamp frames rest in
    subst (λ o. EndsWithTexts o (dump_texts all) a b) (sym is) (EndsWithTexts-source fault (dump_texts all) a b (WritesPrefixes-later all at.found later a b first (WritesPrefixes-whole (dump_texts at.found) a b at.written)))
EndsWithTexts-stopped stamp left left' a b outcome (inr (fault, is, stop)) octets frames rest may split =
    subst (λ o. EndsWithTexts o (dump_texts (all_results stamp frames rest)) a b) (sym is)
    (EndsWithTexts-write fault stamp left left' a b stop octets frames rest (subst (λ o. MayHold stamp (SawEnd o) left left' octets) is may) split)

-- a run that the input ended has written what the frames give
pub Writes-stopped : (stamp : Stamp) (left left' : Option (List ℕ)) (a b : Outputs) (outcome : Outcome) → EndsUnfinished (start_state stamp INPUT_LIMIT) (Err outcome) left left' a b → EndedByInputFault outcome
    → (taken after : List ℕ) (frames : List Frame) (rest : List ℕ) → TakesFront left left' taken after → Splits stamp None taken frames rest → Writes (dump_texts (all_results stamp frames [])) a b
Writes-stopped stamp left left' a b outcome (inl (fault, is, at)) by_input taken after frames rest took split =
    subst (λ f. Writes (dump_texts f) a b) (whole_found stamp left left' at.found fault at.faulty (subst EndedByInputFault is by_input) taken after frames rest took split) at.written
Writes-stopped stamp left left' a b outcome (inr (fault, is, stop)) by_input taken after frames rest took split = absurd (written_all fault (subst EndedByInputFault is by_input))

-- what was taken by a run that its writing stopped
IsTaken-write : (fault : WriteFault) (stamp : Stamp) (left left' : Option (List ℕ)) (a b : Outputs) → StopsAtWriting (start_state stamp INPUT_LIMIT) left left' a b fault
    → (taken : List ℕ) × Consumes left left' taken × IsTaken stamp (outcome_of_write_fault fault) taken
IsTaken-write write.Write stamp left left' a b stop =
    IsTaken-told stamp stop.place left left' outcome.WriteFault stop.found stop.so_far stop.within (rest_so_far (start_state stamp INPUT_LIMIT) stop.place left left' stop.found stop.so_far)
IsTaken-write write.Memory stamp left left' a b (inl (stop, last)) = IsTaken-untold stamp left left' outcome.Memory stop.found stop.untold last
IsTaken-write write.Memory stamp left left' a b (inr (stop, none)) =
    IsTaken-told stamp stop.place left left' outcome.Memory stop.found stop.so_far stop.within (inl (rest_so_far (start_state stamp INPUT_LIMIT) stop.place left left' stop.found stop.so_far))

-- what was taken by a run that stopped
pub IsTaken-stopped : (stamp : Stamp) (left left' : Option (List ℕ)) (a b : Outputs) (outcome : Outcome) → EndsUnfinished (start_state stamp INPUT_LIMIT) (Err outcome) left left' a b
    → (taken : List ℕ) × Consumes left left' taken × IsTaken stamp outcome taken
IsTaken-stopped stamp left left' a b outcome (inl (fault, is, at)) =
    subst (λ o. (taken : List ℕ) × Consumes left left' taken × IsTaken stamp o taken) (sym is) (IsTaken-faulty stamp left left' at.found fault at.faulty)
IsTaken-stopped stamp left left' a b outcome (inr (fault, is, stop)) =
    subst (λ o. (taken : List ℕ) × Consumes left left' taken × IsTaken stamp o taken) (sym is) (IsTaken-write fault stamp left left' a b stop)

-- what was taken by a run whose input was too long
pub length-stopped : (stamp : Stamp) (left left' : Option (List ℕ)) (a b : Outputs) (how : Outcome) → EndsUnfinished (start_state stamp INPUT_LIMIT) (Err how) left left' a b → how ≡ outcome.InputTooLong
    → (taken after : List ℕ) → TakesFront left left' taken after → length taken ≡ INPUT_LIMIT
length-stopped stamp left left' a b how (inl (fault, is, at)) too_long taken after took = length-faulty stamp left left' at.found fault at.faulty (sym is ∙ too_long) taken after took
length-stopped stamp left left' a b how (inr (fault, is, stop)) too_long taken after took = absurd (by_fault fault (sym is ∙ too_long))
  where
    by_fault : (fault : WriteFault) → outcome_of_write_fault fault ≡ outcome.InputTooLong → ⊥
    by_fault write.Write e = cc
    by_fault write.Memory e = cc
