-- What a run of a script leaves at its end, by how it ended, and how far it came.
use Rattle.std.proofs.Common.{None, ◌≡◌, ◌≢◌, ◌⊎◌, inl, inr, ℕ, Bool, true, false, is_some, slice_get, Ok, Err, List, [], ◌∷◌, ◌++◌, length, Option, refl, sym, ap, subst, ◌∙◌, append-nil, arith}
use Rattle.std.proofs.lemmas.Bool.{false≢true}
use Rattle.std.specs.Io.KnownBytes.{Consumes, Keeps}
use Rattle.mrt_events.specs.declared.stamp.Stamp.{Stamp}
use Rattle.mrt_wire.specs.declared.SourceFault.{SourceFault}
use Rattle.mrt_wire.specs.declared.SourceFault.TheVariants as source
use Rattle.mrt_wire.specs.declared.RecordKind.TheVariants.{CutRecord}
use Rattle.mrt_wire.specs.declared.next.Phase.TheVariants.{Ended}
use Rattle.mrt_wire.specs.Results.{Frame, Splits, spellings, RecordResult, SourceState, start_state, results, TakesFront}
use Rattle.mrt_wire.specs.Answered.{HasAnswered}
use Rattle.mrt_wire.proofs.FirstLaws.{same_taken}
use Rattle.mrt_wire.proofs.SplitLaws.{frames_all}
use Rattle.mrt_wire.specs.Record.{rest_fault_kind}
use Rattle.mrt_wire.proofs.SoFarLaws.{FirstSoFar}
use Rattle.bgpdump_lines.specs.declared.dump.TheConstants.{INPUT_LIMIT}
use Rattle.bgpdump_lines.specs.declared.fault.WriteFault.{WriteFault}
use Rattle.bgpdump_lines.specs.declared.fault.WriteFault.TheVariants as write
use Rattle.bgpdump_lines.specs.declared.outcome.Outcome.{Outcome}
use Rattle.bgpdump_lines.specs.declared.outcome.Outcome.TheVariants as outcome
use Rattle.bgpdump_lines.specs.WrittenSoFar.{outcome_of_finished_run, outcome_of_source_fault, outcome_of_write_fault}
use Rattle.bgpdump_lines.specs.Run.{Texts, Outputs, MayHold, Writes, EndsWithTexts, EndedByInputFault, IsTaken, MayTakeAfterFrames, HoldsForAllContents, all_results}
use Rattle.bgpdump_tool.specs.Script.{Line, AreLines, IsScript, script_lines}
use Rattle.bgpdump_tool.specs.Course.{course, play_texts, texts_before_input_fault, TakesWanted, IsEndSeen, ScriptSawEnd, WritesBeyond, HasBegun}
use Rattle.bgpdump_tool.specs.Execution.{RunState, HasFound, HasExecuted, ExecutionBrokenOff, HasExecutedScript}
use Rattle.bgpdump_lines.proofs.WritingLaws.{AppendsPrefix-none, WritesPrefixes-whole, Writes-kept}
use Rattle.bgpdump_lines.proofs.HeldLaws.{rest_so_far, first_held, front_held, untold_held, whole_found, IsTaken-told, IsTaken-faulty, length-faulty}
use Rattle.bgpdump_lines.proofs.EndLaws.{cases_none, written_all, EndsWithTexts-source}
use Rattle.bgpdump_tool.proofs.PlayLaws.{course_of_done, fronts_past}
use Rattle.bgpdump_tool.proofs.CommandLaws.{one_reading, first_reading}

-- ---- what the input may hold

-- what was found is first in it, and all of it where the source has ended, if the end counts as seen where a record is cut or a command met it
pub played_held : (stamp : Stamp) (q : SourceState) (left left' : Option (List ℕ)) (found : List RecordResult) (ended : Bool) (Saw : List Frame → List ℕ → Type 0) → (t : HasFound (start_state stamp INPUT_LIMIT) left q left' found ended)
    → (rest_fault_kind t.so_far.rest ≡ CutRecord → (t.so_far.rest ≢ []) ⊎ (ended ≡ true) → Saw t.so_far.frames t.so_far.rest)
    → (octets : List ℕ) (frames : List Frame) (rest : List ℕ) → MayHold stamp Saw left left' octets → Splits stamp None octets frames rest → FirstSoFar (start_state stamp INPUT_LIMIT) q found frames rest
played_held stamp q left left' found ended Saw t saw octets frames rest may split = elim (cases_none t.so_far.rest) [
  | inr some ↦ first_held stamp q left left' found Saw t.so_far (λ cut. saw cut (inl some)) octets frames rest may split
  | inl none ↦ by_end ended refl none
]
  where
    by_end : (b : Bool) → ended ≡ b → t.so_far.rest ≡ [] → FirstSoFar (start_state stamp INPUT_LIMIT) q found frames rest
    by_end true is none = first_held stamp q left left' found Saw t.so_far (λ cut. saw cut (inr is)) octets frames rest may split
    by_end false is none =
        let (later, first) = front_held stamp q left left' found Saw t.so_far none octets frames rest may split in
        record { later = later; first = first; all = λ e. absurd (false≢true (sym is ∙ t.seen e none)) }

-- lines that were carried out write what was written, whatever the input may hold
pub plays_held : (stamp : Stamp) (left : Option (List ℕ)) (lines : List Line) (scene : RunState) (old new : Outputs) (Saw : List Frame → List ℕ → Type 0) (p : HasExecuted (start_state stamp INPUT_LIMIT) left lines scene old new)
    → ((frames : List Frame) (rest : List ℕ) → IsEndSeen stamp lines frames rest → Saw frames rest) → (octets : List ℕ) (frames : List Frame) (rest : List ℕ) → MayHold stamp Saw left scene.left octets → Splits stamp None octets frames rest
    → play_texts lines (all_results stamp frames rest) ≡ p.texts
plays_held stamp left lines scene old new Saw p saw octets frames rest may split =
    let t = p.stands.taking in
    let found = p.standing.found in
    let own : (more : List RecordResult) → (scene.place.phase ≡ Ended → more ≡ []) → course false lines (found ++ more) ≡ record { texts = p.texts; ended = p.standing.ended; left = more } =
    λ more none. course_of_done (start_state stamp INPUT_LIMIT) left lines scene old new more p none in
    let met : p.standing.ended ≡ true → (course false lines (all_results stamp t.so_far.frames t.so_far.rest)).ended ≡ true =
    λ e. ap (λ l. (course false lines l).ended) (sym t.so_far.found_is ∙ sym (append-nil found)) ∙ ap (λ c. c.ended) (own [] (λ _. refl)) ∙ e in
    let first = played_held stamp scene.place left scene.left found p.standing.ended Saw t
    (λ cut seen. saw t.so_far.frames t.so_far.rest (cut, elim seen [ inl some ↦ inl some | inr e ↦ inr (met e) ])) octets frames rest may split in
    ap (λ l. play_texts lines l) first.first ∙ ap (λ c. c.texts) (own first.later first.all)

-- where memory or an output stopped a run, what was found is first in it
pub broken_held : (stamp : Stamp) (left : Option (List ℕ)) (done behind lines : List Line) (line : Line) (scene : RunState) (old new : Outputs) (Saw : List Frame → List ℕ → Type 0) (p : ExecutionBrokenOff (start_state stamp INPUT_LIMIT) left done line scene old new) → lines ≡ (done ++ line ∷ []) ++ behind
    → ((frames : List Frame) (rest : List ℕ) → IsEndSeen stamp lines frames rest → Saw frames rest) → (octets : List ℕ) (frames : List Frame) (rest : List ℕ) → MayHold stamp Saw left scene.left octets → Splits stamp None octets frames rest
    → FirstSoFar (start_state stamp INPUT_LIMIT) scene.place p.found frames rest
broken_held stamp left done behind lines line scene old new Saw p is saw octets frames rest may split =
    let t = p.taking in
    let met : p.ended ≡ true → (course false lines (all_results stamp t.so_far.frames t.so_far.rest)).ended ≡ true = λ e. (λ i. (course false (is i) (sym t.so_far.found_is i)).ended) ∙ p.met e behind in
    played_held stamp scene.place left scene.left p.found p.ended Saw t
    (λ cut seen. saw t.so_far.frames t.so_far.rest (cut, elim seen [ inl some ↦ inl some | inr e ↦ inr (met e) ])) octets frames rest may split

-- ---- a run that carried out all lines

none_text : (text : List ℕ) → is_some (slice_get text 0) ≡ false → text ≡ []
none_text [] e = refl
none_text (octet ∷ text) e = cc

some_text : (text : List ℕ) → is_some (slice_get text 0) ≡ true → text ≢ []
some_text [] e none = cc
some_text (octet ∷ text) e none = cc

-- by whether an output failed at last and whether something was reported
EndsWithTexts-by : (failed reported : Bool) (texts : Texts) (old new : Outputs) → reported ≡ is_some (slice_get texts.err 0) → Writes texts old new → EndsWithTexts (outcome_of_finished_run failed reported) texts old new
EndsWithTexts-by true reported texts old new told writes = WritesPrefixes-whole texts old new writes
EndsWithTexts-by false true texts old new told writes = (some_text texts.err (sym told), writes)
EndsWithTexts-by false false texts old new told writes = (none_text texts.err (sym told), writes)

-- what holds of each end that such a run has, and of each that a fault of the writing gives it
by_end : (Holds : Outcome → Type 0) (failed reported : Bool) → Holds outcome.WriteFault → Holds outcome.Reported → Holds outcome.Done → Holds (outcome_of_finished_run failed reported)
by_end Holds true reported fault told done = fault
by_end Holds false true fault told done = told
by_end Holds false false fault told done = done

by_fault : (Holds : Outcome → Type 0) (fault : WriteFault) → Holds outcome.WriteFault → Holds outcome.Memory → Holds (outcome_of_write_fault fault)
by_fault Holds write.Write fault memory = fault
by_fault Holds write.Memory fault memory = memory

-- the texts of a script that was carried out
abbrev pub PlayEnds : Stamp → Option (List ℕ) → Option (List ℕ) → List ℕ → Outcome → Outputs → Outputs → Type 0
PlayEnds stamp left left' script outcome old new = (lines : List Line) → IsScript lines script
    → (octets : List ℕ) (frames : List Frame) (rest : List ℕ) → MayHold stamp (ScriptSawEnd stamp outcome lines) left left' octets → Splits stamp None octets frames rest
    → EndsWithTexts outcome (play_texts lines (all_results stamp frames rest)) old new

pub PlayEnds-finished : (stamp : Stamp) (left : Option (List ℕ)) (script : List ℕ) (scene : RunState) (old mid new : Outputs) (failed : Bool) (outcome : Outcome) → HasExecutedScript (start_state stamp INPUT_LIMIT) left script scene old mid (Ok tt)
    → outcome ≡ outcome_of_finished_run failed scene.reported → Keeps mid.out new.out → Keeps mid.err new.err → PlayEnds stamp left scene.left script outcome old new
PlayEnds-finished stamp left script scene old mid new failed outcome (done, are, plays) is out err lines reading =
    let p : HasExecuted (start_state stamp INPUT_LIMIT) left lines scene old mid = subst (λ l. HasExecuted (start_state stamp INPUT_LIMIT) left l scene old mid) (one_reading done lines (script_lines script) are reading) plays in
    let how = outcome_of_finished_run failed scene.reported in
    subst (λ o. (octets : List ℕ) (frames : List Frame) (rest : List ℕ) → MayHold stamp (ScriptSawEnd stamp o lines) left scene.left octets → Splits stamp None octets frames rest → EndsWithTexts o (play_texts lines (all_results stamp frames rest)) old new) (sym is)
    (λ octets frames rest may split.
    let texts = plays_held stamp left lines scene old mid (ScriptSawEnd stamp how lines) p (λ fs r seen. by_end (λ o. ScriptSawEnd stamp o lines fs r) failed scene.reported seen seen seen) octets frames rest may split in
    subst (λ x. EndsWithTexts how x old new) (sym texts) (EndsWithTexts-by failed scene.reported p.texts old new p.told (Writes-kept p.texts old mid new p.written out err)))

-- ---- a run that was stopped

pub PlayEnds-stopped : (stamp : Stamp) (left : Option (List ℕ)) (script : List ℕ) (scene : RunState) (old new : Outputs) (outcome : Outcome) → HasExecutedScript (start_state stamp INPUT_LIMIT) left script scene old new (Err outcome)
    → PlayEnds stamp left scene.left script outcome old new
PlayEnds-stopped stamp left script scene old new outcome (done, line, first, others, whole, are, inl (fault, is, p)) lines reading =
    let (behind, all) = first_reading (done ++ line ∷ []) lines first others are (subst (AreLines lines) whole reading) in
    subst (λ o. (octets : List ℕ) (frames : List Frame) (rest : List ℕ) → MayHold stamp (ScriptSawEnd stamp o lines) left scene.left octets → Splits stamp None octets frames rest → EndsWithTexts o (play_texts lines (all_results stamp frames rest)) old new) (sym is)
    (λ octets frames rest may split.
    let (later, found) = untold_held stamp left scene.left p.found (ScriptSawEnd stamp (outcome_of_source_fault fault) lines) p.faulty.untold octets frames rest may split in
    subst (λ t. EndsWithTexts (outcome_of_source_fault fault) t old new) (λ i. play_texts (sym all i) (sym found i))
    (EndsWithTexts-source fault (play_texts ((done ++ line ∷ []) ++ behind) (p.found ++ later)) old new (fronts_past done behind line (p.found ++ later) old new (p.past later))))
PlayEnds-stopped stamp left script scene old new outcome (done, line, first, others, whole, are, inr (fault, is, p)) lines reading =
    let (behind, all) = first_reading (done ++ line ∷ []) lines first others are (subst (AreLines lines) whole reading) in
    subst (λ o. (octets : List ℕ) (frames : List Frame) (rest : List ℕ) → MayHold stamp (ScriptSawEnd stamp o lines) left scene.left octets → Splits stamp None octets frames rest → EndsWithTexts o (play_texts lines (all_results stamp frames rest)) old new) (sym is)
    (λ octets frames rest may split.
    let found = broken_held stamp left done behind lines line scene old new (ScriptSawEnd stamp (outcome_of_write_fault fault) lines) p all (λ fs r seen. by_fault (λ o. ScriptSawEnd stamp o lines fs r) fault seen seen) octets frames rest may split in
    let fronts = fronts_past done behind line (p.found ++ found.later) old new (p.past found.later found.all) in
    subst (λ t. EndsWithTexts (outcome_of_write_fault fault) t old new) (λ i. play_texts (sym all i) (sym found.first i)) (by_fault (λ o. EndsWithTexts o (play_texts ((done ++ line ∷ []) ++ behind) (p.found ++ found.later)) old new) fault fronts fronts))

-- a run that the input ended has written what the frames give
pub Writes-cut : (stamp : Stamp) (left : Option (List ℕ)) (script : List ℕ) (scene : RunState) (old new : Outputs) (outcome : Outcome) → HasExecutedScript (start_state stamp INPUT_LIMIT) left script scene old new (Err outcome) → EndedByInputFault outcome
    → (lines : List Line) → IsScript lines script → (taken after : List ℕ) (frames : List Frame) (rest : List ℕ) → TakesFront left scene.left taken after → Splits stamp None taken frames rest → Writes (texts_before_input_fault lines (all_results stamp frames [])) old new
Writes-cut stamp left script scene old new outcome (done, line, first, others, whole, are, inl (fault, is, p)) by_input lines reading taken after frames rest took split =
    let (behind, all) = first_reading (done ++ line ∷ []) lines first others are (subst (AreLines lines) whole reading) in
    let found = whole_found stamp left scene.left p.found fault p.faulty (subst EndedByInputFault is by_input) taken after frames rest took split in
    subst (λ t. Writes t old new) (λ i. texts_before_input_fault (sym all i) (found i)) (p.exact behind)
Writes-cut stamp left script scene old new outcome (done, line, first, others, whole, are, inr (fault, is, p)) by_input lines reading taken after frames rest took split = absurd (written_all fault (subst EndedByInputFault is by_input))

-- ---- what was taken

pub IsTaken-finished : (stamp : Stamp) (left : Option (List ℕ)) (script : List ℕ) (scene : RunState) (old new : Outputs) (failed : Bool) (outcome : Outcome) → HasExecutedScript (start_state stamp INPUT_LIMIT) left script scene old new (Ok tt)
    → outcome ≡ outcome_of_finished_run failed scene.reported → (taken : List ℕ) × Consumes left scene.left taken × IsTaken stamp outcome taken
IsTaken-finished stamp left script scene old new failed outcome (done, are, p) is =
    let t = p.stands.taking in
    let last = rest_so_far (start_state stamp INPUT_LIMIT) scene.place left scene.left p.standing.found t.so_far in
    subst (λ o. (taken : List ℕ) × Consumes left scene.left taken × IsTaken stamp o taken) (sym is)
    (IsTaken-told stamp scene.place left scene.left (outcome_of_finished_run failed scene.reported) p.standing.found t.so_far t.within
    (by_end (λ o. MayTakeAfterFrames o t.so_far.rest) failed scene.reported last last last))

pub IsTaken-ended : (stamp : Stamp) (left : Option (List ℕ)) (script : List ℕ) (scene : RunState) (old new : Outputs) (outcome : Outcome) → HasExecutedScript (start_state stamp INPUT_LIMIT) left script scene old new (Err outcome)
    → (taken : List ℕ) × Consumes left scene.left taken × IsTaken stamp outcome taken
IsTaken-ended stamp left script scene old new outcome (done, line, first, others, whole, are, inl (fault, is, p)) =
    subst (λ o. (taken : List ℕ) × Consumes left scene.left taken × IsTaken stamp o taken) (sym is) (IsTaken-faulty stamp left scene.left p.found fault p.faulty)
IsTaken-ended stamp left script scene old new outcome (done, line, first, others, whole, are, inr (fault, is, p)) =
    let t = p.taking in
    let last = rest_so_far (start_state stamp INPUT_LIMIT) scene.place left scene.left p.found t.so_far in
    subst (λ o. (taken : List ℕ) × Consumes left scene.left taken × IsTaken stamp o taken) (sym is)
    (IsTaken-told stamp scene.place left scene.left (outcome_of_write_fault fault) p.found t.so_far t.within
    (by_fault (λ o. MayTakeAfterFrames o t.so_far.rest) fault last (inl last)))

pub length-ended : (stamp : Stamp) (left : Option (List ℕ)) (script : List ℕ) (scene : RunState) (old new : Outputs) (how : Outcome) → HasExecutedScript (start_state stamp INPUT_LIMIT) left script scene old new (Err how) → how ≡ outcome.InputTooLong
    → (taken after : List ℕ) → TakesFront left scene.left taken after → length taken ≡ INPUT_LIMIT
length-ended stamp left script scene old new how (done, line, first, others, whole, are, inl (fault, is, p)) too_long taken after took =
    length-faulty stamp left scene.left p.found fault p.faulty (sym is ∙ too_long) taken after took
length-ended stamp left script scene old new how (done, line, first, others, whole, are, inr (fault, is, p)) too_long taken after took =
    absurd (by_fault (λ o. o ≡ outcome.InputTooLong → ⊥) fault (λ e. cc) (λ e. cc) (sym is ∙ too_long))

-- ---- nothing but what commands want

-- the octets taken give just what was found
results_taken : (stamp : Stamp) (q : SourceState) (left left' : Option (List ℕ)) (found : List RecordResult) → (s : HasAnswered (start_state stamp INPUT_LIMIT) q left left' found)
    → (taken after : List ℕ) (frames : List Frame) (rest : List ℕ) → TakesFront left left' taken after → Splits stamp None taken frames rest → all_results stamp frames rest ≡ found
results_taken stamp q left left' found s taken after frames rest took split =
    let p : SourceState = start_state stamp INPUT_LIMIT in
    let same = same_taken left left' (spellings s.frames ++ s.rest) taken after s.consumed took in
    let all = frames_all stamp None s.frames frames s.rest rest s.are_frames split.are_frames (rest_so_far p q left left' found s).none split.none (sym same ∙ split.whole) in
    (λ i. results p (all.0 i) (all.1 i)) ∙ sym s.found_is

pub TakesWanted-finished : (stamp : Stamp) (left : Option (List ℕ)) (script : List ℕ) (scene : RunState) (old new : Outputs) (failed : Bool) (outcome : Outcome) → HasExecutedScript (start_state stamp INPUT_LIMIT) left script scene old new (Ok tt)
    → outcome ≡ outcome_of_finished_run failed scene.reported → (lines : List Line) → IsScript lines script → (taken after : List ℕ) (frames : List Frame) (rest : List ℕ) → TakesFront left scene.left taken after → Splits stamp None taken frames rest
    → TakesWanted stamp outcome lines frames rest
TakesWanted-finished stamp left script scene old new failed outcome (done, are, plays) is lines reading taken after frames rest took split =
    let p : HasExecuted (start_state stamp INPUT_LIMIT) left lines scene old new = subst (λ l. HasExecuted (start_state stamp INPUT_LIMIT) left l scene old new) (one_reading done lines (script_lines script) are reading) plays in
    let found = p.standing.found in
    let same = results_taken stamp scene.place left scene.left found p.stands.taking.so_far taken after frames rest took split in
    let none = ap (λ l. (course false lines l).left) (same ∙ sym (append-nil found)) ∙ ap (λ c. c.left) (course_of_done (start_state stamp INPUT_LIMIT) left lines scene old new [] p (λ _. refl)) in
    subst (λ o. TakesWanted stamp o lines frames rest) (sym is) (by_end (λ o. TakesWanted stamp o lines frames rest) failed scene.reported tt none none)

wanted_source : (fault : SourceFault) (stamp : Stamp) (lines : List Line) (frames : List Frame) (rest : List ℕ) → (EndedByInputFault (outcome_of_source_fault fault) → (course true lines (all_results stamp frames [])).ended ≡ true) → TakesWanted stamp (outcome_of_source_fault fault) lines frames rest
wanted_source source.Read stamp lines frames rest ended = ended tt
wanted_source source.InputTooLong stamp lines frames rest ended = ended tt
wanted_source source.Memory stamp lines frames rest ended = tt
wanted_source source.Spent stamp lines frames rest ended = tt

pub TakesWanted-stopped : (stamp : Stamp) (left : Option (List ℕ)) (script : List ℕ) (scene : RunState) (old new : Outputs) (outcome : Outcome) → HasExecutedScript (start_state stamp INPUT_LIMIT) left script scene old new (Err outcome)
    → (lines : List Line) → IsScript lines script → (taken after : List ℕ) (frames : List Frame) (rest : List ℕ) → TakesFront left scene.left taken after → Splits stamp None taken frames rest → TakesWanted stamp outcome lines frames rest
TakesWanted-stopped stamp left script scene old new outcome (done, line, first, others, whole, are, inl (fault, is, p)) lines reading taken after frames rest took split =
    let (behind, all) = first_reading (done ++ line ∷ []) lines first others are (subst (AreLines lines) whole reading) in
    subst (λ o. TakesWanted stamp o lines frames rest) (sym is) (wanted_source fault stamp lines frames rest (λ by_input.
    let found = whole_found stamp left scene.left p.found fault p.faulty by_input taken after frames rest took split in
    (λ i. (course true (all i) (sym found i)).ended) ∙ p.wants behind))
TakesWanted-stopped stamp left script scene old new outcome (done, line, first, others, whole, are, inr (fault, is, p)) lines reading taken after frames rest took split =
    subst (λ o. TakesWanted stamp o lines frames rest) (sym is) (by_fault (λ o. TakesWanted stamp o lines frames rest) fault tt tt)

-- ---- how far a run came that memory or an output broke off

-- it carried out all lines: an output failed where it was finished
pub HasBegun-finished : (stamp : Stamp) (left : Option (List ℕ)) (script : List ℕ) (scene : RunState) (old mid new : Outputs) → HasExecutedScript (start_state stamp INPUT_LIMIT) left script scene old mid (Ok tt)
    → Keeps mid.out new.out → Keeps mid.err new.err → (lines : List Line) → IsScript lines script → HasBegun stamp lines left scene.left old new
HasBegun-finished stamp left script scene old mid new (done, are, plays) out err lines reading =
    let p : HasExecuted (start_state stamp INPUT_LIMIT) left lines scene old mid = subst (λ l. HasExecuted (start_state stamp INPUT_LIMIT) left l scene old mid) (one_reading done lines (script_lines script) are reading) plays in
    let all = append-nil lines in
    record {
      done = lines;
      last = [];
      behind = [];
      whole = sym (append-nil (lines ++ []) ∙ all);
      one = omega arith;
      texts = λ octets frames rest may split.
          let own : Texts = play_texts lines (all_results stamp frames rest) in
          let texts = plays_held stamp left lines scene old mid (IsEndSeen stamp (lines ++ [])) p (λ fs r seen. subst (λ l. IsEndSeen stamp l fs r) (sym all) seen) octets frames rest may split in
          record {
            mid = new;
            written = subst (λ x. Writes x old new) (sym texts) (Writes-kept p.texts old mid new p.written out err);
            more = record { out = []; err = [] };
            whole = ap (λ l. play_texts l (all_results stamp frames rest)) all ∙ (λ i. record { out = sym (append-nil own.out) i; err = sym (append-nil own.err) i });
            fronts = (AppendsPrefix-none new.out [], AppendsPrefix-none new.err []);
          };
    }

-- it was in a line
began : (stamp : Stamp) (left left' : Option (List ℕ)) (old new : Outputs) (lines done : List Line) (line : Line) (behind : List Line) → lines ≡ (done ++ line ∷ []) ++ behind
    → HoldsForAllContents stamp (IsEndSeen stamp (done ++ line ∷ [])) left left' (λ found. WritesBeyond (play_texts done found) (play_texts (done ++ line ∷ []) found) old new) → HasBegun stamp lines left left' old new
began stamp left left' old new lines done line behind is texts =
    record { done = done; last = line ∷ []; behind = behind; whole = is; one = omega arith; texts = texts }

-- memory ended it in the source; or memory or an output behind that
pub HasBegun-stopped : (stamp : Stamp) (left : Option (List ℕ)) (script : List ℕ) (scene : RunState) (old new : Outputs) (outcome : Outcome) → HasExecutedScript (start_state stamp INPUT_LIMIT) left script scene old new (Err outcome)
    → (lines : List Line) → IsScript lines script → HasBegun stamp lines left scene.left old new
HasBegun-stopped stamp left script scene old new outcome (done, line, first, others, whole, are, inl (fault, is, p)) lines reading =
    let (behind, all) = first_reading (done ++ line ∷ []) lines first others are (subst (AreLines lines) whole reading) in
    began stamp left scene.left old new lines done line behind all (λ octets frames rest may split.
    let (later, found) = untold_held stamp left scene.left p.found (IsEndSeen stamp (done ++ line ∷ [])) p.faulty.untold octets frames rest may split in
    subst (λ l. WritesBeyond (play_texts done l) (play_texts (done ++ line ∷ []) l) old new) (sym found) (p.past later))
HasBegun-stopped stamp left script scene old new outcome (done, line, first, others, whole, are, inr (fault, is, p)) lines reading =
    let (behind, all) = first_reading (done ++ line ∷ []) lines first others are (subst (AreLines lines) whole reading) in
    began stamp left scene.left old new lines done line behind all (λ octets frames rest may split.
    let found = broken_held stamp left done [] (done ++ line ∷ []) line scene old new (IsEndSeen stamp (done ++ line ∷ [])) p (sym (append-nil (done ++ line ∷ []))) (λ fs r seen. seen) octets frames rest may split in
    subst (λ l. WritesBeyond (play_texts done l) (play_texts (done ++ line ∷ []) l) old new) (sym found.first) (p.past found.later found.all))
