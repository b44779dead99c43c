-- Private.
-- What a run of the program leaves in its devices, and how the program ends. Read `LeavesTexts` first.
use Rattle.std.specs.Prelude.{◌≡◌, ◌≤◌, ℕ, ◌^◌, List, [], length, Option, Some, None, IfSome, IsTrue, ◌⊎◌, codes}
use Rattle.std.specs.Io.KnownBytes.{Keeps}
use Rattle.std.specs.Io.Buffered.{reader_remaining, writer_contents}
use Rattle.mrt_wire.specs.declared.BufferedInput.{BufferedInput}
use Rattle.mrt_wire.specs.declared.Stamp.{Stamp}
use Rattle.mrt_wire.specs.Results.{TakesFront, RecordResult, Splits, Frame}
use Rattle.bgpdump_tool.specs.Run.{EndedByInputFault, EndsWithTexts, Outputs, HoldsForTaken, Texts, Writes, all_results, outputs_of}
use Rattle.bgpdump_tool.specs.Course.{HoldsForLines, play_texts}
use Rattle.bgpdump_tool.specs.declared.play.TheConstants.{LONGEST_SCRIPT}
use Rattle.bgpdump.specs.declared.run.Devices.{Devices}
use Rattle.bgpdump.specs.declared.run.FinishedRun.{FinishedRun}
use Rattle.bgpdump.specs.declared.run.BufferedStreams.{BufferedStreams}
use Rattle.bgpdump_tool.specs.WrittenSoFar.{exit_status}
use Rattle.bgpdump_tool.specs.declared.Outcome.{Outcome}
use Rattle.bgpdump_tool.specs.declared.Outcome.TheVariants.{ReadFault, WriteFault, InputTooLong, ScriptTooLong, Memory}
use Rattle.bgpdump.specs.declared.ending.InstructionText.{InstructionText}
use Rattle.bgpdump.specs.declared.ending.Ending.{Ending}
use Rattle.bgpdump.specs.declared.ending.Ending.TheVariants.{Usage, NotOpened, NotRead, Ran}
use Rattle.bgpdump_tool.specs.declared.UsageFault.TheVariants as usage

-- ---- what a run of the program leaves with its writers, and of its input

-- `IsSo` holds of what the two writers that a run gives back (of results and of reports) have got, by `contents` and
-- `contents'`, which give the octets of each, or `None` where they aren't known. True if the run gives none back.
abbrev pub HoldsForWriters : {O E : Type 0} → (O → Option (List ℕ)) → (E → Option (List ℕ)) → (Outputs → Type 0) → Option (O × E) → Type 0
HoldsForWriters contents contents' IsSo writers = IfSome writers (λ both. IsSo (outputs_of contents contents' both.0 both.1))

-- `Relates` holds between what the two writers had got before the run, as `devices` has them, and what they have got
-- after it, as `ended` has them; `contents` and `contents'` give the octets of each. True if the run gives no writers
-- back.
abbrev pub RelatesWriters : {R O E : Type 0} → (O → Option (List ℕ)) → (E → Option (List ℕ)) → (Outputs → Outputs → Type 0) → Devices R O E → FinishedRun R O E → Type 0
RelatesWriters contents contents' Relates devices ended = HoldsForWriters contents contents' (Relates (outputs_of contents contents' devices.out devices.err)) ended.writers

-- The octets that the two outputs of a run have got, and after them those that are still in their buffers; `contents`
-- and `contents'` give what the writer of each has got, `None` where it isn't known.
abbrev pub buffered_outputs : {R O E : Type 0} → (O → Option (List ℕ)) → (E → Option (List ℕ)) → BufferedStreams R O E → Outputs
buffered_outputs contents contents' streams =
    outputs_of (λ out. writer_contents contents out.output.writer) (λ err. writer_contents contents' err.output.writer) streams.out streams.err

-- Both outputs have after a run (`new`) exactly the octets that they had before it (`old`), where these are known.
abbrev pub KeepsBoth : Outputs → Outputs → Type 0
KeepsBoth old new = Keeps old.out new.out × Keeps old.err new.err

-- The octets that an input with a buffer has left: those in the buffer, and then those that its reader has left, as
-- `remaining` gives them; `None` where they aren't known.
abbrev pub left_of : {R : Type 0} → (R → Option (List ℕ)) → BufferedInput R → Option (List ℕ)
left_of remaining buffered = reader_remaining remaining buffered.input.reader

-- A read of the input has failed, as the flag `failed` of the input says.
abbrev pub has_failed : {R : Type 0} → BufferedInput R → Type 0
has_failed buffered = IsTrue buffered.input.failed

-- `Relates` holds between the octets that the reader had left before the run (`reader`) and those that the input has
-- left after it (`input`, with its buffer), as `remaining` gives them. True if the run gives no input back.
abbrev pub HoldsForInput : {R : Type 0} → (R → Option (List ℕ)) → (Option (List ℕ) → Option (List ℕ) → Type 0) → R → Option (BufferedInput R) → Type 0
HoldsForInput remaining Relates reader input = IfSome input (λ input. Relates (remaining reader) (left_of remaining input))

-- If the reader of `devices` showed its octets before the run, the writers have got what `texts` gives for all
-- results of these octets, or prefixes of it, as `EndsWithTexts` says for the run's outcome; `contents` and
-- `contents'` give what each writer has got, and `stamp` chooses times of table entries. True if the run gives no
-- writers back.
abbrev pub LeavesTexts : {R O E : Type 0} → (R → Option (List ℕ)) → (O → Option (List ℕ)) → (E → Option (List ℕ)) → Stamp → (List RecordResult → Texts) → Devices R O E → FinishedRun R O E → Type 0
LeavesTexts remaining contents contents' stamp texts devices ended =
    (octets : List ℕ) (frames : List Frame) (rest : List ℕ) → remaining devices.reader ≡ Some octets → Splits stamp None octets frames rest
    → RelatesWriters contents contents' (EndsWithTexts ended.outcome (texts (all_results stamp frames rest))) devices ended

-- Each writer that the run gives back holds exactly this, if it was empty before: what `texts` gives for it over all
-- results of `octets`, or a prefix of that, as `EndsWithTexts` says for the run's outcome. `contents` and `contents'`
-- give what each writer holds. True if the run gives no writers back.
abbrev pub WritersHoldTexts : {R O E : Type 0} → (O → Option (List ℕ)) → (E → Option (List ℕ)) → Stamp → (List RecordResult → Texts) → List ℕ → FinishedRun R O E → Type 0
WritersHoldTexts contents contents' stamp texts octets ended =
    (frames : List Frame) (rest : List ℕ) → Splits stamp None octets frames rest
    → HoldsForWriters contents contents' (EndsWithTexts ended.outcome (texts (all_results stamp frames rest)) (record { out = Some []; err = Some [] })) ended.writers

-- If the run ended as reading the input failed or its limit was passed, the writers have got exactly what `texts`
-- gives for the results of the frames taken from the input, and no result of the octets taken after them. True if the
-- run gives no input or no writers back, or what the reader had left isn't known.
abbrev pub LeavesWholeRecords : {R O E : Type 0} → (R → Option (List ℕ)) → (O → Option (List ℕ)) → (E → Option (List ℕ)) → Stamp → (List RecordResult → Texts) → Devices R O E → FinishedRun R O E → Type 0
LeavesWholeRecords remaining contents contents' stamp texts devices ended =
    EndedByInputFault ended.outcome
    → HoldsForInput remaining (λ left left_after. HoldsForTaken stamp left left_after (λ frames rest. RelatesWriters contents contents' (Writes (texts (all_results stamp frames []))) devices ended))
    devices.reader ended.input

-- If `script` has at most `LONGEST_SCRIPT` octets, writers that had got nothing before the run hold what the script's
-- lines write over all results of `octets`, or prefixes of it, as `EndsWithTexts` says for the run's outcome, and
-- nothing else. True if the run gives no writers back.
abbrev pub WritersHoldReplies : {R O E : Type 0} → (O → Option (List ℕ)) → (E → Option (List ℕ)) → Stamp → List ℕ → List ℕ → FinishedRun R O E → Type 0
WritersHoldReplies contents contents' stamp script octets ended =
    length script ≤ LONGEST_SCRIPT → HoldsForLines script (λ lines. WritersHoldTexts contents contents' stamp (play_texts lines) octets ended)

-- Exactly 2^40 octets were taken from an input that had `left` left before and `left_after` after, where both are known.
abbrev pub TookInputLimit : Option (List ℕ) → Option (List ℕ) → Type 0
TookInputLimit left left_after = (taken after : List ℕ) → TakesFront left left_after taken after → length taken ≡ 2 ^ 40

-- ---- how the program ends: its exit status, and its last message

-- The exit status of the program: 0 for help, 2 for other usage faults, 3 if a file isn't opened or the command line
-- or the script can't be read, 4 if memory allocation failed while the command line was parsed, and otherwise that of
-- the run's outcome (`exit_status`).
abbrev pub ending_status : Ending → ℕ
ending_status (Usage (usage.Help text)) = 0
ending_status (Usage usage.Memory) = exit_status Memory
ending_status (Usage fault) = 2
ending_status (NotOpened name cause) = 3
ending_status (NotRead text error) = exit_status ReadFault
ending_status (Ran outcome) = exit_status outcome

-- The outcome is one of those with which the program ends if an error of reading keeps its run from starting:
-- ReadFault or Memory.
abbrev pub IsOutcomeOfReadError : Outcome → Type 0
IsOutcomeOfReadError outcome = (outcome ≡ ReadFault) ⊎ (outcome ≡ Memory)

-- The program may end so after reading `text` (the command line or the script) failed: with `NotRead` of `text` and
-- any error, or with the outcome Memory, and in no other way.
abbrev pub IsEndingOfReadError : InstructionText → Ending → Type 0
IsEndingOfReadError text (Ran outcome) = outcome ≡ Memory
IsEndingOfReadError text (NotRead others error) = others ≡ text
IsEndingOfReadError text other = ⊥

-- The outcome of a run whose own outcome was this, and whose writers failed after it: Memory stays, any other one
-- becomes WriteFault.
abbrev pub outcome_without_writers : Outcome → Outcome
outcome_without_writers Memory = Memory
outcome_without_writers outcome = WriteFault

-- The message with which the program ends, such as `read fault`, without the program's name ahead of it. `None` if
-- there is no message (`Done`, `Reported`), or if its text isn't fixed: for help and other texts of `clap`, and for a
-- file that isn't opened.
abbrev pub ending_message : Ending → Option (List ℕ)
ending_message (Usage usage.Mode) = Some (codes "choose one of -m and --play")
ending_message (Usage usage.TwoInputs) = Some (codes "standard input named twice")
ending_message (Usage usage.Memory) = Some (codes "out of memory")
ending_message (NotRead text error) = Some (codes "read fault")
ending_message (Ran ReadFault) = Some (codes "read fault")
ending_message (Ran WriteFault) = Some (codes "write fault")
ending_message (Ran InputTooLong) = Some (codes "input too long")
ending_message (Ran ScriptTooLong) = Some (codes "script too long")
ending_message (Ran Memory) = Some (codes "out of memory")
ending_message other = None
