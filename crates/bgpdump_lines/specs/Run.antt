-- What a run takes from its input and writes to its outputs, where their octets are known, and the reports
-- of faulty records.
use Rattle.std.specs.Prelude.{◌≡◌, ℕ, List, ◌++◌, Option, ◌≢◌, ◌⊎◌, [], None, Some, ◌≤◌, length, ◌∷◌, decimal, codes, flat_map}
use Rattle.std.specs.Io.KnownBytes.{Appends}
use Rattle.mrt_events.specs.declared.stamp.Stamp.{Stamp}
use Rattle.mrt_wire.specs.Record.{Record, spelling, IsRecord, StatesNoExcess, IsRest, IsUnfinished}
use Rattle.mrt_wire.specs.Results.{Frame, AreFrames, Splits, spellings, RecordResult, start_state, results, TakesFront, Found, Bad}
use Rattle.mrt_wire.specs.declared.RecordKind.TheVariants.{CutRecord, TooLong, Unsupported, Malformed, NoIndex, PeerIndex}
use Rattle.bgpdump_lines.specs.declared.dump.TheConstants.{INPUT_LIMIT}
use Rattle.bgpdump_lines.specs.declared.outcome.Outcome.{Outcome}
use Rattle.bgpdump_lines.specs.declared.outcome.Outcome.TheVariants.{Done, Reported, ReadFault, WriteFault, InputTooLong, ScriptTooLong, Memory}
use Rattle.mrt_wire.specs.declared.RecordKind.{RecordKind}
use Rattle.mrt_wire.specs.declared.RecordFault.{RecordFault}
use Rattle.bgpdump_lines.specs.Lines.{line_feed, event_lines}

-- ---- what a run takes from its input and writes to its outputs, where their octets are known

-- the octets of an output grow from `old` to `new` by a prefix of `text`, maybe empty or all of it, where they are
-- known
pub record AppendsPrefix (old new : Option (List ℕ)) (text : List ℕ) : Type 0 where
  pub front : List ℕ
  pub back : List ℕ
  pub whole : text ≡ front ++ back
  pub appended : Appends old new front

-- what a run writes in all: lines or replies to `out`, and reports to `err`
pub record Texts : Type 0 where
  pub out : List ℕ
  pub err : List ℕ

-- the texts of a run that wrote the texts `first`, and after them `then`: joined for each output by itself
abbrev pub joined_texts : Texts → Texts → Texts
joined_texts first then = record { out = first.out ++ then.out; err = first.err ++ then.err }

-- the octets that were written so far to the two outputs of a run, `None` where they aren't known: `out` to
-- that of lines or replies, `err` to that of reports
pub record Outputs : Type 0 where
  pub out : Option (List ℕ)
  pub err : Option (List ℕ)

-- the octets that were written so far to the devices `out` and `err`, as `written` gives them of `out`, and
-- `written'` of `err`: `None` where they aren't known
abbrev pub outputs_of : {O E : Type 0} → (O → Option (List ℕ)) → (E → Option (List ℕ)) → O → E → Outputs
outputs_of written written' out err = record { out = written out; err = written' err }

-- `IsSo` holds of the octets that an input has left before a run and after it, and of those that two outputs have got
-- before and after it. The first triple is input, output of lines or replies, and output of reports before the run,
-- the second these after it; `left`, `written` and `written'` give the octets of each, `None` where they aren't known
abbrev pub HoldsForDevices : {I O E : Type 0} → (I → Option (List ℕ)) → (O → Option (List ℕ)) → (E → Option (List ℕ)) → (Option (List ℕ) → Option (List ℕ) → Outputs → Outputs → Type 0) → I × O × E → I × O × E → Type 0
HoldsForDevices left written written' IsSo (input, out, err) (input', out', err') =
    IsSo (left input) (left input') (outputs_of written written' out err) (outputs_of written written' out' err')

-- all results of an input whose octets split into `frames` and `rest`, the octets after the last whole record: the
-- event or fault of each frame, in order, and a fault of `rest`, if it isn't empty. Faults have numbers and offsets
-- from the start of the input; `stamp` is the choice of the times that routes of tables have in the frames
abbrev pub all_results : Stamp → List Frame → List ℕ → List RecordResult
all_results stamp frames rest = results (start_state stamp INPUT_LIMIT) frames rest

-- the outputs grow from `old` to `new` by exactly `texts`, where their octets are known: `out` by
-- `texts.out`, and `err` by `texts.err`
abbrev pub Writes : Texts → Outputs → Outputs → Type 0
Writes texts old new = Appends old.out new.out texts.out × Appends old.err new.err texts.err

-- the outputs grow from `old` to `new` by a prefix of each of `texts`, where their octets are known
abbrev pub WritesPrefixes : Texts → Outputs → Outputs → Type 0
WritesPrefixes texts old new = AppendsPrefix old.out new.out texts.out × AppendsPrefix old.err new.err texts.err

-- a run with this outcome, which was to write `texts` in all, took the octets of its outputs from `old` to `new`,
-- where they are known. `Done`: it wrote all, and `texts` has no reports; `Reported`: it wrote all, and `texts` has
-- some; `ScriptTooLong`: impossible; any other outcome: it wrote a prefix of each text
abbrev pub EndsWithTexts : Outcome → Texts → Outputs → Outputs → Type 0
EndsWithTexts Done texts old new = (texts.err ≡ []) × Writes texts old new
EndsWithTexts Reported texts old new = (texts.err ≢ []) × Writes texts old new
EndsWithTexts ScriptTooLong texts old new = ⊥
EndsWithTexts fault texts old new = WritesPrefixes texts old new

-- a run with this outcome took the outputs from `old` to `new` as `EndsWithTexts` says, where what it was to write is
-- what `texts` gives for all results of `left`, the octets that its input had left before it (times of table entries
-- chosen by `stamp`). True of any run where `left` isn't known (`None`)
abbrev pub EndsOnKnownInput : Stamp → Outcome → (List RecordResult → Texts) → Option (List ℕ) → Outputs → Outputs → Type 0
EndsOnKnownInput stamp outcome texts left old new =
    (octets : List ℕ) (frames : List Frame) (rest : List ℕ) → left ≡ Some octets → Splits stamp None octets frames rest
    → EndsWithTexts outcome (texts (all_results stamp frames rest)) old new

-- the outcome is `ReadFault` (reading the input failed) or `InputTooLong` (its limit was passed)
abbrev pub EndedByInputFault : Outcome → Type 0
EndedByInputFault ReadFault = Unit {0}
EndedByInputFault InputTooLong = Unit {0}
EndedByInputFault other = ⊥

-- a run with this outcome, which took `frames` and then the octets `rest`, saw the end of its input: `rest` begins
-- with no header that states more than 16,777,216 octets, and either the outcome is `Done` or `Reported`, or it is
-- `WriteFault` and `rest` isn't empty (the input ended within a record). False for any other outcome
abbrev pub SawEnd : Outcome → List Frame → List ℕ → Type 0
SawEnd Done frames rest = StatesNoExcess rest
SawEnd Reported frames rest = StatesNoExcess rest
SawEnd WriteFault frames rest = StatesNoExcess rest × (rest ≢ [])
SawEnd other frames rest = ⊥

-- `octets` are possible contents of an input off which a run took `taken`: these, and then any `more`, whatever
-- the input really has left; but no more where nothing is left and `Saw` tells, by the frames taken and the
-- octets taken after them, that the run saw the end. `old` and `new` are what the input had left before the run
-- and has after it; this doesn't hold if that isn't known
pub record MayHold (stamp : Stamp) (Saw : List Frame → List ℕ → Type 0) (old new : Option (List ℕ)) (octets : List ℕ) : Type 0 where
  pub taken : List ℕ
  pub after : List ℕ
  pub more : List ℕ
  pub took : TakesFront old new taken after
  pub whole : octets ≡ taken ++ more
  pub follows : (frames : List Frame) (rest : List ℕ) → Splits stamp None taken frames rest → Saw frames rest → after ≡ [] → more ≡ []

-- `IsSo` holds of all results (times of table entries chosen by `stamp`) of the octets that a run took, followed by any
-- others (`MayHold`): by none where nothing is left and `Saw` says, of the frames that the run took and the octets that
-- it took after them, that it saw the end of the input. That had `left` left before the run, and `left_after` after it.
-- True where either isn't known
abbrev pub HoldsForAllContents : Stamp → (List Frame → List ℕ → Type 0) → Option (List ℕ) → Option (List ℕ) → (List RecordResult → Type 0) → Type 0
HoldsForAllContents stamp Saw left left_after IsSo =
    (octets : List ℕ) (frames : List Frame) (rest : List ℕ) → MayHold stamp Saw left left_after octets → Splits stamp None octets frames rest
    → IsSo (all_results stamp frames rest)

-- `IsSo` holds of the frames, and of the octets after the last of them, that a run took from its input, which had
-- `left` left before it and `left_after` after it; these octets begin with no whole record. True where `left` or `left_after`
-- isn't known
abbrev pub HoldsForTaken : Stamp → Option (List ℕ) → Option (List ℕ) → (List Frame → List ℕ → Type 0) → Type 0
HoldsForTaken stamp left left_after IsSo =
    (taken after : List ℕ) (frames : List Frame) (rest : List ℕ) → TakesFront left left_after taken after → Splits stamp None taken frames rest → IsSo frames rest

-- for each list of octets that the input may have held before a run (`HoldsForAllContents`, of `Saw`, `left` and
-- `left_after`), the run, with this outcome, took the outputs from `old` to `new` as `EndsWithTexts` says, where what it
-- was to write is what `texts` gives for all results of these octets
abbrev pub EndsForAllContents : Stamp → Outcome → (List Frame → List ℕ → Type 0) → (List RecordResult → Texts) → Option (List ℕ) → Option (List ℕ) → Outputs → Outputs → Type 0
EndsForAllContents stamp outcome Saw texts left left_after old new =
    HoldsForAllContents stamp Saw left left_after (λ found. EndsWithTexts outcome (texts found) old new)

-- if the outcome is that reading the input failed or that its limit was passed, the run took the outputs from `old`
-- to `new` by exactly what `texts` gives for the results of the frames that it took from its input, which had `left`
-- left before it and `left_after` after it; nothing for the octets taken after them. True where `left` or `left_after` isn't
-- known
abbrev pub WritesBeforeInputFault : Stamp → Outcome → (List RecordResult → Texts) → Option (List ℕ) → Option (List ℕ) → Outputs → Outputs → Type 0
WritesBeforeInputFault stamp outcome texts left left_after old new =
    EndedByInputFault outcome → HoldsForTaken stamp left left_after (λ frames rest. Writes (texts (all_results stamp frames [])) old new)

-- `rest` may be what a run with this outcome took after its frames. `ReadFault` and `InputTooLong`: a part of a
-- record, maybe empty (`IsUnfinished`); `Memory`: what may be left after the last whole record (`IsRest`), or a whole
-- record of which nothing is written; `ScriptTooLong`: impossible; any other outcome: `IsRest`
abbrev pub MayTakeAfterFrames : Outcome → List ℕ → Type 0
MayTakeAfterFrames ReadFault rest = IsUnfinished rest
MayTakeAfterFrames InputTooLong rest = IsUnfinished rest
MayTakeAfterFrames Memory rest = IsRest rest ⊎ ((r : Record) × IsRecord r × (rest ≡ spelling r))
MayTakeAfterFrames ScriptTooLong rest = ⊥
MayTakeAfterFrames other rest = IsRest rest

-- `taken` may be all octets that a run with this outcome took: those of `frames` (times chosen by `stamp`),
-- and then `rest`, at most `INPUT_LIMIT` in all
pub record IsTaken (stamp : Stamp) (outcome : Outcome) (taken : List ℕ) : Type 0 where
  pub frames : List Frame
  pub rest : List ℕ
  pub whole : taken ≡ spellings frames ++ rest
  pub are_frames : AreFrames stamp None frames
  pub last : MayTakeAfterFrames outcome rest
  pub few : length taken ≤ INPUT_LIMIT

-- ---- the reports of faulty records, and the texts of results

-- what is wrong with a record, in the words of its report: `cut record`, `length N too long`,
-- `unsupported type T subtype S`, `malformed`, `no peer index` or `peer index N`, with the numbers of the fault in
-- decimal
abbrev pub fault_kind_text : RecordKind → List ℕ
fault_kind_text CutRecord = codes "cut record"
fault_kind_text (TooLong size) = codes "length " ++ (decimal size ++ codes " too long")
fault_kind_text (Unsupported kind subtype) = codes "unsupported type " ++ (decimal kind ++ (codes " subtype " ++ decimal subtype))
fault_kind_text Malformed = codes "malformed"
fault_kind_text NoIndex = codes "no peer index"
fault_kind_text (PeerIndex number) = codes "peer index " ++ decimal number

-- the report of a faulty record, a line with the record's number, the offset of its header and what is wrong with it:
-- `bgpdump: record NUMBER, byte OFFSET: FAULT`
abbrev pub fault_report : RecordFault → List ℕ
fault_report fault =
    codes "bgpdump: record " ++ (decimal fault.number ++ (codes ", byte " ++ (decimal fault.offset
    ++ (codes ": " ++ (fault_kind_text fault.kind ++ line_feed ∷ [])))))

-- the lines of a result: those of its event, or no octets for a fault
abbrev pub result_lines : RecordResult → List ℕ
result_lines (Found event) = event_lines event
result_lines (Bad fault) = []

-- the report of a result: that of its fault, or no octets for an event
abbrev pub result_report : RecordResult → List ℕ
result_report (Found event) = []
result_report (Bad fault) = fault_report fault

-- the reports of all faults among results, in order
abbrev pub reports : List RecordResult → List ℕ
reports found = flat_map result_report found

-- what a run of `bgpdump -m` writes of these results, in order: the lines of all events, and the reports of all
-- faults
abbrev pub dump_texts : List RecordResult → Texts
dump_texts found = record { out = flat_map result_lines found; err = reports found }
