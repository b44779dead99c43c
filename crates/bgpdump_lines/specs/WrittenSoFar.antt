-- Private.
-- What a run has taken and written so far, where it stopped, and how it ends. Read `WrittenSoFar` first.
use Rattle.std.specs.Prelude.{◌≡◌, ℕ, List, ◌++◌, Result, OnOk, OnErr, ◌⊎◌, Bool, true, false, [], ◌∷◌, Option, Ok, Err, ◌+◌, ◌≤◌, length}
use Rattle.bgp_wire.specs.Readers.{StillBegins}
use Rattle.std.specs.Io.KnownBytes.{Appends, Consumes}
use Rattle.mrt_events.specs.declared.event.Event.{Event}
use Rattle.mrt_wire.specs.Results.{RecordResult, Found, Bad, SourceState}
use Rattle.bgpdump_lines.specs.declared.fault.WriteFault.{WriteFault}
use Rattle.bgpdump_lines.specs.declared.fault.WriteFault.TheVariants.{Write, Memory}
use Rattle.bgpdump_lines.specs.Run.{AppendsPrefix, Outputs, Writes, WritesPrefixes, MayTakeAfterFrames, dump_texts}
use Rattle.mrt_wire.specs.Buffered.{HoldsRecord}
use Rattle.bgpdump_lines.specs.Flushing.{AreFlushed}
use Rattle.bgpdump_lines.specs.declared.outcome.Outcome.{Outcome}
use Rattle.bgpdump_lines.specs.declared.outcome.Outcome.TheVariants.{Done, Reported}
use Rattle.mrt_wire.specs.declared.SourceFault.{SourceFault}
use Rattle.mrt_wire.specs.declared.next.Phase.TheVariants.{Reading, Ended}
use Rattle.mrt_wire.specs.Taken.{MayFailAt}
use Rattle.mrt_wire.specs.Answered.{IsUndecided, HasAnswered}
use Rattle.mrt_wire.specs.declared.SourceFault.TheVariants as source
use Rattle.bgpdump_lines.specs.declared.fault.WriteFault.TheVariants as write
use Rattle.bgpdump_lines.specs.declared.outcome.Outcome.TheVariants as outcome

-- ---- what a call that prints does to a text, and what a call that writes gives to an output

-- A call that prints `text` to a buffer, whose octets are `old` before it and `new` after it, appends all of
-- it if the result is Ok. On Err, `old` is still a prefix of `new`.
abbrev pub Prints : {A E : Type 0} → List ℕ → List ℕ → List ℕ → Result A E → Type 0
Prints old new text result = OnOk result (new ≡ old ++ text) × OnErr result (StillBegins old new)

-- A call that writes `text` to an output, whose octets are `old` before it and `new` after it where they are
-- known, writes all of it if the result is Ok, a prefix of it if the output fails, and nothing if memory
-- allocation fails.
abbrev pub Puts : {A : Type 0} → Option (List ℕ) → Option (List ℕ) → List ℕ → Result A WriteFault → Type 0
Puts old new text (Ok done) = Appends old new text
Puts old new text (Err Write) = AppendsPrefix old new text
Puts old new text (Err Memory) = new ≡ old

-- A call that writes `text` to an output, whose octets are `old` before it and `new` after it where they are
-- known, writes all of it if the result is Ok, and a prefix of it on Err.
abbrev pub PutsAllOrFront : {A : Type 0} → Option (List ℕ) → Option (List ℕ) → List ℕ → Result A WriteFault → Type 0
PutsAllOrFront old new text (Ok done) = Appends old new text
PutsAllOrFront old new text (Err fault) = AppendsPrefix old new text

-- The octets `more` went through a buffer that held `before` and then holds `after`: a prefix of `before ++
-- more` was written to an output, whose octets are `old` before that and `new` after it where they are known,
-- and the buffer holds the rest.
pub record PutsThroughBuffer (old new : Option (List ℕ)) (before after more : List ℕ) : Type 0 where
  pub front : List ℕ
  pub appended : Appends old new front
  pub whole : front ++ after ≡ before ++ more

-- A call passes `more` through a buffer to an output: the buffer holds `before` and then `after`, and the output's
-- octets are `old` and then `new`, where they are known. On Ok it writes a prefix of `before ++ more`, and the buffer
-- holds the rest; on Err it writes a prefix of `before ++ more`, and the buffer may hold anything.
abbrev pub PutsThroughBufferOrFront : {A : Type 0} → Option (List ℕ) → Option (List ℕ) → List ℕ → List ℕ → List ℕ → Result A WriteFault → Type 0
PutsThroughBufferOrFront old new before after more (Ok done) = PutsThroughBuffer old new before after more
PutsThroughBufferOrFront old new before after more (Err fault) = AppendsPrefix old new (before ++ more)

-- A call that writes the lines and the reports of the results `found` to both outputs, whose octets are `old` before
-- it and `new` after it where they are known, writes all of them if the result is Ok, and a prefix of each text if an
-- output fails. If memory allocation fails, it writes nothing, or, if `found` is a single event, a prefix of its
-- lines.
abbrev pub PutsResults : {A : Type 0} → List RecordResult → Outputs → Outputs → Result A WriteFault → Type 0
PutsResults found old new (Ok done) = Writes (dump_texts found) old new
PutsResults found old new (Err Write) = WritesPrefixes (dump_texts found) old new
PutsResults found old new (Err Memory) = (new ≡ old) ⊎ ((event : Event) × (found ≡ Found event ∷ []) × WritesPrefixes (dump_texts found) old new)

-- Whether the result is the error `Write`: an output failed.
abbrev pub is_output_fault : {A : Type 0} → Result A WriteFault → Bool
is_output_fault (Err Write) = true
is_output_fault other = false

-- Whether a faulty record is among the results.
abbrev pub has_fault : List RecordResult → Bool
has_fault [] = false
has_fault (Found event ∷ found) = has_fault found
has_fault (Bad fault ∷ found) = true

-- ---- the outcome of a run that an error ends, and exit statuses

-- The exit status of an outcome: 0 for Done, 1 for Reported, 4 for Memory, 3 for all others.
abbrev pub exit_status : Outcome → ℕ
exit_status Done = 0
exit_status Reported = 1
exit_status outcome.Memory = 4
exit_status other = 3

-- The outcome of a run that this fault of its source of records ends: ReadFault for `Read`, InputTooLong and Memory
-- for the faults of these names, and Memory for `Spent` too, a fault that no run meets, as none reads on after an
-- error.
abbrev pub outcome_of_source_fault : SourceFault → Outcome
outcome_of_source_fault source.Read = outcome.ReadFault
outcome_of_source_fault source.InputTooLong = outcome.InputTooLong
outcome_of_source_fault source.Memory = outcome.Memory
outcome_of_source_fault source.Spent = outcome.Memory

-- The outcome of a run that this error of writing ends: WriteFault if an output failed, Memory if memory allocation
-- did.
abbrev pub outcome_of_write_fault : WriteFault → Outcome
outcome_of_write_fault write.Write = outcome.WriteFault
outcome_of_write_fault write.Memory = outcome.Memory

-- A result of writing, whose error, if it has one, is replaced by the outcome of a run that this error ends.
abbrev pub with_outcome_error : {A : Type 0} → Result A WriteFault → Result A Outcome
with_outcome_error (Ok done) = Ok done
with_outcome_error (Err fault) = Err (outcome_of_write_fault fault)

-- The outcome of a run that came to its end: WriteFault if an output failed as it was finished (the first flag), or
-- else Reported if something was reported (the second flag), or else Done.
abbrev pub outcome_of_finished_run : Bool → Bool → Outcome
outcome_of_finished_run true reported = outcome.WriteFault
outcome_of_finished_run false true = outcome.Reported
outcome_of_finished_run false false = outcome.Done

-- Whether the result is an error with the outcome ReadFault.
abbrev pub is_read_fault : {A : Type 0} → Result A Outcome → Bool
is_read_fault (Err outcome.ReadFault) = true
is_read_fault other = false

-- Whether the result is an error with the outcome WriteFault.
abbrev pub is_write_fault : {A : Type 0} → Result A Outcome → Bool
is_write_fault (Err outcome.WriteFault) = true
is_write_fault other = false

-- ---- what a run has taken and written so far, and where it stopped

-- All that a run found, while its source went from the state `p` to `q` and what is left in the input from
-- `left` to `left_after`, is written: the octets of its outputs are `old` before that and `new` after it.
-- `reported` is whether a faulty record is among what it found.
pub record WrittenSoFar (p q : SourceState) (left left_after : Option (List ℕ)) (old new : Outputs) (reported : Bool) : Type 0 where
  pub found : List RecordResult
  pub so_far : HasAnswered p q left left_after found
  pub written : Writes (dump_texts found) old new
  pub reported_is : reported ≡ has_fault found
  pub within : q.offset ≤ p.limit

-- From the state `p` of its source on, a run found `found` and then took octets that gave no result.
pub record TookWithoutResult (p : SourceState) (left left_after : Option (List ℕ)) (found : List RecordResult) : Type 0 where
  pub place : SourceState
  pub mid : Option (List ℕ)
  pub so_far : HasAnswered p place left mid found
  pub reading : place.phase ≡ Reading
  pub octets : List ℕ
  pub consumed : Consumes mid left_after octets
  pub within : place.offset + length octets ≤ p.limit

-- From the state `p` of its source on, a run found `found`, and then the source failed with `fault` and left
-- octets that it had taken without a result.
pub record TookUntilSourceFault (p : SourceState) (left left_after : Option (List ℕ)) (found : List RecordResult) (fault : SourceFault) : Type 0 where
  pub untold : TookWithoutResult p left left_after found
  pub left_over : IsUndecided fault untold.octets
  pub full : MayFailAt fault (untold.place.offset + length untold.octets) p.limit

-- A run has written the texts of all that it found, and then took octets of which nothing is written.
pub record StopsUnwritten (p : SourceState) (left left_after : Option (List ℕ)) (old new : Outputs) : Type 0 where
  pub found : List RecordResult
  pub untold : TookWithoutResult p left left_after found
  pub written : Writes (dump_texts found) old new

-- The source of a run failed with `fault`, after the run had written the texts of all that it found.
pub record StopsAtSource (p : SourceState) (left left_after : Option (List ℕ)) (old new : Outputs) (fault : SourceFault) : Type 0 where
  pub found : List RecordResult
  pub faulty : TookUntilSourceFault p left left_after found fault
  pub written : Writes (dump_texts found) old new

-- Writing stopped a run: of each text of what it found, a prefix is written.
pub record StopsAtPrefixes (p : SourceState) (left left_after : Option (List ℕ)) (old new : Outputs) : Type 0 where
  pub place : SourceState
  pub found : List RecordResult
  pub so_far : HasAnswered p place left left_after found
  pub within : place.offset ≤ p.limit
  pub fronts : WritesPrefixes (dump_texts found) old new

-- Writing stopped a run with this fault: its source was in the state `p` and its input had `left` left before, the
-- input has `left_after` left after, and its outputs went from `old` to `new`. A prefix of each text of what it found is
-- written, and, if memory allocation failed, it took only whole records; or memory allocation failed, the texts of
-- what it found are written, and then it took a record, or what may follow the last one, of which nothing is written.
abbrev pub StopsAtWriting : SourceState → Option (List ℕ) → Option (List ℕ) → Outputs → Outputs → WriteFault → Type 0
StopsAtWriting p left left_after old new Write = StopsAtPrefixes p left left_after old new
StopsAtWriting p left left_after old new Memory =
    ((stop : StopsUnwritten p left left_after old new) × MayTakeAfterFrames outcome.Memory stop.untold.octets)
    ⊎ ((stop : StopsAtPrefixes p left left_after old new) × (stop.so_far.rest ≡ []))

-- A run ended with this result, before its outputs were flushed: its source was in the state `p` and its input had
-- `left` left before, the input has `left_after` left after, and its outputs went from `old` to `new`. Ok: it came to the
-- end of the input and wrote all that it found; the flag is whether it reported a fault. Err: a fault of the source
-- or of writing stopped it, and has this outcome.
abbrev pub EndsUnfinished : SourceState → Result Bool Outcome → Option (List ℕ) → Option (List ℕ) → Outputs → Outputs → Type 0
EndsUnfinished p (Ok reported) left left_after old new = (q : SourceState) × (q.phase ≡ Ended) × WrittenSoFar p q left left_after old new reported
EndsUnfinished p (Err outcome) left left_after old new =
    ((fault : SourceFault) × (outcome ≡ outcome_of_source_fault fault) × StopsAtSource p left left_after old new fault)
    ⊎ ((fault : WriteFault) × (outcome ≡ outcome_of_write_fault fault) × StopsAtWriting p left left_after old new fault)

-- ---- before the next record is read

-- The next record may be read: `buffered`, what the input has in its buffer, holds it as a whole, so that no read
-- waits or fails, or neither output holds anything back (`AreFlushed`, of `out` and `err`).
abbrev pub IsReadyToRead : List ℕ → Option (List ℕ) → Option (List ℕ) → Type 0
IsReadyToRead buffered out err = HoldsRecord buffered ⊎ AreFlushed out err
