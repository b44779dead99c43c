-- What the lines of a script write over results, what a whole run of a script writes and takes, and how far a
-- run came that memory or an output ended. Read `course` first.
use Rattle.std.specs.Prelude.{◌≡◌, ◌≢◌, ◌⊎◌, ℕ, ◌+◌, ◌≤◌, Bool, true, false, ◌&&◌, ◌||◌, List, [], ◌∷◌, ◌++◌, length, Option, if◌then◌else◌}
use Rattle.mrt_events.specs.declared.stamp.Stamp.{Stamp}
use Rattle.mrt_wire.specs.Results.{Frame, RecordResult}
use Rattle.mrt_wire.specs.Record.{StatesNoExcess}
use Rattle.bgpdump_lines.specs.declared.outcome.Outcome.{Outcome}
use Rattle.bgpdump_lines.specs.declared.outcome.Outcome.TheVariants.{Done, Reported, ReadFault, WriteFault, InputTooLong, ScriptTooLong, Memory}
use Rattle.bgpdump_lines.specs.Run.{reports, Texts, joined_texts, Outputs, Writes, WritesPrefixes, EndedByInputFault, all_results, HoldsForAllContents, HoldsForTaken, EndsForAllContents, EndsOnKnownInput}
use Rattle.bgpdump_tool.specs.declared.play.TheConstants.{LONGEST_SCRIPT}
use Rattle.bgpdump_tool.specs.Script.{Line, Empty, HasCommand, NoCommand, IsScript, bad_line_report}
use Rattle.bgpdump_tool.specs.Meaning.{State, start, meaning, meets_end, reports_of_taken}

-- what lines of a script do over results: `texts`, which they write; `ended`, whether one of them wants more
-- results than are left; and `left`, the results that none of them takes
pub record Course : Type 0 where
  pub texts : Texts
  pub ended : Bool
  pub left : List RecordResult

-- what some lines of a script and then others do: `texts` are what the first ones wrote, `ended` is whether one of
-- them wanted more results than were left, and `course` is what the others do
abbrev pub course_after : Texts → Bool → Course → Course
course_after texts ended course = record { texts = joined_texts texts course.texts; ended = ended || course.ended; left = course.left }

-- what lines of a script do from state `s`, where the first is line `number` of the script: commands reply, and
-- report the faults among the results that they take; a line that is no command is reported; an empty one does
-- nothing. If `cut`, reading the input failed, or its limit was passed, after the unread results: a command that
-- wants more of them gives no reply, only the reports of those that are left, and no line after it does anything
abbrev pub course_from : Bool → ℕ → List Line → State → Course
course_from cut number [] s = record { texts = record { out = []; err = [] }; ended = false; left = s.unread }
course_from cut number (Empty ∷ lines) s = course_from cut (number + 1) lines s
course_from cut number (NoCommand ∷ lines) s =
    course_after (record { out = []; err = bad_line_report number }) false (course_from cut (number + 1) lines s)
course_from cut number (HasCommand command ∷ lines) s =
    if cut && meets_end command s then record { texts = record { out = []; err = reports s.unread }; ended = true; left = [] }
    else course_after (record { out = (meaning command s).reply; err = reports_of_taken command s }) (meets_end command s)
    (course_from cut (number + 1) lines (meaning command s).after)

-- what the lines of a script do from its first state (`start`), where `found` are the results of the input. `cut` says
-- that these break off, since reading the input failed or its limit was passed: then the first command that wants
-- more of them gives no reply, and no line after it does anything
abbrev pub course : Bool → List Line → List RecordResult → Course
course cut lines found = course_from cut 1 lines (start found)

-- what the lines of a script write, where `found` are the results of the whole input: the replies and the
-- reports
abbrev pub play_texts : List Line → List RecordResult → Texts
play_texts lines found = (course false lines found).texts

-- what the lines of a script write, where `found` are the results of the records before the place at which
-- reading the input failed or its limit was passed: the replies and the reports
abbrev pub texts_before_input_fault : List Line → List RecordResult → Texts
texts_before_input_fault lines found = (course true lines found).texts

-- a run of `lines` with this outcome, which took `frames` and then the octets `rest`, took only what commands want.
-- `Done` and `Reported`: commands took all of the results (times chosen by `stamp`); `ReadFault` and `InputTooLong`:
-- a command wanted more results than the frames have; true of any other outcome
abbrev pub TakesWanted : Stamp → Outcome → List Line → List Frame → List ℕ → Type 0
TakesWanted stamp Done lines frames rest = (course false lines (all_results stamp frames rest)).left ≡ []
TakesWanted stamp Reported lines frames rest = (course false lines (all_results stamp frames rest)).left ≡ []
TakesWanted stamp ReadFault lines frames rest = (course true lines (all_results stamp frames [])).ended ≡ true
TakesWanted stamp InputTooLong lines frames rest = (course true lines (all_results stamp frames [])).ended ≡ true
TakesWanted stamp other lines frames rest = Unit {0}

-- a run of `lines`, which took `frames` and then the octets `rest`, saw the end of its input: `rest` begins with no
-- header that states more than 16,777,216 octets, and either it isn't empty (the input ended within a record) or one
-- of the lines wants more results than the frames and `rest` give (times chosen by `stamp`)
abbrev pub IsEndSeen : Stamp → List Line → List Frame → List ℕ → Type 0
IsEndSeen stamp lines frames rest = StatesNoExcess rest × ((rest ≢ []) ⊎ ((course false lines (all_results stamp frames rest)).ended ≡ true))

-- a run of `lines` with this outcome, which took `frames` and then the octets `rest`, saw the end of its input
-- (`IsEndSeen`). False for `ReadFault`, `InputTooLong` and `ScriptTooLong`
abbrev pub ScriptSawEnd : Stamp → Outcome → List Line → List Frame → List ℕ → Type 0
ScriptSawEnd stamp ReadFault lines frames rest = ⊥
ScriptSawEnd stamp InputTooLong lines frames rest = ⊥
ScriptSawEnd stamp ScriptTooLong lines frames rest = ⊥
ScriptSawEnd stamp other lines frames rest = IsEndSeen stamp lines frames rest

-- the outcome is `WriteFault` (an output failed) or `Memory` (memory allocation failed)
abbrev pub EndedByOutputOrMemory : Outcome → Type 0
EndedByOutputOrMemory WriteFault = Unit {0}
EndedByOutputOrMemory Memory = Unit {0}
EndedByOutputOrMemory other = ⊥

-- all of the texts `first` were written, and then a prefix of what `all` has after them
pub record WritesBeyond (first all : Texts) (old new : Outputs) : Type 0 where
  pub mid : Outputs
  pub written : Writes first old mid
  pub more : Texts
  pub whole : all ≡ joined_texts first more
  pub fronts : WritesPrefixes more mid new

-- a run of `lines`, which took its input from `left` to `left_after` and its outputs from `old` to `new`, executed
-- `done`, and maybe began one more line, `last`: for all octets that the input may hold (`MayHold`, the end
-- seen by `IsEndSeen`), it wrote the texts of `done` and a prefix of what `last` adds
pub record HasBegun (stamp : Stamp) (lines : List Line) (left left_after : Option (List ℕ)) (old new : Outputs) : Type 0 where
  pub done : List Line
  pub last : List Line
  pub behind : List Line
  pub whole : lines ≡ (done ++ last) ++ behind
  pub one : length last ≤ 1
  pub texts : HoldsForAllContents stamp (IsEndSeen stamp (done ++ last)) left left_after (λ found. WritesBeyond (play_texts done found) (play_texts (done ++ last) found) old new)

-- `IsSo` holds of the lines of the script whose octets are `script`: of each list of what its lines ask for
-- (`IsScript`), of which there is just one (`law_one_script`)
abbrev pub HoldsForLines : List ℕ → (List Line → Type 0) → Type 0
HoldsForLines script IsSo = (lines : List Line) → IsScript lines script → IsSo lines

-- if `script` has at most `LONGEST_SCRIPT` octets, a run of it with this outcome took the outputs from `old` to `new`
-- as `EndsWithTexts` says, where what it was to write is what its lines write over all results of `left`, the octets
-- that the input had left before the run. True of any run where `left` isn't known (`None`)
abbrev pub ScriptEndsOnKnownInput : Stamp → List ℕ → Outcome → Option (List ℕ) → Outputs → Outputs → Type 0
ScriptEndsOnKnownInput stamp script outcome left old new =
    length script ≤ LONGEST_SCRIPT → HoldsForLines script (λ lines. EndsOnKnownInput stamp outcome (play_texts lines) left old new)

-- if `script` has at most `LONGEST_SCRIPT` octets, then for each list of octets that the input may have held before a
-- run of it (`MayHold`: it had `left` left before and `left_after` after, and `ScriptSawEnd` says whether the run saw its
-- end), the run, with this outcome, took the outputs from `old` to `new` as `EndsWithTexts` says, where what it was
-- to write is what the lines of the script write over all results of these octets
abbrev pub ScriptEndsForAllContents : Stamp → List ℕ → Outcome → Option (List ℕ) → Option (List ℕ) → Outputs → Outputs → Type 0
ScriptEndsForAllContents stamp script outcome left left_after old new =
    length script ≤ LONGEST_SCRIPT → (lines : List Line) → IsScript lines script
    → EndsForAllContents stamp outcome (ScriptSawEnd stamp outcome lines) (play_texts lines) left left_after old new

-- if an output or a want of memory ended a run of the octets `script`, there are first lines of it such that, whatever
-- octets may follow those taken (`MayHold`), their texts were written, and then a prefix of what the next line adds to
-- each output, or nothing (`HasBegun`). The input had `left` left before the run and `left_after` after it, the outputs
-- had got `old` before and `new` after it. True where `left` or `left_after` isn't known
abbrev pub BrokenOffScriptWrites : Stamp → List ℕ → Outcome → Option (List ℕ) → Option (List ℕ) → Outputs → Outputs → Type 0
BrokenOffScriptWrites stamp script outcome left left_after old new =
    EndedByOutputOrMemory outcome → (lines : List Line) → IsScript lines script → HasBegun stamp lines left left_after old new

-- if the outcome of a run of the octets `script` is that reading the input failed or that its limit was passed, it
-- took the outputs from `old` to `new` by exactly what the lines of the script write over the results of the frames
-- taken from the input (`left` left before, `left_after` after), with that fault of the input after them
-- (`texts_before_input_fault`). True where `left` or `left_after` isn't known
abbrev pub ScriptWritesBeforeInputFault : Stamp → List ℕ → Outcome → Option (List ℕ) → Option (List ℕ) → Outputs → Outputs → Type 0
ScriptWritesBeforeInputFault stamp script outcome left left_after old new =
    EndedByInputFault outcome → (lines : List Line) → IsScript lines script
    → HoldsForTaken stamp left left_after (λ frames rest. Writes (texts_before_input_fault lines (all_results stamp frames [])) old new)

-- a run of the octets `script` with this outcome, whose input had `left` left before it and `left_after` after it, took no
-- records but those that commands of the script want (`TakesWanted`). True where `left` or `left_after` isn't known
abbrev pub TakesOnlyWantedRecords : Stamp → List ℕ → Outcome → Option (List ℕ) → Option (List ℕ) → Type 0
TakesOnlyWantedRecords stamp script outcome left left_after =
    (lines : List Line) → IsScript lines script → HoldsForTaken stamp left left_after (TakesWanted stamp outcome lines)
