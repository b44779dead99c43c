-- Private.
-- How far a run of a script has come, what its steps and its commands do to that, and how a fault stops them.
-- Read `Progress` and `HasProgress` first.
use Rattle.std.specs.Prelude.{◌≡◌, ℕ, ◌+◌, ◌≤◌, Bool, true, ◌||◌, List, [], ◌++◌, length, Option, ◌⊎◌, ◌-◌, ◌<◌, false, take, Result, Ok, Err, is_some, slice_get, ◌∷◌}
use Rattle.mrt_events.specs.declared.event.Event.{Event}
use Rattle.mrt_wire.specs.declared.next.Phase.TheVariants.{Ended}
use Rattle.mrt_wire.specs.Results.{RecordResult, SourceState}
use Rattle.mrt_wire.specs.Answered.{HasAnswered}
use Rattle.rib_player.specs.Timeline.{Timeline, end_of}
use Rattle.rib_player.specs.Calls.{StandsFor}
use Rattle.bgpdump_lines.specs.declared.dump.TheConstants.{INPUT_LIMIT}
use Rattle.bgpdump_tool.specs.declared.session.Session.{Session}
use Rattle.bgpdump_tool.specs.Meaning.{State, events, meaning, meets_end, reports_of_taken, start}
use Rattle.std.specs.Io.KnownBytes.{Appends, Keeps}
use Rattle.mrt_wire.specs.declared.SourceFault.{SourceFault}
use Rattle.bgpdump_lines.specs.declared.fault.WriteFault.{WriteFault}
use Rattle.bgpdump_lines.specs.declared.outcome.Outcome.{Outcome}
use Rattle.bgpdump_lines.specs.Run.{AppendsPrefix, Texts, Outputs, Writes, reports}
use Rattle.bgpdump_lines.specs.WrittenSoFar.{outcome_of_source_fault, outcome_of_write_fault, TookUntilSourceFault, has_fault}
use Rattle.bgpdump_tool.specs.declared.command.Command.{Command}
use Rattle.bgpdump_tool.specs.Script.{Line, Empty, HasCommand, NoCommand, IsLine, AreLines, script_lines, bad_line_report}
use Rattle.bgpdump_tool.specs.Course.{course_after, course_from, course, play_texts, texts_before_input_fault, WritesBeyond}

-- ---- how far a run of a script has come, what its steps and its commands do to that, and how a fault stops them

-- How far a run of a script has come: the events played, the number of them before the cursor, the number of
-- the oldest ones that can't be undone any more, the results found in the input, and whether a command met
-- the end of these.
pub record Progress : Type 0 where
  pub history : List Event
  pub cursor : ℕ
  pub floor : ℕ
  pub found : List RecordResult
  pub ended : Bool

-- The state of a run of a script: its player, the state of the source of the events that it plays next,
-- whether something was reported, and, where they are known, the octets that the input has left and those
-- that the output of reports has got.
pub record RunState : Type 0 where
  pub player : Timeline
  pub place : SourceState
  pub reported : Bool
  pub left : Option (List ℕ)
  pub err : Option (List ℕ)

-- The state of a run with this session, this input and this output of reports, where `left` gives the octets that the
-- input has left and `written` those that the output has got (`None` where they aren't known).
abbrev pub run_state_from_devices : {S I E : Type 0} → (I → Option (List ℕ)) → (E → Option (List ℕ)) → Session S → I → E → RunState
run_state_from_devices left written session input err =
    record { player = session.player; place = session.source; reported = session.reported; left = left input; err = written err }

-- `IsSo` holds of the states of a run before and after a call, of what the output of replies has got before and after
-- it, and of its answer. The first quadruple is session, input, output of replies and output of reports before the
-- call, the second these after it; `left`, `written` and `written'` give the octets of the three devices.
abbrev pub HoldsForRunStates : {S I O E A : Type 0} → (I → Option (List ℕ)) → (O → Option (List ℕ)) → (E → Option (List ℕ)) → (RunState → RunState → Option (List ℕ) → Option (List ℕ) → A → Type 0) → Session S × I × O × E → Session S × I × O × E → A → Type 0
HoldsForRunStates left written written' IsSo (session, input, out, err) (session', input', out', err') answer =
    IsSo (run_state_from_devices left written' session input err) (run_state_from_devices left written' session' input' err') (written out) (written out') answer

-- The state of a script (`State`) with the history, the cursor and the floor of a run that has come so far as `s`,
-- where `unread` are the results that no command has taken yet.
abbrev pub state_with_unread : Progress → List RecordResult → State
state_with_unread s unread = record { history = s.history; cursor = s.cursor; floor = s.floor; unread = unread }

-- A source that was in the state `from`, with `left` in the input, found the results `found`, came to the state `q`
-- and left `left_after`. If `ended`, it has seen the end of the input; if it has seen that after whole records, `ended` is
-- true.
pub record HasFound (from : SourceState) (left : Option (List ℕ)) (q : SourceState) (left_after : Option (List ℕ)) (found : List RecordResult) (ended : Bool) : Type 0 where
  pub so_far : HasAnswered from q left left_after found
  pub seen : q.phase ≡ Ended → so_far.rest ≡ [] → ended ≡ true
  pub ends : ended ≡ true → q.phase ≡ Ended
  pub within : q.offset ≤ from.limit

-- The player `t` with its cursor at the position `cursor`, and all else unchanged.
abbrev pub at_cursor : ℕ → Timeline → Timeline
at_cursor cursor t = record t { cursor = cursor }

-- The player has at most as many steps as the source has taken octets, and `lost` steps more. The source has
-- taken at most `INPUT_LIMIT` octets.
pub record HasRoom (t : Timeline) (q : SourceState) (lost : ℕ) : Type 0 where
  pub floor : t.floor ≤ t.cursor
  pub cursor : t.cursor ≤ end_of t
  pub steps : end_of t ≤ q.offset + lost
  pub within : q.offset ≤ q.limit
  pub limit : q.limit ≡ INPUT_LIMIT

-- A run in the state `scene` has come so far as `s`, since its source was in the state `from` and its input had
-- `left` left.
pub record HasProgress (from : SourceState) (left : Option (List ℕ)) (scene : RunState) (s : Progress) : Type 0 where
  pub history : StandsFor scene.player s.history
  pub cursor : scene.player.cursor ≡ s.cursor
  pub floor : scene.player.floor ≡ s.floor
  pub taking : HasFound from left scene.place scene.left s.found s.ended

-- A source that has seen the end of its input in the state `q` finds no new results, and has seen it in the
-- state `q'` too.
pub record FindsNothingAfterEnd (q q' : SourceState) (new : List RecordResult) : Type 0 where
  pub quiet : q.phase ≡ Ended → new ≡ []
  pub stays : q.phase ≡ Ended → q'.phase ≡ Ended

-- How far a run has come that was at `s`, after its cursor moved over `over` events ahead, and then over the events
-- of the results `new`, which it found and which come last. `ended` is whether it met the end of the results on the
-- way.
abbrev pub progress_after : ℕ → List RecordResult → Bool → Progress → Progress
progress_after over new ended s = record {
  history = s.history ++ events new;
  cursor = s.cursor + over + length (events new);
  floor = s.floor;
  found = s.found ++ new;
  ended = s.ended || ended;
}

-- A run went on from where it was in `s`: its cursor moved over `over` events ahead, over all of them if it
-- found results, and then over the events of the results found, whose faults it reported. `ended` is whether
-- it met the end.
pub record MovesForward (from : SourceState) (left : Option (List ℕ)) (s : Progress) (old new : RunState) (over : ℕ) (found : List RecordResult) (ended : Bool) : Type 0 where
  pub few : over ≤ length s.history - s.cursor
  pub all : 1 ≤ length found → over ≡ length s.history - s.cursor
  pub stands : HasProgress from left new (progress_after over found ended s)
  pub follows : FindsNothingAfterEnd old.place new.place found
  pub met : ended ≡ true → (over ≡ length s.history - s.cursor) × (new.place.phase ≡ Ended)
  pub reported : Appends old.err new.err (reports found)
  pub told : new.reported ≡ (old.reported || has_fault found)

-- The source stopped a run with `fault`, after what had been found before, and nothing was reported.
pub record StopsReading (from : SourceState) (left : Option (List ℕ)) (s : Progress) (old new : RunState) (fault : SourceFault) : Type 0 where
  pub reads : old.place.phase ≡ Ended → ⊥
  pub faulty : TookUntilSourceFault from left new.left s.found fault
  pub kept : Keeps old.err new.err

-- Memory allocation or an output stopped a run after it had found these results, of whose reports a prefix
-- was written.
pub record StopsWriting (from : SourceState) (left : Option (List ℕ)) (s : Progress) (old new : RunState) (found : List RecordResult) : Type 0 where
  pub taking : HasFound from left new.place new.left (s.found ++ found) s.ended
  pub follows : FindsNothingAfterEnd old.place new.place found
  pub fronts : AppendsPrefix old.err new.err (reports found)

-- A step forward of a run, which had come so far as `s`, changes its state from `old` to `new` and gives this result.
-- `Ok(false)`: it moves over one event ahead, or finds one result; `Ok(true)`: it meets the end of the input; Err:
-- with no event ahead, the source or a fault of writing stops it, with this outcome. The source was in the state
-- `from`, with `left` in the input, when the run began.
abbrev pub StepsFrom : SourceState → Option (List ℕ) → Progress → RunState → RunState → Result Bool Outcome → Type 0
StepsFrom from left s old new (Ok false) = (over : ℕ) × (found : List RecordResult) × (over + length found ≡ 1) × MovesForward from left s old new over found false
StepsFrom from left s old new (Ok true) = MovesForward from left s old new 0 [] true
StepsFrom from left s old new (Err outcome) = (s.cursor ≡ length s.history) × (
    ((fault : SourceFault) × (outcome ≡ outcome_of_source_fault fault) × StopsReading from left s old new fault)
    ⊎ ((fault : WriteFault) × (outcome ≡ outcome_of_write_fault fault) × (found : List RecordResult) × (length found ≤ 1) × StopsWriting from left s old new found)
    )

-- A step forward of a run changes its state from `old` to `new` and gives this result as `StepsFrom` says, however
-- far the run had come before it.
abbrev pub Steps : RunState → RunState → Result Bool Outcome → Type 0
Steps old new result = (from : SourceState) (left : Option (List ℕ)) (s : Progress) → HasProgress from left old s → StepsFrom from left s old new result

-- The command leads a script from `s` to `t`, takes these results and gives this reply, if the results `more`
-- follow those taken.
pub record Leads (command : Command) (s t : Progress) (taken : List RecordResult) (reply : List ℕ) (more : List RecordResult) : Type 0 where
  pub after : (meaning command (state_with_unread s (taken ++ more))).after ≡ state_with_unread t more
  pub replied : (meaning command (state_with_unread s (taken ++ more))).reply ≡ reply
  pub took : take (meaning command (state_with_unread s (taken ++ more))).wanted (taken ++ more) ≡ taken
  pub ended : t.ended ≡ (s.ended || meets_end command (state_with_unread s (taken ++ more)))

-- The command led a run from `s` and the state `old` to the state `new`, took results and gave a reply: as
-- the script does if any results follow, but none after the end.
pub record IsLed (command : Command) (from : SourceState) (left : Option (List ℕ)) (s : Progress) (old new : RunState) : Type 0 where
  pub after : Progress
  pub taken : List RecordResult
  pub reply : List ℕ
  pub found : after.found ≡ s.found ++ taken
  pub stands : HasProgress from left new after
  pub follows : FindsNothingAfterEnd old.place new.place taken
  pub leads : (more : List RecordResult) → (new.place.phase ≡ Ended → more ≡ []) → Leads command s after taken reply more
  pub reported : Appends old.err new.err (reports taken)
  pub told : new.reported ≡ (old.reported || has_fault taken)

-- The source stopped the command with `fault`, after results with which it wants more. It gave no reply, and
-- reported the faults among these results.
pub record IsCutOff (command : Command) (from : SourceState) (left : Option (List ℕ)) (s : Progress) (old new : RunState) (out out' : Option (List ℕ)) (fault : SourceFault) : Type 0 where
  pub taken : List RecordResult
  pub wants : (more : List RecordResult) → length taken < (meaning command (state_with_unread s (taken ++ more))).wanted
  pub reads : old.place.phase ≡ Ended → ⊥
  pub faulty : TookUntilSourceFault from left new.left (s.found ++ taken) fault
  pub reported : Appends old.err new.err (reports taken)
  pub quiet : Appends out out' []

-- Memory allocation or an output stopped the command: a prefix of its reply and a prefix of its reports were
-- written.
pub record IsBrokenOff (command : Command) (from : SourceState) (left : Option (List ℕ)) (s : Progress) (old new : RunState) (out out' : Option (List ℕ)) : Type 0 where
  pub taken : List RecordResult
  pub ended : Bool
  pub taking : HasFound from left new.place new.left (s.found ++ taken) ended
  pub follows : FindsNothingAfterEnd old.place new.place taken
  pub met : ended ≡ true → (s.ended || meets_end command (state_with_unread s taken)) ≡ true
  pub fronts : (more : List RecordResult) → (new.place.phase ≡ Ended → more ≡ []) → AppendsPrefix out out' (meaning command (state_with_unread s (taken ++ more))).reply × AppendsPrefix old.err new.err (reports_of_taken command (state_with_unread s (taken ++ more)))

-- Executing the command in a run that had come so far as `s` changes the run's state from `old` to `new` and what the
-- output of replies has got from `out` to `out'`, and gives this result. Ok: the run did what the command means, and
-- its reply is written; Err: the source or a fault of writing stopped it, with this outcome. The source was in the
-- state `from`, with `left` in the input, when the run began.
abbrev pub ExecutesFrom : {A : Type 0} → Command → SourceState → Option (List ℕ) → Progress → RunState → RunState → Option (List ℕ) → Option (List ℕ) → Result A Outcome → Type 0
ExecutesFrom command from left s old new out out' (Ok done) = (led : IsLed command from left s old new) × Appends out out' led.reply
ExecutesFrom command from left s old new out out' (Err outcome) =
    ((fault : SourceFault) × (outcome ≡ outcome_of_source_fault fault) × IsCutOff command from left s old new out out' fault)
    ⊎ ((fault : WriteFault) × (outcome ≡ outcome_of_write_fault fault) × IsBrokenOff command from left s old new out out')

-- Executing the command changes the state of a run from `old` to `new` and what the output of replies has got from
-- `out` to `out'`, and gives this result, as `ExecutesFrom` says, however far the run had come before it.
abbrev pub ExecutesCommand : {A : Type 0} → Command → RunState → RunState → Option (List ℕ) → Option (List ℕ) → Result A Outcome → Type 0
ExecutesCommand command old new out out' result =
    (from : SourceState) (left : Option (List ℕ)) (s : Progress) → HasProgress from left old s → ExecutesFrom command from left s old new out out' result

-- ---- what a run of a script has executed so far, and where it stopped

-- Executing line `number` of a script in a run that had come so far as `s` changes the run's state from `old` to
-- `new` and what the output of replies has got from `out` to `out'`, and gives this result. An empty line does
-- nothing, a command what `ExecutesFrom` says, and a line that is no command is reported, on Err only by a prefix of
-- its report.
abbrev pub ExecutesLineFrom : Line → ℕ → SourceState → Option (List ℕ) → Progress → RunState → RunState → Option (List ℕ) → Option (List ℕ) → Result (Unit {0}) Outcome → Type 0
ExecutesLineFrom Empty number from left s old new out out' result = (result ≡ Ok tt) × (new ≡ old) × (out' ≡ out)
ExecutesLineFrom (HasCommand command) number from left s old new out out' result = ExecutesFrom command from left s old new out out' result
ExecutesLineFrom NoCommand number from left s old new out out' (Ok done) =
    (new ≡ record old { reported = true; err = new.err }) × (out' ≡ out) × Appends old.err new.err (bad_line_report number)
ExecutesLineFrom NoCommand number from left s old new out out' (Err outcome) =
    (new ≡ record old { reported = true; err = new.err }) × (out' ≡ out) × ((fault : WriteFault) × (outcome ≡ outcome_of_write_fault fault) × AppendsPrefix old.err new.err (bad_line_report number))

-- Executing line `number` of a script, which has these octets, changes the state of a run from `old` to `new` and
-- what the output of replies has got from `out` to `out'`, and gives this result, as `ExecutesLineFrom` says, however
-- far the run had come before it.
abbrev pub ExecutesLine : List ℕ → ℕ → RunState → RunState → Option (List ℕ) → Option (List ℕ) → Result (Unit {0}) Outcome → Type 0
ExecutesLine octets number old new out out' result = (line : Line) × IsLine line octets
    × ((from : SourceState) (left : Option (List ℕ)) (s : Progress) → HasProgress from left old s → ExecutesLineFrom line number from left s old new out out' result)

-- A run has executed the lines `done`, and is in the state `scene`. Its outputs are `old` before that and
-- `new` after it. With any lines after `done`, the course of all of them is what was written, and then the
-- course of these lines from where the run is.
pub record HasExecuted (from : SourceState) (left : Option (List ℕ)) (done : List Line) (scene : RunState) (old new : Outputs) : Type 0 where
  pub standing : Progress
  pub stands : HasProgress from left scene standing
  pub texts : Texts
  pub written : Writes texts old new
  pub told : scene.reported ≡ is_some (slice_get texts.err 0)
  pub goes : (cut : Bool) (lines : List Line) (more : List RecordResult) → (scene.place.phase ≡ Ended → (more ≡ []) × (cut ≡ false))
      → course_from cut 1 (done ++ lines) (start (standing.found ++ more)) ≡ course_after texts standing.ended (course_from cut (length done + 1) lines (state_with_unread standing more))

-- The source stopped a run with `fault` in the line after `done`: exactly what the script writes over the
-- results found was written, with a fault of the input after them. With more results, the texts of `done`
-- would be written, and a prefix of what this line adds.
pub record ExecutionCutOff (from : SourceState) (left : Option (List ℕ)) (done : List Line) (line : Line) (scene : RunState) (old new : Outputs) (fault : SourceFault) : Type 0 where
  pub found : List RecordResult
  pub faulty : TookUntilSourceFault from left scene.left found fault
  pub exact : (lines : List Line) → Writes (texts_before_input_fault ((done ++ line ∷ []) ++ lines) found) old new
  pub wants : (lines : List Line) → (course true ((done ++ line ∷ []) ++ lines) found).ended ≡ true
  pub past : (more : List RecordResult) → WritesBeyond (play_texts done (found ++ more)) (play_texts (done ++ line ∷ []) (found ++ more)) old new

-- Memory allocation or an output stopped a run in the line after `done`: the texts of `done` were written,
-- and a prefix of what this line adds.
pub record ExecutionBrokenOff (from : SourceState) (left : Option (List ℕ)) (done : List Line) (line : Line) (scene : RunState) (old new : Outputs) : Type 0 where
  pub found : List RecordResult
  pub ended : Bool
  pub taking : HasFound from left scene.place scene.left found ended
  pub met : ended ≡ true → (lines : List Line) → (course false ((done ++ line ∷ []) ++ lines) found).ended ≡ true
  pub past : (more : List RecordResult) → (scene.place.phase ≡ Ended → more ≡ []) → WritesBeyond (play_texts done (found ++ more)) (play_texts (done ++ line ∷ []) (found ++ more)) old new

-- Executing `line` after the lines `done` ended with this result, with the run in the state `scene`, and took its
-- outputs from `old`, before the first line, to `new`. Ok: all these lines are executed; Err: the source or a fault
-- of writing stopped the run in `line`, with this outcome.
abbrev pub ExecutesNextLine : SourceState → Option (List ℕ) → List Line → Line → RunState → Outputs → Outputs → Result (Unit {0}) Outcome → Type 0
ExecutesNextLine from left done line scene old new (Ok all) = HasExecuted from left (done ++ line ∷ []) scene old new
ExecutesNextLine from left done line scene old new (Err outcome) =
    ((fault : SourceFault) × (outcome ≡ outcome_of_source_fault fault) × ExecutionCutOff from left done line scene old new fault)
    ⊎ ((fault : WriteFault) × (outcome ≡ outcome_of_write_fault fault) × ExecutionBrokenOff from left done line scene old new)

-- Executing the script ended with this result, with the run in the state `scene`, and took its outputs from `old` to
-- `new`. Ok: all its lines are executed; Err: its first ones are, and a fault stopped the run in the next one. The
-- source was in the state `from`, with `left` in the input, when the run began.
abbrev pub HasExecutedScript : SourceState → Option (List ℕ) → List ℕ → RunState → Outputs → Outputs → Result (Unit {0}) Outcome → Type 0
HasExecutedScript from left script scene old new (Ok all) = (done : List Line) × AreLines done (script_lines script) × HasExecuted from left done scene old new
HasExecutedScript from left script scene old new (Err outcome) =
    (done : List Line) × (line : Line) × (first rest : List (List ℕ)) × (script_lines script ≡ first ++ rest) × AreLines (done ++ line ∷ []) first × ExecutesNextLine from left done line scene old new (Err outcome)

-- Executing all lines of a script changes the state of a run from `old` to `new` and what the output of replies has
-- got from `out` to `out'`, and gives this result, as `HasExecutedScript` says of a run that begins at `old`.
abbrev pub ExecutesLines : List ℕ → RunState → RunState → Option (List ℕ) → Option (List ℕ) → Result (Unit {0}) Outcome → Type 0
ExecutesLines script old new out out' result =
    HasExecutedScript old.place old.left script new (record { out = out; err = old.err }) (record { out = out'; err = new.err }) result
