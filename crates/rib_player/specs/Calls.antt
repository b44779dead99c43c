-- What calls do to a player, and to the history of events that it stands for.
use Rattle.std.specs.Prelude.{◌≡◌, ℕ, ◌+◌, ◌≤◌, List, take, length, [], ◌∷◌, ◌++◌, drop, map, replicate, slice_get, Option, option_map}
use Rattle.rib_player.specs.Tables.{Routes, Pairs, table, named_pairs}
use Rattle.mrt_events.specs.declared.event.Event.{Event}
use Rattle.rib_player.specs.Timeline.{Timeline, after_play, after_undo, after_redo, after_forget}

-- the table after the events `past`, and then the table after each of `events`, which follow them, in order
abbrev pub tables_along : List Event → List Event → List Routes
tables_along past [] = table past ∷ []
tables_along past (event ∷ events) = table past ∷ tables_along (past ++ event ∷ []) events

-- for each of `events`, in order, which follow the events `past`, the pairs that it names: those whose route
-- it sets or clears and that have a route before or after it
abbrev pub steps_along : List Event → List Event → List Pairs
steps_along past [] = []
steps_along past (event ∷ events) = named_pairs (table past) event ∷ steps_along (past ++ event ∷ []) events

-- the pairs that the event at index `i` of `history` names, played after the events before it: those whose
-- route it sets or clears and that have one before or after it; `None` if there is no such index
abbrev pub named_pairs_at : List Event → ℕ → Option Pairs
named_pairs_at history i = option_map (named_pairs (table (take i history))) (slice_get history i)

-- player `t` may have played `history`: its cursor is a position in it, not below the floor; from the floor
-- on, its table at each position is that of the events before it, and each of its steps has the pairs that
-- the event there names (whose routes it sets or clears)
pub record StandsFor (t : Timeline) (history : List Event) : Type 0 where
  pub floor : t.floor ≤ t.cursor
  pub cursor : t.cursor ≤ length history
  pub tables : t.tables ≡ tables_along (take t.floor history) (drop t.floor history)
  pub steps : t.steps ≡ steps_along (take t.floor history) (drop t.floor history)

-- a call of a method of a player, with its arguments and, for `play`, whether it succeeds
pub data Call : Type 0 where
  -- `play` of this event, which succeeds
  Play : Event → Call
  -- `play` of this event, which fails since memory allocation fails
  PlayRefused : Event → Call
  -- `undo`, which may fail
  Undo : Call
  -- `redo`, which may fail
  Redo : Call
  -- `forget`, so that at most so many steps are kept before the cursor
  Forget : ℕ → Call
  -- a call that changes nothing: `at`, `ahead`, `floor`, `named`, `table` or `drop_unused_routes`
  Look : Call

-- the calls that play the events, and then undo as many steps
abbrev pub play_undo_calls : List Event → List Call
play_undo_calls events = map Play events ++ replicate (length events) Undo

-- the calls that play the events, undo as many steps, and redo as many
abbrev pub play_undo_redo_calls : List Event → List Call
play_undo_redo_calls events = map Play events ++ (replicate (length events) Undo ++ replicate (length events) Redo)

-- player `t` after a call of `play`, `undo`, `redo` or `forget`; a `play` that fails, and a call that only
-- looks, change nothing
abbrev pub after_call : Timeline → Call → Timeline
after_call t (Play event) = after_play t event
after_call t Undo = after_undo t
after_call t Redo = after_redo t
after_call t (Forget keep) = after_forget t keep
after_call t other = t

-- the history, the events that a player has played, after a call, given its cursor and its history before: a
-- `play` that succeeds drops the events after the cursor and appends one; other calls change nothing
abbrev pub history_after : ℕ → List Event → Call → List Event
history_after cursor history (Play event) = take cursor history ++ event ∷ []
history_after cursor history other = history

-- a player after a list of calls, one after another
abbrev pub after_calls : Timeline → List Call → Timeline
after_calls t [] = t
after_calls t (call ∷ calls) = after_calls (after_call t call) calls

-- the history, the events that a player has played, after a list of calls, given the player and its history
-- before them: each `play` that succeeds drops the events after the cursor and appends one
abbrev pub history_after_calls : Timeline → List Event → List Call → List Event
history_after_calls t history [] = history
history_after_calls t history (call ∷ calls) = history_after_calls (after_call t call) (history_after t.cursor history call) calls
