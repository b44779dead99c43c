-- The state of a script, and what each command does to it and replies. Read `meaning` first.
use Rattle.std.specs.Prelude.{ℕ, zero, suc, ◌+◌, ◌-◌, min, max, Bool, false, List, [], ◌∷◌, ◌++◌, length, take, drop, nat_lt, if◌then◌else◌, None, codes, flat_map}
use Rattle.mrt_events.specs.declared.peer.Peer.{Peer}
use Rattle.mrt_events.specs.declared.event.Event.{Event}
use Rattle.mrt_events.specs.declared.event.Tag.TheVariants.{Bgp4mp}
use Rattle.mrt_events.specs.declared.event.TheConstants.{ESTABLISHED}
use Rattle.mrt_events.specs.Event.{Changed}
use Rattle.mrt_wire.specs.Results.{RecordResult, Found, Bad}
use Rattle.rib_player.specs.Tables.{Routes, table}
use Rattle.bgpdump_lines.specs.Run.{reports}
use Rattle.bgpdump_tool.specs.declared.execution.moves.TheConstants.{IDLE}
use Rattle.bgpdump_tool.specs.declared.command.Command.{Command}
use Rattle.bgpdump_tool.specs.declared.command.Command.TheVariants.{Next, Back, Goto, Position, Peers, Table, Route, Lookup, Lose, Forget}
use Rattle.bgpdump_tool.specs.Replies.{at_text, labelled_numbers_line, peers_text, table_text, found_text, route_text, longest_match}

-- the state of a script: the events played, the number of them before the cursor, the number of the oldest
-- ones that can't be undone any more, and the results that no command has taken yet
pub record State : Type 0 where
  pub history : List Event
  pub cursor : ℕ
  pub floor : ℕ
  pub unread : List RecordResult

-- the state of a script before its first command, over these results
abbrev pub start : List RecordResult → State
start results = record { history = []; cursor = 0; floor = 0; unread = results }

-- the number of events after the cursor
abbrev pub steps_ahead : State → ℕ
steps_ahead s = length s.history - s.cursor

-- the routes of all peers after the events before the cursor
abbrev pub routes_at : State → Routes
routes_at s = table (take s.cursor s.history)

-- the event of a result as a list of one, and the empty list for a fault
abbrev pub event_of : RecordResult → List Event
event_of (Found event) = event ∷ []
event_of (Bad fault) = []

-- the events among results, in order
abbrev pub events : List RecordResult → List Event
events found = flat_map event_of found

-- state `s` after its cursor moved over `over` events ahead, and then `count` of the unread results were taken, or
-- all if there are fewer: their events are appended to the history, and the cursor moved over them too
abbrev pub moved_forward : ℕ → ℕ → State → State
moved_forward over count s = record {
  history = s.history ++ events (take count s.unread);
  cursor = s.cursor + over + length (events (take count s.unread));
  floor = s.floor;
  unread = drop count s.unread;
}

-- how many of `results` must be taken, the first ones first, to have `count` events among them; one more than
-- there are results if they have fewer events
abbrev pub results_needed : ℕ → List RecordResult → ℕ
results_needed zero results = 0
results_needed (suc count) [] = 1
results_needed (suc count) (Found event ∷ results) = suc (results_needed count results)
results_needed (suc count) (Bad fault ∷ results) = suc (results_needed (suc count) results)

-- the event that `lose` plays: the session with the peer goes from Established to Idle, at time 0
abbrev pub loss : Peer → Event
loss peer = record { time = record { seconds = 0; micros = None }; tag = Bgp4mp; items = Changed peer ESTABLISHED IDLE ∷ [] }

-- state `s` after `event` is played: the events after the cursor are dropped, `event` is appended, and the cursor
-- moves over it
abbrev pub played : Event → State → State
played event s = record s { history = take s.cursor s.history ++ event ∷ []; cursor = s.cursor + 1 }

-- state `s` after the oldest events are forgotten, so that at most `keep` events before the cursor can be undone;
-- unchanged if no more can be undone in `s`
abbrev pub forgotten_keeping : ℕ → State → State
forgotten_keeping keep s = record s { floor = max s.floor (s.cursor - keep) }

-- what a command does in a state: it wants `wanted` of the unread results, and takes so many, or all if fewer
-- are left; `after` is the state after it, and `reply` the text of its reply
pub record Meaning : Type 0 where
  pub wanted : ℕ
  pub after : State
  pub reply : List ℕ

-- what a command does that takes no results: it leads to the state `after` with this reply
abbrev pub answer : List ℕ → State → Meaning
answer reply after = record { wanted = 0; after = after; reply = reply }

-- what a command does that moves the cursor of state `s` back to the position `cursor`, at or after the
-- floor: it takes no results, and replies with the position
abbrev pub retreat_to : ℕ → State → Meaning
retreat_to cursor s = answer (at_text cursor false) (record s { cursor = cursor })

-- what a command does that moves the cursor of state `s` over `over` events ahead, and then over the events of the
-- next `count` unread results, which it wants. Its reply is the position after that, with `end` if fewer results are
-- left
abbrev pub forward_then_play : ℕ → ℕ → State → Meaning
forward_then_play over count s =
    record { wanted = count; after = moved_forward over count s; reply = at_text (moved_forward over count s).cursor (nat_lt (length s.unread) count) }

-- what a command does in state `s`. `next` moves the cursor over `n` events ahead and, where these end, over unread
-- results (a fault counts as one); `goto` moves it to position `k`, forward over as many of both as that takes;
-- `back` moves it back by `n`; `goto` and `back` stop at the floor. `where`, `peers`, `table`, `route` and `lookup`
-- only reply; `lose` plays `loss`, and `forget` keeps at most `n` events that can be undone
abbrev pub meaning : Command → State → Meaning
meaning (Next n) s = forward_then_play (min n (steps_ahead s)) (n - min n (steps_ahead s)) s
meaning (Back n) s = retreat_to (s.cursor - min n (s.cursor - s.floor)) s
meaning (Goto k) s =
    if nat_lt k s.cursor then retreat_to (max k s.floor) s
    else forward_then_play (min (k - s.cursor) (steps_ahead s)) (results_needed (k - length s.history) s.unread) s
meaning Position s = answer (labelled_numbers_line ((codes "at ", s.cursor) ∷ (codes " ahead ", steps_ahead s) ∷ [])) s
meaning Peers s = answer (peers_text (routes_at s)) s
meaning (Table peer) s = answer (table_text (routes_at s) peer) s
meaning (Route peer prefix) s = answer (route_text (routes_at s) peer prefix) s
meaning (Lookup peer address) s = answer (found_text peer (longest_match (routes_at s) peer address)) s
meaning (Lose peer) s = answer (labelled_numbers_line ((codes "at ", s.cursor + 1) ∷ (codes " dropped ", steps_ahead s) ∷ [])) (played (loss peer) s)
meaning (Forget n) s = answer (labelled_numbers_line ((codes "at ", s.cursor) ∷ (codes " floor ", (forgotten_keeping n s).floor) ∷ (codes " forgot ", (forgotten_keeping n s).floor - s.floor) ∷ [])) (forgotten_keeping n s)

-- whether a command in state `s` meets the end of the results: it wants more than are unread
abbrev pub meets_end : Command → State → Bool
meets_end command s = nat_lt (length s.unread) (meaning command s).wanted

-- the reports of the faults among the results that a command takes in state `s`, in order
abbrev pub reports_of_taken : Command → State → List ℕ
reports_of_taken command s = reports (take (meaning command s).wanted s.unread)
