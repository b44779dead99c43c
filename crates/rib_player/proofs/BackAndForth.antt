-- Players that play, undo and redo: where they stand, and what their table is.
use Rattle.std.proofs.Common.{◌≡◌, ℕ, zero, suc, ◌+◌, ◌-◌, ◌<◌, ◌≤◌, List, [], ◌∷◌, ◌++◌, map, replicate, length, take, nat_lt, refl, sym, ap, ◌∙◌, append_assoc, append-nil, take-take, length-take-le, arith, lt-ltb, take_at}
use Rattle.std.proofs.lemmas.Bool.{cond-true}
use Rattle.mrt_events.specs.declared.event.Event.{Event}
use Rattle.rib_player.specs.Tables.{table}
use Rattle.rib_player.specs.Timeline.{Timeline, end_of, table_at, current, after_play, after_undo, after_redo}
use Rattle.rib_player.specs.Calls.{StandsFor, Call, Play, Undo, Redo, after_call, after_calls}
use Rattle.rib_player.proofs.TimelineLaws.{StandsFor-table, StandsFor-current, StandsFor-end, StandsFor-after_play}
use Rattle.octet_forms.proofs.Lists.{take_pushed}

-- the player at another position
abbrev pub at : Timeline → ℕ → Timeline
at t position = record t { cursor = position }

-- an undo goes one step back, where there is one
pub after_undo-at : (t : Timeline) → t.floor < t.cursor → after_undo t ≡ at t (t.cursor - 1)
after_undo-at t h = cond-true (nat_lt t.floor t.cursor) (at t (t.cursor - 1)) t (lt-ltb t.floor t.cursor h)

-- a redo goes one step on, where there is one
pub after_redo-at : (t : Timeline) → t.cursor < end_of t → after_redo t ≡ at t (t.cursor + 1)
after_redo-at t h = cond-true (nat_lt t.cursor (end_of t)) (at t (t.cursor + 1)) t (lt-ltb t.cursor (end_of t) h)

-- a redo takes an undo back
pub after_redo-after_undo : (t : Timeline) (history : List Event) → StandsFor t history → t.floor < t.cursor → after_redo (after_undo t) ≡ t
after_redo-after_undo t history stands h =
    ap after_redo (after_undo-at t h)
    ∙ after_redo-at (at t (t.cursor - 1)) (omega (arith, stands.cursor, StandsFor-end t history stands))
    ∙ ap (at t) (omega arith)

-- an undo takes a play back, to the same table
pub current-after_undo-after_play : (t : Timeline) (history : List Event) (event : Event) → StandsFor t history → current (after_undo (after_play t event)) ≡ current t
current-after_undo-after_play t history event stands =
    let longer = take t.cursor history ++ event ∷ [] in
    let plays = StandsFor-after_play t history event stands in
    let same : t.cursor + 1 - 1 ≡ t.cursor = omega arith in
    ap current (after_undo-at (after_play t event) (omega (arith, stands.floor)))
    ∙ ap (table_at (after_play t event)) same
    ∙ StandsFor-table (after_play t event) longer plays t.cursor stands.floor (omega (arith, plays.cursor))
    ∙ ap table (take_at (take t.cursor history) (event ∷ []) t.cursor (length-take-le t.cursor history stands.cursor))
    ∙ sym (StandsFor-current t history stands)

-- calls and then more calls
after_calls-append : (t : Timeline) (calls more : List Call) → after_calls t (calls ++ more) ≡ after_calls (after_calls t calls) more
after_calls-append t [] more = refl
after_calls-append t (call ∷ calls) more = after_calls-append (after_call t call) calls more

-- undone several times, a player has gone as many steps back, where there are that many
undone_often : (k : ℕ) (t : Timeline) → t.floor + k ≤ t.cursor → after_calls t (replicate k Undo) ≡ at t (t.cursor - k)
undone_often zero t h = ap (at t) (omega arith)
undone_often (suc k) t h =
    ap (λ p. after_calls p (replicate k Undo)) (after_undo-at t (omega arith))
    ∙ undone_often k (at t (t.cursor - 1)) (omega arith)
    ∙ ap (at t) (omega arith)

-- redone several times, a player has gone as many steps on, where there are that many
redone_often : (k : ℕ) (t : Timeline) → t.cursor + k ≤ end_of t → after_calls t (replicate k Redo) ≡ at t (t.cursor + k)
redone_often zero t h = ap (at t) (omega arith)
redone_often (suc k) t h =
    ap (λ p. after_calls p (replicate k Redo)) (after_redo-at t (omega arith))
    ∙ redone_often k (at t (t.cursor + 1)) (omega arith)
    ∙ ap (at t) (omega arith)

-- a player stands at a cursor, with these events before it
record StandsBehind (t : Timeline) (floor cursor : ℕ) (before : List Event) : Type 0 where
  history : List Event
  stands : StandsFor t history
  events : take t.cursor history ≡ before
  same_floor : t.floor ≡ floor
  same_cursor : t.cursor ≡ cursor

-- once it has played events, a player stands behind them
played_often : (t : Timeline) (history events : List Event) → StandsFor t history
    → StandsBehind (after_calls t (map Play events)) t.floor (t.cursor + length events) (take t.cursor history ++ events)
played_often t history [] stands = record { history = history; stands = stands; events = sym (append-nil (take t.cursor history)); same_floor = refl; same_cursor = omega arith }
played_often t history (event ∷ events) stands =
    let longer = take t.cursor history ++ event ∷ [] in
    let rest = played_often (after_play t event) longer events (StandsFor-after_play t history event stands) in
    record {
      history = rest.history;
      stands = rest.stands;
      events =
          rest.events
          ∙ ap (λ h. h ++ events) (take_pushed t.cursor history event stands.cursor)
          ∙ append_assoc (take t.cursor history) (event ∷ []) events;
      same_floor = rest.same_floor;
      same_cursor = rest.same_cursor ∙ omega arith;
    }

-- the table at a position before the cursor is that of the events before it
StandsBehind-table : (t : Timeline) (floor cursor : ℕ) (before : List Event) → StandsBehind t floor cursor before
    → (i : ℕ) → floor ≤ i → i ≤ cursor → table_at t i ≡ table (take i before)
StandsBehind-table t floor cursor before behind i from to =
    StandsFor-table t behind.history behind.stands i (omega (arith, behind.same_floor)) (omega (arith, behind.same_cursor, behind.stands.cursor))
    ∙ ap table (sym (take-take i t.cursor behind.history (omega (arith, behind.same_cursor))) ∙ ap (take i) behind.events)

-- the player that undid all events that it played
played_undone : (t : Timeline) (history events : List Event) → StandsFor t history
    → after_calls t (map Play events ++ replicate (length events) Undo) ≡ at (after_calls t (map Play events)) t.cursor
played_undone t history events stands =
    let after = after_calls t (map Play events) in
    let behind = played_often t history events stands in
    after_calls-append t (map Play events) (replicate (length events) Undo)
    ∙ undone_often (length events) after (omega (arith, behind.same_floor, behind.same_cursor, stands.floor))
    ∙ ap (at after) (omega (arith, behind.same_cursor))

-- it has the table that it had first
pub current-played_undone : (t : Timeline) (history events : List Event) → StandsFor t history
    → current (after_calls t (map Play events ++ replicate (length events) Undo)) ≡ current t
current-played_undone t history events stands =
    let after = after_calls t (map Play events) in
    let before = take t.cursor history in
    ap current (played_undone t history events stands)
    ∙ StandsBehind-table after t.floor (t.cursor + length events) (before ++ events) (played_often t history events stands) t.cursor stands.floor (omega arith)
    ∙ ap table (take_at before events t.cursor (length-take-le t.cursor history stands.cursor))
    ∙ sym (StandsFor-current t history stands)

-- the player that undid all events that it played, and redid them
played_redone : (t : Timeline) (history events : List Event) → StandsFor t history
    → after_calls t (map Play events ++ (replicate (length events) Undo ++ replicate (length events) Redo)) ≡ after_calls t (map Play events)
played_redone t history events stands =
    let after = after_calls t (map Play events) in
    let behind = played_often t history events stands in
    let undos = replicate (length events) Undo in
    let redos = replicate (length events) Redo in
    ap (after_calls t) (sym (append_assoc (map Play events) undos redos))
    ∙ after_calls-append t (map Play events ++ undos) redos
    ∙ ap (λ p. after_calls p redos) (played_undone t history events stands)
    ∙ redone_often (length events) (at after t.cursor) (omega (arith, behind.same_cursor, behind.stands.cursor, StandsFor-end after behind.history behind.stands))
    ∙ ap (at after) (sym behind.same_cursor)

-- it has the table of the history with these events
pub current-played_redone : (t : Timeline) (history events : List Event) → StandsFor t history
    → current (after_calls t (map Play events ++ (replicate (length events) Undo ++ replicate (length events) Redo))) ≡ table (take t.cursor history ++ events)
current-played_redone t history events stands =
    let after = after_calls t (map Play events) in
    let behind = played_often t history events stands in
    ap current (played_redone t history events stands)
    ∙ StandsFor-current after behind.history behind.stands
    ∙ ap table behind.events
