-- What contracts see of a player: a timeline of tables and steps with a cursor, and what each call does to
-- it.
use Rattle.std.specs.Prelude.{◌≡◌, ℕ, ◌+◌, ◌-◌, ◌≤◌, nat_lt, List, [], ◌∷◌, ◌++◌, length, take, drop, slice_index_or, flat_map, if◌then◌else◌}
use Rattle.std.specs.FinMap as finite
use Rattle.std.specs.FinSet as set
use Rattle.mrt_events.specs.declared.event.Event.{Event}
use Rattle.rib_player.specs.Tables.{Routes, Pairs, table_after, named_pairs}

-- a player as contracts see it; a position is a number of steps since the player was made
pub record Timeline : Type 0 where
  -- the lowest position that the cursor can go back to: how many steps were forgotten
  pub floor : ℕ
  -- the position of the cursor: how many steps are before it, including forgotten ones
  pub cursor : ℕ
  -- the table at each position from the floor to the end, in order
  pub tables : List Routes
  -- the pairs that each step from the floor to the end names (whose routes its event sets or clears), in order
  pub steps : List Pairs

-- the highest position: the number of all steps, including forgotten ones
abbrev pub end_of : Timeline → ℕ
end_of t = t.floor + length t.steps

-- how many steps are after the cursor
abbrev pub ahead_of : Timeline → ℕ
ahead_of t = end_of t - t.cursor

-- how many steps can be undone: those before the cursor that aren't forgotten
abbrev pub undoable : Timeline → ℕ
undoable t = t.cursor - t.floor

-- the table at a position, which is a number of steps since the player was made: below the floor the table at
-- the floor, above the end the empty table
abbrev pub table_at : Timeline → ℕ → Routes
table_at t position = slice_index_or t.tables (position - t.floor) finite.empty

-- the table at the cursor
abbrev pub current : Timeline → Routes
current t = table_at t t.cursor

-- the keys of a player's table, the pairs for whose routes it has memory: those that have a route at the
-- cursor, and those that one of its steps, before or after the cursor, names: it sets or clears their route, and
-- they have one before or after it
unfoldable pub needed_keys : Timeline → Pairs
needed_keys t = set.from_list (finite.keys (current t) ++ flat_map set.items t.steps)

-- the cursor is between the floor and the end, and there is a table at each position from the floor to the
-- end
pub record IsWellFormed (t : Timeline) : Type 0 where
  pub floor : t.floor ≤ t.cursor
  pub cursor : t.cursor ≤ end_of t
  pub tables : length t.tables ≡ length t.steps + 1

-- ---- what calls do to a player

-- a new player: no steps, and an empty table at position 0
abbrev pub fresh : Timeline
fresh = record { floor = 0; cursor = 0; tables = finite.empty ∷ []; steps = [] }

-- a player after an event is played: the steps after the cursor are dropped, and the event is the last step,
-- before the cursor
abbrev pub after_play : Timeline → Event → Timeline
after_play t event = record {
  floor = t.floor;
  cursor = t.cursor + 1;
  tables = take (undoable t + 1) t.tables ++ table_after (current t) event ∷ [];
  steps = take (undoable t) t.steps ++ named_pairs (current t) event ∷ [];
}

-- a player after `undo`: the cursor is one position lower, unless it is at the floor
abbrev pub after_undo : Timeline → Timeline
after_undo t = if nat_lt t.floor t.cursor then record t { cursor = t.cursor - 1 } else t

-- a player after `redo`: the cursor is one position higher, unless it is at the end
abbrev pub after_redo : Timeline → Timeline
after_redo t = if nat_lt t.cursor (end_of t) then record t { cursor = t.cursor + 1 } else t

-- how many steps `forget` forgets, so that at most `keep` are left before the cursor
abbrev pub forgotten_count : Timeline → ℕ → ℕ
forgotten_count t keep = undoable t - keep

-- a player whose first `count` kept steps are forgotten: the floor is higher by so much, and the tables
-- before it are gone
abbrev pub without_first : ℕ → Timeline → Timeline
without_first count t = record {
  floor = t.floor + count;
  cursor = t.cursor;
  tables = drop count t.tables;
  steps = drop count t.steps;
}

-- a player after `forget`: the oldest steps are forgotten, so that at most `keep` are left before the cursor. The
-- cursor, the steps ahead of it and the tables that are left stay
abbrev pub after_forget : Timeline → ℕ → Timeline
after_forget t keep = without_first (forgotten_count t keep) t
