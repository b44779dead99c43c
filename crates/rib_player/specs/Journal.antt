-- How a player stores its steps: for each pair that a step names, the route on the other side of the step,
-- which is before an applied step and after one that isn't applied.
use Rattle.std.specs.Prelude.{ℕ, ◌+◌, List, [], ◌∷◌, ◌++◌, map, take, drop, reverse, Option}
use Rattle.std.specs.FinSet.{from_list}
use Rattle.rib_player.specs.declared.pair.Pair.{Pair}
use Rattle.mrt_events.specs.declared.event.Route.{Route}
use Rattle.rib_player.specs.Entries.{Entry}
use Rattle.rib_player.specs.declared.entry.Step.{Step}
use Rattle.prefix_store.specs.Stored.{put}
use Rattle.rib_player.specs.Tables.{Routes, pointed_route}
use Rattle.rib_player.specs.Timeline.{Timeline}

-- a pair of a peer and a prefix, and the route, if any, that it has on the other side of a step: before the
-- step, if it is applied, or after it, if it isn't
abbrev pub Side : Type 0
Side = Pair × Option Route

-- the pair of an entry, and the route that the entry holds for it, if any: that on the other side of the
-- step, which is before an applied step and after one that isn't applied
abbrev pub side_of : Entry → Side
side_of entry = (entry.pair, pointed_route entry.other)

-- for each entry of a step, in order, its pair and the route that it holds (`side_of`)
abbrev pub sides_of : List Entry → List Side
sides_of entries = map side_of entries

-- the pair of each side, in order; a side is a pair of a peer and a prefix, and the route that it has on the
-- other side of a step, if any
abbrev pub pairs_in : List Side → List Pair
pairs_in sides = map (λ side. side.0) sides

-- the table on the other side of a step: `routes`, the table on this side, in which each pair of `sides` gets
-- the route, or none, that it has on the other side
abbrev pub routes_across : List Side → Routes → Routes
routes_across [] routes = routes
routes_across (side ∷ sides) routes = routes_across sides (put routes side.0 side.1)

-- the table before each of some applied steps, in order; the steps are given from the last to the first, each
-- by its pairs with the routes before it, and `routes` is the table after the last
abbrev pub tables_before : List (List Side) → Routes → List Routes
tables_before [] routes = []
tables_before (sides ∷ earlier) routes = tables_before earlier (routes_across sides routes) ++ routes_across sides routes ∷ []

-- the table after each of some steps that aren't applied, in order; each step is given by its pairs with the
-- routes after it, and `routes` is the table before the first step
abbrev pub tables_after : List (List Side) → Routes → List Routes
tables_after [] routes = []
tables_after (sides ∷ later) routes = routes_across sides routes ∷ tables_after later (routes_across sides routes)

-- the table at each position, in order, where `cursor` is the number of steps before the cursor, and `routes`
-- the table there; `steps` are all steps in order, each by its pairs with the routes on the other side of it
abbrev pub tables_over : ℕ → List (List Side) → Routes → List Routes
tables_over cursor steps routes = tables_before (reverse (take cursor steps)) routes ++ routes ∷ tables_after (drop cursor steps) routes

-- a player as contracts see it, given how many steps were forgotten, how many kept ones are before the
-- cursor, the kept steps in order, and the table at the cursor
abbrev pub timeline_of : ℕ → ℕ → List (List Side) → Routes → Timeline
timeline_of floor cursor steps routes = record {
  floor = floor;
  cursor = floor + cursor;
  tables = tables_over cursor steps routes;
  steps = map (λ sides. from_list (pairs_in sides)) steps;
}

-- for each entry of a step, in order, its pair and the route that it holds for it, if any: that on the other
-- side of the step
abbrev pub step_sides : Step → List Side
step_sides step = sides_of step.entries.items

-- for each step, in order, the list of the pairs of its entries, each with the route that the entry holds for
-- it, if any
abbrev pub sides_by_step : List Step → List (List Side)
sides_by_step steps = map step_sides steps
