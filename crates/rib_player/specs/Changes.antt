-- Private.
-- What an event's items do to each pair, as entries and lost peers that are noted.
use Rattle.std.specs.Prelude.{Bool, true, false, ◌&&◌, is_some, List, map, Option, Some, None, ◌≡◌}
use Rattle.std.specs.List.{list_any}
use Rattle.std.specs.Map.{lookup}
use Rattle.std.specs.Ordering.{eq_by_cmp}
use Rattle.std.specs.FinMap.{get}
use Rattle.mrt_events.specs.declared.peer.Peer.{Peer}
use Rattle.rib_player.specs.declared.pair.Pair.{Pair}
use Rattle.mrt_events.specs.declared.event.Route.{Route}
use Rattle.rib_player.specs.declared.changes.Changes.{Changes}
use Rattle.mrt_events.specs.Event.{peer_cmp, ItemValue, Announced, item_value}
use Rattle.mrt_events.specs.declared.event.Item.{Item}
use Rattle.rib_player.specs.History.{pair_cmp, Effect, Clear, Set, effect_if, item_effect, last_effect}
use Rattle.rib_player.specs.Journal.{Side, sides_of}
use Rattle.rib_player.specs.Tables.{Routes}

-- the route or `None` that stands beside `pair` in the first of `sides` with this pair, in `Some`; `None` if
-- no side has this pair
abbrev pub found : List Side → Pair → Option (Option Route)
found sides pair = lookup (eq_by_cmp pair_cmp pair) sides

-- whether the peer of a pair is in the list `peers`, whose sessions are lost
abbrev pub is_lost : List Peer → Pair → Bool
is_lost peers pair = list_any (eq_by_cmp peer_cmp pair.peer) peers

-- the effect on a pair, given what is noted for it: `Some` of a route sets it, and `Some None` clears it; for
-- `None`, which is nothing noted, it is `Clear` if `lost` (the session of its peer is lost), and else `Keep`
abbrev pub effect_of : Option (Option Route) → Bool → Effect
effect_of (Some (Some route)) lost = Set route
effect_of (Some None) lost = Clear
effect_of None lost = effect_if lost Clear

-- the effect on the pair `q` of a noted entry that gives `pair` the route `route`, or clears it for `None`;
-- `Keep` if `q` is another pair
abbrev pub effect_at : Pair → Option Route → Pair → Effect
effect_at pair route q = effect_if (eq_by_cmp pair_cmp q pair) (effect_of (Some route) false)

-- the effect on a pair of the changes noted for an event: the first entry of the pair sets or clears its
-- route; without one, it is cleared if the session of its peer is lost, and else kept
abbrev pub effect_of_changes : Changes → Pair → Effect
effect_of_changes changes pair = effect_of (found (sides_of changes.entries.items) pair) (is_lost changes.lost.keys pair)

-- the first argument, or, if that is `None` and `absent` is true, `Some None`, which stands for a pair
-- without a route
abbrev pub or_no_route : Option (Option Route) → Bool → Option (Option Route)
or_no_route (Some kept) absent = Some kept
or_no_route None true = Some None
or_no_route None false = None

-- what the changes give the pair `q`: the route or `None` of its first entry, in `Some`; without an entry,
-- `Some None` if the session of its peer is lost and it has a route in the table `routes`, and else `None`
abbrev pub found_with_lost : Changes → Routes → Pair → Option (Option Route)
found_with_lost changes routes q =
    or_no_route (found (sides_of changes.entries.items) q) (is_lost changes.lost.keys q && is_some (get routes q))

-- the effect on a pair of items one after the other: that of the last one that sets or clears it, or `Keep`
abbrev pub items_effect : Pair → List Item → Effect
items_effect pair items = last_effect (map (λ item. item_effect pair (item_value item)) items)

-- the item is an announcement of this route
abbrev pub HasRoute : Route → ItemValue → Type 0
HasRoute route (Announced peer network same) = same ≡ route
HasRoute route other = ⊥
