-- Tables of routes: what a table contains, the table that a history of events leads to, and the table after
-- an event.
use Rattle.std.specs.Prelude.{Bool, true, false, ◌&&◌, ◌||◌, not, List, [], ◌∷◌, ◌++◌, Option, is_some, flat_map, filter, map, Some, None, option_map}
use Rattle.std.specs.FinMap.{FinMap, empty, get, keys}
use Rattle.std.specs.FinSet.{FinSet, from_list}
use Rattle.prefix_store.specs.Stored.{put}
use Rattle.rib_player.specs.declared.pair.Pair.{Pair}
use Rattle.mrt_events.specs.declared.event.Route.{Route}
use Rattle.mrt_events.specs.Event.{ItemValue, Announced, peer_cmp}
use Rattle.mrt_events.specs.declared.event.Event.{Event}
use Rattle.rib_player.specs.History.{pair_cmp, pair_of, Effect, Keep, effect, route_after, route}
use Rattle.std.specs.Map.{lookup}
use Rattle.std.specs.Ordering.{eq_by_cmp}
use Rattle.std.specs.declared.rc.Rc.{Rc}
use Rattle.std.specs.declared.alloc.Global.{Global}
use Rattle.ip_prefix.specs.Network.{Network}
use Rattle.mrt_events.specs.declared.peer.Peer.{Peer}
use Rattle.std.specs.FinMap as finite
use Rattle.std.specs.FinSet as set
use Rattle.prefix_store.specs.Stored as stored

-- ---- tables of routes: the table of a history, an event applied to a table, and the pairs that it names

-- a finite map from pairs of a peer and a prefix to routes: at most one route of each peer to each prefix
abbrev pub Routes : Type 0
Routes = FinMap pair_cmp Route

-- a finite set of pairs of a peer and a prefix
abbrev pub Pairs : Type 0
Pairs = FinSet pair_cmp

-- the table with the route that the function gives at each of these pairs, if any, and none at other pairs
abbrev pub tabulation : (Pair → Option Route) → List Pair → Routes
tabulation f [] = empty
tabulation f (pair ∷ pairs) = put (tabulation f pairs) pair (f pair)

-- the pair to which an item announces a route, as a list of one or none
abbrev pub pairs_announced_by : ItemValue → List Pair
pairs_announced_by (Announced peer network new) = pair_of peer network ∷ []
pairs_announced_by other = []

-- the pairs to which an event announces a route, in the order of its items, repeated where items repeat them
abbrev pub announced_pairs : Event → List Pair
announced_pairs event = flat_map pairs_announced_by event.items

-- the routes after a history of events that began with an empty table
unfoldable pub table : List Event → Routes
table history = tabulation (λ pair. route pair history) (flat_map announced_pairs history)

-- all pairs that can have a route after an event: those that have one in the table before it, and those to
-- which the event announces one
abbrev pub candidate_pairs : Routes → Event → List Pair
candidate_pairs routes event = keys routes ++ announced_pairs event

-- the table after an event is played on the table `routes`
unfoldable pub table_after : Routes → Event → Routes
table_after routes event = tabulation (λ pair. route_after (get routes pair) (effect pair event)) (candidate_pairs routes event)

-- whether an effect changes nothing
abbrev pub is_keep : Effect → Bool
is_keep Keep = true
is_keep other = false

-- whether an event names a pair, given the route before it and the event's effect there: it sets or clears
-- the pair, which has a route before or after it
abbrev pub is_named : Option Route → Effect → Bool
is_named before effect = not (is_keep effect) && (is_some before || is_some (route_after before effect))

-- the pairs of a peer and a prefix that an event on the table `routes` names: those whose route it sets or
-- clears and that have a route in `routes` or after the event
unfoldable pub named_pairs : Routes → Event → Pairs
named_pairs routes event = from_list (filter (λ pair. is_named (get routes pair) (effect pair event)) (candidate_pairs routes event))

-- ---- what a table contains: its keys, the routes that some of them have, and the store of each peer

-- a table as contracts see it: the pairs of a peer and a prefix that are its keys, and the routes at some of
-- them
pub record Contents : Type 0 where
  -- the pairs that have memory for a route
  pub keys : Pairs
  -- the routes, which only keys have
  pub routes : Routes

-- the route that an optional pointer points to; `None` if there is no pointer
abbrev pub pointed_route : Option (Rc Route Global) → Option Route
pointed_route slot = option_map (λ shared. shared.value) slot

-- a list of stores, each with its peer
abbrev pub PeerStores : Type 0 → Type 0
PeerStores S = List (Peer × S)

-- the store of a peer, or `None` if the peer has none; of several, the first
abbrev pub store_at : {S : Type 0} → PeerStores S → Peer → Option S
store_at stores peer = lookup (eq_by_cmp peer_cmp peer) stores

-- whether prefix `n` is a key of a store, where `keys` gives the set of keys of a store; false if there is no
-- store
abbrev pub has_key : {S : Type 0} → (S → stored.Keys) → Option S → Network → Bool
has_key keys None n = false
has_key keys (Some store) n = set.contains (keys store) n

-- the route at prefix `n` in a store, where `routes` gives the map of a store from prefixes to pointers to
-- routes; `None` if there is no store, or none at `n` in it
abbrev pub stored_route : {S : Type 0} → (S → stored.Routes (Rc Route Global)) → Option S → Network → Option Route
stored_route routes None n = None
stored_route routes (Some store) n = option_map (λ shared. shared.value) (finite.get (routes store) n)

-- the pairs of a peer and a prefix such that the prefix is a key of the peer's store in `stores`, where
-- `keys` gives the set of keys of a store
unfoldable pub keys_in : {S : Type 0} → (S → stored.Keys) → PeerStores S → Pairs
keys_in keys stores =
    set.from_list (filter (λ q. has_key keys (store_at stores q.peer) q.prefix)
    (flat_map (λ entry. map (pair_of entry.0) (set.items (keys entry.1))) stores))

-- the routes of all stores by pair of a peer and a prefix, where `routes` gives the map of a store from
-- prefixes to pointers to routes
unfoldable pub routes_in : {S : Type 0} → (S → stored.Routes (Rc Route Global)) → PeerStores S → Routes
routes_in routes stores =
    tabulation (λ q. stored_route routes (store_at stores q.peer) q.prefix)
    (flat_map (λ entry. map (pair_of entry.0) (finite.keys (routes entry.1))) stores)

-- the routes of one peer, by prefix
unfoldable pub peer_routes : Routes → Peer → stored.Routes Route
peer_routes routes peer = finite.from_entries (map (λ entry. (entry.0.prefix, entry.1)) (filter (λ entry. eq_by_cmp peer_cmp entry.0.peer peer) (finite.entries routes)))

-- the peers that have a route, each once, in order
unfoldable pub routed_peers : Routes → List Peer
routed_peers routes = finite.keys (finite.from_entries {X = Unit {0}} {R = peer_cmp} (map (λ entry. (entry.0.peer, tt)) (finite.entries routes)))
