-- Private.
-- What contracts see of tables and entries, given how they are in memory.
use Rattle.std.specs.Prelude.{◌≡◌, ℕ, Bool, ◌<◌, nat_lt, List, option_map, filter, Option, IfSome, if◌then◌else◌, refl, true, false, [], ◌∷◌, Some, None}
use Rattle.std.specs.Map.{lookup}
use Rattle.std.specs.Ordering.{eq_by_cmp}
use Rattle.std.specs.Coded.{Coded, code_by, coded×}
use Rattle.std.specs.declared.rc.Rc.{Rc}
use Rattle.std.specs.declared.alloc.Global.{Global}
use Rattle.mrt_events.specs.declared.peer.Peer.{Peer}
use Rattle.mrt_events.specs.declared.event.Route.{Route}
use Rattle.mrt_events.specs.Codes.{coded_peer, route_as_pair}
use Rattle.mrt_events.specs.Event.{peer_cmp}
use Rattle.ip_prefix.specs.Codes.{coded_network}
use Rattle.ip_prefix.specs.Network.{Network}
use Rattle.rib_player.specs.declared.pair.Pair.{Pair}
use Rattle.rib_player.specs.Tables.{Routes, Pairs, Contents, PeerStores, store_at}
use Rattle.ip_prefix.specs.declared.addr.Family.TheVariants.{V4}
use Rattle.prefix_store.specs.Contents.{v4_network}
use Rattle.rib_player.specs.declared.entry.RoutePresence.{RoutePresence}
use Rattle.rib_player.specs.declared.entry.EntryRepr.{EntryRepr}
use Rattle.rib_player.specs.declared.entry.EntryRepr.TheVariants.{V4Absent, V4Present, V6Absent, V6Present, Taken}
use Rattle.rib_player.specs.History.{pair_of}
use Rattle.rib_player.specs.Entries.{Entry}
use Rattle.std.specs.FinMap as finite
use Rattle.std.specs.FinSet as set
use Rattle.prefix_store.specs.Stored as stored

-- ---- the stores of a table in memory, and tables and pairs as plain data

-- a one-to-one encoding (`Coded`) of pairs as tuples of peer and prefix
abbrev pub coded_pair : Coded Pair
coded_pair = code_by (Peer × Network) (coded× coded_peer coded_network) (λ p. (p.peer, p.prefix)) (λ p. record { peer = p.0; prefix = p.1 }) (λ _. refl)

-- a one-to-one encoding (`Coded`) of a table's contents as the tuple of its set of keys and its map of routes
abbrev pub coded_contents : Coded Contents
coded_contents =
    code_by (Pairs × Routes) (coded× (set.code coded_pair) (finite.code coded_pair route_as_pair))
    (λ s. (s.keys, s.routes)) (λ p. record { keys = p.0; routes = p.1 }) (λ _. refl)

-- those of `stores`, each with its peer, that have a route, where `routes` gives the routes of a store
abbrev pub routed_stores : {S : Type 0} → (S → stored.Routes (Rc Route Global)) → PeerStores S → PeerStores S
routed_stores routes stores = filter (λ entry. nat_lt 0 (finite.len (routes entry.1))) stores

-- the peer of `entry`, and the number of routes of its store, at most `u64::MAX`; `routes` gives the routes
-- of a store
abbrev pub peer_count : {S : Type 0} → (S → stored.Routes (Rc Route Global)) → Peer × S → Peer × ℕ
peer_count routes entry = (entry.0, stored.saturated_count (finite.len (routes entry.1)))

-- the store of each peer in `stores` has a key, where `keys` gives the set of keys of a store
abbrev pub HaveKeys : {S : Type 0} → (S → stored.Keys) → PeerStores S → Type 0
HaveKeys keys stores = (p : Peer) → IfSome (store_at stores p) (λ store. 0 < set.len (keys store))

-- whether a store has a route; `None` if there is no store
abbrev pub route_presence : {S : Type 0} → (S → stored.Routes (Rc Route Global)) → Option S → Option Bool
route_presence routes store = option_map (λ s. nat_lt 0 (finite.len (routes s))) store

-- each store has a key, and `routed` has, for each peer with a store, whether the store has a route
pub record AreConsistentStores {S : Type 0} (keys : S → stored.Keys) (routes : S → stored.Routes (Rc Route Global)) (stores : PeerStores S) (routed : List (Peer × Bool)) : Type 0 where
  pub held : HaveKeys keys stores
  pub noted : (p : Peer) → lookup (eq_by_cmp peer_cmp p) routed ≡ route_presence routes (store_at stores p)

-- two association lists agree at all peers but one, at which the new one has this value, or nothing for
-- `None`
pub record IsUpdatedAt {A : Type 0} (old new : List (Peer × A)) (peer : Peer) (value : Option A) : Type 0 where
  pub each : (p : Peer) → lookup (eq_by_cmp peer_cmp p) new ≡ (if eq_by_cmp peer_cmp peer p then value else lookup (eq_by_cmp peer_cmp p) old)

-- ---- an entry in memory, and the entries of new steps

-- the entry of a new step, not yet applied, which will give `pair` the route `other`, or clear it for `None`;
-- the marks `before` and `after` are false until then
abbrev pub unapplied_entry : Pair → Option (Rc Route Global) → Entry
unapplied_entry pair other = record { pair = pair; other = other; before = false; after = false }

-- the entry once its step has cleared its pair: it holds `route`, the pair's route before the step, and is
-- marked with a route before the step and none after it
abbrev pub cleared_entry : Entry → Rc Route Global → Entry
cleared_entry entry route = record { pair = entry.pair; other = Some route; before = true; after = false }

-- the entries of a step once it has cleared their pairs, where `routes` has, in turn, the route of each pair
-- before the step; entries past the end of `routes` are unchanged
abbrev pub cleared_entries : List Entry → List (Rc Route Global) → List Entry
cleared_entries (entry ∷ entries) (route ∷ routes) = cleared_entry entry route ∷ cleared_entries entries routes
cleared_entries entries routes = entries

-- the entry of `pair` that holds the route `other`, if any; `marks` has whether the pair has a route before
-- and after the step
abbrev pub entry_of : Pair → RoutePresence → Option (Rc Route Global) → Entry
entry_of pair marks other = record { pair = pair; other = other; before = marks.before; after = marks.after }

-- the entry that is stored in this form: its pair, its marks, and its route, if any; for `Taken`, a form
-- without contents, an arbitrary entry
abbrev pub entry_of_repr : EntryRepr → Entry
entry_of_repr (V4Absent marks prefix peer) = entry_of (pair_of peer.value (v4_network prefix)) marks None
entry_of_repr (V4Present marks prefix peer route) = entry_of (pair_of peer.value (v4_network prefix)) marks (Some route)
entry_of_repr (V6Absent marks pair) = entry_of (pair_of pair.value.peer.value pair.value.prefix) marks None
entry_of_repr (V6Present marks pair route) = entry_of (pair_of pair.value.peer.value pair.value.prefix) marks (Some route)
entry_of_repr Taken = unapplied_entry (pair_of (record { addr = record { family = V4; bits = [] }; asn = 0 }) (record { family = V4; bits = [] })) None

-- the stored form of an entry has contents: it isn't `Taken`
abbrev pub HasContents : EntryRepr → Type 0
HasContents Taken = ⊥
HasContents other = Unit {0}
