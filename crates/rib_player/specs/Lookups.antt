-- What look-ups in a table return: the best route for an address, the next peers, and the next routes of a
-- peer.
use Rattle.std.specs.Prelude.{ℕ, List, map, Option, filter}
use Rattle.std.specs.Borrow.{Bor}
use Rattle.std.specs.declared.rc.Rc.{Rc}
use Rattle.std.specs.FinMap as finite
use Rattle.std.specs.declared.alloc.Global.{Global}
use Rattle.ip_prefix.specs.Network.{Address, Network}
use Rattle.mrt_events.specs.declared.peer.Peer.{Peer}
use Rattle.mrt_events.specs.declared.event.Route.{Route}
use Rattle.mrt_events.specs.Event.{peer_cmp}
use Rattle.prefix_store.specs.Lookups as lookups
use Rattle.prefix_store.specs.Stored.{saturated_count}
use Rattle.rib_player.specs.History.{pair_of}
use Rattle.rib_player.specs.Tables.{Routes, peer_routes, routed_peers}

-- the last argument is the best route of a peer for the address: of the prefixes that contain it and to which
-- the peer has a route, the longest, with its route; `None` if there is none
abbrev pub IsBest : Routes → Peer → Address → Option (Network × Route) → Type 0
IsBest routes peer = lookups.IsLongestMatchOf (λ n. finite.get routes (pair_of peer n))

-- the route that a pointer points to
abbrev pub value_of : Rc Route Global → Route
value_of shared = shared.value

-- prefixes, each with the route that its reference points to
abbrev pub pointed_routes : List (Network × Bor (Rc Route Global)) → List (Network × Route)
pointed_routes found = map (λ f. (f.0, f.1.now.value)) found

-- those of `peers` that are greater than `low`, in the order of the list; all of them if `low` is `None`
abbrev pub peers_above : Option Peer → List Peer → List Peer
peers_above low peers = filter (lookups.is_above_bound peer_cmp low) peers

-- the peers that have a route and are greater than `low`, in ascending order; all that have one if `low` is
-- `None`
abbrev pub routed_above : Routes → Option Peer → List Peer
routed_above routes low = peers_above low (routed_peers routes)

-- the peers that have a route, in order, each with the number of its routes, at most `u64::MAX`
abbrev pub counted_peers : Routes → List (Peer × ℕ)
counted_peers routes = map (λ peer. (peer, saturated_count (finite.len (peer_routes routes peer)))) (routed_peers routes)

-- the routes of a peer to prefixes greater than `low`, each with its prefix, in ascending order; all its
-- routes if `low` is `None`
abbrev pub routes_above : Routes → Peer → Option Network → List (Network × Route)
routes_above routes peer low = lookups.above low (finite.entries (peer_routes routes peer))
