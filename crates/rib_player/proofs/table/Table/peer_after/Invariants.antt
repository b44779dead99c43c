use Rattle.std.proofs.Common.{◌≡◌, slice_get, option_map, option_copied}
use Rattle.std.specs.FinMap as finite
use Rattle.prefix_store.specs.Stored.{saturated_count}
use Rattle.rib_player.specs.Lookups.{routed_above}
use Rattle.rib_player.specs.Representation.{routed_stores, peer_count}
use Rattle.rib_player.specs.Tables.{peer_routes}
use Rattle.rib_player.specs.StoresByPeer.{stores_of}
use Rattle.rib_player.proofs.table.Table.peer_after.Given as goal

-- the first of the stores that are left that has a route is that of the peer that is sought
abbrev pub invariant-numbers : goal.invariant-numbers
invariant-numbers g l =
    let routes = g.S.PrefixStore.routes in
    option_map (peer_count routes) (slice_get (routed_stores routes (stores_of l.self-inside.stores.held.items l.peer-iterator)) 0)
    ≡ option_map (λ p. (p, saturated_count (finite.len (peer_routes l.self.routes p)))) (slice_get (routed_above l.self.routes (option_copied l.peer)) 0)
