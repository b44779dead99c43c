-- Private.
-- What is noted of the stores of peers.
use Rattle.std.specs.Prelude.{Bool, List}
use Rattle.mrt_events.specs.declared.peer.Peer.{Peer}
use Rattle.rib_player.specs.SparseSet.{choices}
use Rattle.rib_player.specs.StoresByPeer.{stores_of}
use Rattle.rib_player.specs.declared.stores.Stores as numbered

-- each peer that has a store in `s`, in the order of peers, and whether `s.routed`, the set of the stores that have a
-- route, has its number
abbrev pub routed_marks : {S : Type 0} → numbered.Stores S → List (Peer × Bool)
routed_marks s = stores_of (choices s.routed) s.order.entries
