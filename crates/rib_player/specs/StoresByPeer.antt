-- The stores of peers, which are held by number, as a list by peer.
use Rattle.std.specs.Prelude.{ℕ, List, filter_map, slice_get, option_map}
use Rattle.mrt_events.specs.declared.peer.Peer.{Peer}
use Rattle.rib_player.specs.Tables.{PeerStores}
use Rattle.rib_player.specs.declared.stores.Stores as numbered

-- each peer with its store, where `held` are the stores by number, and `order` is the number of each peer; a
-- peer whose number has no store is left out
abbrev pub stores_of : {S : Type 0} → List S → List (Peer × ℕ) → PeerStores S
stores_of held order = filter_map (λ e. option_map (λ store. (e.0, store)) (slice_get held e.1)) order

-- each peer of `s` with its store, in the order of peers; `s` has its stores by number, and the number of
-- each peer
abbrev pub stores_in : {S : Type 0} → numbered.Stores S → PeerStores S
stores_in s = stores_of s.held.items s.order.entries
