-- Private.
-- What it means that a store of one peer is lent as a mutable reference.
use Rattle.std.specs.Prelude.{◌≡◌, Option, Some, OnSome}
use Rattle.std.specs.Borrow.{LendsSo, Fml, MutBor, RattleType}
use Rattle.mrt_events.specs.declared.peer.Peer.{Peer}
use Rattle.rib_player.specs.Representation.{IsUpdatedAt}
use Rattle.rib_player.specs.StoresByPeer.{stores_in}
use Rattle.rib_player.specs.Noted.{routed_marks}
use Rattle.rib_player.specs.declared.stores.Stores as numbered
use Rattle.rib_player.specs.contracts.stores.Stores.{the_row}

-- the stores were changed from old to new by giving a peer this store; nothing else changed
pub record IsLent {S : Type 0} (old new : numbered.Stores S) (peer : Peer) (store : S) : Type 0 where
  pub written : IsUpdatedAt (stores_in old) (stores_in new) peer (Some store)
  pub routed : routed_marks new ≡ routed_marks old
  pub order : new.order.entries ≡ old.order.entries

-- the stores, and which of them are noted to have a route, are unchanged
pub record IsUnchanged {S : Type 0} (old new : numbered.Stores S) : Type 0 where
  pub stores : stores_in new ≡ stores_in old
  pub routed : routed_marks new ≡ routed_marks old

-- the stores `s` lend the store of `peer` as `r`: once this reference ends, the peer has the store last
-- written through it, and all else in `s` is as before; if `r` is `None`, nothing changes
abbrev pub lends_store : (S : RattleType) → MutBor (numbered.Stores S.Denot) → Peer → Option (MutBor S.Denot) → Fml
lends_store S s peer r = LendsSo (the_row S) S s r (λ n w. OnSome r (IsLent s.now n peer w)) (λ n. IsUnchanged s.now n)
