-- What is noted of a store whose routes change at one prefix.
use Rattle.std.proofs.Common.{◌≡◌, ℕ, ◌+◌, ◌<◌, ◌≤◌, true, nat_lt, Option, Some, None, Global, sym, ap, ◌∙◌, arith}
use Rattle.std.proofs.lemmas.Bool.{lt-ltb}
use Rattle.std.specs.Prelude.{slice_get}
use Rattle.std.specs.Map.{lookup}
use Rattle.std.specs.FinMap as finite
use Rattle.std.specs.declared.rc.Rc.{Rc}
use Rattle.ip_prefix.specs.Network.{Network}
use Rattle.ip_prefix.specs.OrderLaws.{network_cmp_total}
use Rattle.prefix_store.specs.Stored as stored
use Rattle.mrt_events.specs.declared.peer.Peer.{Peer}
use Rattle.mrt_events.specs.declared.event.Route.{Route}
use Rattle.rib_player.specs.SparseSet.{choices}
use Rattle.rib_player.specs.Representation.{route_presence}
use Rattle.rib_player.specs.Lent.{IsLent}
use Rattle.rib_player.specs.Noted.{routed_marks}
use Rattle.rib_player.specs.StoresByPeer.{stores_in}
use Rattle.rib_player.specs.Tables.{store_at}
use Rattle.rib_player.specs.declared.stores.Stores as numbered
use Rattle.rib_player.proofs.NumberLaws.{stored as standing, at-stores_of, numbered-along}
use Rattle.rib_player.proofs.StoreLaws.{same_peer, AreNoted}

-- a change at one prefix brings one route at most
pub len-put : {X : Type 0} (routes : stored.Routes X) (prefix : Network) (route : Option X) → finite.len (stored.put routes prefix route) ≤ finite.len routes + 1
len-put routes prefix None = let fewer = finite.len-remove network_cmp_total routes prefix in grind arith
len-put routes prefix (Some route) = let more = finite.len-insert network_cmp_total routes prefix route in grind arith

-- so where there are several behind it, there are some before it
pub some-before : {X : Type 0} (before after : stored.Routes X) (n : ℕ) → finite.len after ≤ finite.len before + 1 → n ≡ stored.saturated_count (finite.len after) → 1 < n → nat_lt 0 (finite.len before) ≡ true
some-before before after n most is more = lt-ltb 0 (finite.len before) (omega (arith, most, is, more))

-- of a store that had some it is noted, also while it is written
pub noted-there : {S : Type 0} (routes : S → stored.Routes (Rc Route Global)) (old between : numbered.Stores S) {peer : Peer} {before after : S} {number : ℕ} → IsLent old between peer after
    → AreNoted routes (stores_in old) (routed_marks old) → lookup (same_peer peer) old.order.entries ≡ Some number → Some before ≡ store_at (stores_in old) peer → nat_lt 0 (finite.len (routes before)) ≡ true
    → slice_get (choices between.routed) number ≡ Some true
noted-there routes old between {peer = peer} lent noted found is has =
    ap (standing (choices between.routed)) (sym (ap (lookup (same_peer peer)) lent.order ∙ found))
    ∙ sym (at-stores_of (numbered-along between.numbered (sym between.each)) peer)
    ∙ ap (lookup (same_peer peer)) lent.routed ∙ noted peer ∙ ap (route_presence routes) (sym is) ∙ ap Some has
