-- The orders of peers and of pairs are total, and only equal ones tie.
use Rattle.std.proofs.Common.{◌≡◌, true}
use Rattle.std.specs.Ordering.{eq_by_cmp}
use Rattle.std.specs.Cmp.{IsTotalOrder, on_total, then_total, Equal-is, eq_by_cmp_equiv}
use Rattle.std.specs.FinMap.{IsAntisymmetric}
use Rattle.ip_prefix.specs.Network.{network_cmp}
use Rattle.ip_prefix.specs.OrderLaws.{both_tie, network_cmp_total, network_cmp-IsAntisymmetric}
use Rattle.rib_player.specs.declared.pair.Pair.{Pair}
use Rattle.mrt_events.specs.Event.{peer_cmp}
use Rattle.mrt_events.proofs.PeerLaws.{peer_cmp_total, peer_cmp-IsAntisymmetric}
use Rattle.rib_player.specs.History.{pair_cmp}

-- the order of pairs is total
pub pair_cmp_total : IsTotalOrder pair_cmp
pair_cmp_total = then_total (on_total (λ p. p.peer) peer_cmp_total) (on_total (λ p. p.prefix) network_cmp_total)

-- pairs that tie are one
pub pair_cmp-IsAntisymmetric : IsAntisymmetric pair_cmp
pair_cmp-IsAntisymmetric a b e =
    let ties = both_tie (peer_cmp a.peer b.peer) (network_cmp a.prefix b.prefix) e in
    λ i. record { peer = peer_cmp-IsAntisymmetric a.peer b.peer ties.0 i; prefix = network_cmp-IsAntisymmetric a.prefix b.prefix ties.1 i }

-- pairs that pass the test are one
pub same_pair : (a b : Pair) → eq_by_cmp pair_cmp a b ≡ true → a ≡ b
same_pair a b e = pair_cmp-IsAntisymmetric a b ((Equal-is (pair_cmp a b)).0 e)

pub pair_symm : (a b : Pair) → eq_by_cmp pair_cmp a b ≡ eq_by_cmp pair_cmp b a
pair_symm a b = (eq_by_cmp_equiv pair_cmp_total).symm a b
