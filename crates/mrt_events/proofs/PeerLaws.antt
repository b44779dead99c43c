-- The order of peers is total, only equal ones tie, and `==` holds of those.
use Rattle.std.proofs.Common.{◌≡◌, Bool, ◌&&◌, ◌==◌, refl, sym, ap, ◌∙◌, IsTrue, ◌↔◌, Ordering}
use Rattle.std.specs.Ordering.{nat_cmp, eq_by_cmp}
use Rattle.std.specs.Cmp.{IsTotalOrder, Equal-is, eq_by_cmp_equiv, nat_cmp_total, on_total, then_total, both_tied, unsigned_ties}
use Rattle.std.specs.FinMap.{IsAntisymmetric, nat_cmp-IsAntisymmetric}
use Rattle.ip_prefix.specs.Network.{Address, address_cmp}
use Rattle.ip_prefix.specs.OrderLaws.{both_tie, address_cmp_total, address_cmp-IsAntisymmetric}
use Rattle.mrt_events.specs.declared.peer.Peer.{Peer}
use Rattle.mrt_events.specs.Event.{peer_cmp}

-- the order of peers is total
pub peer_cmp_total : IsTotalOrder peer_cmp
peer_cmp_total = then_total (on_total (λ p. p.addr) address_cmp_total) (on_total (λ p. p.asn) nat_cmp_total)

-- peers that tie are one
pub peer_cmp-IsAntisymmetric : IsAntisymmetric peer_cmp
peer_cmp-IsAntisymmetric a b e =
    let ties = both_tie (address_cmp a.addr b.addr) (nat_cmp a.asn b.asn) e in
    λ i. record { addr = address_cmp-IsAntisymmetric a.addr b.addr ties.0 i; asn = nat_cmp-IsAntisymmetric a.asn b.asn ties.1 i }

-- `==` of peers, as their type derives it
abbrev pub derived_eq : Peer → Peer → Bool
derived_eq a b = eq_by_cmp address_cmp a.addr b.addr && (a.asn == b.asn)

-- holds of those that tie
pub peer_eq : (a b : Peer) → derived_eq a b ≡ eq_by_cmp peer_cmp a b
peer_eq a b = both_tied _ _ (address_cmp a.addr b.addr) (nat_cmp a.asn b.asn) refl (unsigned_ties a.asn b.asn)

-- values are the same where an order in which only equal ones tie can't tell them apart
pub tied_same : {K : Type 0} {R : K → K → Ordering} → IsTotalOrder R → IsAntisymmetric R → (a b : K) → IsTrue (eq_by_cmp R a b) ↔ (a ≡ b)
tied_same {R = R} total ties a b = (λ tied. ties a b ((Equal-is (R a b)).0 tied), λ same. ap (eq_by_cmp R a) (sym same) ∙ (eq_by_cmp_equiv total).refl a)

pub tied_addresses : (a b : Address) → IsTrue (eq_by_cmp address_cmp a b) ↔ (a ≡ b)
tied_addresses = tied_same address_cmp_total address_cmp-IsAntisymmetric
