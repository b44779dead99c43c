use Rattle.mrt_events.proofs.PeerLaws.{peer_cmp_total, peer_cmp-IsAntisymmetric, peer_eq}
use Rattle.mrt_events.proofs.laws.law_peer_order.Goals as goal

pub returns-clause-equal : goal.returns-clause-equal
returns-clause-equal c = peer_eq

pub returns-clause-total : goal.returns-clause-total
returns-clause-total c = peer_cmp_total

pub returns-clause-ties : goal.returns-clause-ties
returns-clause-ties c = peer_cmp-IsAntisymmetric
