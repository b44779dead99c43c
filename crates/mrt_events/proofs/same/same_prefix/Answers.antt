use Rattle.ip_prefix.specs.OrderLaws.{network_cmp_total, network_cmp-IsAntisymmetric}
use Rattle.mrt_events.proofs.PeerLaws.{tied_same}
use Rattle.mrt_events.proofs.same.same_prefix.Goals as goal

pub returns : goal.returns
returns c = rw c.eq.ensures (tied_same network_cmp_total network_cmp-IsAntisymmetric c.args.one.now c.args.other.now)
