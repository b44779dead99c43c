use Rattle.ip_prefix.specs.OrderLaws.{network_cmp_total, network_cmp-IsAntisymmetric}
use Rattle.ip_prefix.proofs.Filled.{network_cmp-filled}
use Rattle.ip_prefix.proofs.laws.law_prefix_order_is_total.Goals as goal

pub returns : goal.returns
returns c = record { total = network_cmp_total; ties = network_cmp-IsAntisymmetric; filled = network_cmp-filled }
