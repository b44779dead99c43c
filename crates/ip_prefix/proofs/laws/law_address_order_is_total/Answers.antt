use Rattle.ip_prefix.specs.OrderLaws.{address_cmp_total, address_cmp-IsAntisymmetric}
use Rattle.ip_prefix.proofs.laws.law_address_order_is_total.Goals as goal

pub returns : goal.returns
returns c = record { total = address_cmp_total; ties = address_cmp-IsAntisymmetric }
