use Rattle.bgp_wire.proofs.OneContent.{one_rib_attrs}
use Rattle.bgp_wire.proofs.laws.law_octets_have_one_rib_entry.Goals as goal

pub returns : goal.returns
returns c family width attrs other octets = one_rib_attrs family width octets attrs other
