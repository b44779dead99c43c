use Rattle.octet_forms.proofs.Sequences.{one_list}
use Rattle.bgp_wire.specs.Attribute.{SpellsAttribute}
use Rattle.bgp_wire.proofs.OneAttribute.{attribute_code}
use Rattle.bgp_wire.proofs.laws.law_octets_have_one_attribute_list.Goals as goal

pub returns : goal.returns
returns c list other octets = one_list SpellsAttribute attribute_code octets list other
