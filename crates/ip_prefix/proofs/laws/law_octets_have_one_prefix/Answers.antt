use Rattle.ip_prefix.specs.Network.{SpellsNetwork}
use Rattle.octet_forms.proofs.Sequences.{one_list}
use Rattle.ip_prefix.proofs.Wires.{network_code}
use Rattle.ip_prefix.proofs.laws.law_octets_have_one_prefix.Goals as goal

pub returns : goal.returns
returns c = record { single = network_code; lists = λ family. one_list (SpellsNetwork family) (network_code family) }
