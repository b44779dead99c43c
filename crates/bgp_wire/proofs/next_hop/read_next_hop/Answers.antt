use Rattle.std.proofs.Common.{ap, ◌∙◌}
use Rattle.ip_prefix.specs.declared.addr.Family.TheVariants.{V6}
use Rattle.ip_prefix.specs.Bits.{bits_of_octets}
use Rattle.bgp_wire.proofs.Hops.{global_hop}
use Rattle.bgp_wire.proofs.next_hop.read_next_hop.Goals as goal

pub returns-in-16 : goal.returns-in-16
returns-in-16 c = global_hop c.v6.result c.args.octets.now c.in-16.is (c.v6.ensures ∙ ap (λ l. record { family = V6; bits = bits_of_octets l }) c.copy_from_slice.ensures.after)
