use Rattle.std.proofs.Common.{refl}
use Rattle.std.specs.Fmt.{digits}
use Rattle.ip_prefix.specs.Bits.{bits_of, number_of}
use Rattle.ip_prefix.specs.Network.{octet_at}
use Rattle.ip_prefix.specs.Text.{address_text, v4_text, network_text}
use Rattle.bgp_wire.specs.Text.{path_text}
use Rattle.bgpdump_lines.proofs.ExampleLaws.{too_long}
use Rattle.bgpdump_lines.proofs.example_laws.law_example_too_long.Goals as goal

pub returns-clause-split : goal.returns-clause-split
returns-clause-split c stamp =
    record { whole = refl; are_frames = tt; none = too_long }

pub returns-clause-texts : goal.returns-clause-texts
unfolding digits network_text address_text v4_text path_text octet_at number_of bits_of
returns-clause-texts c stamp = refl
