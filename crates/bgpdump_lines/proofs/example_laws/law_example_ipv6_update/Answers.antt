use Rattle.std.proofs.Common.{None, refl}
use Rattle.std.specs.Fmt.{digits}
use Rattle.std.specs.Net.Text.{hex, hex_groups_text}
use Rattle.ip_prefix.specs.Bits.{bits_of, number_of}
use Rattle.ip_prefix.specs.Network.{octet_at, group_at}
use Rattle.ip_prefix.specs.Text.{address_text, v4_text, v6_text, network_text}
use Rattle.bgp_wire.specs.Text.{path_text, community_text}
use Rattle.bgpdump_lines.proofs.ExampleLaws.{nothing_left}
use Rattle.bgpdump_lines.proofs.Ipv6ExampleLaws.{ipv6_message_read}
use Rattle.bgpdump_lines.proofs.example_laws.law_example_ipv6_update.Goals as goal

pub returns-clause-split : goal.returns-clause-split
returns-clause-split c stamp =
    let read = ipv6_message_read stamp None in record { whole = refl; are_frames = (read.0, read.1, tt); none = nothing_left }

pub returns-clause-texts : goal.returns-clause-texts
unfolding digits hex hex_groups_text network_text address_text v4_text v6_text path_text community_text octet_at group_at number_of bits_of
returns-clause-texts c stamp = refl
