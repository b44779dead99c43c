use Rattle.std.proofs.Common.{None, refl}
use Rattle.std.specs.Fmt.{digits}
use Rattle.ip_prefix.specs.Bits.{bits_of, number_of}
use Rattle.ip_prefix.specs.Network.{octet_at}
use Rattle.ip_prefix.specs.Text.{address_text, v4_text, network_text}
use Rattle.bgp_wire.specs.Text.{path_text}
use Rattle.bgpdump_lines.proofs.ExampleLaws.{nothing_left, timed_state_change_read}
use Rattle.bgpdump_lines.proofs.example_laws.law_example_microseconds.Goals as goal

pub returns-clause-split : goal.returns-clause-split
returns-clause-split c stamp =
    let read = timed_state_change_read stamp None in record { whole = refl; are_frames = (read.0, read.1, tt); none = nothing_left }

pub returns-clause-texts : goal.returns-clause-texts
unfolding digits network_text address_text v4_text path_text octet_at number_of bits_of
returns-clause-texts c stamp = refl
