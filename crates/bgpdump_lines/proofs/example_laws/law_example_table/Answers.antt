use Rattle.std.proofs.Common.{None, refl}
use Rattle.std.specs.Fmt.{digits}
use Rattle.ip_prefix.specs.Bits.{bits_of, number_of}
use Rattle.ip_prefix.specs.Network.{octet_at}
use Rattle.ip_prefix.specs.Text.{address_text, v4_text, network_text}
use Rattle.bgp_wire.specs.Text.{path_text}
use Rattle.bgpdump_lines.proofs.ExampleLaws.{nothing_left, peer_index_read, rib_read}
use Rattle.bgpdump_lines.proofs.example_laws.law_example_table.Goals as goal

pub returns-clause-split : goal.returns-clause-split
returns-clause-split c stamp =
    let peers = peer_index_read stamp None in
    let rib = rib_read stamp in
    record { whole = refl; are_frames = (peers.0, peers.1, (rib.0, rib.1, tt)); none = nothing_left }

pub returns-clause-dump : goal.returns-clause-dump
unfolding digits network_text address_text v4_text path_text octet_at number_of bits_of
returns-clause-dump c = refl

pub returns-clause-change : goal.returns-clause-change
unfolding digits network_text address_text v4_text path_text octet_at number_of bits_of
returns-clause-change c = refl
