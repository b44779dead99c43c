use Rattle.std.proofs.Common.{None, refl}
use Rattle.std.specs.Fmt.{digits}
use Rattle.ip_prefix.specs.Bits.{bits_of, number_of}
use Rattle.ip_prefix.specs.Network.{octet_at}
use Rattle.ip_prefix.specs.Text.{address_text, v4_text, network_text}
use Rattle.bgp_wire.specs.Text.{path_text}
use Rattle.bgpdump_lines.proofs.ExampleLaws.{unsupported_read, malformed_read, rib_without_index, no_peers_read, rib_without_peer, state_change_read, cut_short}
use Rattle.bgpdump_lines.proofs.example_laws.law_example_faulty_records.Goals as goal

pub returns-clause-split : goal.returns-clause-split
returns-clause-split c stamp =
    let unsupported = unsupported_read stamp None in
    let malformed = malformed_read stamp None in
    let rib = rib_without_index stamp in
    let change = state_change_read stamp None in
    let peers = no_peers_read stamp None in
    let again = rib_without_peer stamp in
    record {
      whole = refl;
      are_frames = (unsupported.0, unsupported.1, (malformed.0, malformed.1, (rib.0, rib.1, (change.0, change.1, (peers.0, peers.1, (again.0, again.1, tt))))));
      none = cut_short;
    }

pub returns-clause-texts : goal.returns-clause-texts
unfolding digits network_text address_text v4_text path_text octet_at number_of bits_of
returns-clause-texts c stamp = refl
