-- Routing tables in records, and the octets that spell them: peer index tables, the entries for one prefix, and
-- single entries with their peer (RFC 6396, sections 4.2 and 4.3).
use Rattle.std.specs.Prelude.{ℕ, ◌==◌, if◌then◌else◌, List, bit_and, ◌≡◌, ◌≤◌}
use Rattle.ip_prefix.specs.declared.addr.Family.{Family}
use Rattle.ip_prefix.specs.declared.addr.Family.TheVariants.{V4, V6}
use Rattle.ip_prefix.specs.Fields.{SpellsPair, SpellsAfter, SpellsFront}
use Rattle.ip_prefix.specs.Counted.{SpellsCounted}
use Rattle.bgp_wire.specs.declared.AsWidth.{AsWidth}
use Rattle.bgp_wire.specs.declared.AsWidth.TheVariants.{Two, Four}
use Rattle.mrt_events.specs.declared.peer.Peer.{Peer}
use Rattle.mrt_wire.specs.declared.peer_index.TheConstants.{ID_SIZE, IPV6_PEER, AS4_PEER}
use Rattle.mrt_wire.specs.Fields.{SpellsOctet, AreOctets, AreSized, SpellsPeerOf, SpellsShort, SpellsAddressOf}
use Rattle.ip_prefix.specs.Network.{Network, network_of, SpellsNetwork, Address, bit_count}
use Rattle.bgp_wire.specs.Path.{SpellsU32}
use Rattle.bgp_wire.specs.Content.{SpellsRibAttrs}
use Rattle.bgp_wire.specs.declared.attrs.Attrs.{Attrs}
use Rattle.mrt_wire.specs.declared.rib.TheConstants.{SEQUENCE_SIZE}
use Rattle.ip_prefix.specs.Sequences.{Begins}
use Rattle.mrt_wire.specs.declared.table_dump.TheConstants.{NUMBERS_SIZE, STATUS_SIZE}

-- ---- peer index tables (RFC 6396, section 4.3.1)

-- the family of a peer's address, by the lowest bit of its Peer Type: V4 where it is 0, else V6
abbrev pub peer_family : ℕ → Family
peer_family kind = if bit_and kind IPV6_PEER == 0 then V4 else V6

-- the width of a peer's AS number, by the second lowest bit of its Peer Type: two octets where it is 0, else four
abbrev pub peer_as_width : ℕ → AsWidth
peer_as_width kind = if bit_and kind AS4_PEER == 0 then Two else Four

-- the octets are those of Peer Type (one octet), Peer BGP ID (four), Peer IP Address and Peer AS, of the family and
-- width that the type says. The value is the type, the octets of the BGP ID, and the peer
abbrev pub SpellsPeerFields : ℕ × (List ℕ × Peer) → List ℕ → Type 0
SpellsPeerFields =
    SpellsPair SpellsOctet (λ kind. SpellsPair (AreOctets ID_SIZE) (λ id. SpellsPeerOf (peer_family kind) (peer_as_width kind)))

-- the octets are those of a peer entry with this peer; its BGP ID may be any octets
abbrev pub SpellsPeer : Peer → List ℕ → Type 0
SpellsPeer peer octets =
    (kind : ℕ) × (id : List ℕ) × SpellsPeerFields (kind, (id, peer)) octets

-- the octets are those of Collector BGP ID (four), and of View Name after its length in two octets. The value is the
-- octets of both, which may be any
abbrev pub SpellsView : List ℕ × List ℕ → List ℕ → Type 0
SpellsView = SpellsPair (AreOctets ID_SIZE) (λ id. AreSized)

-- the octets are the body of a PEER_INDEX_TABLE with these peers: any Collector BGP ID and View Name, the number of
-- the peers in two octets, the peer entries, and then any octets
abbrev pub SpellsPeerIndex : List Peer → List ℕ → Type 0
SpellsPeerIndex = SpellsAfter SpellsView (λ view. SpellsFront (SpellsCounted SpellsPeer))

-- ---- the entries of a routing table for one prefix (RFC 6396, sections 4.3.2 and 4.3.4)

-- the entry of one peer: the attributes of its route, the Originated Time in seconds, and the peer index
pub record RibEntry : Type 0 where
  pub attrs : Attrs
  pub time : ℕ
  pub index : ℕ

-- a prefix and its entries in a routing table, in the order of the record
pub record PrefixEntries : Type 0 where
  pub prefix : Network
  pub entries : List RibEntry

-- the octets are those of Peer Index (two octets), Originated Time (four), and BGP Attributes after their length in
-- two octets. The value is the index, the time, and the octets of the attributes
abbrev pub AreEntryFields : ℕ × (ℕ × List ℕ) → List ℕ → Type 0
AreEntryFields = SpellsPair SpellsShort (λ index. SpellsPair SpellsU32 (λ time. AreSized))

-- the octets are a RIB entry for a prefix of this family; AS numbers in its attributes have four octets
abbrev pub SpellsEntry : Family → RibEntry → List ℕ → Type 0
SpellsEntry family entry octets =
    (attributes : List ℕ) × AreEntryFields (entry.index, (entry.time, attributes)) octets
    × SpellsRibAttrs family Four entry.attrs attributes

-- the octets are RIB entries for a prefix of this family: their number in two octets, the entries, and then any
-- octets
abbrev pub SpellsEntries : Family → List RibEntry → List ℕ → Type 0
SpellsEntries family = SpellsFront (SpellsCounted (SpellsEntry family))

-- the octets are those of a prefix of this family, as BGP sends it, and of its entries after their number, and then
-- any octets
abbrev pub SpellsPrefixAndEntries : Family → PrefixEntries → List ℕ → Type 0
SpellsPrefixAndEntries family rib octets =
    SpellsPair (SpellsNetwork family) (λ prefix. SpellsEntries family) (rib.prefix, rib.entries) octets

-- the octets are the body of a RIB_IPV4_UNICAST or, for V6, of a RIB_IPV6_UNICAST: any sequence number, the prefix,
-- its entries, and then any octets
abbrev pub SpellsRib : Family → PrefixEntries → List ℕ → Type 0
SpellsRib family = SpellsAfter (AreOctets SEQUENCE_SIZE) (λ sequence. SpellsPrefixAndEntries family)

-- ---- an entry of a routing table in a record of its own (RFC 6396, section 4.2)

-- the content of a TABLE_DUMP record: a prefix, a peer, the attributes of its route, and the Originated Time in
-- seconds
pub record TableDumpEntry : Type 0 where
  pub prefix : Network
  pub peer : Peer
  pub attrs : Attrs
  pub time : ℕ

-- the octets are those of Prefix and Prefix Length: an address of this family, and in an octet the number of its
-- leading bits that make `prefix`. The bits after them may be any
pub record SpellsAddressAndLength (family : Family) (prefix : Network) (octets : List ℕ) : Type 0 where
  pub address : Address
  pub len : ℕ
  pub fields : SpellsPair (SpellsAddressOf family) (λ address. SpellsOctet) (address, len) octets
  pub fits : len ≤ bit_count family
  pub first_bits : prefix ≡ network_of address len

-- the octets are the fields of a TABLE_DUMP body with a prefix of this family: View Number and Sequence Number (four
-- octets together), the prefix and its length, Status (one octet), Originated Time, the peer, with an AS number of
-- two octets, and the attributes after their length in two octets. The value has these in order: the first two,
-- Status and the attributes as octets, which may be any
abbrev pub AreTableDumpFields : Family → List ℕ × (Network × (List ℕ × (ℕ × (Peer × List ℕ)))) → List ℕ → Type 0
AreTableDumpFields family =
    SpellsPair (AreOctets NUMBERS_SIZE) (λ numbers. SpellsPair (SpellsAddressAndLength family) (λ prefix.
    SpellsPair (AreOctets STATUS_SIZE) (λ status. SpellsPair SpellsU32 (λ time.
    SpellsPair (SpellsPeerOf family Two) (λ peer. AreSized)))))

-- the octets are the body of a TABLE_DUMP for a prefix of this family, and then any octets; AS numbers in its
-- attributes have two octets. View number, sequence number and status may be any
abbrev pub SpellsTableDump : Family → TableDumpEntry → List ℕ → Type 0
SpellsTableDump family entry octets =
    (numbers status attributes more : List ℕ)
    × Begins (AreTableDumpFields family) (numbers, (entry.prefix, (status, (entry.time, (entry.peer, attributes))))) more octets
    × SpellsRibAttrs family Two entry.attrs attributes
