-- What the examples of `specs/Examples.antt` spell, field by field: `both` and `front` are told how many octets
-- their first part has.
use Rattle.std.proofs.Common.{subst, ◌≡◌, ℕ, ◌<◌, ◌≤◌, ◌^◌, List, [], ◌∷◌, length, take, drop, refl, sym, ap, arith, Some, None, inl, inr, length-append, append-nil}
use Rattle.std.proofs.lemmas.List.{take-append-drop}
use Rattle.std.proofs.lemmas.Option.{none-some}
use Rattle.std.specs.List.{AllByRecursion}
use Rattle.ip_prefix.specs.declared.addr.Family.TheVariants.{V4}
use Rattle.ip_prefix.specs.Bits.{bits_of, bits_of_octets}
use Rattle.ip_prefix.specs.Counted.{SpellsCounted}
use Rattle.ip_prefix.specs.Fields.{SpellsPair, SpellsFront}
use Rattle.ip_prefix.specs.Network.{SpellsNetwork}
use Rattle.ip_prefix.specs.Sequences.{Begins, SpellsAll}
use Rattle.bgp_wire.specs.Attribute.{Attribute, SpellsAttribute, SpellsIPv4}
use Rattle.bgp_wire.specs.Content.{AreAttrsOf, IsRibNextHopOf, SpellsRibAttrs}
use Rattle.bgp_wire.specs.declared.AsWidth.{AsWidth}
use Rattle.bgp_wire.specs.declared.AsWidth.TheVariants.{Two, Four}
use Rattle.bgp_wire.specs.declared.message.Message.TheVariants as messages
use Rattle.bgp_wire.specs.Path.{SpellsAsn, SpellsPath}
use Rattle.bgp_wire.specs.Update.{SpellsUpdate, SpellsMessage}
use Rattle.mrt_events.specs.declared.stamp.Stamp.{Stamp}
use Rattle.mrt_frames.proofs.RecordLaws.{BeginsWithNoRecord-short, BeginsWithNoRecord-cut, BeginsWithNoRecord-too_long}
use Rattle.mrt_wire.specs.declared.RecordKind.TheVariants.{NoIndex, PeerIndex}
use Rattle.mrt_wire.specs.Fields.{SpellsAddressOf}
use Rattle.mrt_wire.specs.Record.{Record, IsRecord, BeginsWithNoRecord}
use Rattle.mrt_wire.specs.Results.{PeerTable, ReadsAs, Refused}
use Rattle.mrt_wire.specs.Rib.{SpellsView, SpellsPeer, SpellsEntry, SpellsEntries, SpellsRib, SpellsAddressAndLength, AreTableDumpFields}
use Rattle.mrt_wire.specs.Session.{SpellsSessionPeer, SpellsStateChange, StateChange, AreAsnFields, AreAddressFields}
use Rattle.mrt_wire.proofs.ContentLaws.{same_form}
use Rattle.mrt_wire.specs.Content.{Content, IsBody, SpellsContent}
use Rattle.bgpdump_lines.specs.Examples.{example_change, rib_entries, ipv4_address, ipv4_prefix, example_peer, example_prefix, withdrawn_prefix, example_attrs, example_attribute_octets, session_fields_octets, state_change_body, state_change_frame, timed_state_change_frame, update_octets, example_update, message_body, message_frame, peer_index_body, peer_index_frame, rib_body, rib_record, rib_frame, table_dump_body, table_dump_frame, unsupported_frame, malformed_frame, no_peers_body, no_peers_frame, cut_octets, too_long_octets}

-- ---- parts of octets

-- the first octets spell a value
pub front : {A : Type 0} {Spells : A → List ℕ → Type 0} {value : A} {octets : List ℕ} (n : ℕ)
    → Spells value (take n octets) → Begins Spells value (drop n octets) octets
front {octets} n p = record { front = take n octets; spelled = p; whole = sym (take-append-drop n octets) }

-- the first octets spell one value, and the others a second one
pub both : {A B : Type 0} {First : A → List ℕ → Type 0} {Second : A → B → List ℕ → Type 0} {values : A × B} {octets : List ℕ} (n : ℕ)
    → First values.0 (take n octets) → Second values.0 values.1 (drop n octets) → SpellsPair First Second values octets
both {octets} n first second = record { rest = drop n octets; first = front n first; second = second }

-- ---- records

-- no octets begin with no record
pub nothing_left : BeginsWithNoRecord []
nothing_left = BeginsWithNoRecord-short [] (omega arith)

-- a record whose fields fit
pub is_record : (r : Record) → r.seconds < 2 ^ 32 → r.kind < 2 ^ 16 → r.subtype < 2 ^ 16 → length r.body ≤ 16777216 → IsRecord r
is_record r seconds kind subtype size =
    record {
      header = record { seconds_fit = seconds; kind_fits = kind; subtype_fits = subtype; size_fits = omega (arith, size) };
      size = size;
    }

-- ---- what all examples speak of

-- an IPv4 address by its octets
pub address : (octets : List ℕ) → length octets ≡ 4 → SpellsAddressOf V4 (ipv4_address octets) octets
address octets four = record { of_family = refl; spelled = record { size = four; bits = refl } }

-- ---- BGP4MP

-- the session fields of the peer
session : SpellsSessionPeer Two example_peer session_fields_octets
session = (_, _, _, _, both 6 systems addresses)
  where
    systems : AreAsnFields Two (64500, (0xFB ∷ 0xF5 ∷ [], 0 ∷ 0 ∷ [])) (take 6 session_fields_octets)
    systems = both 2 (record { fits = omega arith; whole = refl }) (both 2 (record { long = refl; whole = refl }) (record { long = refl; whole = refl }))

    addresses : AreAddressFields (V4, (example_peer.addr, 0xC0 ∷ 0x00 ∷ 0x02 ∷ 0x02 ∷ [])) (drop 6 session_fields_octets)
    addresses = both 2 refl (both 4 (address _ refl) (record { long = refl; whole = refl }))

-- the state change
change : SpellsStateChange Two example_change state_change_body
change = both 16 session (both 2 (record { fits = omega arith; whole = refl }) (_, front 2 (record { fits = omega arith; whole = refl })))

pub state_change_read : (stamp : Stamp) (index : PeerTable) → IsRecord state_change_frame.mrt × ReadsAs stamp index state_change_frame.mrt state_change_frame.outcome
state_change_read stamp index = (
  is_record _ (omega arith) (omega arith) (omega arith) (omega arith),
  record { is_body = (_, refl, (_, refl, both 0 (refl, refl) (_, refl, change))); sound = refl; made = refl },
)

-- the same with microseconds
pub timed_state_change_read : (stamp : Stamp) (index : PeerTable) → IsRecord timed_state_change_frame.mrt × ReadsAs stamp index timed_state_change_frame.mrt timed_state_change_frame.outcome
timed_state_change_read stamp index = (
  is_record _ (omega arith) (omega arith) (omega arith) (omega arith),
  record { is_body = (_, refl, (_, refl, both 4 (5, refl, omega arith, record { fits = omega arith; whole = refl }) (_, refl, change))); sound = refl; made = refl },
)

-- ---- attributes

-- a prefix by its octets
prefix : (octets : List ℕ) → AllByRecursion (λ octet. octet < 256) octets → length (bits_of_octets octets) ≤ 32 → SpellsNetwork V4 (ipv4_prefix octets) (length (bits_of_octets octets) ∷ octets)
prefix octets each short =
    record { of_family = refl; fits = short; body = octets; spare = []; each = each; held = sym (append-nil (bits_of_octets octets)); least = omega arith; whole = refl }

-- 10.0.0.0/8
ten : SpellsNetwork V4 example_prefix (8 ∷ 10 ∷ [])
unfolding bits_of
ten = prefix (10 ∷ []) (omega arith, tt) (omega arith)

-- 198.51.100.0/24
withdrawn : SpellsNetwork V4 withdrawn_prefix (24 ∷ 198 ∷ 51 ∷ 100 ∷ [])
unfolding bits_of
withdrawn = prefix (198 ∷ 51 ∷ 100 ∷ []) (omega arith, (omega arith, (omega arith, tt))) (omega arith)

-- an attribute with a short value
attribute : (kind : ℕ) (value : List ℕ) → kind < 256 → length value < 256 → SpellsAttribute record { flags = 0x40; kind = kind; value = value } (0x40 ∷ kind ∷ length value ∷ value)
attribute kind value small short = record { flags_fit = omega arith; kind_fits = small; length_fits = short; whole = refl }

-- the attributes of the examples, with this value of AS_PATH
abbrev attribute_list : List ℕ → List Attribute
attribute_list path =
    record { flags = 0x40; kind = 1; value = 0 ∷ [] } ∷ record { flags = 0x40; kind = 2; value = path }
    ∷ record { flags = 0x40; kind = 3; value = 0xC0 ∷ 0x00 ∷ 0x02 ∷ 0x09 ∷ [] } ∷ []

-- the path of the examples
path : (width : AsWidth) (octets : List ℕ) → SpellsAsn width 64500 octets → SpellsPath width example_attrs.path (2 ∷ 1 ∷ octets)
path width octets asn =
    (_, front' (record { some = omega arith; count_fits = omega arith; body = _; spelled = (_, front' asn, refl); whole = refl }), refl)
  where
    front' : {A : Type 0} {Spells : A → List ℕ → Type 0} {value : A} {octets : List ℕ} → Spells value octets → Begins Spells value [] octets
    front' {octets} p = record { front = octets; spelled = p; whole = sym (append-nil octets) }

-- the attributes say what the examples have, with AS numbers of four octets
said_four : AreAttrsOf Four example_attrs (attribute_list (2 ∷ 1 ∷ 0x00 ∷ 0x00 ∷ 0xFB ∷ 0xF4 ∷ []))
said_four =
    record {
      short = (refl, tt, tt, tt);
      passed = record { path_spelled = path Four _ (record { fits = omega arith; whole = refl }); own_spelled = tt };
      communities = refl;
    }

-- and of two
said_two : AreAttrsOf Two example_attrs (attribute_list (2 ∷ 1 ∷ 0xFB ∷ 0xF4 ∷ []))
said_two =
    record {
      short = (refl, tt, tt, tt);
      passed = record {
        own_path = _;
        path_spelled = path Two _ (record { fits = omega arith; whole = refl });
        own = None;
        own_spelled = tt;
        as4 = None;
        as4_spelled = tt;
        path_joined = refl;
        aggregator_joined = refl;
      };
      communities = refl;
    }

-- the next hop
pub hop : SpellsIPv4 (ipv4_address (192 ∷ 0 ∷ 2 ∷ 9 ∷ [])) (0xC0 ∷ 0x00 ∷ 0x02 ∷ 0x09 ∷ [])
hop = record { of_family = refl; spelled = (address _ refl).spelled }

-- it is that of a RIB entry too
rib_hop : (octets : List ℕ) → IsRibNextHopOf V4 example_attrs.next_hop (attribute_list octets)
rib_hop octets = record { own = Some _; reached = None; own_spelled = hop; reached_spelled = tt; once = refl; chosen = refl }

-- the attributes of a RIB entry, with AS numbers of four octets
attrs_four : SpellsRibAttrs V4 Four example_attrs (drop 16 rib_body)
attrs_four =
    record {
      list = attribute_list (2 ∷ 1 ∷ 0x00 ∷ 0x00 ∷ 0xFB ∷ 0xF4 ∷ []);
      spelled = (
        _,
        front 4 (attribute 1 _ (omega arith) (omega arith)),
        (
          _,
          front 9 (attribute 2 _ (omega arith) (omega arith)),
          (_, front 7 (attribute 3 _ (omega arith) (omega arith)), refl),
        ),
      );
      said = said_four;
      hop_said = rib_hop _;
    }

-- the attributes with AS numbers of two octets
list_two : SpellsAll SpellsAttribute (attribute_list (2 ∷ 1 ∷ 0xFB ∷ 0xF4 ∷ [])) example_attribute_octets
list_two = (
  _,
  front 4 (attribute 1 _ (omega arith) (omega arith)),
  (
    _,
    front 7 (attribute 2 _ (omega arith) (omega arith)),
    (_, front 7 (attribute 3 _ (omega arith) (omega arith)), refl),
  ),
)

-- ---- TABLE_DUMP_V2

-- the peer index table
pub peer_index_read : (stamp : Stamp) (index : PeerTable) → IsRecord peer_index_frame.mrt × ReadsAs stamp index peer_index_frame.mrt peer_index_frame.outcome
peer_index_read stamp index = (
  is_record _ (omega arith) (omega arith) (omega arith) (omega arith),
  record {
    is_body = (_, refl, (_, refl, ((0xC0 ∷ 0x00 ∷ 0x02 ∷ 0x02 ∷ [], []), both 6 view peers)));
    sound = refl;
    made = refl;
  },
)
  where
    view : SpellsView (0xC0 ∷ 0x00 ∷ 0x02 ∷ 0x02 ∷ [], []) (take 6 peer_index_body)
    view = both 4 (record { long = refl; whole = refl }) (record { fits = omega arith; whole = refl })

    peer : SpellsPeer example_peer (drop 8 peer_index_body)
    peer = (
      2,
      _,
      both 1 (record { fits = omega arith; whole = refl }) (both 4 (record { long = refl; whole = refl })
          (both 4 (address _ refl) (record { fits = omega arith; whole = refl }))),
    )

    peers : SpellsFront (SpellsCounted SpellsPeer) (example_peer ∷ []) (drop 6 peer_index_body)
    peers = (_, front 15 (record { fits = omega arith; body = drop 8 peer_index_body; spelled = (_, front 13 peer, refl); whole = refl }))

-- the body of the RIB record
rib_spelled : SpellsRib V4 rib_entries rib_body
rib_spelled = (_, both 4 (record { long = refl; whole = refl }) (both 2 ten entries))
  where
    entry : SpellsEntry V4 record { attrs = example_attrs; time = 50; index = 0 } (drop 8 rib_body)
    entry = (
      drop 16 rib_body,
      both 2 (record { fits = omega arith; whole = refl }) (both 4 (record { fits = omega arith; whole = refl })
          (record { fits = omega arith; whole = refl })),
      attrs_four,
    )

    entries : SpellsEntries V4 (record { attrs = example_attrs; time = 50; index = 0 } ∷ []) (drop 6 rib_body)
    entries = (_, front 30 (record { fits = omega arith; body = drop 8 rib_body; spelled = (_, front 28 entry, refl); whole = refl }))

-- the RIB record after that table
pub rib_read : (stamp : Stamp) → IsRecord (rib_frame stamp).mrt × ReadsAs stamp (Some (example_peer ∷ [])) (rib_frame stamp).mrt (rib_frame stamp).outcome
rib_read stamp = (
  is_record _ (omega arith) (omega arith) (omega arith) (omega arith),
  record { is_body = (_, refl, (_, refl, rib_spelled)); sound = refl; made = refl },
)

-- without a table it has a fault
pub rib_without_index : (stamp : Stamp) → IsRecord rib_record × ReadsAs stamp None rib_record (Refused NoIndex)
rib_without_index stamp =
    (is_record _ (omega arith) (omega arith) (omega arith) (omega arith), inr (inr (_, (_, refl, (_, refl, rib_spelled)), refl)))

-- a table without peers
pub no_peers_read : (stamp : Stamp) (index : PeerTable) → IsRecord no_peers_frame.mrt × ReadsAs stamp index no_peers_frame.mrt no_peers_frame.outcome
no_peers_read stamp index = (
  is_record _ (omega arith) (omega arith) (omega arith) (omega arith),
  record {
    is_body = (_, refl, (_, refl, ((0xC0 ∷ 0x00 ∷ 0x02 ∷ 0x02 ∷ [], []), both 6 view peers)));
    sound = refl;
    made = refl;
  },
)
  where
    view : SpellsView (0xC0 ∷ 0x00 ∷ 0x02 ∷ 0x02 ∷ [], []) (take 6 no_peers_body)
    view = both 4 (record { long = refl; whole = refl }) (record { fits = omega arith; whole = refl })

    peers : SpellsFront (SpellsCounted SpellsPeer) [] (drop 6 no_peers_body)
    peers = (_, front 2 (record { fits = omega arith; body = []; spelled = refl; whole = refl }))

-- and after that one
pub rib_without_peer : (stamp : Stamp) → IsRecord rib_record × ReadsAs stamp (Some []) rib_record (Refused (PeerIndex 0))
rib_without_peer stamp =
    (is_record _ (omega arith) (omega arith) (omega arith) (omega arith), inr (inr (_, (_, refl, (_, refl, rib_spelled)), refl)))

-- ---- UPDATEs

-- the UPDATE
update_spelled : SpellsUpdate Two example_update update_octets
update_spelled =
    record {
      withdrawn = 24 ∷ 198 ∷ 51 ∷ 100 ∷ [];
      attributes = example_attribute_octets;
      announced = 8 ∷ 10 ∷ [];
      whole = record { withdrawn_fits = omega arith; attributes_fit = omega arith; whole = refl };
      withdrawn_spelled = (_, front 4 withdrawn, refl);
      announced_spelled = (_, front 2 ten, refl);
      list = attribute_list (2 ∷ 1 ∷ 0xFB ∷ 0xF4 ∷ []);
      spelled = list_two;
      said = record {
        reach = None;
        together = record { said = said_two; hop = hop; reached = tt; reached_once = refl; unreached = refl; unreached_once = refl };
        announced = refl;
        attrs = refl;
      };
    }

-- the record of its message
pub message_read : (stamp : Stamp) (index : PeerTable) → IsRecord message_frame.mrt × ReadsAs stamp index message_frame.mrt message_frame.outcome
message_read stamp index = (
  is_record _ (omega arith) (omega arith) (omega arith) (omega arith),
  record { is_body = (_, refl, (_, refl, both 0 (refl, refl) (_, refl, both 16 session message))); sound = refl; made = refl },
)
  where
    message : SpellsMessage Two (messages.Update example_update) (drop 16 message_body)
    message = (
      _,
      record { marker = take 16 (drop 16 message_body); marker_size = refl; kind_fits = omega arith; length_fits = omega arith; whole = refl },
      update_spelled,
    )

-- ---- TABLE_DUMP

-- 10.0.0.0/8 as an address and a length
pub ten_as_address : SpellsAddressAndLength V4 example_prefix (10 ∷ 0 ∷ 0 ∷ 0 ∷ 8 ∷ [])
unfolding bits_of
ten_as_address =
    record {
      address = _;
      len = 8;
      fields = both 4 (address (10 ∷ 0 ∷ 0 ∷ 0 ∷ []) refl) (record { fits = omega arith; whole = refl });
      fits = omega arith;
      first_bits = refl;
    }

-- the record of one entry
pub table_dump_read : (stamp : Stamp) (index : PeerTable) → IsRecord (table_dump_frame stamp).mrt × ReadsAs stamp index (table_dump_frame stamp).mrt (table_dump_frame stamp).outcome
table_dump_read stamp index = (
  is_record _ (omega arith) (omega arith) (omega arith) (omega arith),
  record { is_body = (_, refl, (_, refl, (_, _, example_attribute_octets, [], front 40 fields, attributes))); sound = refl; made = refl },
)
  where
    attributes : SpellsRibAttrs V4 Two example_attrs example_attribute_octets
    attributes = record { list = _; spelled = list_two; said = said_two; hop_said = rib_hop _ }

    fields : AreTableDumpFields V4 (0 ∷ 0 ∷ 0 ∷ 0 ∷ [], (example_prefix, (1 ∷ [], (50, (example_peer, example_attribute_octets))))) table_dump_body
    fields =
        both 4 (record { long = refl; whole = refl }) (both 5 ten_as_address (both 1 (record { long = refl; whole = refl })
        (both 4 (record { fits = omega arith; whole = refl })
        (both 6 (both 4 (address _ refl) (record { fits = omega arith; whole = refl })) (record { fits = omega arith; whole = refl })))))

-- ---- faulty records

-- a type that isn't supported
pub unsupported_read : (stamp : Stamp) (index : PeerTable) → IsRecord unsupported_frame.mrt × ReadsAs stamp index unsupported_frame.mrt unsupported_frame.outcome
unsupported_read stamp index =
    (is_record _ (omega arith) (omega arith) (omega arith) (omega arith), inl ((λ s. none-some s.0 s.1), refl))

-- the spelling in front has no more octets than all
front_fits : {A : Type 0} {Spells : A → List ℕ → Type 0} {value : A} {rest octets : List ℕ} (b : Begins Spells value rest octets) → length b.front ≤ length octets
front_fits {rest} b = omega (arith, ap length b.whole, length-append b.front rest)

-- a state change has the two octets of an AS number
no_state_change : (change : StateChange) (octets : List ℕ) → length octets ≡ 0 → SpellsStateChange Two change octets → ⊥
no_state_change change octets none s =
    let fields = s.first.spelled.4 in
    let systems = fields.first.spelled in
    omega (arith, none, front_fits s.first, front_fits fields.first, front_fits systems.first, ap length systems.first.spelled.whole)

-- so an empty body is malformed
pub malformed_read : (stamp : Stamp) (index : PeerTable) → IsRecord malformed_frame.mrt × ReadsAs stamp index malformed_frame.mrt malformed_frame.outcome
malformed_read stamp index =
    (is_record _ (omega arith) (omega arith) (omega arith) (omega arith), inr (inl ((_, refl), none, refl)))
  where
    none : (content : Content) → IsBody 16 0 content [] → ⊥
    none content b =
        let s = subst (λ form. SpellsContent form content []) (same_form 16 0 b.0 _ b.1 refl) b.2 in
        let empty : length s.2.rest ≡ 0 = omega (arith, ap length s.2.first.whole, length-append s.2.first.front s.2.rest) in
        no_state_change s.2.second.0 s.2.rest empty s.2.second.2

-- a state change without its last octet
pub cut_short : BeginsWithNoRecord cut_octets
cut_short =
    BeginsWithNoRecord-cut 100 16 0 20 (take 19 state_change_body)
    (record { seconds_fit = omega arith; kind_fits = omega arith; subtype_fits = omega arith; size_fits = omega arith }) (omega arith)

-- a header that states too much
pub too_long : BeginsWithNoRecord too_long_octets
too_long =
    BeginsWithNoRecord-too_long 100 16 0 16777217 []
    (record { seconds_fit = omega arith; kind_fits = omega arith; subtype_fits = omega arith; size_fits = omega arith }) (omega arith)
