-- What the octets of the IPv6 UPDATE of `specs/Ipv6Example.antt` spell, field by field.
use Rattle.std.proofs.Common.{List, [], ◌∷◌, take, drop, refl, arith, Some, inl, inr}
use Rattle.ip_prefix.specs.declared.addr.Family.TheVariants.{V6}
use Rattle.ip_prefix.specs.Bits.{bits_of}
use Rattle.ip_prefix.specs.Network.{SpellsNetwork}
use Rattle.ip_prefix.specs.Sequences.{SpellsAll}
use Rattle.bgp_wire.specs.Attribute.{Attribute, SpellsAttribute, SpellsAggregator}
use Rattle.bgp_wire.specs.Content.{AreAttrsOf}
use Rattle.bgp_wire.specs.declared.AsWidth.TheVariants.{Four}
use Rattle.bgp_wire.specs.declared.message.Message.TheVariants as messages
use Rattle.bgp_wire.specs.Path.{SpellsPath}
use Rattle.bgp_wire.specs.Reach.{SpellsMpReach, SpellsMpUnreach}
use Rattle.bgp_wire.specs.Update.{SpellsUpdate, SpellsMessage}
use Rattle.mrt_events.specs.declared.stamp.Stamp.{Stamp}
use Rattle.mrt_wire.specs.Record.{IsRecord}
use Rattle.mrt_wire.specs.Results.{PeerTable, ReadsAs}
use Rattle.mrt_wire.specs.Session.{SpellsSessionPeer, AreAsnFields, AreAddressFields}
use Rattle.bgpdump_lines.specs.Examples.{ipv4_address}
use Rattle.bgpdump_lines.specs.Ipv6Example.{ipv6_peer, ipv6_hop, ipv6_prefix, withdrawn_ipv6_prefix, all_attrs, reach_octets, unreach_octets, all_attribute_octets, ipv6_update_octets, ipv6_update, ipv6_session_fields_octets, ipv6_message_body, ipv6_message_frame}
use Rattle.bgpdump_lines.proofs.ExampleLaws.{front, both, is_record, address}

-- ---- prefixes and the session

-- 2001:db8::/32
announced : SpellsNetwork V6 ipv6_prefix (0x20 ∷ 0x20 ∷ 0x01 ∷ 0x0D ∷ 0xB8 ∷ [])
unfolding bits_of
announced =
    record {
      of_family = refl;
      fits = omega arith;
      body = _;
      spare = [];
      each = (omega arith, (omega arith, (omega arith, (omega arith, tt))));
      held = refl;
      least = omega arith;
      whole = refl;
    }

-- 2001:db9::/32
withdrawn : SpellsNetwork V6 withdrawn_ipv6_prefix (0x20 ∷ 0x20 ∷ 0x01 ∷ 0x0D ∷ 0xB9 ∷ [])
unfolding bits_of
withdrawn =
    record {
      of_family = refl;
      fits = omega arith;
      body = _;
      spare = [];
      each = (omega arith, (omega arith, (omega arith, (omega arith, tt))));
      held = refl;
      least = omega arith;
      whole = refl;
    }

-- the session fields of the peer
session : SpellsSessionPeer Four ipv6_peer ipv6_session_fields_octets
session = (_, _, _, _, both 10 systems addresses)
  where
    systems : AreAsnFields Four (64500, (0 ∷ 0 ∷ 0xFB ∷ 0xF5 ∷ [], 0 ∷ 0 ∷ [])) (take 10 ipv6_session_fields_octets)
    systems = both 4 (record { fits = omega arith; whole = refl }) (both 4 (record { long = refl; whole = refl }) (record { long = refl; whole = refl }))

    addresses : AreAddressFields (V6, (ipv6_peer.addr, drop 28 ipv6_session_fields_octets)) (drop 10 ipv6_session_fields_octets)
    addresses = both 2 refl (both 16 (record { of_family = refl; spelled = record { size = refl; bits = refl } }) (record { long = refl; whole = refl }))

-- ---- attributes

-- the attributes of the UPDATE
abbrev attributes : List Attribute
attributes =
    record { flags = 0x40; kind = 1; value = 2 ∷ [] }
    ∷ record { flags = 0x40; kind = 2; value = take 20 (drop 7 all_attribute_octets) }
    ∷ record { flags = 0x80; kind = 4; value = 0 ∷ 0 ∷ 0 ∷ 5 ∷ [] }
    ∷ record { flags = 0x40; kind = 5; value = 0 ∷ 0 ∷ 0 ∷ 100 ∷ [] }
    ∷ record { flags = 0x40; kind = 6; value = [] }
    ∷ record { flags = 0xC0; kind = 7; value = 0 ∷ 0 ∷ 0xFB ∷ 0xF5 ∷ 192 ∷ 0 ∷ 2 ∷ 3 ∷ [] }
    ∷ record { flags = 0xC0; kind = 8; value = 0xFB ∷ 0xF4 ∷ 0 ∷ 1 ∷ 0xFF ∷ 0xFF ∷ 0xFF ∷ 1 ∷ [] }
    ∷ record { flags = 0x90; kind = 14; value = reach_octets }
    ∷ record { flags = 0x80; kind = 15; value = unreach_octets } ∷ []

-- their octets
attributes_spelled : SpellsAll SpellsAttribute attributes all_attribute_octets
attributes_spelled = (
  _,
  front 4 (record { flags_fit = omega arith; kind_fits = omega arith; length_fits = omega arith; whole = refl }),
  (
    _,
    front 23 (record { flags_fit = omega arith; kind_fits = omega arith; length_fits = omega arith; whole = refl }),
    (
      _,
      front 7 (record { flags_fit = omega arith; kind_fits = omega arith; length_fits = omega arith; whole = refl }),
      (
        _,
        front 7 (record { flags_fit = omega arith; kind_fits = omega arith; length_fits = omega arith; whole = refl }),
        (
          _,
          front 3 (record { flags_fit = omega arith; kind_fits = omega arith; length_fits = omega arith; whole = refl }),
          (
            _,
            front 11 (record { flags_fit = omega arith; kind_fits = omega arith; length_fits = omega arith; whole = refl }),
            (
              _,
              front 11 (record { flags_fit = omega arith; kind_fits = omega arith; length_fits = omega arith; whole = refl }),
              (
                _,
                front 30 (record { flags_fit = omega arith; kind_fits = omega arith; length_fits = omega arith; whole = refl }),
                (_, front 11 (record { flags_fit = omega arith; kind_fits = omega arith; length_fits = omega arith; whole = refl }), refl),
              ),
            ),
          ),
        ),
      ),
    ),
  ),
)

-- the path
path : SpellsPath Four all_attrs.path (take 20 (drop 7 all_attribute_octets))
path = (
  _,
  front 10 (record {
    some = omega arith;
    count_fits = omega arith;
    body = take 8 (drop 9 all_attribute_octets);
    spelled = (_, front 4 (record { fits = omega arith; whole = refl }), (_, front 4 (record { fits = omega arith; whole = refl }), refl));
    whole = refl;
  }),
  (
    _,
    front 10 (record {
      some = omega arith;
      count_fits = omega arith;
      body = take 8 (drop 19 all_attribute_octets);
      spelled = (_, front 4 (record { fits = omega arith; whole = refl }), (_, front 4 (record { fits = omega arith; whole = refl }), refl));
      whole = refl;
    }),
    refl,
  ),
)

-- the aggregator
aggregator : SpellsAggregator record { addr = ipv4_address (192 ∷ 0 ∷ 2 ∷ 3 ∷ []); asn = 64501 } (0 ∷ 0 ∷ 0xFB ∷ 0xF5 ∷ 192 ∷ 0 ∷ 2 ∷ 3 ∷ [])
aggregator = (
  Four,
  record {
    number = 0 ∷ 0 ∷ 0xFB ∷ 0xF5 ∷ [];
    spelled = record { fits = omega arith; whole = refl };
    address = 192 ∷ 0 ∷ 2 ∷ 3 ∷ [];
    addressed = record { of_family = refl; spelled = (address _ refl).spelled };
    whole = refl;
  },
)

-- what the attributes say
said : AreAttrsOf Four all_attrs attributes
said =
    record {
      short = (refl, record { fits = omega arith; whole = refl }, record { fits = omega arith; whole = refl }, refl);
      passed = record { path_spelled = path; own_spelled = aggregator };
      communities = (_, front 4 (record { fits = omega arith; whole = refl }), (_, front 4 (record { fits = omega arith; whole = refl }), refl));
    }

-- MP_REACH_NLRI
reached : SpellsMpReach (Some record { hop = ipv6_hop; prefixes = ipv6_prefix ∷ [] }) (Some reach_octets)
reached =
    record {
      family = V6;
      rest = drop 3 reach_octets;
      whole = refl;
      spelled = record {
        body = drop 21 reach_octets;
        stands = record {
          front = take 16 (drop 4 reach_octets);
          spelled = record { address = take 16 (drop 4 reach_octets); spelled = record { size = refl; bits = refl }; link_local = []; linked = inl refl; whole = refl };
          reserved = 0;
          whole = refl;
        };
        spelled = (_, front 5 announced, refl);
      };
    }

-- MP_UNREACH_NLRI
unreached : SpellsMpUnreach (withdrawn_ipv6_prefix ∷ []) (Some unreach_octets)
unreached = inr (record { family = V6; rest = drop 3 unreach_octets; whole = refl; spelled = (_, front 5 withdrawn, refl) })

-- ---- the record

-- the UPDATE
update : SpellsUpdate Four ipv6_update ipv6_update_octets
update =
    record {
      withdrawn = [];
      attributes = all_attribute_octets;
      announced = [];
      whole = record { withdrawn_fits = omega arith; attributes_fit = omega arith; whole = refl };
      withdrawn_spelled = refl;
      announced_spelled = refl;
      list = attributes;
      spelled = attributes_spelled;
      said = record {
        reach = Some record { hop = ipv6_hop; prefixes = ipv6_prefix ∷ [] };
        together = record { said = said; hop = tt; reached = reached; reached_once = refl; unreached = unreached; unreached_once = refl };
        announced = refl;
        attrs = refl;
      };
    }

-- the record of its message
pub ipv6_message_read : (stamp : Stamp) (index : PeerTable) → IsRecord ipv6_message_frame.mrt × ReadsAs stamp index ipv6_message_frame.mrt ipv6_message_frame.outcome
ipv6_message_read stamp index = (
  is_record _ (omega arith) (omega arith) (omega arith) (omega arith),
  record { is_body = (_, refl, (_, refl, both 0 (refl, refl) (_, refl, both 44 session message))); sound = refl; made = refl },
)
  where
    message : SpellsMessage Four (messages.Update ipv6_update) (drop 44 ipv6_message_body)
    message = (
      _,
      record { marker = take 16 (drop 44 ipv6_message_body); marker_size = refl; kind_fits = omega arith; length_fits = omega arith; whole = refl },
      update,
    )
