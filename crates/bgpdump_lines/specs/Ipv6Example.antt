-- A BGP4MP_MESSAGE_AS4 of an IPv6 session, octet by octet, and the frame that it is. Its UPDATE has
-- IPv6 prefixes, and attributes of all types that are read but NEXT_HOP and those of RFC 6793.
use Rattle.std.specs.Prelude.{ℕ, List, [], ◌∷◌, ◌++◌, None, Some, true, replicate, codes}
use Rattle.ip_prefix.specs.declared.addr.Family.TheVariants.{V6}
use Rattle.ip_prefix.specs.Bits.{bits_of_octets}
use Rattle.ip_prefix.specs.Network.{Address, Network}
use Rattle.bgp_wire.specs.declared.attrs.Attrs.{Attrs}
use Rattle.bgp_wire.specs.declared.attrs.Origin.TheVariants.{Incomplete}
use Rattle.bgp_wire.specs.declared.message.Message.TheVariants as messages
use Rattle.bgp_wire.specs.declared.parts.Update.{Update}
use Rattle.bgp_wire.specs.declared.SegmentKind.TheVariants.{AsSequence, AsSet}
use Rattle.mrt_events.specs.declared.event.Tag.TheVariants.{Bgp4mp}
use Rattle.mrt_events.specs.declared.peer.Peer.{Peer}
use Rattle.mrt_wire.specs.Content.{Session}
use Rattle.mrt_wire.specs.Event.{Announced, Withdrawn}
use Rattle.mrt_wire.specs.Items.{route_of}
use Rattle.mrt_wire.specs.Results.{Frame, Accepted, event_at}
use Rattle.mrt_wire.specs.Session.{PeerMessage, Receipt}
use Rattle.bgpdump_lines.specs.Examples.{ipv4_address}

-- the IPv6 address of these sixteen octets
abbrev pub ipv6_address : List ℕ → Address
ipv6_address octets = record { family = V6; bits = bits_of_octets octets }

-- the IPv6 peer 2001:db8::1 of AS 64500
abbrev pub ipv6_peer : Peer
ipv6_peer =
    record {
      addr = ipv6_address (0x20 ∷ 0x01 ∷ 0x0D ∷ 0xB8 ∷ replicate 11 0 ++ 0x01 ∷ []);
      asn = 64500;
    }

-- the next hop 2001:db8::9
abbrev pub ipv6_hop : Address
ipv6_hop = ipv6_address (0x20 ∷ 0x01 ∷ 0x0D ∷ 0xB8 ∷ replicate 11 0 ++ 0x09 ∷ [])

-- the IPv6 prefix 2001:db8::/32
abbrev pub ipv6_prefix : Network
ipv6_prefix = record { family = V6; bits = bits_of_octets (0x20 ∷ 0x01 ∷ 0x0D ∷ 0xB8 ∷ []) }

-- the IPv6 prefix 2001:db9::/32
abbrev pub withdrawn_ipv6_prefix : Network
withdrawn_ipv6_prefix =
    record { family = V6; bits = bits_of_octets (0x20 ∷ 0x01 ∷ 0x0D ∷ 0xB9 ∷ []) }

-- the path attributes ORIGIN (INCOMPLETE), AS_PATH (a sequence of 64500 and 64501, and a set of 64502 and 64503),
-- MULTI_EXIT_DISC (5), LOCAL_PREF (100), ATOMIC_AGGREGATE, AGGREGATOR (192.0.2.3 of AS 64501) and COMMUNITIES
-- (64500:1 and NO_EXPORT), and no others
abbrev pub all_attrs : Attrs
all_attrs =
    record {
      next_hop = None;
      aggregator = Some record { addr = ipv4_address (192 ∷ 0 ∷ 2 ∷ 3 ∷ []); asn = 64501 };
      path = record {
        segments =
            record { numbers = 64500 ∷ 64501 ∷ []; kind = AsSequence }
            ∷ record { numbers = 64502 ∷ 64503 ∷ []; kind = AsSet } ∷ [];
      };
      communities = 0xFBF40001 ∷ 0xFFFFFF01 ∷ [];
      med = Some 5;
      local_pref = Some 100;
      origin = Some Incomplete;
      atomic = true;
    }

-- the value of an MP_REACH_NLRI (RFC 4760, section 3) that announces 2001:db8::/32 with the next hop 2001:db8::9
abbrev pub reach_octets : List ℕ
reach_octets =
    -- AFI: IPv6; SAFI: unicast
    0x00 ∷ 0x02 ∷ 0x01
    -- Length of Next Hop: 16; 2001:db8::9
    ∷ 0x10 ∷ 0x20 ∷ 0x01 ∷ 0x0D ∷ 0xB8 ∷ 0x00 ∷ 0x00 ∷ 0x00 ∷ 0x00
    ∷ 0x00 ∷ 0x00 ∷ 0x00 ∷ 0x00 ∷ 0x00 ∷ 0x00 ∷ 0x00 ∷ 0x09
    -- Reserved; 2001:db8::/32
    ∷ 0x00 ∷ 0x20 ∷ 0x20 ∷ 0x01 ∷ 0x0D ∷ 0xB8 ∷ []

-- the value of an MP_UNREACH_NLRI (RFC 4760, section 4) that withdraws 2001:db9::/32
abbrev pub unreach_octets : List ℕ
unreach_octets =
    -- AFI: IPv6; SAFI: unicast; 2001:db9::/32
    0x00 ∷ 0x02 ∷ 0x01 ∷ 0x20 ∷ 0x20 ∷ 0x01 ∷ 0x0D ∷ 0xB9 ∷ []

-- octets that spell `all_attrs`, with AS numbers of four octets, and then MP_REACH_NLRI with the value `reach_octets`
-- and MP_UNREACH_NLRI with the value `unreach_octets`
abbrev pub all_attribute_octets : List ℕ
all_attribute_octets =
    -- ORIGIN: flags, type, length, INCOMPLETE
    0x40 ∷ 0x01 ∷ 0x01 ∷ 0x02
    -- AS_PATH: flags, type, length
    ∷ 0x40 ∷ 0x02 ∷ 0x14
    -- A sequence of 2: 64500, 64501
    ∷ 0x02 ∷ 0x02 ∷ 0x00 ∷ 0x00 ∷ 0xFB ∷ 0xF4 ∷ 0x00 ∷ 0x00 ∷ 0xFB ∷ 0xF5
    -- A set of 2: 64502, 64503
    ∷ 0x01 ∷ 0x02 ∷ 0x00 ∷ 0x00 ∷ 0xFB ∷ 0xF6 ∷ 0x00 ∷ 0x00 ∷ 0xFB ∷ 0xF7
    -- MULTI_EXIT_DISC: flags, type, length, 5
    ∷ 0x80 ∷ 0x04 ∷ 0x04 ∷ 0x00 ∷ 0x00 ∷ 0x00 ∷ 0x05
    -- LOCAL_PREF: flags, type, length, 100
    ∷ 0x40 ∷ 0x05 ∷ 0x04 ∷ 0x00 ∷ 0x00 ∷ 0x00 ∷ 0x64
    -- ATOMIC_AGGREGATE: flags, type, length
    ∷ 0x40 ∷ 0x06 ∷ 0x00
    -- AGGREGATOR: flags, type, length, 64501, 192.0.2.3
    ∷ 0xC0 ∷ 0x07 ∷ 0x08 ∷ 0x00 ∷ 0x00 ∷ 0xFB ∷ 0xF5 ∷ 0xC0 ∷ 0x00 ∷ 0x02 ∷ 0x03
    -- COMMUNITIES: flags, type, length, 64500:1, NO_EXPORT
    ∷ 0xC0 ∷ 0x08 ∷ 0x08 ∷ 0xFB ∷ 0xF4 ∷ 0x00 ∷ 0x01 ∷ 0xFF ∷ 0xFF ∷ 0xFF ∷ 0x01
    -- MP_REACH_NLRI: flags with the extended length, type, length
    ∷ 0x90 ∷ 0x0E ∷ 0x00 ∷ 0x1A ∷ (reach_octets
    -- MP_UNREACH_NLRI: flags, type, length
    ++ 0x80 ∷ 0x0F ∷ 0x08 ∷ unreach_octets)

-- the body of an UPDATE with the attributes `all_attribute_octets`, which announce 2001:db8::/32 and withdraw
-- 2001:db9::/32
abbrev pub ipv6_update_octets : List ℕ
ipv6_update_octets =
    -- Withdrawn Routes Length: 0; Total Path Attribute Length: 107
    0x00 ∷ 0x00 ∷ 0x00 ∷ 0x6B ∷ all_attribute_octets

-- the UPDATE that `ipv6_update_octets` spell: it withdraws `withdrawn_ipv6_prefix`, and announces `ipv6_prefix` with
-- `all_attrs` and the next hop `ipv6_hop`
abbrev pub ipv6_update : Update
ipv6_update =
    record {
      withdrawn = [];
      mp_withdrawn = withdrawn_ipv6_prefix ∷ [];
      attrs = all_attrs;
      announced = [];
      mp_attrs = Some record all_attrs { next_hop = Some ipv6_hop };
      mp_announced = ipv6_prefix ∷ [];
    }

-- the message `ipv6_update` of `ipv6_peer`
abbrev pub ipv6_message : PeerMessage
ipv6_message = record { message = messages.Update ipv6_update; peer = ipv6_peer }

-- the first fields of a BGP4MP body (RFC 6396, section 4.4), which describe a session between `ipv6_peer` and
-- 2001:db8::2 of AS 64501, with AS numbers of four octets
abbrev pub ipv6_session_fields_octets : List ℕ
ipv6_session_fields_octets =
    -- Peer AS Number: 64500; Local AS Number: 64501
    0x00 ∷ 0x00 ∷ 0xFB ∷ 0xF4 ∷ 0x00 ∷ 0x00 ∷ 0xFB ∷ 0xF5
    -- Interface Index: 0; Address Family: IPv6
    ∷ 0x00 ∷ 0x00 ∷ 0x00 ∷ 0x02
    -- Peer IP Address: 2001:db8::1
    ∷ 0x20 ∷ 0x01 ∷ 0x0D ∷ 0xB8 ∷ 0x00 ∷ 0x00 ∷ 0x00 ∷ 0x00
    ∷ 0x00 ∷ 0x00 ∷ 0x00 ∷ 0x00 ∷ 0x00 ∷ 0x00 ∷ 0x00 ∷ 0x01
    -- Local IP Address: 2001:db8::2
    ∷ 0x20 ∷ 0x01 ∷ 0x0D ∷ 0xB8 ∷ 0x00 ∷ 0x00 ∷ 0x00 ∷ 0x00
    ∷ 0x00 ∷ 0x00 ∷ 0x00 ∷ 0x00 ∷ 0x00 ∷ 0x00 ∷ 0x00 ∷ 0x02 ∷ []

-- the body of a BGP4MP_MESSAGE_AS4 record (RFC 6396, section 4.4.3): `ipv6_session_fields_octets`, and an UPDATE message,
-- which is the header of BGP messages and `ipv6_update_octets`
abbrev pub ipv6_message_body : List ℕ
ipv6_message_body =
    ipv6_session_fields_octets
    -- Marker
    ++ 0xFF ∷ 0xFF ∷ 0xFF ∷ 0xFF ∷ 0xFF ∷ 0xFF ∷ 0xFF ∷ 0xFF
    ∷ 0xFF ∷ 0xFF ∷ 0xFF ∷ 0xFF ∷ 0xFF ∷ 0xFF ∷ 0xFF ∷ 0xFF
    -- Length: 130; Type: UPDATE
    ∷ 0x00 ∷ 0x82 ∷ 0x02 ∷ ipv6_update_octets

-- a whole BGP4MP_MESSAGE_AS4 record of time 100: its header, and `ipv6_message_body`
abbrev pub ipv6_message_octets : List ℕ
ipv6_message_octets =
    -- Timestamp: 100
    0x00 ∷ 0x00 ∷ 0x00 ∷ 0x64
    -- Type: BGP4MP; Subtype: BGP4MP_MESSAGE_AS4
    ∷ 0x00 ∷ 0x10 ∷ 0x00 ∷ 0x04
    -- Length: 174
    ∷ 0x00 ∷ 0x00 ∷ 0x00 ∷ 0xAE ∷ ipv6_message_body

-- the attributes of the prefix that `ipv6_update` announces: `all_attrs` with the next hop `ipv6_hop`
abbrev pub announced_attrs : Attrs
announced_attrs = record all_attrs { next_hop = Some ipv6_hop }

-- the frame (record and outcome) of `ipv6_message_octets`: it is accepted, and its event has the withdrawal and the
-- announcement of `ipv6_update`
abbrev pub ipv6_message_frame : Frame
ipv6_message_frame =
    record {
      mrt = record { seconds = 100; kind = 16; subtype = 4; body = ipv6_message_body };
      outcome =
          Accepted (Session record { content = Receipt ipv6_message; micros = None })
          (event_at 100 None Bgp4mp
          (Withdrawn ipv6_peer withdrawn_ipv6_prefix
          ∷ Announced ipv6_peer ipv6_prefix (route_of announced_attrs 100) ∷ []));
    }

-- the lines that `bgpdump -m` prints of `ipv6_message_frame`: of a withdrawal, and of an announcement
abbrev pub ipv6_message_lines : List ℕ
ipv6_message_lines =
    codes "BGP4MP|100|W|2001:db8::1|64500|2001:db9::/32\n"
    ++ (codes "BGP4MP|100|A|2001:db8::1|64500|2001:db8::/32|64500 64501 {64502,64503}|INCOMPLETE|"
    ++ codes "2001:db8::9|100|5|64500:1 no-export|AG|64501 192.0.2.3|\n")
