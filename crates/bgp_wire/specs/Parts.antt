-- Private.
-- An UPDATE in parts, whose memory parsers reuse, attributes that are absent, and the AFI and SAFI at the
-- start of MP_REACH_NLRI and MP_UNREACH_NLRI.
use Rattle.std.specs.Prelude.{false, [], None, ◌≡◌, ℕ, List, Option, ◌<◌, ◌++◌, length, Some}
use Rattle.bgp_wire.specs.declared.attrs.Attrs.{Attrs}
use Rattle.bgp_paths.specs.Readers.{empty_path}
use Rattle.bgp_paths.specs.declared.numbers.AsWidth.{AsWidth}
use Rattle.bgp_wire.specs.declared.message.Message.{Message}
use Rattle.bgp_wire.specs.declared.parts.Update.{Update}
use Rattle.bgp_wire.specs.declared.parts.UpdateBuffer.{UpdateBuffer}
use Rattle.bgp_wire.specs.declared.parts.MessageKind.{MessageKind}
use Rattle.ip_prefix.specs.Sequences.{SpellsAll}
use Rattle.bgp_wire.specs.Attribute.{Attribute, SpellsAttribute}
use Rattle.bgp_wire.specs.Reach.{Reach, reach_hop, reach_prefixes, attrs_with_next_hop, unicast_octets, HasOtherAfiSafi}
use Rattle.bgp_wire.specs.Update.{AreUpdateContentOf}
use Rattle.bgp_wire.specs.declared.next_hop.TheConstants.{FAMILY_SIZE}
use Rattle.bgp_wire.specs.declared.reach.AfiSafi.{AfiSafi}
use Rattle.bgp_wire.specs.declared.reach.AfiSafi.TheVariants.{Unicast, Another}
use Rattle.bgp_wire.specs.declared.message.Message.TheVariants as messages
use Rattle.bgp_wire.specs.declared.parts.MessageKind.TheVariants as kinds

-- ---- absent attributes

-- the attributes of a route that has none: an empty path, no communities, false for ATOMIC_AGGREGATE, and
-- `None` for each other
abbrev pub absent_attrs : Attrs
absent_attrs = record {
  next_hop = None;
  aggregator = None;
  path = empty_path;
  communities = [];
  med = None;
  local_pref = None;
  origin = None;
  atomic = false;
}

-- `attrs` with an empty path and no communities, and otherwise unchanged
abbrev pub without_path_and_communities : Attrs → Attrs
without_path_and_communities attrs = record attrs { path = empty_path; communities = [] }

-- ---- an UPDATE in parts

-- the parts (`UpdateBuffer`) of an UPDATE without prefixes and attributes
abbrev pub empty_parts : UpdateBuffer
empty_parts = record {
  withdrawn = [];
  mp_withdrawn = [];
  attrs = absent_attrs;
  announced = [];
  mp_hop = None;
  mp_announced = [];
}

-- the UPDATE of these parts: `mp_attrs`, for the prefixes of MP_REACH_NLRI, are `attrs` with the next hop
-- `mp_hop`, or `None` if there are no such prefixes; the other fields are those of the parts
abbrev pub update_of_parts : UpdateBuffer → Update
update_of_parts parts = record {
  withdrawn = parts.withdrawn;
  mp_withdrawn = parts.mp_withdrawn;
  attrs = parts.attrs;
  announced = parts.announced;
  mp_attrs = attrs_with_next_hop parts.attrs parts.mp_hop parts.mp_announced;
  mp_announced = parts.mp_announced;
}

-- the message of this kind: the UPDATE of these parts, or a message of another type, which has just the type
abbrev pub message_of_parts : MessageKind → UpdateBuffer → Message
message_of_parts kinds.Update parts = messages.Update (update_of_parts parts)
message_of_parts (kinds.Other kind) parts = messages.Other kind

-- the attributes of the parts, and the prefixes and the next hop of their MP_REACH_NLRI and MP_UNREACH_NLRI,
-- are those of `list`. The other prefixes may be any
pub record ArePartsOf (width : AsWidth) (parts : UpdateBuffer) (list : List Attribute) : Type 0 where
  pub reach : Option Reach
  pub together : AreUpdateContentOf width parts.attrs reach parts.mp_withdrawn list
  pub hop : parts.mp_hop ≡ reach_hop reach
  pub announced : parts.mp_announced ≡ reach_prefixes reach

-- the octets are a list of path attributes, and these parts are its content but for the prefixes outside of
-- it
pub record SpellsParts (width : AsWidth) (parts : UpdateBuffer) (octets : List ℕ) : Type 0 where
  pub list : List Attribute
  pub spelled : SpellsAll SpellsAttribute list octets
  pub said : ArePartsOf width parts list

-- ---- the AFI and the SAFI at the start of octets

-- what a parser of an AFI and a SAFI finds at the start of the octets: `None` if there are fewer than three
-- octets, the family and the octets after them if they are of IPv4 or IPv6 unicast, or else `Another`
abbrev pub IsAfiSafiOf : List ℕ → Option AfiSafi → Type 0
IsAfiSafiOf octets None = length octets < FAMILY_SIZE
IsAfiSafiOf octets (Some Another) = HasOtherAfiSafi octets
IsAfiSafiOf octets (Some (Unicast family rest)) = octets ≡ unicast_octets family ++ rest.now
