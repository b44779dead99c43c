-- BGP messages, and the octets that encode them (RFC 4271, sections 4.1 and 4.3).
use Rattle.std.specs.Prelude.{◌≡◌, ℕ, ◌<◌, ◌^◌, false, List, ◌∷◌, ◌++◌, length, Option}
use Rattle.std.specs.Int.{to_be_bytes, w16}
use Rattle.ip_prefix.specs.declared.addr.Family.TheVariants.{V4}
use Rattle.ip_prefix.specs.Network.{Network, SpellsNetwork}
use Rattle.ip_prefix.specs.Sequences.{SpellsAll}
use Rattle.bgp_paths.specs.declared.numbers.AsWidth.{AsWidth}
use Rattle.bgp_wire.specs.declared.attrs.Attrs.{Attrs}
use Rattle.bgp_wire.specs.declared.framing.TheConstants.{NEXT_HOP, MP_REACH_NLRI, MP_UNREACH_NLRI}
use Rattle.bgp_wire.specs.declared.message.TheConstants.{MARKER_SIZE, UPDATE}
use Rattle.bgp_wire.specs.declared.parts.Update.{Update}
use Rattle.bgp_wire.specs.declared.message.Message.{Message}
use Rattle.bgp_wire.specs.declared.message.Message.TheVariants as messages
use Rattle.bgp_wire.specs.Attribute.{Attribute, SpellsAttribute, first_value, repeats, SpellsOptional, SpellsIPv4}
use Rattle.bgp_wire.specs.Content.{AreAttrsOf}
use Rattle.bgp_wire.specs.Reach.{Reach, SpellsMpReach, SpellsMpUnreach, reach_prefixes, reach_attrs}

-- the octets are a message of this type with this body: a marker, which may be any octets, the length of all
-- in two octets, the type, and the body
pub record IsMessage (kind : ℕ) (body octets : List ℕ) : Type 0 where
  pub marker : List ℕ
  pub marker_size : length marker ≡ MARKER_SIZE
  pub kind_fits : kind < 256
  pub length_fits : length octets < 2 ^ 16
  pub whole : octets ≡ marker ++ (to_be_bytes w16 (length octets) ++ (kind ∷ body))

-- the length of the octets in two octets, big-endian, and then the octets
abbrev pub with_u16_length : List ℕ → List ℕ
with_u16_length octets = to_be_bytes w16 (length octets) ++ octets

-- the body of an UPDATE is made of these octets: those of withdrawn prefixes after their length, those of
-- attributes after theirs, and those of announced prefixes
pub record IsUpdate (withdrawn attributes announced body : List ℕ) : Type 0 where
  pub withdrawn_fits : length withdrawn < 2 ^ 16
  pub attributes_fit : length attributes < 2 ^ 16
  pub whole : body ≡ with_u16_length withdrawn ++ (with_u16_length attributes ++ announced)

-- an UPDATE with the attributes `list` says this: `attrs`, with AS numbers of this width in AS_PATH and the
-- next hop of NEXT_HOP; `reach`, its MP_REACH_NLRI; and `withdrawn`, the prefixes of its MP_UNREACH_NLRI. It
-- has each of these two at most once
pub record AreUpdateContentOf (width : AsWidth) (attrs : Attrs) (reach : Option Reach) (withdrawn : List Network) (list : List Attribute) : Type 0 where
  pub said : AreAttrsOf width attrs list
  pub hop : SpellsOptional SpellsIPv4 attrs.next_hop (first_value NEXT_HOP list)
  pub reached : SpellsMpReach reach (first_value MP_REACH_NLRI list)
  pub reached_once : repeats MP_REACH_NLRI list ≡ false
  pub unreached : SpellsMpUnreach withdrawn (first_value MP_UNREACH_NLRI list)
  pub unreached_once : repeats MP_UNREACH_NLRI list ≡ false

-- the attributes of `update`, and the prefixes of its MP_REACH_NLRI and MP_UNREACH_NLRI, are those of `list`,
-- whose AS_PATH has AS numbers of this width; `mp_attrs` are its attributes, but with the next hop of
-- MP_REACH_NLRI. Its other prefixes may be any
pub record IsUpdateOf (width : AsWidth) (update : Update) (list : List Attribute) : Type 0 where
  pub reach : Option Reach
  pub together : AreUpdateContentOf width update.attrs reach update.mp_withdrawn list
  pub announced : update.mp_announced ≡ reach_prefixes reach
  pub attrs : update.mp_attrs ≡ reach_attrs update.attrs reach

-- the octets are the body of this UPDATE, with AS numbers of this width in AS_PATH
pub record SpellsUpdate (width : AsWidth) (update : Update) (body : List ℕ) : Type 0 where
  pub withdrawn : List ℕ
  pub attributes : List ℕ
  pub announced : List ℕ
  pub whole : IsUpdate withdrawn attributes announced body
  pub withdrawn_spelled : SpellsAll (SpellsNetwork V4) update.withdrawn withdrawn
  pub announced_spelled : SpellsAll (SpellsNetwork V4) update.announced announced
  pub list : List Attribute
  pub spelled : SpellsAll SpellsAttribute list attributes
  pub said : IsUpdateOf width update list

-- the octets are this message, a header (RFC 4271, section 4.1) and a body: that of an UPDATE has AS numbers
-- of this width in AS_PATH, and that of another type may be any octets
abbrev pub SpellsMessage : AsWidth → Message → List ℕ → Type 0
SpellsMessage width (messages.Update update) octets = (body : List ℕ) × IsMessage UPDATE body octets × SpellsUpdate width update body
SpellsMessage width (messages.Other kind) octets = (kind ≡ UPDATE → ⊥) × (body : List ℕ) × IsMessage kind body octets
