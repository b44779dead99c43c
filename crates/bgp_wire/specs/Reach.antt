-- Next hops (RFC 2545, section 3; RFC 6396, section 4.3.4), and the content of MP_REACH_NLRI and
-- MP_UNREACH_NLRI (RFC 4760, sections 3 and 4).
use Rattle.std.specs.Prelude.{◌≡◌, ◌⊎◌, ℕ, List, [], ◌∷◌, ◌++◌, length, Option, Some, None}
use Rattle.std.specs.Option.{option_or}
use Rattle.ip_prefix.specs.declared.addr.Family.{Family}
use Rattle.ip_prefix.specs.declared.addr.Family.TheVariants.{V4, V6}
use Rattle.ip_prefix.specs.Network.{Address, Network, SpellsNetwork}
use Rattle.bgp_wire.specs.declared.next_hop.TheConstants.{LINK_LOCAL_SIZE}
use Rattle.bgp_wire.specs.Attribute.{SpellsAddressOctets}
use Rattle.ip_prefix.specs.Sequences.{SpellsAll}
use Rattle.bgp_wire.specs.declared.attrs.Attrs.{Attrs}
use Rattle.bgp_wire.specs.declared.reach.TheConstants.{AFI_IPV4, AFI_IPV6, SAFI_UNICAST}

-- ---- next hops as BGP sends them (RFC 4760, section 3; RFC 2545, section 3; RFC 6396, section 4.3.4)

-- `octets` may follow the address of a next hop of this family: none, or for IPv6 sixteen, which should be a
-- link-local address (RFC 2545, section 3) and may be any
abbrev pub MayTrailHop : Family → List ℕ → Type 0
MayTrailHop V4 octets = octets ≡ []
MayTrailHop V6 octets = (octets ≡ []) ⊎ (length octets ≡ LINK_LOCAL_SIZE)

-- the octets are the address `hop` of a next hop; if it is of IPv6, sixteen more may follow, as of a
-- link-local address (RFC 2545, section 3)
pub record SpellsNextHop (hop : Address) (octets : List ℕ) : Type 0 where
  pub address : List ℕ
  pub spelled : SpellsAddressOctets hop address
  pub link_local : List ℕ
  pub linked : MayTrailHop hop.family link_local
  pub whole : octets ≡ address ++ link_local

-- the octets are the length of a next hop, the next hop, and then any octets
pub record SpellsSizedHop (hop : Address) (octets : List ℕ) : Type 0 where
  pub front : List ℕ
  pub spelled : SpellsNextHop hop front
  pub more : List ℕ
  pub whole : octets ≡ length front ∷ (front ++ more)

-- the octets are an AFI and a SAFI, of three octets, the length of a next hop, the next hop, and then any
-- octets. The first octet of the AFI is 0, and the other two may be any
pub record SpellsHopAfterFamily (hop : Address) (octets : List ℕ) : Type 0 where
  pub family_end : ℕ
  pub subsequent : ℕ
  pub rest : List ℕ
  pub spelled : SpellsSizedHop hop rest
  pub whole : octets ≡ 0 ∷ family_end ∷ subsequent ∷ rest

-- the octets are the value of MP_REACH_NLRI in a RIB entry with the next hop `hop` (RFC 6396, section 4.3.4):
-- the length of the next hop, the next hop and any octets, after an AFI and a SAFI or without these
abbrev pub SpellsRibHopInEitherForm : Address → List ℕ → Type 0
SpellsRibHopInEitherForm hop octets = SpellsSizedHop hop octets ⊎ SpellsHopAfterFamily hop octets

-- the next hop of a RIB entry for a prefix of this family, by those of NEXT_HOP (`own`) and MP_REACH_NLRI
-- (`reached`): for IPv4 `own`, or `reached` if that is absent; for IPv6 `reached`, or `own` if that is absent
abbrev pub rib_hop : Family → Option Address → Option Address → Option Address
rib_hop V4 own reached = option_or own reached
rib_hop V6 own reached = option_or reached own

-- ---- the content of MP_REACH_NLRI and MP_UNREACH_NLRI in an UPDATE (RFC 4760, sections 3 and 4)

-- the AFI of a family: 1 for IPv4, 2 for IPv6
abbrev pub family_code : Family → ℕ
family_code V4 = AFI_IPV4
family_code V6 = AFI_IPV6

-- the three octets of a family's AFI, in two octets, and SAFI 1, unicast (RFC 4760, sections 3 and 6)
abbrev pub unicast_octets : Family → List ℕ
unicast_octets family = 0 ∷ family_code family ∷ SAFI_UNICAST ∷ []

-- the octets begin with an AFI and a SAFI, of three octets, other than those of IPv4 or IPv6 unicast
pub record HasOtherAfiSafi (octets : List ℕ) : Type 0 where
  pub high : ℕ
  pub low : ℕ
  pub subsequent : ℕ
  pub rest : List ℕ
  pub whole : octets ≡ high ∷ low ∷ subsequent ∷ rest
  pub other : (family : Family) → high ∷ low ∷ subsequent ∷ [] ≡ unicast_octets family → ⊥

-- the octets are the length of a next hop, the next hop, a reserved octet, which may be any, and then `rest`
pub record BeginsWithHop (hop : Address) (rest octets : List ℕ) : Type 0 where
  pub front : List ℕ
  pub spelled : SpellsNextHop hop front
  pub reserved : ℕ
  pub whole : octets ≡ length front ∷ (front ++ (reserved ∷ rest))

-- the content of an MP_REACH_NLRI: prefixes, and their next hop
pub record Reach : Type 0 where
  pub hop : Address
  pub prefixes : List Network

-- the octets, which follow the AFI and the SAFI, are the length of a next hop, the next hop, a reserved
-- octet, and prefixes of this family
pub record SpellsReach (family : Family) (reach : Reach) (octets : List ℕ) : Type 0 where
  pub body : List ℕ
  pub stands : BeginsWithHop reach.hop body octets
  pub spelled : SpellsAll (SpellsNetwork family) reach.prefixes body

-- the octets are the AFI and the SAFI of unicast of some family, and then what `Spells` says for this family
-- and value
pub record SpellsAfterUnicast {A : Type 0} (Spells : Family → A → List ℕ → Type 0) (value : A) (octets : List ℕ) : Type 0 where
  pub family : Family
  pub rest : List ℕ
  pub whole : octets ≡ unicast_octets family ++ rest
  pub spelled : Spells family value rest

-- the value of MP_REACH_NLRI, if it is of IPv4 or IPv6 unicast, has the content `reach`; if the attribute is
-- absent, or of another AFI or SAFI, the content is `None`
abbrev pub SpellsMpReach : Option Reach → Option (List ℕ) → Type 0
SpellsMpReach None None = Unit {0}
SpellsMpReach None (Some octets) = HasOtherAfiSafi octets
SpellsMpReach (Some reach) (Some octets) = SpellsAfterUnicast SpellsReach reach octets
SpellsMpReach (Some reach) None = ⊥

-- the value of MP_UNREACH_NLRI, if it is of IPv4 or IPv6 unicast, withdraws these prefixes; if the attribute
-- is absent, or of another AFI or SAFI, there are none
abbrev pub SpellsMpUnreach : List Network → Option (List ℕ) → Type 0
SpellsMpUnreach prefixes None = prefixes ≡ []
SpellsMpUnreach prefixes (Some octets) = (HasOtherAfiSafi octets × (prefixes ≡ [])) ⊎ SpellsAfterUnicast (λ family. SpellsAll (SpellsNetwork family)) prefixes octets

-- the prefixes of an MP_REACH_NLRI; none if it is absent
abbrev pub reach_prefixes : Option Reach → List Network
reach_prefixes None = []
reach_prefixes (Some reach) = reach.prefixes

-- the next hop of an MP_REACH_NLRI, or `None` if it is absent
abbrev pub reach_hop : Option Reach → Option Address
reach_hop None = None
reach_hop (Some reach) = Some reach.hop

-- `attrs` with `hop` in place of the next hop, or `None` if the list of prefixes is empty
abbrev pub attrs_with_next_hop : Attrs → Option Address → List Network → Option Attrs
attrs_with_next_hop attrs hop [] = None
attrs_with_next_hop attrs hop (prefix ∷ prefixes) = Some record attrs { next_hop = hop }

-- the attributes of the routes to the prefixes of MP_REACH_NLRI `reach`: `attrs`, those of the UPDATE, but
-- with the next hop of `reach`; `None` if there are no such prefixes
abbrev pub reach_attrs : Attrs → Option Reach → Option Attrs
reach_attrs attrs reach = attrs_with_next_hop attrs (reach_hop reach) (reach_prefixes reach)
