-- Path attributes, and the octets that encode them and their values (RFC 4271, section 4.3; RFC 1997; RFC
-- 6793).
use Rattle.std.specs.Prelude.{◌≡◌, ◌==◌, ℕ, ◌<◌, ◌^◌, Bool, true, false, not, if◌then◌else◌, List, [], ◌∷◌, ◌++◌, length, Option, Some, None, bit_and, is_some}
use Rattle.std.specs.Int.{to_be_bytes, w16}
use Rattle.bgp_wire.specs.declared.framing.TheConstants.{EXTENDED_LENGTH}
use Rattle.ip_prefix.specs.declared.addr.Family.TheVariants.{V4}
use Rattle.ip_prefix.specs.Network.{Address, octet_count}
use Rattle.ip_prefix.specs.Bits.{bits_of_octets}
use Rattle.bgp_paths.specs.declared.numbers.AsWidth.{AsWidth}
use Rattle.bgp_wire.specs.declared.attrs.Origin.{Origin}
use Rattle.bgp_wire.specs.declared.attrs.Origin.TheVariants.{Igp, Egp, Incomplete}
use Rattle.bgp_wire.specs.declared.attrs.Aggregator.{Aggregator}
use Rattle.bgp_wire.specs.declared.values.TheConstants.{ORIGIN_IGP, ORIGIN_EGP, ORIGIN_INCOMPLETE}
use Rattle.bgp_paths.specs.Path.{SpellsAsn}

-- ---- path attributes as BGP sends them (RFC 4271, section 4.3)

-- a path attribute: its flags, the number of its type, and the octets of its value
pub record Attribute : Type 0 where
  pub flags : ℕ
  pub kind : ℕ
  pub value : List ℕ

-- whether `flags` have the Extended Length bit set, 0x10, so that the length of the attribute takes two
-- octets (RFC 4271, section 4.3)
abbrev pub is_extended : ℕ → Bool
is_extended flags = not (bit_and flags EXTENDED_LENGTH == 0)

-- the octets of the length `n` of an attribute's value: two, big-endian, if the first argument, the extended
-- length flag, is true, or else one
abbrev pub length_octets : Bool → ℕ → List ℕ
length_octets false n = n ∷ []
length_octets true n = to_be_bytes w16 n

-- the exclusive upper bound of the length of an attribute's value: 2^16 if the argument, the extended length
-- flag, is true, or else 2^8
abbrev pub length_limit : Bool → ℕ
length_limit false = 2 ^ 8
length_limit true = 2 ^ 16

-- the octets are the flags, the type, the length and the value of an attribute
pub record SpellsAttribute (a : Attribute) (octets : List ℕ) : Type 0 where
  pub flags_fit : a.flags < 256
  pub kind_fits : a.kind < 256
  pub length_fits : length a.value < length_limit (is_extended a.flags)
  pub whole : octets ≡ a.flags ∷ a.kind ∷ (length_octets (is_extended a.flags) (length a.value) ++ a.value)

-- the value of the first attribute of a type in a list, or `None` if the list has none
abbrev pub first_value : ℕ → List Attribute → Option (List ℕ)
first_value kind [] = None
first_value kind (a ∷ list) = if a.kind == kind then Some a.value else first_value kind list

-- whether a list has two or more attributes of a type
abbrev pub repeats : ℕ → List Attribute → Bool
repeats kind [] = false
repeats kind (a ∷ list) = if a.kind == kind then is_some (first_value kind list) else repeats kind list

-- ---- the values of path attributes (RFC 4271, section 4.3; RFC 1997; RFC 6793, section 3)

-- the octets spell the content if both are present; otherwise both are absent
abbrev pub SpellsOptional : {A : Type 0} → (A → List ℕ → Type 0) → Option A → Option (List ℕ) → Type 0
SpellsOptional Spells None None = Unit {0}
SpellsOptional Spells (Some content) (Some octets) = Spells content octets
SpellsOptional Spells None (Some octets) = ⊥
SpellsOptional Spells (Some content) None = ⊥

-- the octets of a value, and no octets if it is absent
abbrev pub octets_or_empty : Option (List ℕ) → List ℕ
octets_or_empty None = []
octets_or_empty (Some octets) = octets

-- the flag is true and the value is present and empty, or the flag is false and the value is absent (`None`):
-- an attribute without content, such as ATOMIC_AGGREGATE, is a flag
abbrev pub SpellsPresence : Bool → Option (List ℕ) → Type 0
SpellsPresence false None = Unit {0}
SpellsPresence true (Some octets) = octets ≡ []
SpellsPresence false (Some octets) = ⊥
SpellsPresence true None = ⊥

-- the number that stands for an origin: 0 for IGP, 1 for EGP, 2 for INCOMPLETE (RFC 4271, section 4.3)
abbrev pub origin_code : Origin → ℕ
origin_code Igp = ORIGIN_IGP
origin_code Egp = ORIGIN_EGP
origin_code Incomplete = ORIGIN_INCOMPLETE

-- the octets are one octet, the number of the origin `value` (`origin_code`)
abbrev pub SpellsOrigin : Origin → List ℕ → Type 0
SpellsOrigin value octets = octets ≡ origin_code value ∷ []

-- the octets are those of an address: 4 for IPv4, 16 for IPv6
pub record SpellsAddressOctets (address : Address) (octets : List ℕ) : Type 0 where
  pub size : length octets ≡ octet_count address.family
  pub bits : address.bits ≡ bits_of_octets octets

-- the octets are those of an IPv4 address
pub record SpellsIPv4 (address : Address) (octets : List ℕ) : Type 0 where
  pub of_family : address.family ≡ V4
  pub spelled : SpellsAddressOctets address octets

-- the octets are a big-endian AS number of this width and then an IPv4 address
pub record SpellsAggregatorAt (width : AsWidth) (value : Aggregator) (octets : List ℕ) : Type 0 where
  pub number : List ℕ
  pub spelled : SpellsAsn width value.asn number
  pub address : List ℕ
  pub addressed : SpellsIPv4 value.addr address
  pub whole : octets ≡ number ++ address

-- the octets are the AS number of `value`, in two or in four octets, and then its IPv4 address
abbrev pub SpellsAggregator : Aggregator → List ℕ → Type 0
SpellsAggregator value octets = (width : AsWidth) × SpellsAggregatorAt width value octets
