-- AS numbers and AS paths, and the octets that encode them (RFC 4271, section 4.3; RFC 5065, section 3; RFC
-- 6793, section 3).
use Rattle.std.specs.Prelude.{◌≡◌, ℕ, ◌<◌, ◌*◌, ◌^◌, List, ◌∷◌, length}
use Rattle.std.specs.Int.{Width, w16, w32, to_be_bytes}
use Rattle.bgp_paths.specs.declared.numbers.AsWidth.{AsWidth}
use Rattle.bgp_paths.specs.declared.numbers.AsWidth.TheVariants.{Two, Four}
use Rattle.ip_prefix.specs.Sequences.{SpellsAll}
use Rattle.bgp_paths.specs.declared.segment.SegmentKind.{SegmentKind}
use Rattle.bgp_paths.specs.declared.segment.SegmentKind.TheVariants.{AsSet, AsSequence, ConfedSequence, ConfedSet}
use Rattle.bgp_paths.specs.declared.segment.Segment.{Segment}
use Rattle.bgp_paths.specs.declared.path_reader.TheConstants.{AS_SET, AS_SEQUENCE, AS_CONFED_SEQUENCE, AS_CONFED_SET}
use Rattle.bgp_paths.specs.declared.path.AsPath.{AsPath}

-- ---- numbers in network byte order

-- the octets are `n` as a big-endian number of `bits` bits, and `n` is below `limit`
pub record SpellsNumber (bits : Width) (limit : ℕ) (n : ℕ) (octets : List ℕ) : Type 0 where
  pub fits : n < limit
  pub whole : octets ≡ to_be_bytes bits n

-- the octets are `n` as a big-endian number of four octets; `n` is below 2^32
abbrev pub SpellsU32 : ℕ → List ℕ → Type 0
SpellsU32 n octets = SpellsNumber w32 (2 ^ 32) n octets

-- ---- AS numbers (RFC 4271, section 4.3; RFC 6793, section 3)

-- the number of bits of an AS number: 16 or 32
abbrev pub asn_bits : AsWidth → Width
asn_bits Two = w16
asn_bits Four = w32

-- the number of octets of an AS number: 2 or 4
abbrev pub asn_size : AsWidth → ℕ
asn_size Two = 2
asn_size Four = 4

-- the exclusive upper bound of AS numbers of this width: 2^16 or 2^32
abbrev pub asn_limit : AsWidth → ℕ
asn_limit width = 2 ^ (8 * asn_size width)

-- the octets are AS number `n`, big-endian, in as many octets as the width says, two or four, which it fits
abbrev pub SpellsAsn : AsWidth → ℕ → List ℕ → Type 0
SpellsAsn width n octets = SpellsNumber (asn_bits width) (asn_limit width) n octets

-- ---- octets that spell no value

-- `octets` spell no value by `Spells`; `B` is their type, such as lists of numbers
abbrev pub IsNoSpelling : {A B : Type 0} → (A → B → Type 0) → B → Type 0
IsNoSpelling {A} Spells octets = (value : A) → Spells value octets → ⊥

-- ---- AS paths as BGP sends them (RFC 4271, section 4.3; RFC 5065, section 3)

-- the number that stands for a kind of segment in octets: 1 for AS_SET, 2 for AS_SEQUENCE, 3 for
-- AS_CONFED_SEQUENCE, 4 for AS_CONFED_SET (RFC 4271, section 4.3; RFC 5065, section 3)
abbrev pub kind_code : SegmentKind → ℕ
kind_code AsSet = AS_SET
kind_code AsSequence = AS_SEQUENCE
kind_code ConfedSequence = AS_CONFED_SEQUENCE
kind_code ConfedSet = AS_CONFED_SET

-- the octets are the type of a segment, the count of its AS numbers, from 1 to 255, and these numbers
pub record SpellsSegment (width : AsWidth) (segment : Segment) (octets : List ℕ) : Type 0 where
  pub some : 0 < length segment.numbers
  pub count_fits : length segment.numbers < 256
  pub body : List ℕ
  pub spelled : SpellsAll (SpellsAsn width) segment.numbers body
  pub whole : octets ≡ kind_code segment.kind ∷ length segment.numbers ∷ body

-- the octets are the segments of the path, in order, with AS numbers of this width; of a path without
-- segments, no octets
abbrev pub SpellsPath : AsWidth → AsPath → List ℕ → Type 0
SpellsPath width path octets = SpellsAll (SpellsSegment width) path.segments octets
