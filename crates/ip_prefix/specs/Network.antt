-- Addresses and prefixes as contracts see them. An address is a family and a list of 32 or 128 bits (RFC 791,
-- RFC 4291), a prefix a family and at most as many bits (RFC 4632, section 3.1).
use Rattle.std.specs.Prelude.{◌≡◌, ℕ, ◌*◌, Bool, List, [], ◌∷◌, length, take, drop, ◌-◌, ◌≤◌, true, false, ◌&&◌, not, ◌++◌, replicate, ◌<◌}
use Rattle.ip_prefix.specs.declared.addr.Family.{Family}
use Rattle.ip_prefix.specs.declared.addr.Family.TheVariants.{V4, V6}
use Rattle.ip_prefix.specs.declared.addr.TheConstants.{V4_BITS, V6_BITS, V4_OCTETS, V6_OCTETS, OCTET_BITS, GROUP_BITS}
use Rattle.ip_prefix.specs.Bits.{number_of, bits_of_octets}
use Rattle.std.specs.declared.cmp.Ordering.{Ordering}
use Rattle.std.specs.declared.cmp.Ordering.TheVariants.{Less, Equal, Greater}
use Rattle.std.specs.Ordering.{bool_cmp, on, then_cmp}
use Rattle.std.specs.Cmp.Lexicographic.{slice_cmp}
use Rattle.std.specs.List.{AllByRecursion}

-- ---- addresses (RFC 791, RFC 4291)

-- an IP address (`Addr` in code): its family, and its bits, the most significant first. That there are 32 or
-- 128 is required apart (`IsAddress`)
pub record Address : Type 0 where
  pub family : Family
  pub bits : List Bool

-- the number of octets of an address of the family: 4 or 16
abbrev pub octet_count : Family → ℕ
octet_count V4 = V4_OCTETS
octet_count V6 = V6_OCTETS

-- the number of bits of an address of the family: 32 or 128
abbrev pub bit_count : Family → ℕ
bit_count V4 = V4_BITS
bit_count V6 = V6_BITS

-- the octet of an address at index `i`, counted from 0 at the most significant; 0 if it has none there
unfoldable pub octet_at : Address → ℕ → ℕ
octet_at address i = number_of (take OCTET_BITS (drop (OCTET_BITS * i) address.bits))

-- an address has as many bits as its family says: 32 for IPv4, 128 for IPv6
abbrev pub IsAddress : Address → Type 0
IsAddress address = length address.bits ≡ bit_count address.family

-- the group of 16 bits of an address at index `i`, counted from 0 at the most significant (RFC 4291, section
-- 2.2); 0 if it has none there
unfoldable pub group_at : Address → ℕ → ℕ
group_at address i = number_of (take GROUP_BITS (drop (GROUP_BITS * i) address.bits))

-- the eight groups of an IPv6 address, the most significant first
abbrev pub groups_of : Address → List ℕ
groups_of a =
    group_at a 0 ∷ group_at a 1 ∷ group_at a 2 ∷ group_at a 3
    ∷ group_at a 4 ∷ group_at a 5 ∷ group_at a 6 ∷ group_at a 7 ∷ []

-- ---- prefixes (RFC 4632, section 3.1)

-- a prefix (`Prefix` in code): its family, and its bits, as many as its length, the most significant first.
-- That there are at most 32 or 128 is required apart (`IsNetwork`)
pub record Network : Type 0 where
  pub family : Family
  pub bits : List Bool

-- a prefix has at most as many bits as an address of its family: 32 for IPv4, 128 for IPv6
abbrev pub IsNetwork : Network → Type 0
IsNetwork n = length n.bits ≤ bit_count n.family

-- the list `bits` begins with the list `front`
abbrev pub IsFront : List Bool → List Bool → Type 0
IsFront front bits = take (length front) bits ≡ front

-- the prefix of the first `len` bits of an address; of all, if it has fewer
abbrev pub network_of : Address → ℕ → Network
network_of address len = record { family = address.family; bits = take len address.bits }

-- the least address that a prefix contains: its bits, and then zeros
abbrev pub least_address : Network → Address
least_address n = record { family = n.family; bits = n.bits ++ replicate (bit_count n.family - length n.bits) false }

-- whether two families are equal
abbrev pub same_family : Family → Family → Bool
same_family V4 V4 = true
same_family V4 V6 = false
same_family V6 V4 = false
same_family V6 V6 = true

-- whether two bits are equal
abbrev pub same_bit : Bool → Bool → Bool
same_bit true bit = bit
same_bit false bit = not bit

-- whether the second list begins with the first
abbrev pub begin_with : List Bool → List Bool → Bool
begin_with [] bits = true
begin_with (first ∷ more) [] = false
begin_with (first ∷ more) (bit ∷ bits) = same_bit first bit && begin_with more bits

-- whether an address is of the family of the prefix and begins with its bits
abbrev pub contains : Network → Address → Bool
contains n a = same_family n.family a.family && begin_with n.bits a.bits

-- ---- the order of addresses and prefixes: IPv4 first, then the bits one by one. A prefix is less than the
-- longer ones that begin with its bits

-- the order of families: IPv4 is less than IPv6
abbrev pub family_cmp : Family → Family → Ordering
family_cmp V4 V4 = Equal
family_cmp V4 V6 = Less
family_cmp V6 V4 = Greater
family_cmp V6 V6 = Equal

-- the lexicographic order of lists of bits: the first bits that differ decide, of which 0 is less; of a list
-- and a longer one that begins with it the shorter is less
abbrev pub bits_cmp : List Bool → List Bool → Ordering
bits_cmp = slice_cmp bool_cmp

-- the order of addresses: by family, IPv4 before IPv6, and then by their bits (`bits_cmp`)
abbrev pub address_cmp : Address → Address → Ordering
address_cmp = then_cmp (on (λ a. a.family) family_cmp) (on (λ a. a.bits) bits_cmp)

-- the order of prefixes: by family, IPv4 before IPv6, and then by their bits (`bits_cmp`), so that a prefix
-- is less than the longer ones that begin with its bits
abbrev pub network_cmp : Network → Network → Ordering
network_cmp = then_cmp (on (λ n. n.family) family_cmp) (on (λ n. n.bits) bits_cmp)

-- ---- prefixes as BGP sends them (RFC 4271, section 4.3)

-- the octets are the length of `n`, a prefix of family `kind`, in bits and one octet, and then its bits in
-- the least number of octets that hold them; the bits after them may be any
pub record SpellsNetwork (kind : Family) (n : Network) (octets : List ℕ) : Type 0 where
  pub of_family : n.family ≡ kind
  pub fits : IsNetwork n
  pub body : List ℕ
  pub spare : List Bool
  pub each : AllByRecursion (λ octet. octet < 256) body
  pub held : bits_of_octets body ≡ n.bits ++ spare
  pub least : length spare < OCTET_BITS
  pub whole : octets ≡ length n.bits ∷ body
