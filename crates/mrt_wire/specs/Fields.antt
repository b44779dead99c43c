-- The fields that the bodies of records are made of (RFC 6396, section 4). Numbers are big-endian.
use Rattle.std.specs.Prelude.{◌≡◌, ℕ, ◌<◌, ◌^◌, List, [], ◌∷◌, length}
use Rattle.std.specs.Int.{w16}
use Rattle.ip_prefix.specs.declared.addr.Family.{Family}
use Rattle.ip_prefix.specs.Network.{Address}
use Rattle.ip_prefix.specs.Fields.{SpellsPair}
use Rattle.bgp_wire.specs.declared.AsWidth.{AsWidth}
use Rattle.bgp_wire.specs.Path.{SpellsAsn, SpellsNumber}
use Rattle.bgp_wire.specs.Update.{with_u16_length}
use Rattle.bgp_wire.specs.Attribute.{SpellsAddressOctets}
use Rattle.mrt_events.specs.declared.peer.Peer.{Peer}

-- the octets are one, which is `n`, below 256
pub record SpellsOctet (n : ℕ) (octets : List ℕ) : Type 0 where
  pub fits : n < 256
  pub whole : octets ≡ n ∷ []

-- the octets are `n` as a big-endian number of two octets; `n` is below 2^16
abbrev pub SpellsShort : ℕ → List ℕ → Type 0
SpellsShort n octets = SpellsNumber w16 (2 ^ 16) n octets

-- the octets are the value, and there are `size` of them, which may be any
pub record AreOctets (size : ℕ) (value : List ℕ) (octets : List ℕ) : Type 0 where
  pub long : length octets ≡ size
  pub whole : octets ≡ value

-- the octets are the length of the value, in two octets, and then the value, whose octets may be any
pub record AreSized (value : List ℕ) (octets : List ℕ) : Type 0 where
  pub fits : length value < 2 ^ 16
  pub whole : octets ≡ with_u16_length value

-- the octets spell the address, and it is one of this family: 4 octets for IPv4, 16 for IPv6
pub record SpellsAddressOf (family : Family) (address : Address) (octets : List ℕ) : Type 0 where
  pub of_family : address.family ≡ family
  pub spelled : SpellsAddressOctets address octets

-- the octets spell the peer: its address, of this family, and then its AS number, of this width
abbrev pub SpellsPeerOf : Family → AsWidth → Peer → List ℕ → Type 0
SpellsPeerOf family width peer octets =
    SpellsPair (SpellsAddressOf family) (λ address. SpellsAsn width) (peer.addr, peer.asn) octets
