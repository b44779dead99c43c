-- The texts that are printed for addresses and prefixes, and the texts that are parsed as them.
use Rattle.std.specs.Prelude.{ℕ, List, ◌∷◌, ◌++◌, length, decimal, ◌≡◌, ◌==◌, false, []}
use Rattle.std.specs.Net.Text.{hex_groups_text}
use Rattle.ip_prefix.specs.declared.addr.Family.{Family}
use Rattle.ip_prefix.specs.declared.addr.Family.TheVariants.{V4, V6}
use Rattle.ip_prefix.specs.declared.text.TheConstants.{DOT, SLASH}
use Rattle.ip_prefix.specs.Network.{Address, octet_at, groups_of, IsAddress, Network, least_address, IsNetwork, IsFront}
use Rattle.std.specs.List.{list_any}
use Rattle.std.specs.Net.Grammar.{IsDotted, IsColonHex}

-- ---- printed texts

-- the printed text of an IPv4 address: its octets in decimal, joined by dots
unfoldable pub v4_text : Address → List ℕ
v4_text address =
    decimal (octet_at address 0)
    ++ DOT ∷ decimal (octet_at address 1)
    ++ DOT ∷ decimal (octet_at address 2)
    ++ DOT ∷ decimal (octet_at address 3)

-- the printed text of an IPv6 address (RFC 5952, section 4): its groups in lower-case hexadecimal, joined by
-- colons, with `::` in place of the first longest run of two or more groups that are 0; never with a dotted
-- end
unfoldable pub v6_text : Address → List ℕ
v6_text address = hex_groups_text (groups_of address)

-- the printed text of an address of this family
abbrev text_by : Family → Address → List ℕ
text_by V4 address = v4_text address
text_by V6 address = v6_text address

-- the printed text of an address: `v4_text` of an IPv4 address, `v6_text` of an IPv6 address
unfoldable pub address_text : Address → List ℕ
address_text address = text_by address.family address

-- the printed text of a prefix: its least address, a slash and its length in decimal
unfoldable pub network_text : Network → List ℕ
network_text n = address_text (least_address n) ++ SLASH ∷ decimal (length n.bits)

-- ---- parsed texts

-- the four octets of an IPv4 address, the most significant first
abbrev pub octets_of_v4 : Address → List ℕ
octets_of_v4 a = octet_at a 0 ∷ octet_at a 1 ∷ octet_at a 2 ∷ octet_at a 3 ∷ []

-- the text has no dot
abbrev pub HasNoDot : List ℕ → Type 0
HasNoDot text = list_any (λ octet. octet == DOT) text ≡ false

-- the text spells the bits of an address of the family. IPv4: four decimals from 0 to 255 without leading
-- zeros, joined by dots. IPv6: groups of one to four hexadecimal digits of either case, joined by colons:
-- eight, or fewer and one `::` for the missing ones, which are 0; no dotted end
abbrev SpellsBy : Family → Address → List ℕ → Type 0
SpellsBy V4 address text = IsDotted text (octets_of_v4 address)
SpellsBy V6 address text = IsColonHex text (groups_of address) × HasNoDot text

-- `text` is a form of this address of 32 or 128 bits that `Addr::parse` takes: of IPv4 four decimals up to
-- 255 without leading zeros, with dots; of IPv6 eight groups of one to four hexadecimal digits with colons,
-- where one `::` may stand for groups that are 0 (RFC 4291, section 2.2), without a dotted end
abbrev pub SpellsAddress : Address → List ℕ → Type 0
SpellsAddress address text = IsAddress address × SpellsBy address.family address text

-- `Prefix::parse` gives the prefix `n` for this text: an address that begins with the bits of `n`, a slash,
-- and the length of `n` in decimal. The other bits of the address may be any
pub record SpellsPrefix (n : Network) (text : List ℕ) : Type 0 where
  pub fits : IsNetwork n
  pub address : Address
  pub address_text : List ℕ
  pub spelled : SpellsAddress address address_text
  pub of_family : address.family ≡ n.family
  pub begins : IsFront n.bits address.bits
  pub whole : text ≡ address_text ++ SLASH ∷ decimal (length n.bits)
