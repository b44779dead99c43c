-- Private.
-- Prefixes that cover others, and where a prefix lies as seen from another (`Turn`).
use Rattle.std.specs.Prelude.{Bool, ◌&&◌, IsTrue, true, false, cond, List, [], ◌∷◌, ◌++◌}
use Rattle.ip_prefix.specs.Network.{Address, IsAddress, Network, same_family, begin_with, contains, same_bit}
use Rattle.ip_prefix.specs.declared.addr.Family.{Family}
use Rattle.ip_prefix.specs.declared.addr.Family.TheVariants.{V4, V6}
use Rattle.ip_prefix.specs.declared.turn.Turn.{Turn}
use Rattle.ip_prefix.specs.declared.turn.Turn.TheVariants.{Outside, Here, Left, Right}

-- ---- covering

-- whether `other` is of the family of `n` and begins with its bits; so each prefix covers itself
abbrev pub covers : Network → Network → Bool
covers n other = same_family n.family other.family && begin_with n.bits other.bits

-- `n` contains each address, of 32 or 128 bits, that `other` contains
abbrev pub ContainsAllOf : Network → Network → Type 0
ContainsAllOf n other = (a : Address) → IsAddress a → IsTrue (contains other a) → IsTrue (contains n a)

-- ---- prefixes as paths from a root, and where one lies as seen from another

-- the family as a bit: 0 for IPv4, 1 for IPv6
abbrev pub family_bit : Family → Bool
family_bit V4 = false
family_bit V6 = true

-- the path to a prefix in a binary tree of both families: the bit of its family, and then its bits
unfoldable pub way : Network → List Bool
way n = family_bit n.family ∷ n.bits

-- where the second path goes as seen from the end of the first: `Here` if it ends there, `Left` or `Right` if
-- it goes on from there by a 0 or a 1, and `Outside` if it doesn't begin with the first
abbrev pub turn_of : List Bool → List Bool → Turn
turn_of [] [] = Here
turn_of [] (false ∷ bits) = Left
turn_of [] (true ∷ bits) = Right
turn_of (first ∷ more) [] = Outside
turn_of (first ∷ more) (bit ∷ bits) = cond (same_bit first bit) (turn_of more bits) Outside

-- where a path goes on by this bit: `Left` by 0, `Right` by 1
abbrev pub side : Bool → Turn
side false = Left
side true = Right

-- the longest list of bits with which both lists begin
abbrev pub shared : List Bool → List Bool → List Bool
shared [] bits = []
shared (first ∷ more) [] = []
shared (first ∷ more) (bit ∷ bits) = cond (same_bit first bit) (first ∷ shared more bits) []

-- the prefix `n` with `bit` added at its end, which contains half of the addresses of `n`
abbrev pub half : Network → Bool → Network
half n bit = record { family = n.family; bits = n.bits ++ bit ∷ [] }

-- the longest prefix that covers both `m` and `n`, if they are of one family; if not, the bits with which
-- both begin, in the family of `m`
abbrev pub common : Network → Network → Network
common m n = record { family = m.family; bits = shared m.bits n.bits }
