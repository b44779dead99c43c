-- Numbers as lists of bits, the most significant first.
use Rattle.std.specs.Prelude.{ℕ, zero, suc, ◌+◌, ◌*◌, ◌/◌, ◌-◌, ◌^◌, Bool, true, false, List, [], ◌∷◌, ◌++◌, length, ◌==◌}
use Rattle.std.specs.Int.{bit_at}
use Rattle.ip_prefix.specs.declared.addr.TheConstants.{OCTET_BITS}
use Rattle.ip_prefix.specs.declared.number.TheConstants.{NUMBER_BITS}

-- the bit as a number, 1 or 0
abbrev pub bit_value : Bool → ℕ
bit_value true = 1
bit_value false = 0

-- the number that the bits spell in base 2, the most significant first; 0 of no bits
unfoldable pub number_of : List Bool → ℕ
number_of [] = 0
number_of (bit ∷ bits) = bit_value bit * 2 ^ length bits + number_of bits

-- `bits_of k n` is the lowest `k` bits of `n`, the most significant first
unfoldable pub bits_of : ℕ → ℕ → List Bool
bits_of zero n = []
bits_of (suc k) n = (bit_at n k == 1) ∷ bits_of k n

-- the bits of each octet, in order; of an octet the most significant first
abbrev pub bits_of_octets : List ℕ → List Bool
bits_of_octets [] = []
bits_of_octets (octet ∷ octets) = bits_of OCTET_BITS octet ++ bits_of_octets octets

-- the highest `size` bits of `number`, the most significant first; `number` has 128 bits, as which addresses
-- and prefixes are stored, and `size` is at most 128
abbrev pub highest_bits : ℕ → ℕ → List Bool
highest_bits size number = bits_of size (number / 2 ^ (NUMBER_BITS - size))
