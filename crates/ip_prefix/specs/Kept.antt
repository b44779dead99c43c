-- Private.
-- How addresses and prefixes are stored: their bits are the highest of a number of 128 bits, in two halves,
-- and the bits below are 0.
use Rattle.std.specs.Prelude.{◌≡◌, ℕ, zero, suc, ◌+◌, ◌*◌, ◌^◌, ◌/◌, ◌%◌, ◌<◌, length, ◌==◌, refl, ◌-◌, Bool, List, ◌≤◌}
use Rattle.std.proofs.Common.{◌∙◌, sym, ap, subst, arith, pow-add, div-lt_iff_lt-mul, mod-eq_of_lt}
use Rattle.std.proofs.lemmas.Nat.{mod-pow-add, pow_pos, shr_split}
use Rattle.std.proofs.lemmas.Nat.Bits.{bit_at-lt}
use Rattle.ip_prefix.specs.Bits.{bit_value, number_of, bits_of, highest_bits}
use Rattle.ip_prefix.specs.declared.number.TheConstants.{HALF_BITS, NUMBER_BITS}
use Rattle.std.specs.declared.cmp.Ordering.{Ordering}
use Rattle.std.specs.Ordering.{nat_cmp, ordering_then}
use Rattle.ip_prefix.specs.Network.{Network, least_address, address_cmp, bit_count}
use Rattle.ip_prefix.specs.declared.addr.Family.{Family}
use Rattle.ip_prefix.specs.declared.addr.Family.TheVariants.{V4, V6}

-- ---- the bits of a number spell it

-- `bits_of k n` has `k` bits
pub length-bits_of : (k n : ℕ) → length (bits_of k n) ≡ k
unfolding bits_of
length-bits_of zero n = refl
length-bits_of (suc k) n = ap suc (length-bits_of k n)

-- a number below 2, taken as a bit and back, is itself
worth_of_digit : (digit : ℕ) → digit < 2 → bit_value (digit == 1) ≡ digit
worth_of_digit zero h = refl
worth_of_digit (suc zero) h = refl
worth_of_digit (suc (suc digit)) h = absurd (omega arith)

-- the lowest `k` bits of `n` spell `n` modulo `2 ^ k`
pub number_of-bits_of : (k n : ℕ) → number_of (bits_of k n) ≡ n % 2 ^ k
unfolding number_of bits_of
number_of-bits_of zero n = omega arith
number_of-bits_of (suc k) n =
    let e : suc k ≡ 1 + k = omega arith in
    rw (length-bits_of k n, number_of-bits_of k n, worth_of_digit _ (bit_at-lt n k)) (sym (ap (λ j. n % 2 ^ j) e ∙ mod-pow-add n 1 k))

-- a number of `j + k` bits whose lowest `k` bits are 0 is what its highest `j` bits spell, times `2 ^ k`
pub number-highest : (j k n : ℕ) → n < 2 ^ (j + k) → n % 2 ^ k ≡ 0 → number_of (bits_of j (n / 2 ^ k)) * 2 ^ k ≡ n
number-highest j k n fits none =
    let low : n < 2 ^ j * 2 ^ k = subst (λ m. n < m) (pow-add 2 j k) fits in
    let high : n / 2 ^ k < 2 ^ j = (div-lt_iff_lt-mul (pow_pos k)).1 low in
    rw (number_of-bits_of j (n / 2 ^ k), mod-eq_of_lt high) (omega (arith, none, shr_split n k))

-- ---- a number as two halves of 64 bits

-- the number of 128 bits whose high half is `high` and whose low half is `low`, of 64 bits each
abbrev pub whole : ℕ → ℕ → ℕ
whole high low = high * 2 ^ HALF_BITS + low

-- `whole high low`, divided by 2^64 and rounded down, is `high`
pub high-again : (high low : ℕ) → low < 2 ^ HALF_BITS → whole high low / 2 ^ HALF_BITS ≡ high
high-again high low fits = omega (arith, fits)

-- where `low` is below 2^64, `whole high low` modulo 2^64 is `low`
pub low-again : (high low : ℕ) → low < 2 ^ HALF_BITS → whole high low % 2 ^ HALF_BITS ≡ low
low-again high low fits = omega (arith, fits)

-- ---- numbers and prefixes whose other bits are 0

-- the number of 128 bits whose highest are `bits`, of which there are `size`, and whose others are 0
abbrev pub number_with_high_bits : ℕ → List Bool → ℕ
number_with_high_bits size bits = number_of bits * 2 ^ (NUMBER_BITS - size)

-- `number`, of 128 bits, with all bits cleared but its highest `size`
abbrev pub highest_part : ℕ → ℕ → ℕ
highest_part size number = number / 2 ^ (NUMBER_BITS - size) * 2 ^ (NUMBER_BITS - size)

-- the order of prefixes by their least addresses, and among prefixes with one least address by length
abbrev pub least_address_cmp : Network → Network → Ordering
least_address_cmp m n = ordering_then (address_cmp (least_address m) (least_address n)) (nat_cmp (length m.bits) (length n.bits))

-- ---- the numbers that addresses and prefixes are stored as

-- `number` can store a prefix of this family with `size` bits: the family has at least `size` bits (32 or
-- 128), and of the 128 bits of `number` all below the highest `size` are 0
abbrev pub IsMasked : Family → ℕ → ℕ → Type 0
IsMasked family number size =
    (number < 2 ^ NUMBER_BITS) × (size ≤ bit_count family) × (number % 2 ^ (NUMBER_BITS - size) ≡ 0)

-- `n` can store an address of this family: of its 128 bits all below the highest 32 for IPv4, or 128 for
-- IPv6, are 0
abbrev pub IsAligned : Family → ℕ → Type 0
IsAligned family n = IsMasked family n (bit_count family)

-- an address has at most 128 bits
pub bit_count_le : (family : Family) → bit_count family ≤ NUMBER_BITS
bit_count_le V4 = omega arith
bit_count_le V6 = omega arith

-- `highest_bits size number` has `size` bits
pub length-masked : (number size : ℕ) → length (highest_bits size number) ≡ size
length-masked number size = length-bits_of size (number / 2 ^ (NUMBER_BITS - size))

-- a `number` that can store a prefix of `size` bits is what `number_with_high_bits` makes of `size` and its
-- highest `size` bits
pub number-again : (family : Family) (number size : ℕ) → IsMasked family number size → number_with_high_bits size (highest_bits size number) ≡ number
number-again family number size h =
    let all : NUMBER_BITS ≡ size + (NUMBER_BITS - size) = omega (arith, h.1, bit_count_le family) in
    number-highest size (NUMBER_BITS - size) number (subst (λ w. number < 2 ^ w) all h.0) h.2

-- a `number` that can store a prefix of `size` bits is what `number_with_high_bits` makes of its highest
-- `size` bits and the length of their list
pub number-masked : (family : Family) (number size : ℕ) → IsMasked family number size
    → number_with_high_bits (length (highest_bits size number)) (highest_bits size number) ≡ number
number-masked family number size h = rw (length-masked number size) (number-again family number size h)
