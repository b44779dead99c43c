-- Parts of the list of a number's bits.
use Rattle.std.proofs.Common.{◌≡◌, ℕ, zero, suc, ◌+◌, ◌-◌, ◌*◌, ◌^◌, ◌/◌, ◌<◌, ◌≤◌, ◌++◌, ◌==◌, Some, take, drop, refl, ap, arith, shr-shr}
use Rattle.std.specs.Prelude.{slice_get}
use Rattle.std.specs.Int.{bit_at}
use Rattle.std.proofs.lemmas.Nat.Bits.{bit_at_cat_low, bit_at_cat_high}
use Rattle.ip_prefix.specs.Bits.{bits_of}

-- without the highest j bits, the others are left
pub drop-bits_of : (j k n : ℕ) → drop j (bits_of (j + k) n) ≡ bits_of k n
unfolding bits_of
drop-bits_of zero k n = let e : 0 + k ≡ k = omega arith in ap (λ i. bits_of i n) e
drop-bits_of (suc j) k n = let e : suc j + k ≡ suc (j + k) = omega arith in rw e (drop-bits_of j k n)

-- the highest j bits are those of the number shifted right
pub take-bits_of : (j k n : ℕ) → take j (bits_of (j + k) n) ≡ bits_of j (n / 2 ^ k)
unfolding bits_of
take-bits_of zero k n = refl
take-bits_of (suc j) k n =
    let e : suc j + k ≡ suc (j + k) = omega arith in
    let turned : k + j ≡ j + k = omega arith in
    rw (e, shr-shr n k j, turned, take-bits_of j k n)

-- the bit at a place, counted from the highest
pub slice_get-bits_of : (k n i : ℕ) → i < k → slice_get (bits_of k n) i ≡ Some (bit_at n (k - 1 - i) == 1)
unfolding bits_of
slice_get-bits_of zero n i h = absurd (omega arith)
slice_get-bits_of (suc k) n zero h = let e : suc k - 1 - 0 ≡ k = omega arith in rw e
slice_get-bits_of (suc k) n (suc i) h =
    let e : suc k - 1 - suc i ≡ k - 1 - i = omega arith in
    let i_in : i < k = omega arith in
    rw e (slice_get-bits_of k n i i_in)

-- bits that lie below a shift are not changed by what was shifted
bits_of_low : (j k a b : ℕ) → j ≤ k → bits_of j (a * 2 ^ k + b) ≡ bits_of j b
unfolding bits_of
bits_of_low zero k a b h = refl
bits_of_low (suc j) k a b h =
    let in_low : j < k = omega arith in
    let j_le : j ≤ k = omega arith in
    rw (bit_at_cat_low a k b j in_low, bits_of_low j k a b j_le)

-- the bits of a number put together from two are those of the one and then of the other
pub bits_of-append : (j k a b : ℕ) → b < 2 ^ k → bits_of (j + k) (a * 2 ^ k + b) ≡ bits_of j a ++ bits_of k b
unfolding bits_of
bits_of-append zero k a b h =
    let e : 0 + k ≡ k = omega arith in
    let k_le : k ≤ k = omega arith in
    rw e (bits_of_low k k a b k_le)
bits_of-append (suc j) k a b h =
    let e : suc j + k ≡ suc (j + k) = omega arith in
    let k_le : k ≤ j + k = omega arith in
    let d : j + k - k ≡ j = omega arith in
    rw (e, bit_at_cat_high a k b (j + k) h k_le, d, bits_of-append j k a b h)
