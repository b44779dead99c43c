-- How many bits two numbers share, and two lists of bits.
use Rattle.std.proofs.Common.{◌≡◌, ℕ, zero, suc, ◌+◌, ◌-◌, ◌*◌, ◌^◌, ◌%◌, ◌<◌, ◌==◌, Bool, false, List, [], ◌∷◌, ◌++◌, length, take, replicate, refl, ap, sym, ◌∙◌, arith, mod-eq_of_lt}
use Rattle.std.specs.Prelude.{bit_xor, min}
use Rattle.std.specs.Int.{bit_at}
use Rattle.std.specs.Int.Count.{count_leading_zeros, leading_unique}
use Rattle.std.proofs.lemmas.Nat.{leading_length, mod-pow-add, pow_pos, xor_lt}
use Rattle.std.proofs.lemmas.Nat.Bits.{bit_at-lt, bit_at_xor}
use Rattle.ip_prefix.specs.Bits.{bits_of}
use Rattle.ip_prefix.specs.Turns.{shared}

-- ---- numbers

-- a digit 1 at the top leaves no zeros before it
leading_none : (k low : ℕ) → low < 2 ^ k → count_leading_zeros (suc k) (1 * 2 ^ k + low) ≡ 0
leading_none k low h = sym (leading_unique (suc k) (1 * 2 ^ k + low) 0 (suc k) (omega arith) (omega arith) (omega arith))

-- a digit 0 at the top is one zero more
leading_more : (k low : ℕ) → low < 2 ^ k → count_leading_zeros (suc k) (0 * 2 ^ k + low) ≡ suc (count_leading_zeros k low)
leading_more k low h =
    let found = leading_length k low h in
    sym (leading_unique (suc k) (0 * 2 ^ k + low) (suc (count_leading_zeros k low)) found.0 (omega (arith, found.1)) (omega (arith, found.2)) (omega (arith, found.3)))

-- digits that are the same are shared, and then what is shared below them
shared_digits : (k c d low : ℕ) (xs ys : List Bool) → c < 2 → d < 2 → low < 2 ^ k → count_leading_zeros k low ≡ length (shared xs ys)
    → count_leading_zeros (suc k) ((c + d) % 2 * 2 ^ k + low) ≡ length (shared ((c == 1) ∷ xs) ((d == 1) ∷ ys))
shared_digits k zero zero low xs ys c_in d_in fits e = leading_more k low fits ∙ ap suc e
shared_digits k zero (suc zero) low xs ys c_in d_in fits e = leading_none k low fits
shared_digits k (suc zero) zero low xs ys c_in d_in fits e = leading_none k low fits
shared_digits k (suc zero) (suc zero) low xs ys c_in d_in fits e = leading_more k low fits ∙ ap suc e
shared_digits k (suc (suc c)) d low xs ys c_in d_in fits e = absurd (omega arith)
shared_digits k c (suc (suc d)) low xs ys c_in d_in fits e = absurd (omega arith)

-- the lowest k bits of two numbers share as many as zeros stand before where they differ
shared_low : (k a b : ℕ) → count_leading_zeros k (bit_xor a b % 2 ^ k) ≡ length (shared (bits_of k a) (bits_of k b))
unfolding bits_of
shared_low zero a b = sym (leading_unique 0 (bit_xor a b % 2 ^ 0) 0 0 (omega arith) (omega arith) (omega arith))
shared_low (suc k) a b =
    let e : suc k ≡ 1 + k = omega arith in
    let low : ℕ = bit_xor a b % 2 ^ k in
    let fits : low < 2 ^ k = omega (arith, pow_pos k) in
    let split : bit_xor a b % 2 ^ suc k ≡ bit_at (bit_xor a b) k * 2 ^ k + low = ap (λ j. bit_xor a b % 2 ^ j) e ∙ mod-pow-add (bit_xor a b) 1 k in
    ap (count_leading_zeros (suc k)) (split ∙ ap (λ digit. digit * 2 ^ k + low) (bit_at_xor a b k))
    ∙ shared_digits k (bit_at a k) (bit_at b k) low (bits_of k a) (bits_of k b) (bit_at-lt a k) (bit_at-lt b k) fits (shared_low k a b)

-- so with numbers of k bits
pub leading-shared : (k a b : ℕ) → a < 2 ^ k → b < 2 ^ k → count_leading_zeros k (bit_xor a b) ≡ length (shared (bits_of k a) (bits_of k b))
leading-shared k a b a_in b_in =
    ap (count_leading_zeros k) (sym (mod-eq_of_lt (xor_lt k a b a_in b_in))) ∙ shared_low k a b

-- ---- lists of different lengths, filled with zeros

-- the bits, and zeros behind them, 128 in all
abbrev pub filled : List Bool → List Bool
filled bits = bits ++ replicate (128 - length bits) false

-- as many are shared as of the filled ones, but no more than either has
pub length-shared : (xs ys : List Bool) (m n : ℕ) → length xs + m ≡ length ys + n
    → length (shared xs ys) ≡ min (min (length (shared (xs ++ replicate m false) (ys ++ replicate n false))) (length xs)) (length ys)
length-shared [] ys m n e = omega arith
length-shared (x ∷ xs) [] m n e = omega arith
length-shared (x ∷ xs) (y ∷ ys) m n e = let more = length-shared xs ys m n (omega arith) in grind arith

-- what is shared are the first bits of the one
pub shared-front : (xs ys : List Bool) → take (length (shared xs ys)) xs ≡ shared xs ys
shared-front [] ys = refl
shared-front (x ∷ xs) [] = refl
shared-front (x ∷ xs) (y ∷ ys) = grind (arith, shared-front xs ys)
