-- The rules of the tables of digits.
use Rattle.std.proofs.Common.{◌≡◌, ℕ, zero, suc, ◌+◌, ◌/◌, ◌%◌, ◌^◌, ◌<◌, ◌≤◌, Bool, true, ◌&&◌, T, List, [], ◌∷◌, ◌++◌, length, get_or, take, drop, sym, decimal, arith, append_assoc, nat_eq}
use Rattle.std.proofs.lemmas.Fmt.{decimal_step}
use Rattle.std.proofs.lemmas.List.{get_or-take, get_or-drop}
use Rattle.std.specs.Cmp.Lexicographic.{pointwise, same_text}
use lib.Ieee.Fits.{and_r}
use Rattle.octet_text.specs.declared.digits.TheConstants.{DIGIT_ROWS, HEX_PAIRS}
use Rattle.std.specs.Fmt.{digits}
use Rattle.octet_text.specs.Written.{three_digits, left_aligned_digits, two_hex_digits}

-- whether the rows from a number on are those of the numbers
abbrev are_rows : (ℕ → List ℕ) → ℕ → List (List ℕ) → Bool
are_rows row n [] = true
are_rows row n (x ∷ rows) = pointwise nat_eq x (row n) && are_rows row (suc n) rows

pub row_at : (row : ℕ → List ℕ) (start : ℕ) (rows : List (List ℕ)) → T (are_rows row start rows) → (k n : ℕ) → start + k ≡ n → k < length rows
    → get_or rows k [] ≡ row n
row_at row start [] t k n e h = absurd (omega (arith, h))
row_at row start (x ∷ rows) t zero n e h =
    let here : start ≡ n = omega (arith, e) in
    let text = same_text x (row start) in
    grind arith
row_at row start (x ∷ rows) t (suc k) n e h =
    row_at row (suc start) rows (and_r (pointwise nat_eq x (row start)) (are_rows row (suc start) rows) t) k n (omega (arith, e)) (omega (arith, h))

-- a number below a thousand has its three digits
pub three_row_at : (n : ℕ) → n < 1000 → get_or DIGIT_ROWS (1000 + n) [] ≡ three_digits n ++ 32 ∷ []
three_row_at n h =
    rw (sym (get_or-drop 1000 DIGIT_ROWS n [])) (row_at (λ n. three_digits n ++ 32 ∷ []) 0 (drop 1000 DIGIT_ROWS) tt n n (omega arith) h)

-- and one below 256 its two hexadecimal ones
pub HEX_PAIRS_at : (n : ℕ) → n < 256 → get_or HEX_PAIRS n [] ≡ two_hex_digits n
HEX_PAIRS_at n h = row_at two_hex_digits 0 HEX_PAIRS tt n n (omega arith) h

-- ---- decimals

-- a number below a thousand has its decimal
pub short_row_at : (n : ℕ) → n < 1000 → get_or DIGIT_ROWS n [] ≡ left_aligned_digits (decimal n)
unfolding digits
short_row_at n h =
    rw (sym (get_or-take 1000 DIGIT_ROWS n [] h)) (row_at (λ n. left_aligned_digits (decimal n)) 0 (take 1000 DIGIT_ROWS) tt n n (omega arith) h)

-- a number of more digits ends with its last three
pub decimal_thousands : (n : ℕ) → 1000 ≤ n → n < 2 ^ 64 → decimal n ≡ decimal (n / 1000) ++ three_digits (n % 1000)
decimal_thousands n lo hi =
    let first : n / 10 / 10 / 10 ≡ n / 1000 = omega arith in
    let hundreds : n / 10 / 10 % 10 ≡ n % 1000 / 100 % 10 = omega arith in
    let tens : n / 10 % 10 ≡ n % 1000 / 10 % 10 = omega arith in
    let ones : n % 10 ≡ n % 1000 % 10 = omega arith in
    let three = decimal_step n (omega arith) hi in
    let two = decimal_step (n / 10) (omega arith) (omega arith) in
    let one = decimal_step (n / 10 / 10) (omega arith) (omega arith) in
    rw (three, two, one, first, hundreds, tens, ones) (simp append_assoc)

-- and one of seven or more with its last six
pub decimal_millions : (n : ℕ) → 1000000 ≤ n → n < 2 ^ 64
    → decimal n ≡ (decimal (n / 1000000) ++ three_digits (n % 1000000 / 1000)) ++ three_digits (n % 1000000 % 1000)
decimal_millions n lo hi =
    let first : n / 1000 / 1000 ≡ n / 1000000 = omega arith in
    let thousands : n / 1000 % 1000 ≡ n % 1000000 / 1000 = omega arith in
    let ones : n % 1000 ≡ n % 1000000 % 1000 = omega arith in
    let low = decimal_thousands n (omega arith) hi in
    let high = decimal_thousands (n / 1000) (omega arith) (omega arith) in
    rw (low, high, first, thousands, ones)
