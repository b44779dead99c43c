-- What is written of groups of hexadecimal digits.
use Rattle.std.proofs.Common.{◌≡◌, ℕ, ◌+◌, ◌/◌, ◌%◌, ◌<◌, ◌≤◌, List, [], ◌∷◌, ◌++◌, take, drop, ap, sym, ◌∙◌, inl, inr, arith, le-leb, lt-ltb, le-ltb, append_assoc}
use Rattle.std.proofs.lemmas.Bool.{lt-leb, cases_lt}
use Rattle.std.specs.Char.{digit_char}
use Rattle.std.specs.Net.Text.{hex, groups_text, longest_zero_run, hex_groups_text}
use Rattle.octet_text.specs.Written.{two_hex_digits}

-- a group below 16 has one digit
pub hex_one : (n : ℕ) → n < 16 → hex n ≡ digit_char (n % 16) ∷ []
unfolding hex
hex_one n h = rw (lt-leb 0x1000 n (omega arith), lt-leb 0x100 n (omega arith), lt-leb 0x10 n h)

-- and one below 256 two
pub hex_two : (n : ℕ) → 16 ≤ n → n < 256 → hex n ≡ digit_char (n / 16 % 16) ∷ digit_char (n % 16) ∷ []
unfolding hex
hex_two n more h = rw (lt-leb 0x1000 n (omega arith), lt-leb 0x100 n h, le-leb 0x10 n more)

-- and one below 4096 three
pub hex_three : (n : ℕ) → 256 ≤ n → n < 4096 → hex n ≡ digit_char (n / 256 % 16) ∷ digit_char (n / 16 % 16) ∷ digit_char (n % 16) ∷ []
unfolding hex
hex_three n more h = rw (lt-leb 0x1000 n h, le-leb 0x100 n more)

-- and any other four
pub hex_four : (n : ℕ) → 4096 ≤ n → hex n ≡ digit_char (n / 4096) ∷ digit_char (n / 256 % 16) ∷ digit_char (n / 16 % 16) ∷ digit_char (n % 16) ∷ []
unfolding hex
hex_four n more = rw (le-leb 0x1000 n more)

-- ---- in pairs

-- a group of two digits is one pair
pub hex_pair_only : (n : ℕ) → 16 ≤ n → n < 256 → hex n ≡ two_hex_digits n
hex_pair_only n more h = hex_two n more h

-- and one of more ends with a pair
pub hex_pair_last : (n : ℕ) → 256 ≤ n → n < 65536 → hex n ≡ hex (n / 256) ++ two_hex_digits (n % 256)
hex_pair_last n more h =
    let tens : n % 256 / 16 % 16 ≡ n / 16 % 16 = omega arith in
    let ones : n % 256 % 16 ≡ n % 16 = omega arith in
    elim (cases_lt n 4096) [
      | inl three ↦ hex_three n more three ∙ (λ i. digit_char (n / 256 % 16) ∷ digit_char (sym tens i) ∷ digit_char (sym ones i) ∷ [])
          ∙ sym (ap (λ t. t ++ two_hex_digits (n % 256)) (hex_one (n / 256) (omega arith)))
      | inr four ↦
          let first : n / 256 / 16 % 16 ≡ n / 4096 = omega arith in
          hex_four n four ∙ (λ i. digit_char (sym first i) ∷ digit_char (n / 256 % 16) ∷ digit_char (sym tens i) ∷ digit_char (sym ones i) ∷ [])
          ∙ sym (ap (λ t. t ++ two_hex_digits (n % 256)) (hex_two (n / 256) (omega arith) (omega arith)))
    ]

-- ---- groups together

-- without a run of two or more groups that are 0, all groups are written
pub whole_text : (groups : List ℕ) → (longest_zero_run groups).1 ≤ 1 → hex_groups_text groups ≡ groups_text groups
unfolding hex_groups_text
whole_text groups short = rw (le-ltb 1 (longest_zero_run groups).1 short)

-- and with one, those on each side of `::`
pub shortened_text : (groups : List ℕ) → 1 < (longest_zero_run groups).1
    → hex_groups_text groups
    ≡ groups_text (take (longest_zero_run groups).0 groups) ++ 58 ∷ 58 ∷ groups_text (drop ((longest_zero_run groups).0 + (longest_zero_run groups).1) groups)
unfolding hex_groups_text
shortened_text groups long =
    let run = longest_zero_run groups in
    rw (lt-ltb 1 run.1 long) (append_assoc (groups_text (take run.0 groups)) (58 ∷ 58 ∷ []) (groups_text (drop (run.0 + run.1) groups)))
