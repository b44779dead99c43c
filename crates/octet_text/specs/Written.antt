-- Private.
-- Texts that are written into slices, and the texts of small numbers.
use Rattle.std.specs.Prelude.{◌≡◌, ℕ, ◌+◌, ◌/◌, ◌%◌, List, [], ◌∷◌, ◌++◌, length, take, flat_map}
use Rattle.std.specs.Char.{digit_char}
use Rattle.octet_text.specs.declared.cursor.TheConstants.{SPACE}

-- `new` is `old` with `text` written at offset `at`: the octets before it are unchanged, `end` is the offset
-- after it, and the octets from `end` on are unspecified, but as many as in `old`
pub record IsWritten (old : List ℕ) (at : ℕ) (text new : List ℕ) (end : ℕ) : Type 0 where
  pub front : take end new ≡ take at old ++ text
  pub behind : end ≡ at + length text
  pub size : length new ≡ length old

-- the concatenation of the words, each with the octet `separator` after it, the last too
abbrev pub ended_words : ℕ → List (List ℕ) → List ℕ
ended_words separator words = flat_map (λ word. word ++ separator ∷ []) words

-- the last three decimal digits of `n` in ASCII: if `n` is below 100, with leading zeros, and if it is above
-- 999, without its higher digits
abbrev pub three_digits : ℕ → List ℕ
three_digits n = (48 + n / 100 % 10) ∷ (48 + n / 10 % 10) ∷ (48 + n % 10) ∷ []

-- four octets: the first three of `digits`, with spaces after them if there are fewer, and then, as a digit
-- in ASCII, how many `digits` has; there must be fewer than 10
abbrev pub left_aligned_digits : List ℕ → List ℕ
left_aligned_digits digits = take 3 (digits ++ SPACE ∷ SPACE ∷ SPACE ∷ []) ++ (48 + length digits) ∷ []

-- the last two hexadecimal digits of a number in lower-case ASCII, with leading zeros
abbrev pub two_hex_digits : ℕ → List ℕ
two_hex_digits n = digit_char (n / 16 % 16) ∷ digit_char (n % 16) ∷ []
