-- The decimals of numbers below 256, and what stands before them.
use Rattle.std.proofs.Common.{◌≡◌, ◌≢◌, ℕ, ◌+◌, ◌-◌, ◌<◌, ◌≤◌, List, [], ◌∷◌, ◌++◌, length, take, drop, get_or, decimal, refl, sym, ap, ◌∙◌, arith, inl, inr, length-append, append_assoc, take_at, drop_at, IsUtf8, Err, Result, Ok, length-drop, MatchOption}
use Rattle.std.proofs.lemmas.Bool.{cases_eq}
use Rattle.std.proofs.lemmas.List.{get_or_at, get_or-append_right}
use Rattle.std.proofs.lemmas.Fmt.{decimal_is_IsNumeral, decimal_digit, first_decimal, decimal-digits_value, parse-decimal, IsAscii-decimal}
use Rattle.std.proofs.lemmas.Str.Parse.{digit_at, numerals_by_value, tells_digits, parse_plus, parse_plain}
use Rattle.std.proofs.lemmas.Str.{IsUtf8-from_ascii}
use Rattle.std.specs.Result.{result_ok}
use Rattle.std.specs.Str.Parse.{ParsesUnsigned}

-- a text that is no decimal of a number below 256
abbrev pub IsNoLength : List ℕ → Type 0
IsNoLength text = (n : ℕ) → n < 256 → text ≢ decimal n

-- a text that begins with a plus or with 0 and goes on is none
pub low_no_length : (text : List ℕ) → 1 < length text → get_or text 0 0 < 49 → IsNoLength text
low_no_length text long low n fits e =
    elim (cases_eq n 0) [
      | inl none ↦ omega (arith, ap length e, ap (λ m. length (decimal m)) none, ap length (decimal_digit 0 (omega arith)))
      | inr some ↦ omega (arith, first_decimal n (omega arith) (omega arith), ap (λ t. get_or t 0 0) e)
    ]

-- a text that isn't UTF-8 is none
pub other_no_length : (text : List ℕ) → ¬ (IsUtf8 text) → IsNoLength text
other_no_length text other n fits e = other (rw e (IsUtf8-from_ascii (decimal n) (IsAscii-decimal n (omega arith))))

-- any other text is the decimal of the number that is parsed of it, and none where none is
pub parsed_length : {E : Type 0} (text : List ℕ) (r : Result ℕ E) → (get_or text 0 0 < 49 → length text ≤ 1) → ParsesUnsigned 8 10 text r
    → MatchOption (result_ok r) (IsNoLength text) (λ n. text ≡ decimal n)
parsed_length text (Err fault) short h = λ n fits e. let parsed = parse-decimal 8 n text (Err fault) fits (omega arith) e h in cc
parsed_length {E} text (Ok n) short h =
    let own = numerals_by_value _ tells_digits in
    elim (cases_eq (get_or text 0 0) 43) [
      | inl plus ↦
          let long : 1 < length text = omega (arith, (parse_plus own {E = E} 8 text (Ok n) h plus).0.1, length-drop 1 text) in
          absurd (omega (arith, short (omega arith)))
      | inr plain ↦
          let read = parse_plain own {E = E} 8 text (Ok n) h plain in
          sym (decimal-digits_value own text read.0.0 read.0.1 (λ e. omega (arith, read.0.1, short (omega arith))) (omega (arith, read.0.2))) ∙ ap decimal (sym read.1)
    ]

-- no slash stands in a decimal
pub digits_behind : (front : List ℕ) (n k : ℕ) → n < 256 → length front < k → k < length front + (1 + length (decimal n)) → get_or (front ++ 47 ∷ decimal n) k 0 ≢ 47
digits_behind front n k fits behind inside slash =
    let digits = (decimal_is_IsNumeral n (omega arith)).0.1 in
    let j : ℕ = k - (length front + 1) in
    let shown : get_or (front ++ 47 ∷ decimal n) k 0 ≡ get_or (decimal n) j 0 =
    ap (λ t. get_or t k 0) (sym (append_assoc front (47 ∷ []) (decimal n)))
    ∙ get_or-append_right (front ++ (47 ∷ [])) (decimal n) (length front + 1) k 0 (length-append front (47 ∷ [])) (omega arith) in
    let digit = digit_at (decimal n) j digits (omega arith) in
    omega (arith, digit)

-- where a decimal stands behind a slash that no slash follows, the text is known on each side
pub split_at_slash : (text front : List ℕ) (n at : ℕ) → n < 256 → text ≡ front ++ 47 ∷ decimal n → at < length text → get_or text at 0 ≡ 47
    → ((k : ℕ) → at < k → k < length text → get_or text k 0 ≢ 47) → (take at text ≡ front) × (drop (at + 1) text ≡ decimal n)
split_at_slash text front n at fits e within slash last =
    let long : length text ≡ length front + (1 + length (decimal n)) = omega (arith, ap length e, length-append front (47 ∷ decimal n)) in
    let there : get_or text (length front) 0 ≡ 47 = ap (λ t. get_or t (length front) 0) e ∙ get_or_at front 47 (decimal n) 0 (length front) refl in
    let behind : ¬ (length front < at) = λ h. digits_behind front n at fits h (omega arith) (sym (ap (λ t. get_or t at 0) e) ∙ slash) in
    let before : ¬ (at < length front) = λ h. last (length front) h (omega arith) there in
    let same : length front ≡ at = omega (arith, behind, before) in
    let next : length (front ++ (47 ∷ [])) ≡ at + 1 = omega (arith, length-append front (47 ∷ [])) in (
      ap (take at) e ∙ take_at front (47 ∷ decimal n) at same,
      ap (drop (at + 1)) (e ∙ sym (append_assoc front (47 ∷ []) (decimal n))) ∙ drop_at (front ++ (47 ∷ [])) (decimal n) (at + 1) next,
    )

-- a text with a slash and a decimal behind it has a slash
pub slash_inside : (text front : List ℕ) (n : ℕ) → text ≡ front ++ 47 ∷ decimal n → ((k : ℕ) → k < length text → get_or text k 0 ≢ 47) → ⊥
slash_inside text front n e none =
    let long : length text ≡ length front + (1 + length (decimal n)) = omega (arith, ap length e, length-append front (47 ∷ decimal n)) in
    none (length front) (omega arith) (ap (λ t. get_or t (length front) 0) e ∙ get_or_at front 47 (decimal n) 0 (length front) refl)
