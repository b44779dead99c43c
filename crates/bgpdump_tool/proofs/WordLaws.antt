-- The pieces of a text by its first mark, and the decimals of numbers of 32 bits.
use Rattle.std.proofs.Common.{◌≡◌, ℕ, ◌+◌, ◌<◌, ◌==◌, true, false, List, [], ◌∷◌, length, take, drop, ap, ◌∙◌, arith, ◌^◌, inl, inr, length-drop, get_or, Result, Ok, Err, decimal, sym, IsUtf8}
use Rattle.std.proofs.lemmas.List.Elements.{All-from_all_within}
use Rattle.std.proofs.lemmas.List.Splits.{slice_split_none, slice_split_first, length-slice_split}
use Rattle.std.proofs.lemmas.List.Sums.{position_or_len_is}
use Rattle.std.specs.List.{AllWithin, HoldsAt, position_or_len}
use Rattle.bgpdump_lines.specs.Lines.{space}
use Rattle.bgpdump_tool.specs.Script.{split_at_marks, SpellsDecimal, SpellsStepCount}
use Rattle.std.proofs.lemmas.Bool.{cases_eq}
use Rattle.std.proofs.lemmas.Fmt.{IsAscii-decimal, decimal_digit, first_decimal, parse-decimal, decimal-digits_value, decimal_injective}
use Rattle.std.proofs.lemmas.Str.{IsUtf8-from_ascii}
use Rattle.std.proofs.lemmas.Str.Parse.{IsNumeralModel, numerals_by_value, tells_digits, parse_plain, parse_plus}
use Rattle.std.specs.Result.{result_ok}
use Rattle.std.specs.Str.Parse.{AllDigits, digits_value, ParsesUnsigned}
use Rattle.bgp_wire.specs.Path.{IsNoSpelling}
use Rattle.bgp_wire.specs.Readers.{ParsesTo}

abbrev pub IsMark : ℕ → ℕ → Type 0
IsMark mark octet = (octet == mark) ≡ true

abbrev pub IsNoMark : ℕ → ℕ → Type 0
IsNoMark mark octet = (octet == mark) ≡ false

-- a text without a mark is one piece
pub pieces_alone : (mark : ℕ) (text : List ℕ) → AllWithin (IsNoMark mark) text 0 (length text) → split_at_marks mark text ≡ text ∷ []
pieces_alone mark text none = slice_split_none (λ octet. octet == mark) text (All-from_all_within (IsNoMark mark) text none)

-- the first mark ends the first piece
pub pieces_split : (mark : ℕ) (text : List ℕ) (at : ℕ) → at < length text → HoldsAt (IsMark mark) text at → AllWithin (IsNoMark mark) text 0 at
    → split_at_marks mark text ≡ take at text ∷ split_at_marks mark (drop (at + 1) text)
pieces_split mark text at within here before =
    let first : position_or_len (λ octet. octet == mark) text ≡ at = position_or_len_is _ text at 0 (omega (arith, within)) (λ k h. before k 0 (omega arith) h) (λ h. here 0) in
    slice_split_first _ text 0 (omega (arith, first, within)) ∙ ap (λ k. take k text ∷ split_at_marks mark (drop (k + 1) text)) first

-- there is always a word
pub words_some : (line : List ℕ) → 0 < length (split_at_marks space line)
words_some line = omega (arith, length-slice_split (λ octet. octet == space) line)

-- ---- decimals

-- of several octets the first is neither a sign nor a zero
abbrev pub BeginsPlainly : List ℕ → Type 0
BeginsPlainly word = 1 < length word → 48 < get_or word 0 0

decimal_begins_plainly : (n : ℕ) → n < 2 ^ 32 → BeginsPlainly (decimal n)
decimal_begins_plainly n fits long =
    elim (cases_eq n 0) [
      | inl none ↦ absurd (omega (arith, long, ap (λ m. length (decimal m)) none, ap length (decimal_digit 0 (omega arith))))
      | inr some ↦ first_decimal n (omega arith) (omega arith)
    ]

-- a word that begins otherwise is none
pub marked_no_decimal : (word : List ℕ) → (BeginsPlainly word → ⊥) → IsNoSpelling SpellsDecimal word
marked_no_decimal word other n (fits, e) = other (rw e (decimal_begins_plainly n fits))

-- nor is one that is no text
pub no_text_no_decimal : (word : List ℕ) → ¬ (IsUtf8 word) → IsNoSpelling SpellsDecimal word
no_text_no_decimal word other n (fits, e) = other (rw e (IsUtf8-from_ascii (decimal n) (IsAscii-decimal n (omega arith))))

own : IsNumeralModel (AllDigits 10) (digits_value 10)
own = numerals_by_value _ tells_digits

-- any other is the decimal of the number that is parsed, and none where none is parsed
pub parsed_decimal : {E : Type 0} (word : List ℕ) (r : Result ℕ E) → BeginsPlainly word → ParsesUnsigned 32 10 word r → ParsesTo SpellsDecimal word (result_ok r)
parsed_decimal {E = E} word (Err fault) plainly parsed = λ n (fits, e).
    let same : ◌≡◌ {A = Result ℕ E} (Err fault) (Ok n) = parse-decimal 32 n word (Err fault) fits (omega arith) e parsed in
    cc
parsed_decimal {E = E} word (Ok n) plainly parsed =
    elim (cases_eq (get_or word 0 0) 43) [
      | inl plus ↦ absurd (omega (arith, plainly (omega (arith, (parse_plus own {E = E} 32 word (Ok n) parsed plus).0.1, length-drop 1 word)), plus))
      | inr plain ↦
          let value : (AllDigits 10 word × (0 < length word) × (digits_value 10 word < 2 ^ 32)) × (n ≡ digits_value 10 word) = parse_plain own {E = E} 32 word (Ok n) parsed plain in
          let alone : get_or word 0 0 ≡ 48 → length word ≡ 1 = λ zero_first.
          let short : ¬ (1 < length word) = λ long. omega (arith, plainly long, zero_first) in
          omega (arith, short, value.0.1)
          in
          (omega (arith, value.0.2, value.1), sym (ap decimal value.1 ∙ decimal-digits_value own word value.0.0 value.0.1 alone (omega (arith, value.0.2))))
    ]

-- a word of 0 says no number of times
pub zero_no_times : (word : List ℕ) (n : ℕ) → n ≡ 0 → SpellsDecimal n word → IsNoSpelling SpellsStepCount word
zero_no_times word n zero (fits, e) m (some, (small, f)) = omega (arith, zero, some, decimal_injective m n (omega arith) (omega arith) (sym f ∙ e))
