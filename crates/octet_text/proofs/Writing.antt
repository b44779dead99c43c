-- How texts in a slice follow one another.
use Rattle.std.proofs.Common.{◌≡◌, ℕ, ◌+◌, ◌-◌, ◌<◌, ◌≤◌, List, [], ◌∷◌, ◌++◌, length, take, drop, set, refl, ap, sym, ◌∙◌, arith, append_assoc, slice_range, get_or, subst, length-append, length-take-le}
use Rattle.std.proofs.Math.Seq.{take-append-add}
use Rattle.std.proofs.lemmas.List.{take-append-le, length-set, take_more_set, take-take, drop-take}
use Rattle.std.proofs.lemmas.Grind.{common_steps}
use Rattle.octet_text.specs.Written.{IsWritten, left_aligned_digits}

-- the first octets of a row stand where it was put
pub written_row : (old row new : List ℕ) (at n : ℕ) → at + length row ≤ length old → n ≤ length row
    → new ≡ take at old ++ row ++ drop (at + length row) old → IsWritten old at (take n row) new (at + n)
written_row old row new at n room fits put =
    let before : length (take at old) ≡ at = length-take-le at old (omega (arith, room)) in
    let behind = drop (at + length row) old in
    record {
      front = ap (take (at + n)) (put ∙ append_assoc (take at old) row behind)
          ∙ ap (λ k. take (k + n) (take at old ++ (row ++ behind))) (sym before)
          ∙ take-append-add (take at old) (row ++ behind) n
          ∙ ap (λ l. take at old ++ l) (take-append-le n row behind fits);
      behind = omega (arith, length-take-le n row fits);
      size = grind (arith, common_steps);
    }

-- ---- a decimal in its row

-- the row of up to three digits: its last octet tells how many they are, as a digit, and they are its first octets
pub record IsRow (digits row : List ℕ) : Type 0 where
  pub size : length row ≡ 4
  pub last : get_or row 3 0 ≡ 48 + length digits
  pub front : take (length digits) row ≡ digits

pub filled_row : (digits : List ℕ) → length digits ≤ 3 → IsRow digits (left_aligned_digits digits)
filled_row [] h = record { size = refl; last = refl; front = refl }
filled_row (a ∷ []) h = record { size = refl; last = refl; front = refl }
filled_row (a ∷ b ∷ []) h = record { size = refl; last = refl; front = refl }
filled_row (a ∷ b ∷ c ∷ []) h = record { size = refl; last = refl; front = refl }
filled_row (a ∷ b ∷ c ∷ d ∷ more) h = absurd (omega (arith, h))

-- the digits are written where the row was put
pub written_digits : (digits old new : List ℕ) (at : ℕ) → length digits ≤ 3 → at + 4 ≤ length old
    → new ≡ take at old ++ left_aligned_digits digits ++ drop (at + length (left_aligned_digits digits)) old → IsWritten old at digits new (at + length digits)
written_digits digits old new at short room put =
    let row = filled_row digits short in
    subst (λ t. IsWritten old at t new (at + length digits)) row.front
    (written_row old (left_aligned_digits digits) new at (length digits) (omega (arith, row.size, room)) (omega (arith, row.size, short)) put)

-- ---- one behind another

-- one octet
pub written_octet : (old : List ℕ) (at x : ℕ) → at < length old → IsWritten old at (x ∷ []) (set old at x) (at + 1)
written_octet old at x room = record { front = take_more_set old at x room; behind = refl; size = length-set old at x }

-- a text behind another
pub written_then : (old mid new t u : List ℕ) (at k end : ℕ) → IsWritten old at t mid k → IsWritten mid k u new end → IsWritten old at (t ++ u) new end
written_then old mid new t u at k end first second = record {
  front = grind (arith, common_steps);
  behind = omega (arith, first.behind, second.behind, length-append t u);
  size = second.size ∙ first.size;
}

-- a prefix is an address, a mark and a number
pub written_marked : (old one two new t u : List ℕ) (at k x end : ℕ) → IsWritten old at t one k → k < length one → two ≡ set one k x
    → IsWritten two (k + 1) u new end → IsWritten old at (t ++ x ∷ u) new end
written_marked old one two new t u at k x end first room marked second =
    let mark : IsWritten one k (x ∷ []) two (k + 1) = subst (λ l. IsWritten one k (x ∷ []) l (k + 1)) (sym marked) (written_octet one k x room) in
    subst (λ l. IsWritten old at l new end) (append_assoc t (x ∷ []) u) (written_then old two new (t ++ x ∷ []) u at (k + 1) end (written_then old one two t (x ∷ []) at k (k + 1) first mark) second)

-- four texts with marks between them
pub four_marked : (a b c d : List ℕ) (x : ℕ) → (((a ++ x ∷ []) ++ (b ++ x ∷ [])) ++ (c ++ x ∷ [])) ++ d ≡ a ++ x ∷ b ++ x ∷ c ++ x ∷ d
four_marked a b c d x = grind (arith, common_steps)

-- ---- parts once more

-- a part of the front is one of the whole
pub range_in_front : (xs : List ℕ) (start end at : ℕ) → start ≤ end → end ≤ at → slice_range xs start end ≡ slice_range (take at xs) start end
range_in_front xs start end at order within =
    grind (arith, common_steps, drop-take start (at - start) xs, take-take (end - start) (at - start) (drop start xs))
