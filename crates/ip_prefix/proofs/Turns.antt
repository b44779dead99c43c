-- Turns between prefixes, told by their families and bits.
use Rattle.std.proofs.Common.{◌≡◌, ◌≢◌, ◌≤◌, ◌↔◌, Some, length, arith, Bool, true, false, List, [], ◌∷◌, ◌++◌, refl, ap, sym, ◌∙◌}
use Rattle.std.specs.Prelude.{slice_get}
use Rattle.ip_prefix.specs.Network.{Network, begin_with}
use Rattle.ip_prefix.specs.Turns.{covers, way, turn_of, side, shared, half, common, family_bit}
use Rattle.ip_prefix.specs.declared.addr.Family.{Family}
use Rattle.ip_prefix.specs.declared.turn.Turn.TheVariants.{Outside, Here}
use Rattle.ip_prefix.proofs.Beginning.{covers_same}
use Rattle.ip_prefix.proofs.Containing.{covers_parts, covers_from}
use Rattle.ip_prefix.proofs.Shared.{shared-front}

-- ---- what is covered

-- a prefix covers those whose ways begin with its way
pub covers-way : (m n : Network) → covers m n ≡ begin_with (way m) (way n)
unfolding way
covers-way m n = grind arith

-- the bits that don't begin with others lie outside
outside_from : (xs ys : List Bool) → begin_with xs ys ≡ false → turn_of xs ys ≡ Outside
outside_from [] ys e = cc
outside_from (x ∷ xs) [] e = refl
outside_from (x ∷ xs) (y ∷ ys) e = grind (arith, outside_from xs ys)

-- and only they do
outside_only : (xs ys : List Bool) → turn_of xs ys ≡ Outside → begin_with xs ys ≡ false
outside_only [] [] e = cc
outside_only [] (y ∷ ys) e = grind arith
outside_only (x ∷ xs) [] e = refl
outside_only (x ∷ xs) (y ∷ ys) e = grind (arith, outside_only xs ys)

-- the turn of bits from themselves
pub here_from : (xs : List Bool) → turn_of xs xs ≡ Here
here_from [] = refl
here_from (x ∷ xs) = grind (arith, here_from xs)

-- and from no others
pub here_only : (xs ys : List Bool) → turn_of xs ys ≡ Here → xs ≡ ys
here_only [] [] e = refl
here_only [] (y ∷ ys) e = grind arith
here_only (x ∷ xs) [] e = cc
here_only (x ∷ xs) (y ∷ ys) e = grind (arith, here_only xs ys)

-- the turn of bits that begin with others and a bit
side_from : (xs ys : List Bool) (bit : Bool) → begin_with (xs ++ bit ∷ []) ys ≡ true → turn_of xs ys ≡ side bit
side_from [] [] bit e = cc
side_from [] (y ∷ ys) bit e = grind arith
side_from (x ∷ xs) [] bit e = cc
side_from (x ∷ xs) (y ∷ ys) bit e = grind (arith, side_from xs ys bit)

-- and of no others
side_only : (xs ys : List Bool) (bit : Bool) → turn_of xs ys ≡ side bit → begin_with (xs ++ bit ∷ []) ys ≡ true
side_only [] [] bit e = grind arith
side_only [] (y ∷ ys) bit e = grind arith
side_only (x ∷ xs) [] bit e = grind arith
side_only (x ∷ xs) (y ∷ ys) bit e = grind (arith, side_only xs ys bit)

-- bits that are covered and aren't longer are the same
pub under_here : (xs ys : List Bool) → turn_of xs ys ≢ Outside → length ys ≤ length xs → turn_of xs ys ≡ Here
under_here [] [] h short = refl
under_here [] (y ∷ ys) h short = absurd (omega arith)
under_here (x ∷ xs) [] h short = absurd (h refl)
under_here (x ∷ xs) (y ∷ ys) h short = grind (arith, under_here xs ys)

-- and longer ones go on by the bit behind
pub under_side : (xs ys : List Bool) (bit : Bool) → turn_of xs ys ≢ Outside → slice_get ys (length xs) ≡ Some bit → turn_of xs ys ≡ side bit
under_side [] [] bit h e = cc
under_side [] (y ∷ ys) bit h e = grind arith
under_side (x ∷ xs) [] bit h e = absurd (h refl)
under_side (x ∷ xs) (y ∷ ys) bit h e = grind (arith, under_side xs ys bit)

-- prefixes of one way are the same
one_way : (m n : Network) → way m ≡ way n → m ≡ n
unfolding way
one_way m n e =
    let bits : m.bits ≡ n.bits = cc in
    λ i. record { family = families m.family n.family (cc) i; bits = bits i }
  where
    families : (f g : Family) → family_bit f ≡ family_bit g → f ≡ g
    families f g e = grind arith

-- a prefix lies outside exactly where it isn't covered
pub turn-outside : (m n : Network) → (turn_of (way m) (way n) ≡ Outside) ↔ (covers m n ≡ false)
turn-outside m n = (λ e. covers-way m n ∙ outside_only (way m) (way n) e, λ e. outside_from (way m) (way n) (sym (covers-way m n) ∙ e))

-- it lies here exactly where it is the other
pub turn-here : (m n : Network) → (turn_of (way m) (way n) ≡ Here) ↔ (m ≡ n)
turn-here m n = (λ e. one_way m n (here_only (way m) (way n) e), λ e. ap (λ k. turn_of (way m) (way k)) (sym e) ∙ here_from (way m))

-- it lies on a side exactly where the half of that side covers it
pub turn-side : (m n : Network) (bit : Bool) → (turn_of (way m) (way n) ≡ side bit) ↔ (covers (half m bit) n ≡ true)
unfolding way
turn-side m n bit = (λ e. covers-way (half m bit) n ∙ side_only (way m) (way n) bit e, λ e. side_from (way m) (way n) bit (sym (covers-way (half m bit) n) ∙ e))

-- ---- what covers both

-- others begin with what bits share with them
shared_second : (xs ys : List Bool) → begin_with (shared xs ys) ys ≡ true
shared_second [] ys = refl
shared_second (x ∷ xs) [] = refl
shared_second (x ∷ xs) (y ∷ ys) = grind (arith, shared_second xs ys)

-- what both begin with is in front of what they share
shared_most : (front xs ys : List Bool) → begin_with front xs ≡ true → begin_with front ys ≡ true → begin_with front (shared xs ys) ≡ true
shared_most [] xs ys e f = refl
shared_most (b ∷ front) [] ys e f = cc
shared_most (b ∷ front) (x ∷ xs) [] e f = cc
shared_most (b ∷ front) (x ∷ xs) (y ∷ ys) e f = grind (arith, shared_most front xs ys)

-- the prefix of the shared bits covers both
pub covers-common : (m n : Network) → m.family ≡ n.family → (covers (common m n) m ≡ true) × (covers (common m n) n ≡ true)
covers-common m n e = (covers_from (common m n) m refl (shared-front m.bits n.bits), covers_same (common m n) n e ∙ shared_second m.bits n.bits)

-- and those that cover both cover it
pub common_least : (m n other : Network) → covers other m ≡ true → covers other n ≡ true → covers other (common m n) ≡ true
common_least m n other p q =
    let one = (covers_parts other m p).0 in
    let two = (covers_parts other n q).0 in
    covers_same other (common m n) one ∙ shared_most other.bits m.bits n.bits (sym (covers_same other m one) ∙ p) (sym (covers_same other n two) ∙ q)
