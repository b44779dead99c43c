-- Whether bits begin with others, told by the numbers whose highest bits they are.
use Rattle.std.proofs.Common.{◌≡◌, ℕ, ◌+◌, ◌-◌, ◌*◌, ◌^◌, ◌/◌, ◌%◌, ◌<◌, ◌≤◌, ◌==◌, Bool, true, false, List, [], ◌∷◌, length, take, refl, ap, sym, subst, ◌∙◌, arith, eqb-true, eq-eqb}
use denote.Enum.Bare.{sameb}
use Rattle.ip_prefix.specs.declared.addr.Family.{Family}
use Rattle.ip_prefix.specs.contracts.addr.Family.{the_type}
use Rattle.ip_prefix.specs.Network.{Address, Network, IsFront, begin_with, contains}
use Rattle.ip_prefix.specs.Bits.{bits_of, number_of}
use Rattle.ip_prefix.specs.Kept.{length-bits_of, number-highest}
use Rattle.ip_prefix.specs.Turns.{covers}
use Rattle.octet_forms.proofs.Booleans.{same_tests}
use Rattle.ip_prefix.proofs.Masks.{first_bits, highest_none}

-- ---- families

-- the test of families finds only equal ones
pub family_same : (f g : Family) → sameb the_type f g ≡ true → f ≡ g
family_same f g e = grind arith

-- of one family, only the bits count
pub contains_same : (n : Network) (a : Address) → n.family ≡ a.family → contains n a ≡ begin_with n.bits a.bits
contains_same n a e = grind arith

-- so with two prefixes
pub covers_same : (n other : Network) → n.family ≡ other.family → covers n other ≡ begin_with n.bits other.bits
covers_same n other e = contains_same n record { family = other.family; bits = other.bits } e

-- a prefix covers none of another family
pub covers_other : (n other : Network) → sameb the_type n.family other.family ≡ false → covers n other ≡ false
covers_other n other e = grind arith

-- ---- lists of bits

-- bits that begin with others have them in front
pub front_of : (front bits : List Bool) → begin_with front bits ≡ true → IsFront front bits
front_of [] bits e = refl
front_of (x ∷ front) [] e = cc
front_of (x ∷ front) (y ∷ bits) e = grind (arith, front_of front bits)

-- and bits that have others in front begin with them
pub begin_from : (front bits : List Bool) → IsFront front bits → begin_with front bits ≡ true
begin_from [] bits e = refl
begin_from (x ∷ front) [] e = cc
begin_from (x ∷ front) (y ∷ bits) e = grind (arith, begin_from front bits)

-- bits begin with none that are longer
pub begin_longer : (front bits : List Bool) → length bits < length front → begin_with front bits ≡ false
begin_longer [] bits h = absurd (omega arith)
begin_longer (x ∷ front) [] h = refl
begin_longer (x ∷ front) (y ∷ bits) h = grind (arith, begin_longer front bits)

-- ---- numbers

-- the w highest bits of b begin with the j highest of a, which has none below them, if b is a once it has none below them either
pub begin_with-highest : (j w a b : ℕ) → j ≤ w → w ≤ 128 → a < 2 ^ 128 → b < 2 ^ 128 → a % 2 ^ (128 - j) ≡ 0
    → (b / 2 ^ (128 - j) * 2 ^ (128 - j) == a) ≡ begin_with (bits_of j (a / 2 ^ (128 - j))) (bits_of w (b / 2 ^ (128 - w)))
begin_with-highest j w a b within w_le a_in b_in a_none = same_tests (masked == a) (begin_with front bits) there back
  where
    masked : ℕ
    masked = b / 2 ^ (128 - j) * 2 ^ (128 - j)

    front : List Bool
    front = bits_of j (a / 2 ^ (128 - j))

    bits : List Bool
    bits = bits_of w (b / 2 ^ (128 - w))

    first : bits_of j (masked / 2 ^ (128 - j)) ≡ take j bits
    first = first_bits w b j within w_le

    there : (masked == a) ≡ true → begin_with front bits ≡ true
    there e =
        begin_from front bits (ap (λ k. take k bits) (length-bits_of j (a / 2 ^ (128 - j))) ∙ sym first ∙ ap (λ n. bits_of j (n / 2 ^ (128 - j))) (eqb-true masked a e))

    back : begin_with front bits ≡ true → (masked == a) ≡ true
    back e =
        let all : 128 ≡ j + (128 - j) = omega arith in
        let same : bits_of j (masked / 2 ^ (128 - j)) ≡ front = first ∙ ap (λ k. take k bits) (sym (length-bits_of j (a / 2 ^ (128 - j)))) ∙ front_of front bits e in
        let kept = highest_none b j b_in in
        eq-eqb masked a
        (sym (number-highest j (128 - j) masked (subst (λ k. masked < 2 ^ k) all kept.0) kept.1)
        ∙ ap (λ l. number_of l * 2 ^ (128 - j)) same
        ∙ number-highest j (128 - j) a (subst (λ k. a < 2 ^ k) all a_in) a_none)
