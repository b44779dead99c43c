-- The number that octets spell has their bits.
use Rattle.std.proofs.Common.{◌≡◌, ℕ, suc, ◌+◌, ◌*◌, ◌^◌, ◌/◌, ◌<◌, List, [], ◌∷◌, ◌++◌, length, get_or, refl, ap, sym, subst, ◌∙◌, append_assoc, arith, pow-add, length-append}
use Rattle.std.specs.Int.{w128, from_be_bytes}
use Rattle.std.specs.List.{AllByRecursion}
use Rattle.std.proofs.lemmas.Nat.{mul-add-lt}
use Rattle.ip_prefix.specs.Bits.{bits_of, bits_of_octets}
use Rattle.ip_prefix.specs.Kept.{length-bits_of}
use Rattle.ip_prefix.proofs.BitLists.{bits_of-append}
use Rattle.octet_forms.proofs.Lists.{AllByRecursion-from_get_or}

-- a number that an octet has
abbrev pub IsOctet : ℕ → Type 0
IsOctet n = n < 256

-- each of them is an octet
abbrev pub AllOctets : List ℕ → Type 0
AllOctets octets = AllByRecursion IsOctet octets

-- where each place has an octet, all are
pub AllOctets-from : (octets : List ℕ) → ((i : ℕ) → get_or octets i 0 < 256) → AllOctets octets
AllOctets-from octets each = AllByRecursion-from_get_or IsOctet octets 0 (λ i within. each i)

-- eight bits for each octet
pub length-bits_of_octets : (octets : List ℕ) → length (bits_of_octets octets) ≡ 8 * length octets
length-bits_of_octets [] = refl
length-bits_of_octets (octet ∷ octets) =
    omega (arith, length-append (bits_of 8 octet) (bits_of_octets octets), length-bits_of 8 octet, length-bits_of_octets octets)

-- the bits of octets behind octets
pub bits_of_octets-append : (xs ys : List ℕ) → bits_of_octets (xs ++ ys) ≡ bits_of_octets xs ++ bits_of_octets ys
bits_of_octets-append [] ys = refl
bits_of_octets-append (x ∷ xs) ys =
    ap (λ bits. bits_of 8 x ++ bits) (bits_of_octets-append xs ys) ∙ sym (append_assoc (bits_of 8 x) (bits_of_octets xs) (bits_of_octets ys))

-- the number that octets spell in base 256, the first of them the highest
abbrev number_of_octets : List ℕ → ℕ
number_of_octets [] = 0
number_of_octets (octet ∷ octets) = octet * 2 ^ (8 * length octets) + number_of_octets octets

-- it has no more bits than the octets
number_of_octets_lt : (octets : List ℕ) → AllOctets octets → number_of_octets octets < 2 ^ (8 * length octets)
number_of_octets_lt [] h = omega arith
number_of_octets_lt (octet ∷ octets) h =
    let more : 8 * length octets + 8 ≡ 8 * suc (length octets) = omega arith in
    subst (λ m. octet * 2 ^ (8 * length octets) + number_of_octets octets < m)
    (sym (pow-add 2 (8 * length octets) 8) ∙ ap (λ k. 2 ^ k) more)
    (mul-add-lt octet (2 ^ (8 * length octets)) (number_of_octets octets) 256 h.0 (number_of_octets_lt octets h.1))

-- and its bits are theirs
bits_of-number_of_octets : (octets : List ℕ) → AllOctets octets → bits_of (8 * length octets) (number_of_octets octets) ≡ bits_of_octets octets
unfolding bits_of
bits_of-number_of_octets [] h = refl
bits_of-number_of_octets (octet ∷ octets) h =
    let k : ℕ = 8 * length octets in
    let more : 8 * suc (length octets) ≡ 8 + k = omega arith in
    ap (λ j. bits_of j (octet * 2 ^ k + number_of_octets octets)) more
    ∙ bits_of-append 8 k octet (number_of_octets octets) (number_of_octets_lt octets h.1)
    ∙ ap (λ bits. bits_of 8 octet ++ bits) (bits_of-number_of_octets octets h.1)

-- sixteen octets read as one number
from_be_bytes-is : (octets : List ℕ) → length octets ≡ 16 → from_be_bytes w128 octets ≡ number_of_octets octets
from_be_bytes-is (a ∷ b ∷ c ∷ d ∷ e ∷ f ∷ g ∷ h ∷ i ∷ j ∷ k ∷ l ∷ m ∷ n ∷ o ∷ p ∷ []) size = omega arith
from_be_bytes-is _ size = absurd (omega arith)

-- the bits of that number are those of the octets
pub bits_of-from_be_bytes : (octets : List ℕ) → length octets ≡ 16 → AllOctets octets → bits_of 128 (from_be_bytes w128 octets / 1) ≡ bits_of_octets octets
bits_of-from_be_bytes octets size h =
    let whole : number_of_octets octets / 1 ≡ number_of_octets octets = omega arith in
    ap (λ n. bits_of 128 (n / 1)) (from_be_bytes-is octets size) ∙ ap (bits_of 128) whole
    ∙ ap (λ k. bits_of (8 * k) (number_of_octets octets)) (sym size)
    ∙ bits_of-number_of_octets octets h
