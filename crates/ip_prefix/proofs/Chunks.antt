-- The octets and the groups of a list of bits.
use Rattle.std.proofs.Common.{◌≡◌, ℕ, zero, suc, ◌+◌, ◌*◌, ◌^◌, ◌/◌, ◌%◌, ◌<◌, ◌≤◌, Bool, true, false, List, [], ◌∷◌, ◌++◌, length, take, drop, get_or, refl, sym, ap, ap₂, ◌∙◌, arith, take-append-drop, append_assoc, length-drop, length-take-le, take_at, drop_at, lit≤}
use Rattle.std.proofs.lemmas.List.{drop-drop, drop_all, length-take}
use Rattle.std.proofs.Math.Nat.{pow-suc, mod-eq_of_lt, pow-le-pow_right}
use Rattle.std.specs.Net.Addr.{octets_of}
use Rattle.std.proofs.NetLemmas.Arrays.{four_items, eight_items}
use Rattle.std.proofs.NetLemmas.Texts.{AllSegments}
use Rattle.ip_prefix.specs.declared.addr.Family.TheVariants.{V4, V6}
use Rattle.ip_prefix.specs.Bits.{number_of, bits_of, bits_of_octets}
use Rattle.ip_prefix.specs.Kept.{length-bits_of, number_of-bits_of}
use Rattle.ip_prefix.specs.Network.{Address, octet_at, group_at, groups_of}
use Rattle.ip_prefix.specs.Text.{octets_of_v4}
use Rattle.ip_prefix.proofs.BitLists.{bits_of-append}
use Rattle.ip_prefix.proofs.Octets.{length-bits_of_octets}

-- ---- numbers and their bits

-- so many bits spell a number below that power of two
pub number_of-lt : (bits : List Bool) → number_of bits < 2 ^ length bits
unfolding number_of
number_of-lt [] = omega arith
number_of-lt (true ∷ bits) = omega (arith, number_of-lt bits, pow-suc 2 (length bits))
number_of-lt (false ∷ bits) = omega (arith, number_of-lt bits, pow-suc 2 (length bits))

-- the bits are got back from the number
pub bits_of-number_of : (bits : List Bool) → bits_of (length bits) (number_of bits) ≡ bits
unfolding number_of bits_of
bits_of-number_of [] = refl
bits_of-number_of (true ∷ bits) =
    let one : suc (length bits) ≡ 1 + length bits = omega arith in
    ap (λ k. bits_of k (1 * 2 ^ length bits + number_of bits)) one
    ∙ bits_of-append 1 (length bits) 1 (number_of bits) (number_of-lt bits) ∙ ap (λ t. true ∷ t) (bits_of-number_of bits)
bits_of-number_of (false ∷ bits) =
    let one : suc (length bits) ≡ 1 + length bits = omega arith in
    ap (λ k. bits_of k (0 * 2 ^ length bits + number_of bits)) one
    ∙ bits_of-append 1 (length bits) 0 (number_of bits) (number_of-lt bits) ∙ ap (λ t. false ∷ t) (bits_of-number_of bits)

-- the number of so many bits at most
number_of-part : (n : ℕ) (bits : List Bool) → number_of (take n bits) < 2 ^ n
number_of-part n bits =
    let most : 2 ^ length (take n bits) ≤ 2 ^ n = pow-le-pow_right (lit≤ tt) (omega (arith, length-take n bits)) in
    omega (arith, number_of-lt (take n bits), most)

-- bits of one length that spell one number are the same
same_bits : (a b : List Bool) → length a ≡ length b → number_of a ≡ number_of b → a ≡ b
same_bits a b long same = sym (bits_of-number_of a) ∙ (λ i. bits_of (long i) (same i)) ∙ bits_of-number_of b

-- lists of bits are the same from a place on, where a part there spells one number and the rest is the same
chunk : (n i : ℕ) (a b : List Bool) → i + n ≤ length a → i + n ≤ length b
    → number_of (take n (drop i a)) ≡ number_of (take n (drop i b)) → drop (i + n) a ≡ drop (i + n) b → drop i a ≡ drop i b
chunk n i a b in_a in_b same rest =
    let long_a = length-take-le n (drop i a) (omega (arith, length-drop i a)) in
    let long_b = length-take-le n (drop i b) (omega (arith, length-drop i b)) in
    let front = same_bits (take n (drop i a)) (take n (drop i b)) (long_a ∙ sym long_b) same in
    let back = drop-drop n i a ∙ rest ∙ sym (drop-drop n i b) in
    sym (take-append-drop n (drop i a)) ∙ ap₂ ◌++◌ front back ∙ take-append-drop n (drop i b)

-- ---- bits and their octets and groups

-- 32 bits are known by their octets
pub bits_from_octets : (a b : List Bool) → length a ≡ 32 → length b ≡ 32
    → octets_of_v4 (record { family = V4; bits = a }) ≡ octets_of_v4 (record { family = V4; bits = b }) → a ≡ b
unfolding octet_at
bits_from_octets a b long_a long_b e =
    let end = drop_all 32 a (omega arith) ∙ sym (drop_all 32 b (omega arith)) in
    let at = λ (i : ℕ). ap (λ t. get_or t i 0) e in
    chunk 8 0 a b (omega arith) (omega arith) (at 0)
    (chunk 8 8 a b (omega arith) (omega arith) (at 1)
    (chunk 8 16 a b (omega arith) (omega arith) (at 2)
    (chunk 8 24 a b (omega arith) (omega arith) (at 3) end)))

-- and 128 by their groups
pub bits_from_groups : (a b : List Bool) → length a ≡ 128 → length b ≡ 128
    → groups_of (record { family = V6; bits = a }) ≡ groups_of (record { family = V6; bits = b }) → a ≡ b
unfolding group_at
bits_from_groups a b long_a long_b e =
    let end = drop_all 128 a (omega arith) ∙ sym (drop_all 128 b (omega arith)) in
    let at = λ (i : ℕ). ap (λ t. get_or t i 0) e in
    chunk 16 0 a b (omega arith) (omega arith) (at 0)
    (chunk 16 16 a b (omega arith) (omega arith) (at 1)
    (chunk 16 32 a b (omega arith) (omega arith) (at 2)
    (chunk 16 48 a b (omega arith) (omega arith) (at 3)
    (chunk 16 64 a b (omega arith) (omega arith) (at 4)
    (chunk 16 80 a b (omega arith) (omega arith) (at 5)
    (chunk 16 96 a b (omega arith) (omega arith) (at 6)
    (chunk 16 112 a b (omega arith) (omega arith) (at 7) end)))))))

-- ---- octets and their bits

-- the first bits, as many as a number has
first_part : (n x : ℕ) (rest : List Bool) → x < 2 ^ n → number_of (take n (bits_of n x ++ rest)) ≡ x
first_part n x rest fits = ap number_of (take_at (bits_of n x) rest n (length-bits_of n x)) ∙ number_of-bits_of n x ∙ mod-eq_of_lt fits

-- the bits behind these
later_part : (n k x : ℕ) (rest : List Bool) → drop (n + k) (bits_of n x ++ rest) ≡ drop k rest
later_part n k x rest = sym (drop-drop k n (bits_of n x ++ rest)) ∙ ap (drop k) (drop_at (bits_of n x) rest n (length-bits_of n x))

-- an octet is found among the bits of all
octet_part : (octets : List ℕ) (i : ℕ) → ((k : ℕ) → get_or octets k 0 < 256) → i < length octets
    → number_of (take 8 (drop (8 * i) (bits_of_octets octets))) ≡ get_or octets i 0
octet_part [] i fits within = absurd (omega arith)
octet_part (x ∷ octets) zero fits within = first_part 8 x (bits_of_octets octets) (fits 0)
octet_part (x ∷ octets) (suc i) fits within =
    let next : 8 * suc i ≡ 8 + 8 * i = omega arith in
    ap (λ k. number_of (take 8 (drop k (bits_of 8 x ++ bits_of_octets octets)))) next
    ∙ ap (λ t. number_of (take 8 t)) (later_part 8 (8 * i) x (bits_of_octets octets))
    ∙ octet_part octets i (λ k. fits (suc k)) (omega arith)

-- the bits of the two octets of a group are those of the group
group_bits : (x : ℕ) (rest : List Bool) → bits_of 8 (x / 256) ++ (bits_of 8 (x % 256) ++ rest) ≡ bits_of 16 x ++ rest
group_bits x rest =
    let whole : x ≡ x / 256 * 2 ^ 8 + x % 256 = omega arith in
    let low : x % 256 < 2 ^ 8 = omega arith in
    sym (append_assoc (bits_of 8 (x / 256)) (bits_of 8 (x % 256)) rest)
    ∙ ap (λ t. t ++ rest) (sym (bits_of-append 8 8 (x / 256) (x % 256) low) ∙ ap (bits_of 16) (sym whole))

-- a group is found among the bits of all
group_part : (groups : List ℕ) (i : ℕ) → AllSegments groups → i < length groups
    → number_of (take 16 (drop (16 * i) (bits_of_octets (octets_of groups)))) ≡ get_or groups i 0
group_part [] i fits within = absurd (omega arith)
group_part (x ∷ groups) zero fits within =
    let rest = bits_of_octets (octets_of groups) in
    ap (λ t. number_of (take 16 t)) (group_bits x rest) ∙ first_part 16 x rest (fits 0)
group_part (x ∷ groups) (suc i) fits within =
    let rest = bits_of_octets (octets_of groups) in
    let next : 16 * suc i ≡ 16 + 16 * i = omega arith in
    ap (λ t. number_of (take 16 (drop (16 * suc i) t))) (group_bits x rest)
    ∙ ap (λ k. number_of (take 16 (drop k (bits_of 16 x ++ rest)))) next
    ∙ ap (λ t. number_of (take 16 t)) (later_part 16 (16 * i) x rest)
    ∙ group_part groups i (λ k. fits (suc k)) (omega arith)

-- there are two octets for each group
length-octets_of : (groups : List ℕ) → length (octets_of groups) ≡ 2 * length groups
length-octets_of [] = refl
length-octets_of (x ∷ groups) = omega (arith, length-octets_of groups)

-- the octets of the address of four octets are these
pub octets_back : (octets : List ℕ) → length octets ≡ 4 → ((k : ℕ) → get_or octets k 0 < 256)
    → octets_of_v4 (record { family = V4; bits = bits_of_octets octets }) ≡ octets
unfolding octet_at
octets_back octets four fits =
    let at = λ (i : ℕ) (h : i < 4). octet_part octets i fits (omega arith) in
    sym (four_items octets four ∙ λ i. sym (at 0 (omega arith)) i ∷ sym (at 1 (omega arith)) i ∷ sym (at 2 (omega arith)) i ∷ sym (at 3 (omega arith)) i ∷ [])

-- the groups of the address of eight groups are these
pub groups_back : (groups : List ℕ) → length groups ≡ 8 → AllSegments groups
    → groups_of (record { family = V6; bits = bits_of_octets (octets_of groups) }) ≡ groups
unfolding group_at
groups_back groups eight fits =
    let at = λ (i : ℕ) (h : i < 8). group_part groups i fits (omega arith) in
    sym (eight_items groups eight ∙ λ i. sym (at 0 (omega arith)) i ∷ sym (at 1 (omega arith)) i ∷ sym (at 2 (omega arith)) i ∷ sym (at 3 (omega arith)) i ∷ sym (at 4 (omega arith)) i ∷ sym (at 5 (omega arith)) i ∷ sym (at 6 (omega arith)) i ∷ sym (at 7 (omega arith)) i ∷ [])

-- an address of four octets has 32 bits
pub four_octets : (octets : List ℕ) → length octets ≡ 4 → length (bits_of_octets octets) ≡ 32
four_octets octets four = omega (arith, length-bits_of_octets octets)

-- and one of eight groups 128
pub eight_groups : (groups : List ℕ) → length groups ≡ 8 → length (bits_of_octets (octets_of groups)) ≡ 128
eight_groups groups eight = omega (arith, length-bits_of_octets (octets_of groups), length-octets_of groups)

-- an octet is below 256
pub octet_fits : (a : Address) (i : ℕ) → octet_at a i < 256
unfolding octet_at
octet_fits a i = number_of-part 8 (drop (8 * i) a.bits)

-- and a group below 65536
pub group_fits : (a : Address) (i : ℕ) → group_at a i < 65536
unfolding group_at
group_fits a i = number_of-part 16 (drop (16 * i) a.bits)
