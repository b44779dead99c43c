-- Lists of bits compare as the numbers do whose highest bits they are.
use Rattle.std.proofs.Common.{◌≡◌, ℕ, zero, suc, ◌+◌, ◌-◌, ◌*◌, ◌^◌, ◌/◌, ◌%◌, ◌<◌, ◌≤◌, ◌==◌, Bool, false, List, [], ◌∷◌, ◌++◌, ◌⊎◌, inr, length, replicate, sym, refl, ap, ◌∙◌, arith, Ordering, Less, Equal, mod-eq_of_lt}
use Rattle.std.specs.Ordering.{bool_cmp, nat_cmp, ordering_then, ordering_reverse}
use Rattle.std.specs.Cmp.{nat_cmp_is, then_flip, bool_cmp_total}
use Rattle.std.specs.Cmp.Lexicographic.{lists_total}
use Rattle.std.proofs.lemmas.Cmp.{nat_cmp_total}
use Rattle.std.specs.Int.{bit_at}
use Rattle.std.proofs.lemmas.Bool.Decides.{nat_tests}
use Rattle.std.proofs.lemmas.Nat.{mod-pow-add, pow_pos}
use Rattle.std.proofs.lemmas.Nat.Bits.{bit_at-lt, bit_at-zero}
use Rattle.std.proofs.lemmas.List.{length-append, length-replicate}
use Rattle.ip_prefix.specs.Bits.{bits_of}
use Rattle.ip_prefix.specs.Kept.{length-bits_of, IsAligned, bit_count_le}
use Rattle.ip_prefix.specs.declared.addr.Addr.TheInside.{Inside}
use Rattle.ip_prefix.specs.declared.addr.Family.{Family}
use Rattle.ip_prefix.specs.declared.addr.Family.TheVariants.{V4, V6}
use Rattle.ip_prefix.specs.contracts.addr.Addr.{the_view, the_invariant}
use Rattle.ip_prefix.specs.declared.prefix.Prefix.TheInside as prefix
use Rattle.ip_prefix.specs.contracts.prefix.Prefix as prefixes
use Rattle.ip_prefix.specs.Network.{bit_count, family_cmp, bits_cmp, address_cmp, network_cmp}
use Rattle.ip_prefix.proofs.BitLists.{bits_of-append}

-- ---- numbers by their highest digit

-- adding one number to both changes nothing
pub nat_cmp-add : (m a b : ℕ) → nat_cmp a b ≡ nat_cmp (m + a) (m + b)
nat_cmp-add m a b = grind (arith, nat_tests)

-- the highest digits decide, and else what is below them
nat_cmp-digits : (m c d a b : ℕ) → c < 2 → d < 2 → a < m → b < m → nat_cmp (c * m + a) (d * m + b) ≡ ordering_then (bool_cmp (c == 1) (d == 1)) (nat_cmp a b)
nat_cmp-digits m c d a b c_in d_in a_in b_in = grind (arith, nat_tests)

-- as many bits compare as the numbers that they are
pub bits_cmp-bits_of : (k a b : ℕ) → bits_cmp (bits_of k a) (bits_of k b) ≡ nat_cmp (a % 2 ^ k) (b % 2 ^ k)
unfolding bits_of
bits_cmp-bits_of zero a b = nat_cmp_is (a % 2 ^ 0) (b % 2 ^ 0) Equal (omega arith)
bits_cmp-bits_of (suc k) a b =
    let e : suc k ≡ 1 + k = omega arith in
    let split : (n : ℕ) → n % 2 ^ suc k ≡ bit_at n k * 2 ^ k + n % 2 ^ k = λ n. ap (λ j. n % 2 ^ j) e ∙ mod-pow-add n 1 k in
    ap (ordering_then (bool_cmp (bit_at a k == 1) (bit_at b k == 1))) (bits_cmp-bits_of k a b)
    ∙ sym (nat_cmp-digits (2 ^ k) (bit_at a k) (bit_at b k) (a % 2 ^ k) (b % 2 ^ k) (bit_at-lt a k) (bit_at-lt b k) (omega (arith, pow_pos k)) (omega (arith, pow_pos k)))
    ∙ (λ i. nat_cmp (sym (split a) i) (sym (split b) i))

-- ---- lists of different lengths

-- zeros never stand behind as many bits
zeros_first : (n : ℕ) (bits : List Bool) → length bits ≡ n → (bits_cmp (replicate n false) bits ≡ Less) ⊎ (bits_cmp (replicate n false) bits ≡ Equal)
zeros_first zero [] e = inr refl
zeros_first zero (bit ∷ bits) e = absurd (omega arith)
zeros_first (suc n) [] e = absurd (omega arith)
zeros_first (suc n) (bit ∷ bits) e = grind (arith, zeros_first n bits)

-- zeros tie
zeros_tie : (n : ℕ) → bits_cmp (replicate n false) (replicate n false) ≡ Equal
zeros_tie zero = refl
zeros_tie (suc n) = zeros_tie n

-- a third order is asked last
then_assoc : (r s t : Ordering) → ordering_then r (ordering_then s t) ≡ ordering_then (ordering_then r s) t
then_assoc r s t = grind arith

-- no bits stand before some, also filled with zeros
nothing_filled : (y : Bool) (ys : List Bool) (m n : ℕ) → 0 + m ≡ suc (length ys) + n
    → bits_cmp [] (y ∷ ys) ≡ ordering_then (bits_cmp (replicate m false) (y ∷ ys ++ replicate n false)) (nat_cmp 0 (suc (length ys)))
nothing_filled y ys m n e =
    let zeros = zeros_first m (y ∷ ys ++ replicate n false) (omega (arith, length-append (y ∷ ys) (replicate n false), length-replicate n false)) in
    let less = nat_cmp_is 0 (suc (length ys)) Less (omega arith) in
    grind arith

-- bits that are exchanged compare the other way round
turned : (xs ys : List Bool) → bits_cmp xs ys ≡ ordering_reverse (bits_cmp ys xs)
turned = (lists_total bool_cmp_total).antisymm

-- bits compare as they do when they are filled with zeros, and then as their lengths do
pub bits_cmp-filled : (xs ys : List Bool) (m n : ℕ) → length xs + m ≡ length ys + n
    → bits_cmp xs ys ≡ ordering_then (bits_cmp (xs ++ replicate m false) (ys ++ replicate n false)) (nat_cmp (length xs) (length ys))
bits_cmp-filled [] [] m n e = let same : m ≡ n = omega arith in ap (λ r. ordering_then r Equal) (sym (zeros_tie m)) ∙ ap (λ k. ordering_then (bits_cmp (replicate m false) (replicate k false)) Equal) same
bits_cmp-filled [] (y ∷ ys) m n e = nothing_filled y ys m n e
bits_cmp-filled (x ∷ xs) [] m n e =
    let long = (x ∷ xs) ++ replicate m false in
    let zeros = replicate n false in
    turned (x ∷ xs) [] ∙ ap ordering_reverse (nothing_filled x xs n m (sym e)) ∙ sym (then_flip (bits_cmp zeros long) (nat_cmp 0 (suc (length xs))))
    ∙ sym (λ i. ordering_then (turned long zeros i) (nat_cmp_total.antisymm (suc (length xs)) 0 i))
bits_cmp-filled (x ∷ xs) (y ∷ ys) m n e =
    ap (ordering_then (bool_cmp x y)) (bits_cmp-filled xs ys m n (omega arith) ∙ ap (ordering_then (bits_cmp (xs ++ replicate m false) (ys ++ replicate n false))) (nat_cmp-add 1 (length xs) (length ys) ∙ (λ i. nat_cmp (one_more (length xs) i) (one_more (length ys) i))))
    ∙ then_assoc (bool_cmp x y) (bits_cmp (xs ++ replicate m false) (ys ++ replicate n false)) (nat_cmp (suc (length xs)) (suc (length ys)))
  where
    one_more : (k : ℕ) → 1 + k ≡ suc k
    one_more k = omega arith

-- the bits of 0 are zeros
pub bits_of-zero : (k : ℕ) → bits_of k 0 ≡ replicate k false
unfolding bits_of
bits_of-zero zero = refl
bits_of-zero (suc k) = rw (bit_at-zero k) (ap (λ l. false ∷ l) (bits_of-zero k))

-- the highest bits of a number that has none below them, filled with zeros
pub bits_of-filled : (j k n : ℕ) → n % 2 ^ k ≡ 0 → bits_of j (n / 2 ^ k) ++ replicate k false ≡ bits_of (j + k) n
bits_of-filled j k n none =
    let whole : n / 2 ^ k * 2 ^ k + 0 ≡ n = omega (arith, none) in
    ap (λ l. bits_of j (n / 2 ^ k) ++ l) (sym (bits_of-zero k)) ∙ sym (bits_of-append j k (n / 2 ^ k) 0 (pow_pos k)) ∙ ap (bits_of (j + k)) whole

-- the j highest bits of the one and the k highest of the other compare as the numbers do, and then as j and k
pub bits_cmp-highest : (j k a b : ℕ) → j ≤ 128 → k ≤ 128 → a < 2 ^ 128 → b < 2 ^ 128 → a % 2 ^ (128 - j) ≡ 0 → b % 2 ^ (128 - k) ≡ 0
    → bits_cmp (bits_of j (a / 2 ^ (128 - j))) (bits_of k (b / 2 ^ (128 - k))) ≡ ordering_then (nat_cmp a b) (nat_cmp j k)
bits_cmp-highest j k a b j_in k_in a_in b_in a_none b_none =
    let xs : List Bool = bits_of j (a / 2 ^ (128 - j)) in
    let ys : List Bool = bits_of k (b / 2 ^ (128 - k)) in
    let j_size : length xs ≡ j = length-bits_of j (a / 2 ^ (128 - j)) in
    let k_size : length ys ≡ k = length-bits_of k (b / 2 ^ (128 - k)) in
    let j_all : j + (128 - j) ≡ 128 = omega arith in
    let k_all : k + (128 - k) ≡ 128 = omega arith in
    let a_filled : xs ++ replicate (128 - j) false ≡ bits_of 128 a = bits_of-filled j (128 - j) a a_none ∙ ap (λ w. bits_of w a) j_all in
    let b_filled : ys ++ replicate (128 - k) false ≡ bits_of 128 b = bits_of-filled k (128 - k) b b_none ∙ ap (λ w. bits_of w b) k_all in
    let a_low : a % 2 ^ 128 ≡ a = mod-eq_of_lt a_in in
    let b_low : b % 2 ^ 128 ≡ b = mod-eq_of_lt b_in in
    bits_cmp-filled xs ys (128 - j) (128 - k) (omega arith)
    ∙ (λ i. ordering_then (bits_cmp (a_filled i) (b_filled i)) (nat_cmp (j_size i) (k_size i)))
    ∙ ap (λ r. ordering_then r (nat_cmp j k)) (bits_cmp-bits_of 128 a b ∙ (λ i. nat_cmp (a_low i) (b_low i)))

-- an order that answers nothing more
then_equal : (r : Ordering) → ordering_then r Equal ≡ r
then_equal r = grind arith

-- the bits of kept addresses compare as the families and numbers do
pub address_cmp-kept : (a b : Inside) → the_invariant a → the_invariant b → ordering_then (family_cmp a.family b.family) (nat_cmp a.number b.number) ≡ address_cmp (the_view a) (the_view b)
address_cmp-kept a b p q = numbers a.family b.family a.number b.number p q
  where
    one_family : (w m n : ℕ) → w ≤ 128 → m < 2 ^ 128 → n < 2 ^ 128 → m % 2 ^ (128 - w) ≡ 0 → n % 2 ^ (128 - w) ≡ 0
        → nat_cmp m n ≡ bits_cmp (bits_of w (m / 2 ^ (128 - w))) (bits_of w (n / 2 ^ (128 - w)))
    one_family w m n w_in m_in n_in m_none n_none =
        let same = nat_cmp_is w w Equal refl in
        sym (bits_cmp-highest w w m n w_in w_in m_in n_in m_none n_none ∙ ap (ordering_then (nat_cmp m n)) (sym same) ∙ then_equal (nat_cmp m n))

    numbers : (f g : Family) (m n : ℕ) → IsAligned f m → IsAligned g n
        → ordering_then (family_cmp f g) (nat_cmp m n)
        ≡ ordering_then (family_cmp f g) (bits_cmp (bits_of (bit_count f) (m / 2 ^ (128 - bit_count f))) (bits_of (bit_count g) (n / 2 ^ (128 - bit_count g))))
    numbers V4 V4 m n p q = one_family 32 m n (omega arith) p.0 q.0 p.2 q.2
    numbers V4 V6 m n p q = refl
    numbers V6 V4 m n p q = refl
    numbers V6 V6 m n p q = one_family 128 m n (omega arith) p.0 q.0 p.2 q.2

-- the bits of kept prefixes compare as the families, numbers and lengths do
pub network_cmp-kept : (a b : prefix.Inside) → prefixes.the_invariant a → prefixes.the_invariant b
    → ordering_then (ordering_then (family_cmp a.family b.family) (nat_cmp a.number b.number)) (nat_cmp a.len b.len) ≡ network_cmp (prefixes.the_view a) (prefixes.the_view b)
network_cmp-kept a b p q =
    let a_len : a.len ≤ 128 = omega (arith, p.1, bit_count_le a.family) in
    let b_len : b.len ≤ 128 = omega (arith, q.1, bit_count_le b.family) in
    sym (then_assoc (family_cmp a.family b.family) (nat_cmp a.number b.number) (nat_cmp a.len b.len))
    ∙ ap (ordering_then (family_cmp a.family b.family)) (sym (bits_cmp-highest a.len b.len a.number b.number a_len b_len p.0 q.0 p.2 q.2))
