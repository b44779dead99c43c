-- What prefixes contain and cover.
use Rattle.std.proofs.Common.{◌≡◌, ℕ, zero, suc, ◌+◌, ◌-◌, ◌<◌, ◌≤◌, Bool, true, false, List, ◌++◌, length, take, replicate, refl, ap, sym, ◌∙◌, arith, ⊎_elim, length-append, take_at}
use Rattle.std.proofs.Math.Seq.{take-append-add}
use Rattle.std.proofs.lemmas.Bool.{cases_lt, and_parts}
use Rattle.std.proofs.lemmas.List.{append_cancel_left, length-replicate, length-take, take-append-le, take-take, take_all}
use Rattle.ip_prefix.specs.declared.addr.Family.{Family}
use Rattle.ip_prefix.specs.Network.{Address, IsAddress, bit_count, Network, IsNetwork, IsFront, contains, same_family}
use Rattle.ip_prefix.specs.Turns.{ContainsAllOf, covers}
use Rattle.ip_prefix.proofs.Beginning.{front_of, begin_from, contains_same}

-- ---- the first bits

-- bits are the first of themselves
pub front_reflexive : (bits : List Bool) → IsFront bits bits
front_reflexive bits = take_all (length bits) bits (omega arith)

-- they are no more than the others
pub front_length : (front bits : List Bool) → IsFront front bits → length front ≤ length bits
front_length front bits e = omega (arith, ap length e, length-take (length front) bits)

-- the first of the first are the first
pub front_transitive : (x y z : List Bool) → IsFront x y → IsFront y z → IsFront x z
front_transitive x y z e f =
    let within : length x ≤ length y = front_length x y e in
    sym (take-take (length x) (length y) z within) ∙ ap (take (length x)) f ∙ e

-- bits that are the first of each other are the same
pub front_antisymmetric : (x y : List Bool) → IsFront x y → IsFront y x → x ≡ y
front_antisymmetric x y e f =
    let within : length y ≤ length x = front_length y x f in
    sym e ∙ take_all (length x) y within

-- of two that are the first of others, the fewer are the first of the more
pub front_nested : (x y bits : List Bool) → IsFront x bits → IsFront y bits → length x ≤ length y → IsFront x y
front_nested x y bits e f within =
    ap (take (length x)) (sym f) ∙ take-take (length x) (length y) bits within ∙ e

-- ---- families and bits

-- an address that is contained is of the family and begins with the bits
pub contains_parts : (n : Network) (a : Address) → contains n a ≡ true → (n.family ≡ a.family) × IsFront n.bits a.bits
contains_parts n a e =
    let both = and_parts _ _ e in
    (families n.family a.family both.0, front_of n.bits a.bits both.1)
  where
    families : (f g : Family) → same_family f g ≡ true → f ≡ g
    families f g e = grind arith

-- and one that does is contained
pub contains_from : (n : Network) (a : Address) → n.family ≡ a.family → IsFront n.bits a.bits → contains n a ≡ true
contains_from n a e front = contains_same n a e ∙ begin_from n.bits a.bits front

-- so with a prefix that is covered
pub covers_parts : (n other : Network) → covers n other ≡ true → (n.family ≡ other.family) × IsFront n.bits other.bits
covers_parts n other e = contains_parts n record { family = other.family; bits = other.bits } e

pub covers_from : (n other : Network) → n.family ≡ other.family → IsFront n.bits other.bits → covers n other ≡ true
covers_from n other e front = contains_from n record { family = other.family; bits = other.bits } e front

-- it is at least as long
pub covers_length : (n other : Network) → covers n other ≡ true → length n.bits ≤ length other.bits
covers_length n other e = front_length n.bits other.bits (covers_parts n other e).1

-- ---- an order

-- each prefix covers itself
pub covers_reflexive : (n : Network) → covers n n ≡ true
covers_reflexive n = covers_from n n refl (front_reflexive n.bits)

-- and what the covered cover
pub covers_transitive : (a b c : Network) → covers a b ≡ true → covers b c ≡ true → covers a c ≡ true
covers_transitive a b c p q =
    let one = covers_parts a b p in
    let two = covers_parts b c q in
    covers_from a c (one.0 ∙ two.0) (front_transitive a.bits b.bits c.bits one.1 two.1)

-- prefixes that cover each other are the same
pub covers_antisymmetric : (a b : Network) → covers a b ≡ true → covers b a ≡ true → a ≡ b
covers_antisymmetric a b p q =
    let one = covers_parts a b p in
    let two = covers_parts b a q in
    let bits = front_antisymmetric a.bits b.bits one.1 two.1 in
    λ i. record { family = one.0 i; bits = bits i }

-- ---- addresses

-- a prefix contains what those that it covers contain
pub contains_covered : (n other : Network) (a : Address) → covers n other ≡ true → contains other a ≡ true → contains n a ≡ true
contains_covered n other a p q =
    let one = covers_parts n other p in
    let two = contains_parts other a q in
    contains_from n a (one.0 ∙ two.0) (front_transitive n.bits other.bits a.bits one.1 two.1)

-- of two prefixes that contain one address, one that is no longer covers the other
pub covers_nested : (m n : Network) (a : Address) → contains m a ≡ true → contains n a ≡ true → length m.bits ≤ length n.bits → covers m n ≡ true
covers_nested m n a p q within =
    let one = contains_parts m a p in
    let two = contains_parts n a q in
    covers_from m n (one.0 ∙ sym two.0) (front_nested m.bits n.bits a.bits one.1 two.1 within)

-- and with one length they are the same
pub one_of_length : (m n : Network) (a : Address) → contains m a ≡ true → contains n a ≡ true → length m.bits ≡ length n.bits → m ≡ n
one_of_length m n a p q size =
    covers_antisymmetric m n (covers_nested m n a p q (omega arith)) (covers_nested n m a q p (omega arith))

-- ---- what is known by the addresses

-- the address of a prefix's bits and then this bit
abbrev pub ended_address : Network → Bool → Address
ended_address n bit = record { family = n.family; bits = n.bits ++ replicate (bit_count n.family - length n.bits) bit }

-- it is an address
pub IsAddress-ended : (n : Network) (bit : Bool) → IsNetwork n → IsAddress (ended_address n bit)
IsAddress-ended n bit h =
    let more = replicate (bit_count n.family - length n.bits) bit in
    omega (arith, length-append n.bits more, length-replicate (bit_count n.family - length n.bits) bit)

-- and the prefix contains it
pub contains_ended : (n : Network) (bit : Bool) → contains n (ended_address n bit) ≡ true
contains_ended n bit = contains_from n (ended_address n bit) refl (take_at n.bits (replicate (bit_count n.family - length n.bits) bit) (length n.bits) refl)

-- some bits that are 0 aren't 1
apart : (j r : ℕ) → 0 < j → 0 < r → take j (replicate r false) ≡ take j (replicate r true) → ⊥
apart zero r some more e = omega arith
apart (suc j) zero some more e = omega arith
apart (suc j) (suc r) some more e = cc

-- bits that are the first of others with zeros behind them, and with ones, are the first of those
front_before : (front bits : List Bool) (r : ℕ) → IsFront front (bits ++ replicate r false) → IsFront front (bits ++ replicate r true) → IsFront front bits
front_before front bits r zeros ones = ⊎_elim
    (λ longer. absurd (none longer))
    (λ within. sym (take-append-le (length front) bits (replicate r false) within) ∙ zeros)
    (cases_lt (length bits) (length front))
  where
    none : length bits < length front → ⊥
    none longer =
        let j : ℕ = length front - length bits in
        let size : length front ≡ length bits + j = omega arith in
        let some : 0 < j = omega arith in
        let more : 0 < r = omega (arith, front_length front (bits ++ replicate r false) zeros, length-append bits (replicate r false), length-replicate r false) in
        let parts : (bit : Bool) → take (length front) (bits ++ replicate r bit) ≡ bits ++ take j (replicate r bit) = λ bit.
        ap (λ k. take k (bits ++ replicate r bit)) size ∙ take-append-add bits (replicate r bit) j in
        apart j r some more (append_cancel_left bits _ _ (sym (parts false) ∙ zeros ∙ sym ones ∙ parts true))

-- a prefix covers one of which it contains each address
pub covers_all : (n other : Network) → IsNetwork other → ContainsAllOf n other → covers n other ≡ true
covers_all n other h all =
    let at = λ (bit : Bool). contains_parts n (ended_address other bit) (all (ended_address other bit) (IsAddress-ended other bit h) (contains_ended other bit)) in
    covers_from n other (at false).0 (front_before n.bits other.bits (bit_count other.family - length other.bits) (at false).1 (at true).1)
