-- Prefixes that contain an address, by their lengths.
use Rattle.std.proofs.Common.{◌≡◌, ℕ, ◌+◌, ◌≤◌, true, length, take, Option, Some, None, is_some, refl, sym, ap, ◌∙◌, arith, ⊎_elim, length-take-le}
use Rattle.std.proofs.lemmas.Bool.{cases_lt}
use Rattle.std.proofs.lemmas.Bool.Decides.{nat_tests}
use Rattle.std.proofs.lemmas.Option.{none-some, same_Some}
use Rattle.ip_prefix.specs.Network.{Address, Network, contains, network_of}
use Rattle.ip_prefix.proofs.Containing.{contains_parts, contains_from, front_length, one_of_length}
use Rattle.std.specs.FinMap.{get}
use Rattle.prefix_store.specs.Stored.{Routes}
use Rattle.prefix_store.specs.Lookups.{IsLongestMatch}

-- a prefix that contains an address is no longer than it
pub contains-length : (n : Network) (a : Address) → contains n a ≡ true → length n.bits ≤ length a.bits
contains-length n a e = front_length n.bits a.bits (contains_parts n a e).1

-- and is the one of its length
pub contains-one : (n : Network) (a : Address) (k : ℕ) → contains n a ≡ true → length n.bits ≡ k → n ≡ network_of a k
contains-one n a k e is =
    let parts = contains_parts n a e in
    let bits : n.bits ≡ take k a.bits = sym parts.1 ∙ ap (λ m. take m a.bits) is in
    λ i. record { family = parts.0 i; bits = bits i }

-- which contains it
pub contains-taken : (a : Address) (k : ℕ) → k ≤ length a.bits → contains (network_of a k) a ≡ true
contains-taken a k within = contains_from (network_of a k) a refl (ap (λ m. take m a.bits) (length-take-le k a.bits within))

-- what has a route is no longer than a length from which on nothing has
pub at-most : {A : Type 0} (m k : ℕ) (found : Option A) → (k + 1 ≤ m → found ≡ None) → is_some found ≡ true → m ≤ k
at-most m k found none there = grind (arith, nat_tests)

-- either longer, or of this length
pub longer-or : {A : Type 0} (m k : ℕ) → k ≤ m → (k + 1 ≤ m → A) → (m ≡ k → A) → A
longer-or {A = A} m k from longer same = ⊎_elim (λ more. longer (omega arith)) (λ most. same (omega arith)) (cases_lt k m)

-- ---- one longest prefix

-- at most one prefix is the longest
pub longest-one : {R : Type 0} (routes : Routes R) (address : Address) (one other : Option (Network × R)) → IsLongestMatch routes address one → IsLongestMatch routes address other → one ≡ other
longest-one routes address None None p q = refl
longest-one routes address None (Some other) p q = absurd (none-some other.1 (sym (p other.0 q.0) ∙ q.1))
longest-one routes address (Some one) None p q = absurd (none-some one.1 (sym (q one.0 p.0) ∙ p.1))
longest-one routes address (Some one) (Some other) p q =
    let below = p.2 other.0 q.0 (ap is_some q.1) in
    let beyond = q.2 one.0 p.0 (ap is_some p.1) in
    let prefix : one.0 ≡ other.0 = one_of_length one.0 other.0 address p.0 q.0 (omega (arith, below, beyond)) in
    let route : one.1 ≡ other.1 = same_Some one.1 other.1 (sym p.1 ∙ ap (get routes) prefix ∙ q.1) in
    λ i. Some (prefix i, route i)
