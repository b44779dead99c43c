-- Claims that are counted, prefix by prefix and pair by pair.
use Rattle.std.proofs.Common.{◌≡◌, ℕ, ◌-◌, ◌^◌, ◌<◌, ◌≤◌, ◌++◌, Bool, true, false, cond, ◌&&◌, List, length, take, replicate, Option, refl, sym, ap, ap₂, subst, ◌∙◌, arith}
use Rattle.std.specs.BTreeMap as tree
use Rattle.std.specs.declared.boxed.Box.{Box}
use Rattle.std.specs.declared.alloc.Global.{Global}
use Rattle.std.specs.Map.{lookup}
use Rattle.std.specs.Ordering.{eq_by_cmp, nat_cmp}
use Rattle.std.specs.Cmp.{eq_by_cmp_equiv, Equal-is}
use Rattle.std.specs.FinMap.{nat_cmp-IsAntisymmetric}
use Rattle.std.proofs.lemmas.Cmp.{nat_cmp_total}
use Rattle.std.proofs.lemmas.List.{length-append, length-take-le, length-replicate, take-take, take_at}
use Rattle.ip_prefix.specs.declared.addr.Family.{Family}
use Rattle.ip_prefix.specs.declared.addr.Family.TheVariants.{V4, V6}
use Rattle.ip_prefix.specs.declared.addr.TheConstants.{V4_BITS, V6_BITS}
use Rattle.ip_prefix.specs.Bits.{bits_of, number_of}
use Rattle.ip_prefix.specs.Network.{Network, network_cmp}
use Rattle.ip_prefix.specs.OrderLaws.{network_cmp_total, network_cmp-IsAntisymmetric}
use Rattle.ip_prefix.proofs.Chunks.{bits_of-number_of, number_of-lt}
use Rattle.mrt_events.specs.declared.peer.Peer.{Peer}
use Rattle.rib_player.specs.declared.pair.Pair.{Pair}
use Rattle.rib_player.specs.declared.claims.ExtraKeyClaimsOfPeer.{ExtraKeyClaimsOfPeer}
use Rattle.rib_player.specs.declared.claims.TheConstants.{ADDRESSES}
use Rattle.rib_player.specs.KeyCounts.{count_at}
use Rattle.rib_player.specs.Claims.{count_of, v4_prefix_number, by_family, count_of_peer}
use Rattle.rib_player.specs.Representation.{IsUpdatedAt}
use Rattle.rib_player.proofs.MarkLaws.{tied}
use Rattle.rib_player.proofs.StoreLaws.{same_peer, same_network, one_peer, peer_symm, tied_parts}

-- ---- prefix by prefix

-- the bits of a prefix, filled with zeros
abbrev filled : Network → List Bool
filled n = n.bits ++ replicate (V6_BITS - length n.bits) false

front : (n : Network) → length n.bits ≤ V4_BITS → take (length n.bits) (take V4_BITS (filled n)) ≡ n.bits
front n within = take-take (length n.bits) V4_BITS (filled n) within ∙ take_at n.bits (replicate (V6_BITS - length n.bits) false) (length n.bits) refl

-- its front as a number
abbrev leading : Network → ℕ
leading n = number_of (take V4_BITS (filled n))

long : (n : Network) → length (take V4_BITS (filled n)) ≡ V4_BITS
long n = length-take-le V4_BITS (filled n) (omega (arith, length-append n.bits (replicate (V6_BITS - length n.bits) false), length-replicate (V6_BITS - length n.bits) false))

spelled : (n : Network) → bits_of V4_BITS (leading n) ≡ take V4_BITS (filled n)
spelled n = ap (λ k. bits_of k (leading n)) (sym (long n)) ∙ bits_of-number_of (take V4_BITS (filled n))

below : (n : Network) → leading n < ADDRESSES
below n = subst (λ k. leading n < 2 ^ k) (long n) (number_of-lt (take V4_BITS (filled n)))

-- a prefix is got back from its key
one_key : (n p : Network) → n.family ≡ V4 → p.family ≡ V4 → length p.bits ≤ V4_BITS → v4_prefix_number n ≡ v4_prefix_number p → n ≡ p
one_key n p e f within same =
    let lengths : length n.bits ≡ length p.bits = omega (arith, same, below n, below p) in
    let numbers : leading n ≡ leading p = omega (arith, same, below n, below p) in
    let bits : n.bits ≡ p.bits =
    sym (front n (omega (arith, lengths, within)))
    ∙ ap₂ take lengths (sym (spelled n) ∙ ap (bits_of V4_BITS) numbers ∙ spelled p)
    ∙ front p within in
    λ i. record { family = (e ∙ sym f) i; bits = bits i }

iff : (a b : Bool) → (a ≡ true → b ≡ true) → (b ≡ true → a ≡ true) → a ≡ b
iff a b there back = grind arith

-- keys tie where prefixes do
tied_keys : (n p : Network) → n.family ≡ V4 → p.family ≡ V4 → length p.bits ≤ V4_BITS → eq_by_cmp nat_cmp (v4_prefix_number n) (v4_prefix_number p) ≡ same_network n p
tied_keys n p e f within =
    iff (eq_by_cmp nat_cmp (v4_prefix_number n) (v4_prefix_number p)) (same_network n p)
    (λ t. ap (same_network n) (sym (one_key n p e f within (nat_cmp-IsAntisymmetric (v4_prefix_number n) (v4_prefix_number p) ((Equal-is (nat_cmp (v4_prefix_number n) (v4_prefix_number p))).0 t)))) ∙ (eq_by_cmp_equiv network_cmp_total).refl n)
    (λ t. ap (λ x. eq_by_cmp nat_cmp (v4_prefix_number n) (v4_prefix_number x)) (sym (network_cmp-IsAntisymmetric n p ((Equal-is (network_cmp n p)).0 t))) ∙ (eq_by_cmp_equiv nat_cmp_total).refl (v4_prefix_number n))

-- prefixes of two families don't tie
apart : (n p : Network) (f g : Family) → n.family ≡ f → p.family ≡ g → (f ≡ g → false ≡ true) → same_network n p ≡ false
apart n p f g e h differ =
    let one = λ (t : same_network n p ≡ true). differ (sym e ∙ ap (λ (x : Network). x.family) (network_cmp-IsAntisymmetric n p ((Equal-is (network_cmp n p)).0 t)) ∙ h) in
    grind arith

-- what is counted of keys, with this bit for the one that is meant, is counted of prefixes
pub v4-counted : (old new : ExtraKeyClaimsOfPeer) (p : Network) (R : ℕ → ℕ → Bool → Type 0) → p.family ≡ V4 → length p.bits ≤ V4_BITS → new.v6 ≡ old.v6
    → ((k : ℕ) → R (count_at nat_cmp new.v4 k) (count_at nat_cmp old.v4 k) (eq_by_cmp nat_cmp k (v4_prefix_number p))) → ((m : ℕ) → R m m false) → (n : Network) → R (count_of new n) (count_of old n) (same_network n p)
v4-counted old new p R f within same keys other n = at n.family refl
  where
    at : (g : Family) → n.family ≡ g → R (count_of new n) (count_of old n) (same_network n p)
    at V4 e =
        subst (λ g. R (by_family g (count_at nat_cmp new.v4 (v4_prefix_number n)) (count_at network_cmp new.v6 n)) (by_family g (count_at nat_cmp old.v4 (v4_prefix_number n)) (count_at network_cmp old.v6 n)) (same_network n p)) (sym e)
        (subst (R (count_at nat_cmp new.v4 (v4_prefix_number n)) (count_at nat_cmp old.v4 (v4_prefix_number n))) (tied_keys n p e f within) (keys (v4_prefix_number n)))
    at V6 e =
        subst (λ g. R (by_family g (count_at nat_cmp new.v4 (v4_prefix_number n)) (count_at network_cmp new.v6 n)) (by_family g (count_at nat_cmp old.v4 (v4_prefix_number n)) (count_at network_cmp old.v6 n)) (same_network n p)) (sym e)
        (subst (λ m. R (count_at network_cmp m n) (count_at network_cmp old.v6 n) (same_network n p)) (sym same)
        (subst (R (count_at network_cmp old.v6 n) (count_at network_cmp old.v6 n)) (sym (apart n p V6 V4 e f (λ d. cc))) (other (count_at network_cmp old.v6 n))))

-- ---- pair by pair

abbrev pub Peers : Type 0
Peers = tree.BTreeMap Peer (Box ExtraKeyClaimsOfPeer Global)

-- where other counts stand for a peer, what holds there of each prefix, and elsewhere, holds of each pair
pub beyond-written : {peers peers' : List (Peer × Box ExtraKeyClaimsOfPeer Global)} {w : Option (Box ExtraKeyClaimsOfPeer Global)} (pair : Pair) → IsUpdatedAt peers peers' pair.peer w → (R : ℕ → ℕ → Bool → Type 0)
    → ((n : Network) → R (count_of_peer w n) (count_of_peer (lookup (same_peer pair.peer) peers) n) (same_network n pair.prefix)) → ((m : ℕ) → R m m false)
    → (q : Pair) → R (count_of_peer (lookup (same_peer q.peer) peers') q.prefix) (count_of_peer (lookup (same_peer q.peer) peers) q.prefix) (tied q pair)
beyond-written {peers = peers} {w = w} pair written R here elsewhere q =
    subst (λ c. R (count_of_peer c q.prefix) (count_of_peer (lookup (same_peer q.peer) peers) q.prefix) (tied q pair)) (sym (written.each q.peer ∙ ap (λ b. cond b w (lookup (same_peer q.peer) peers)) (peer_symm pair.peer q.peer)))
    (subst (R (count_of_peer (cond (same_peer q.peer pair.peer) w (lookup (same_peer q.peer) peers)) q.prefix) (count_of_peer (lookup (same_peer q.peer) peers) q.prefix)) (sym (tied_parts q pair.peer pair.prefix))
    (at (same_peer q.peer pair.peer) refl))
  where
    at : (b : Bool) → same_peer q.peer pair.peer ≡ b → R (count_of_peer (cond b w (lookup (same_peer q.peer) peers)) q.prefix) (count_of_peer (lookup (same_peer q.peer) peers) q.prefix) (b && same_network q.prefix pair.prefix)
    at true e = subst (λ p. R (count_of_peer w q.prefix) (count_of_peer (lookup (same_peer p) peers) q.prefix) (same_network q.prefix pair.prefix)) (sym (one_peer q.peer pair.peer e)) (here q.prefix)
    at false e = elsewhere (count_of_peer (lookup (same_peer q.peer) peers) q.prefix)
