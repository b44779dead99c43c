-- Claims that are held: the key, and those beyond it.
use Rattle.std.proofs.lemmas.Bool.Decides.{nat_tests}
use Rattle.std.proofs.Common.{◌≡◌, ℕ, ◌+◌, ◌<◌, Bool, true, false, cond, ◌||◌, Option, sym, ap, ◌∙◌, arith}
use Rattle.std.specs.Prelude.{nat_lt}
use Rattle.std.specs.FinMap as finite
use Rattle.std.specs.FinSet as set
use Rattle.std.specs.FinSet.{contains-insert, contains-remove}
use Rattle.std.proofs.lemmas.Bool.{lt-ltb, or_parts}
use Rattle.rib_player.specs.declared.pair.Pair.{Pair}
use Rattle.mrt_events.specs.declared.event.Route.{Route}
use Rattle.prefix_store.specs.Stored.{put, ContainsDomain}
use Rattle.prefix_store.proofs.PutLaws.{get-put}
use Rattle.std.proofs.Math.Bool.{or-true}
use Rattle.rib_player.specs.Tables.{Routes, Pairs}
use Rattle.rib_player.specs.Claims.{one_if, held_claims, OnlyKeysHaveExtraClaims}
use Rattle.rib_player.proofs.PairLaws.{pair_cmp_total, same_pair}
use Rattle.rib_player.proofs.MarkLaws.{tied, tied_itself}

pub one_true : (b : Bool) → b ≡ true → one_if b ≡ 1
one_true b e = ap one_if e

pub one_false : (b : Bool) → b ≡ false → one_if b ≡ 0
one_false b e = ap one_if e

-- a pair is a key exactly where a claim of it is held
pub held-key : (keys : Pairs) (beyond : Pair → ℕ) (q : Pair) → OnlyKeysHaveExtraClaims keys beyond → set.contains keys q ≡ nat_lt 0 (held_claims keys beyond q)
held-key keys beyond q held = let none = held q in grind (arith, nat_tests)

pub some-key : (keys : Pairs) (beyond : Pair → ℕ) (q : Pair) → OnlyKeysHaveExtraClaims keys beyond → 0 < held_claims keys beyond q → set.contains keys q ≡ true
some-key keys beyond q held some = held-key keys beyond q held ∙ lt-ltb 0 (held_claims keys beyond q) some

-- as many claims are held with the same keys and as many beyond them
pub same-key : (keys keys' : Pairs) (beyond beyond' : Pair → ℕ) (q : Pair) → OnlyKeysHaveExtraClaims keys beyond → OnlyKeysHaveExtraClaims keys' beyond' → held_claims keys' beyond' q ≡ held_claims keys beyond q
    → set.contains keys' q ≡ set.contains keys q
same-key keys keys' beyond beyond' q held held' same = held-key keys' beyond' q held' ∙ ap (nat_lt 0) same ∙ sym (held-key keys beyond q held)

-- and as many beyond them where as many are held
pub same-beyond : (keys keys' : Pairs) (beyond beyond' : Pair → ℕ) (q : Pair) → OnlyKeysHaveExtraClaims keys beyond → OnlyKeysHaveExtraClaims keys' beyond' → held_claims keys' beyond' q ≡ held_claims keys beyond q → beyond' q ≡ beyond q
same-beyond keys keys' beyond beyond' q held held' same = omega (arith, ap one_if (same-key keys keys' beyond beyond' q held held' same), same)

-- a claim is made: a key that was none, or one beyond a key
pub made-claimed : (keys keys' : Pairs) (beyond beyond' : Pair → ℕ) (p q : Pair) → keys' ≡ set.insert keys p → beyond' q ≡ beyond q → set.contains keys p ≡ false
    → held_claims keys' beyond' q ≡ held_claims keys beyond q + one_if (tied q p)
made-claimed keys keys' beyond beyond' p q more same out =
    let here = ap (λ k. set.contains k q) more ∙ contains-insert pair_cmp_total keys p q in
    let one = same_pair q p in
    grind arith

pub insert-held : (keys keys' : Pairs) (beyond beyond' : Pair → ℕ) (p : Pair) → keys' ≡ set.insert keys p → ((q : Pair) → beyond' q ≡ beyond q) → OnlyKeysHaveExtraClaims keys beyond → OnlyKeysHaveExtraClaims keys' beyond'
insert-held keys keys' beyond beyond' p more same held q out =
    same q ∙ held q (or_parts (tied q p) (set.contains keys q) (sym (ap (λ k. set.contains k q) more ∙ contains-insert pair_cmp_total keys p q) ∙ out)).1

-- a key that was there is not made
pub there-same : (keys keys' : Pairs) (p q : Pair) → keys' ≡ set.insert keys p → set.contains keys p ≡ true → set.contains keys' q ≡ set.contains keys q
there-same keys keys' p q more there =
    let here = ap (λ k. set.contains k q) more ∙ contains-insert pair_cmp_total keys p q in
    let one = same_pair q p in
    grind arith

-- claims are counted beyond a key
pub beyond-held : (keys keys' : Pairs) (beyond beyond' : Pair → ℕ) (p : Pair) → ((q : Pair) → set.contains keys' q ≡ set.contains keys q) → set.contains keys p ≡ true
    → ((q : Pair) → beyond' q ≡ beyond q + one_if (tied q p)) → OnlyKeysHaveExtraClaims keys beyond → OnlyKeysHaveExtraClaims keys' beyond'
beyond-held keys keys' beyond beyond' p same there more held q out =
    let one = same_pair q p in
    let none = held q in
    grind (arith, same q, more q)

pub same-held : (keys keys' : Pairs) (beyond beyond' : Pair → ℕ) → ((q : Pair) → set.contains keys' q ≡ set.contains keys q) → ((q : Pair) → beyond' q ≡ beyond q) → OnlyKeysHaveExtraClaims keys beyond → OnlyKeysHaveExtraClaims keys' beyond'
same-held keys keys' beyond beyond' keyed counted held q out = counted q ∙ held q (sym (keyed q) ∙ out)

-- a key is given up
pub removed-claimed : (keys keys' : Pairs) (beyond beyond' : Pair → ℕ) (p q : Pair) → keys' ≡ set.remove keys p → beyond' q ≡ beyond q → set.contains keys p ≡ true
    → held_claims keys' beyond' q + one_if (tied q p) ≡ held_claims keys beyond q
removed-claimed keys keys' beyond beyond' p q less same there =
    let here = ap (λ k. set.contains k q) less ∙ contains-remove pair_cmp_total keys p q in
    let one = same_pair q p in
    grind arith

-- and nothing was counted beyond it
pub removed-held : (keys keys' : Pairs) (beyond beyond' : Pair → ℕ) (p : Pair) → keys' ≡ set.remove keys p → ((q : Pair) → beyond' q ≡ beyond q) → beyond p ≡ 0 → OnlyKeysHaveExtraClaims keys beyond → OnlyKeysHaveExtraClaims keys' beyond'
removed-held keys keys' beyond beyond' p less same none held q out =
    let here = ap (λ k. set.contains k q) less ∙ contains-remove pair_cmp_total keys p q in
    let one = same_pair q p in
    let free = held q in
    grind (arith, same q)

-- where there is none beyond it, none is
pub none-counted_beyond : (n : ℕ) (some : Bool) → some ≡ nat_lt 0 n → some ≡ false → n ≡ 0
none-counted_beyond n some e f = grind (arith, nat_tests)

-- a claim of a pair that is among others or apart from them
pub one-or : (a b : Bool) → (b ≡ true → a ≡ false) → one_if (a || b) ≡ one_if a + one_if b
one-or a b apart = grind arith

-- ---- keys and routes with one pair more

pub put-among : (keys keys' : Pairs) (routes routes' : Routes) (p : Pair) (new : Option Route) → keys' ≡ set.insert keys p → routes' ≡ put routes p new → ContainsDomain keys routes → ContainsDomain keys' routes'
put-among keys keys' routes routes' p new more after among q out =
    let apart = or_parts (tied q p) (set.contains keys q) (sym (ap (λ k. set.contains k q) more ∙ contains-insert pair_cmp_total keys p q) ∙ out) in
    ap (λ r. finite.get r q) after ∙ get-put pair_cmp_total routes p new q ∙ ap (λ b. cond b new (finite.get routes q)) apart.0 ∙ among q apart.1

pub inserted : (keys keys' : Pairs) (p : Pair) → keys' ≡ set.insert keys p → set.contains keys' p ≡ true
inserted keys keys' p more = ap (λ k. set.contains k p) more ∙ contains-insert pair_cmp_total keys p p ∙ ap (λ b. b || set.contains keys p) (tied_itself p)

pub still-inserted : (keys keys' : Pairs) (p q : Pair) → keys' ≡ set.insert keys p → set.contains keys q ≡ true → set.contains keys' q ≡ true
still-inserted keys keys' p q more there = ap (λ k. set.contains k q) more ∙ contains-insert pair_cmp_total keys p q ∙ ap (λ b. tied q p || b) there ∙ or-true (tied q p)
