-- The keys that a player wants.
pub use Rattle.octet_forms.proofs.Options.{None_from_is_some as none_from}
use Rattle.std.proofs.Common.{◌≡◌, ℕ, zero, suc, Bool, true, false, ◌||◌, List, [], ◌∷◌, ◌++◌, map, take, is_some, refl, sym, ap, ap₂, ◌∙◌, arith}
use Rattle.std.specs.List.{AllByRecursion, list_any, flat_map}
use Rattle.std.specs.FinMap as finite
use Rattle.std.specs.FinMap.{contains_key-keys}
use Rattle.std.specs.FinSet as set
use Rattle.std.specs.FinSet.{contains-from_list, contains-items}
use Rattle.std.proofs.lemmas.List.Folds.{list_any-append}
use Rattle.std.proofs.Math.Bool.{or-true}
use Rattle.rib_player.specs.declared.pair.Pair.{Pair}
use Rattle.rib_player.specs.Tables.{Pairs}
use Rattle.rib_player.specs.Timeline.{Timeline, current, needed_keys}
use Rattle.rib_player.specs.Journal.{Side, pairs_in}
use Rattle.rib_player.specs.Sides.{AreDistinctKeys, AreDistinct}
use Rattle.rib_player.proofs.PairLaws.{pair_cmp_total}
use Rattle.rib_player.proofs.MarkLaws.{tied, all-among}

-- a step's sides name the pair
abbrev pub side_named : Pair → List Side → Bool
side_named q sides = list_any (tied q) (pairs_in sides)

pub any-take : {A : Type 0} (p : A → Bool) (n : ℕ) (xs : List A) → list_any p xs ≡ false → list_any p (take n xs) ≡ false
any-take p zero xs e = refl
any-take p (suc n) [] e = refl
any-take p (suc n) (x ∷ xs) e = let later = any-take p n xs in grind arith

-- the keys of a player that holds just those that it has to are the wanted ones
any-flat : (q : Pair) (steps : List Pairs) → list_any (tied q) (flat_map set.items steps) ≡ list_any (λ (s : Pairs). set.contains s q) steps
any-flat q [] = refl
any-flat q (s ∷ steps) = list_any-append (tied q) (set.items s) (flat_map set.items steps) ∙ ap₂ (λ a b. a || b) (sym (contains-items s q)) (any-flat q steps)

pub contains-needed_keys : (t : Timeline) (q : Pair) → set.contains (needed_keys t) q ≡ (is_some (finite.get (current t) q) || list_any (λ (s : Pairs). set.contains s q) t.steps)
unfolding needed_keys
contains-needed_keys t q =
    contains-from_list pair_cmp_total (finite.keys (current t) ++ flat_map set.items t.steps) q
    ∙ list_any-append (tied q) (finite.keys (current t)) (flat_map set.items t.steps)
    ∙ ap₂ (λ a b. a || b) (sym (contains_key-keys (current t) q)) (any-flat q t.steps)

-- a step's sides name the pair
any-sides : (q : Pair) (steps : List (List Side)) → list_any (λ (s : Pairs). set.contains s q) (map (λ (sides : List Side). set.from_list (pairs_in sides)) steps) ≡ list_any (side_named q) steps
any-sides q [] = refl
any-sides q (sides ∷ steps) = ap₂ (λ a b. a || b) (contains-from_list pair_cmp_total (pairs_in sides) q) (any-sides q steps)

-- ---- keys of all pairs that steps name

all-kept : (keys : Pairs) (steps : List (List Side)) → AllByRecursion AreDistinct steps → ((q : Pair) → list_any (side_named q) steps ≡ true → set.contains keys q ≡ true) → AllByRecursion (AreDistinctKeys keys) steps
all-kept keys [] distinct have = tt
all-kept keys (sides ∷ steps) distinct have = (
  record { distinct = distinct.0; among_keys = all-among (λ p. set.contains keys p ≡ true) (pairs_in sides) (λ q there. have q (ap (λ b. b || list_any (side_named q) steps) there)) },
  all-kept keys steps distinct.1 (λ q there. have q (ap (λ b. side_named q sides || b) there ∙ or-true (side_named q sides))),
)

-- the steps of a player that has the wanted keys can be crossed
pub needed_keys-kept : (keys : Pairs) (t : Timeline) (steps : List (List Side)) → keys ≡ needed_keys t → t.steps ≡ map (λ (sides : List Side). set.from_list (pairs_in sides)) steps
    → AllByRecursion AreDistinct steps → AllByRecursion (AreDistinctKeys keys) steps
needed_keys-kept keys t steps same named distinct = all-kept keys steps distinct (λ q there.
    ap (λ k. set.contains k q) same ∙ contains-needed_keys t q
    ∙ ap (λ b. is_some (finite.get (current t) q) || b) (ap (list_any (λ (s : Pairs). set.contains s q)) named ∙ any-sides q steps ∙ there)
    ∙ or-true (is_some (finite.get (current t) q)))
