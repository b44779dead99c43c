-- Routes that are taken one by one, the first of those that are left.
use Rattle.std.proofs.Common.{◌≡◌, true, cond, List, [], ◌∷◌, map, length, Option, Some, None, slice_get, sym, ap, subst, ◌∙◌, arith, Equal}
use Rattle.std.specs.Ordering.{eq_by_cmp, is_eq, is_lt}
use Rattle.std.specs.Cmp.{Equal-is, tied_itself}
use Rattle.std.specs.FinMap as finite
use Rattle.std.specs.FinMap.{same_map, empty_of_len, get-empty, get-entries, get-remove, entries_sorted, len-entries, len-empty}
use Rattle.std.specs.Map.{keys_of}
use Rattle.std.specs.List.Sorted.{IsStrictlySortedBy}
use Rattle.std.proofs.lemmas.Map.Keys.{sorted_head}
use Rattle.std.proofs.lemmas.List.{nil_from_length}
use Rattle.std.specs.FinMap.Entries.{find, same_entries, is_sorted-where_key, find-where_key}
use Rattle.std.specs.FinSet as set
use Rattle.std.specs.FinSet.{contains-empty}
use Rattle.ip_prefix.specs.Network.{Network, network_cmp}
use Rattle.ip_prefix.specs.OrderLaws.{network_cmp_total, network_cmp-IsAntisymmetric}
use Rattle.prefix_store.specs.Stored.{Keys, Routes, put, ContainsDomain}
use Rattle.prefix_store.specs.Lookups.{is_above, above}
use Rattle.prefix_store.proofs.AboveLaws.{higher_from, above-next, keys-in_order}

-- what is left once the first is gone
pub record IsTaken {R : Type 0} (routes : Routes R) (e : Network × R) : Type 0 where
  pub all : finite.entries routes ≡ e ∷ finite.entries (put routes e.0 None)
  pub rest : above (Some e.0) (finite.entries (put routes e.0 None)) ≡ finite.entries (put routes e.0 None)
  pub there : finite.get routes e.0 ≡ Some e.1

pub taken : {R : Type 0} (routes : Routes R) (low : Option Network) (e : Network × R) → above low (finite.entries routes) ≡ finite.entries routes
    → slice_get (above low (finite.entries routes)) 0 ≡ Some e → IsTaken routes e
taken {R} routes low e whole first = record {
  all = is ∙ ap (λ s. e ∷ s) (sym left);
  rest = ap (above (Some e.0)) left ∙ higher_from network_cmp_total (λ e. e.0) e.0 rest (sorted_head network_cmp e.0 (keys_of rest) (subst IsSorted is (keys-in_order routes))) ∙ sym left;
  there = found e.0 ∙ ap (λ r. cond (is_eq r) (Some e.1) (find network_cmp e.0 rest)) (tied_itself network_cmp_total e.0);
}
  where
    IsSorted : List (Network × R) → Type 0
    IsSorted es = IsStrictlySortedBy network_cmp (keys_of es)

    rest : List (Network × R)
    rest = above (Some e.0) (finite.entries routes)

    is : finite.entries routes ≡ e ∷ rest
    is = sym whole ∙ above-next low (finite.entries routes) e (keys-in_order routes) first

    found : (q : Network) → finite.get routes q ≡ cond (eq_by_cmp network_cmp q e.0) (Some e.1) (find network_cmp q rest)
    found q = get-entries routes q ∙ ap (find network_cmp q) is

    alike : (q x : Network) → network_cmp q x ≡ Equal → q ≡ x
    alike = network_cmp-IsAntisymmetric

    itself : find network_cmp e.0 rest ≡ None
    itself =
        find-where_key network_cmp (is_above (Some e.0)) e.0 (λ x tie. ap (is_above (Some e.0)) (sym (alike e.0 x tie))) (finite.entries routes)
        ∙ ap (λ r. cond (is_lt r) (find network_cmp e.0 (finite.entries routes)) None) (tied_itself network_cmp_total e.0)

    at : (q : Network) → cond (eq_by_cmp network_cmp q e.0) None (cond (eq_by_cmp network_cmp q e.0) (Some e.1) (find network_cmp q rest)) ≡ find network_cmp q rest
    at q = let one = λ (tied : eq_by_cmp network_cmp q e.0 ≡ true). ap (λ n. find network_cmp n rest) (alike q e.0 ((Equal-is (network_cmp q e.0)).0 tied)) ∙ itself in grind arith

    left : finite.entries (put routes e.0 None) ≡ rest
    left =
        same_entries network_cmp network_cmp_total alike (finite.entries (put routes e.0 None)) rest
        (entries_sorted (put routes e.0 None)) (is_sorted-where_key network_cmp (is_above (Some e.0)) (finite.entries routes) (entries_sorted routes))
        (λ q. sym (get-entries (put routes e.0 None) q) ∙ get-remove network_cmp_total routes e.0 q ∙ ap (cond (eq_by_cmp network_cmp q e.0) None) (found q) ∙ at q)

-- without entries a map is empty
pub no_routes : {R : Type 0} (routes : Routes R) → finite.entries routes ≡ [] → routes ≡ finite.empty
no_routes routes e = empty_of_len routes (len-entries routes ∙ ap length e)

pub values-empty : {R : Type 0} (routes : Routes R) → routes ≡ finite.empty → [] ≡ finite.values routes
values-empty {R} routes e = ap (map (λ e. e.1)) (sym (nil_from_length _ (sym (len-entries routes) ∙ ap finite.len e ∙ len-empty network_cmp R)))

-- a key that is not there has no route, so one with a route is there
pub key-there : {R : Type 0} (keys : Keys) (routes : Routes R) (n : Network) (r : R) → ContainsDomain keys routes → finite.get routes n ≡ Some r → set.contains keys n ≡ true
key-there keys routes n r among found = let none = among n in grind arith

-- without keys there are no routes
pub keyless : {R : Type 0} (keys : Keys) (routes : Routes R) → set.len keys ≡ 0 → ContainsDomain keys routes → routes ≡ finite.empty
keyless keys routes none among =
    same_map network_cmp_total network_cmp-IsAntisymmetric routes finite.empty
    (λ n. among n (ap (λ k. set.contains k n) (set.empty_of_len keys none) ∙ contains-empty network_cmp n) ∙ sym (get-empty network_cmp n))

-- with a route less, keys have it still
pub among-less : {R : Type 0} (keys keys' : Keys) (routes routes' : Routes R) (n : Network) → keys' ≡ keys → routes' ≡ put routes n None → ContainsDomain keys routes → ContainsDomain keys' routes'
among-less keys keys' routes routes' n same less among q out =
    let none = among q (ap (λ k. set.contains k q) (sym same) ∙ out) in
    ap (λ r. finite.get r q) less ∙ get-remove network_cmp_total routes n q ∙ grind arith
