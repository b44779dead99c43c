-- Routes in order, and those above a prefix.
use Rattle.std.proofs.Common.{◌≡◌, ℕ, zero, suc, ◌<◌, ◌-◌, take, drop, Bool, true, T, List, [], ◌∷◌, ◌++◌, map, length, Option, Some, None, slice_get, refl, sym, ap, ◌∙◌, arith, Bor, option_copied, is_lt, Ordering, Less}
use Rattle.std.proofs.lemmas.List.{length-map, take-append-drop}
use Rattle.std.proofs.lemmas.Grind.{common_steps}
use Rattle.std.proofs.lemmas.Option.{slice_get-map, slice_get-get_or}
use Rattle.std.specs.List.{filter, AllByRecursion}
use Rattle.std.specs.List.Sorted.{IsStrictlySortedBy}
use Rattle.std.specs.Cmp.{IsTotalOrder, tied_itself}
use Rattle.std.proofs.lemmas.Map.Keys.{sorted_head, sorted_tail}
use Rattle.std.specs.FinMap as finite
use Rattle.std.specs.FinMap.{FinMap}
use Rattle.std.specs.FinMap.Entries.{is_sorted, below_all}
use Rattle.std.proofs.lemmas.Bool.{and_parts}
use Rattle.ip_prefix.specs.Network.{Network, network_cmp}
use Rattle.ip_prefix.specs.OrderLaws.{network_cmp_total}
use Rattle.prefix_store.specs.Lookups.{is_above_bound, above, dereferenced}

-- ---- those above a key, in a list in the order of its keys

-- what a test for less tells
pub is_less : (r : Ordering) → is_lt r ≡ true → r ≡ Less
is_less r e = grind arith

first_passes : {A : Type 0} (p : A → Bool) (xs : List A) (x : A) → slice_get (filter p xs) 0 ≡ Some x → p x ≡ true
first_passes p [] x e = cc
first_passes p (y ∷ xs) x e = grind (arith, first_passes p xs x)

module _ {K A : Type 0} {R : K → K → Ordering} (o : IsTotalOrder R) (key : A → K) where
  abbrev higher : Option K → List A → List A
  higher low xs = filter (λ x. is_above_bound R low (key x)) xs

  higher_trans : (low : Option K) (x y : K) → is_above_bound R low x ≡ true → is_lt (R x y) ≡ true → is_above_bound R low y ≡ true
  higher_trans None x y e f = refl
  higher_trans (Some l) x y e f = ap is_lt (o.trans l x y (is_less _ e) (is_less _ f))

  -- all that follow one that is above are above
  all_higher : (low : Option K) (x : K) (xs : List A) → is_above_bound R low x ≡ true → AllByRecursion (λ y. R x y ≡ Less) (map key xs) → higher low xs ≡ xs
  all_higher low x [] above below = refl
  all_higher low x (y ∷ xs) above below =
      let rest = all_higher low x xs above below.1 in
      let first = higher_trans low x (key y) above (ap is_lt below.0) in
      grind arith

  pub higher_from : (x : K) (xs : List A) → AllByRecursion (λ y. R x y ≡ Less) (map key xs) → higher (Some x) xs ≡ xs
  higher_from x [] below = refl
  higher_from x (y ∷ xs) below = let rest = higher_from x xs below.1 in let first = ap is_lt below.0 in grind arith

  -- the first that is above a key, and those above it
  pub higher-next : (low : Option K) (xs : List A) (x : A) → IsStrictlySortedBy R (map key xs) → slice_get (higher low xs) 0 ≡ Some x → higher low xs ≡ x ∷ higher (Some (key x)) xs
  higher-next low [] x sorted is = cc
  higher-next low (y ∷ xs) x sorted is =
      let below = sorted_head R (key y) (map key xs) sorted in
      let own = higher_from (key y) xs below in
      let all = λ (here : is_above_bound R low (key y) ≡ true). all_higher low (key y) xs here below in
      let rest = higher-next low xs x (sorted_tail R (key y) (map key xs) sorted) in
      let found = first_passes (λ z. is_above_bound R low (key z)) xs x in
      let lower = higher_trans low (key x) (key y) in
      let tied = ap is_lt (tied_itself o (key y)) in
      grind arith

-- ---- the keys of a map are in order

pub is_true : (b : Bool) → T b → b ≡ true
is_true b p = grind arith

module _ {K X : Type 0} (R : K → K → Ordering) where
  below-in_order : (x : K) (es : List (K × X)) → below_all R x es ≡ true → AllByRecursion (λ y. R x y ≡ Less) (map (λ e. e.0) es)
  below-in_order x [] f = tt
  below-in_order x (e ∷ es) f =
      let parts = and_parts (is_lt (R x e.0)) (below_all R x es) f in
      (is_less _ parts.0, below-in_order x es parts.1)

  in_order : (es : List (K × X)) → is_sorted R es ≡ true → IsStrictlySortedBy R (map (λ e. e.0) es)
  unfolding IsStrictlySortedBy
  in_order [] sorted = tt
  in_order (e ∷ es) sorted =
      let parts = and_parts (below_all R e.0 es) (is_sorted R es) sorted in
      (below-in_order e.0 es parts.0, in_order es parts.1)

pub keys-in_order : {K X : Type 0} {R : K → K → Ordering} (m : FinMap R X) → IsStrictlySortedBy R (finite.keys m)
keys-in_order {R = R} m = in_order R (finite.entries m) (is_true _ (finite.entries_sorted m))

-- the first route above a prefix, and those above that one
pub above-next : {R : Type 0} (low : Option Network) (es : List (Network × R)) (e : Network × R) → IsStrictlySortedBy network_cmp (map (λ e. e.0) es) → slice_get (above low es) 0 ≡ Some e
    → above low es ≡ e ∷ above (Some e.0) es
above-next = higher-next network_cmp_total (λ e. e.0)

pub above-none : {R : Type 0} (es : List (Network × R)) → above None es ≡ es
above-none [] = refl
above-none (e ∷ es) = grind (arith, above-none es)

pub none-above : {A : Type 0} (xs : List A) → slice_get xs 0 ≡ None → xs ≡ []
none-above [] e = refl
none-above (x ∷ xs) e = cc

rest_of : {A : Type 0} {x y : A} {xs ys : List A} → x ∷ xs ≡ y ∷ ys → xs ≡ ys
rest_of e = cc

-- what follows one of those above a prefix are those above that one
pub above-rest : {R : Type 0} (low : Option Network) (es : List (Network × R)) → IsStrictlySortedBy network_cmp (map (λ e. e.0) es) → (xs : List (Network × R)) (e : Network × R) (rest : List (Network × R)) → above low es ≡ xs ++ e ∷ rest
    → rest ≡ above (Some e.0) es
above-rest low es sorted [] e rest is = rest_of (sym is ∙ above-next low es e sorted (ap (λ s. slice_get s 0) is))
above-rest low es sorted (x ∷ xs) e rest is =
    above-rest (Some x.0) es sorted xs e rest (rest_of (sym (above-next low es x sorted (ap (λ s. slice_get s 0) is)) ∙ is))

-- a list up to its last, and that one
pub split_last : {A : Type 0} (xs : List A) (e : A) (n : ℕ) → n ≡ length xs - 1 → slice_get xs n ≡ Some e → (ys : List A) × (xs ≡ ys ++ e ∷ [])
split_last [] e n at is = cc
split_last (x ∷ []) e zero at is = ([], grind arith)
split_last (x ∷ []) e (suc n) at is = absurd (omega arith)
split_last (x ∷ y ∷ xs) e zero at is = absurd (omega arith)
split_last (x ∷ y ∷ xs) e (suc n) at is = let rest = split_last (y ∷ xs) e n (omega arith) is in (x ∷ rest.0, cc)

-- behind the first of them, as many as there is room for, are those above the last of these
pub above-front : {R : Type 0} (low : Option Network) (es : List (Network × R)) → IsStrictlySortedBy network_cmp (map (λ e. e.0) es) → (room : ℕ) (xs : List (Network × R)) (e : Network × R)
    → xs ≡ take room (above low es) → ((ys : List (Network × R)) × (xs ≡ ys ++ e ∷ [])) → above low es ≡ xs ++ above (Some e.0) es
above-front low es sorted room xs e front split =
    let behind = drop room (above low es) in
    let parts = take-append-drop room (above low es) in
    let rest = above-rest low es sorted split.0 e behind in
    grind (arith, common_steps)

-- where there is room, and none is found, none is left
pub none-left : {A : Type 0} (room : ℕ) (xs : List A) → 0 < room → [] ≡ take room xs → xs ≡ []
none-left zero xs some none = absurd (omega arith)
none-left (suc n) xs some none = grind arith

-- what is seen of a list ends with what is seen of its last
pub seen_last : {A B : Type 0} (view : A → B) (found : List A) (last : Option (Bor A)) (end : Bor A) → option_copied last ≡ slice_get found (length found - 1) → last ≡ Some end
    → (ys : List B) × (map view found ≡ ys ++ view end.now ∷ [])
seen_last view found last end is some =
    let seen = slice_get-map view found (length found - 1) in
    split_last (map view found) (view end.now) (length found - 1) (omega (arith, length-map found view)) (grind arith)

-- and where there is no last, none is seen
pub seen_none : {A B : Type 0} (view : A → B) (found : List A) (last : Option (Bor A)) → option_copied last ≡ slice_get found (length found - 1) → last ≡ None → [] ≡ map view found
seen_none view [] last is none = refl
seen_none view (f ∷ found) last is none = let there = slice_get-get_or (f ∷ found) (length (f ∷ found) - 1) f (omega arith) in grind arith

-- ---- what was found so far

pub take-nil : {A : Type 0} (n : ℕ) → take {A = A} n [] ≡ []
take-nil n = grind arith

pub length-dereferenced : {R : Type 0} (found : List (Network × Bor R)) → length (dereferenced found) ≡ length found
length-dereferenced found = length-map found (λ p. (p.0, p.1.now))
