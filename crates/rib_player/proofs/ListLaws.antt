-- What stands in a list of which an element was written, added or taken out.
pub use Rattle.rib_player.specs.Indices.{IsSwapRemoved}
use Rattle.std.proofs.Common.{◌≡◌, ◌≢◌, ℕ, zero, suc, ◌+◌, ◌-◌, ◌<◌, ◌≤◌, true, List, [], ◌∷◌, ◌++◌, map, set, length, get_or, Option, Some, None, is_some, slice_get, refl, sym, ap, ◌∙◌, arith, Bor, option_map, option_copied}
use Rattle.std.specs.List.{AllByRecursion}
use Rattle.std.specs.Slice.{IsItemAt}
use Rattle.std.proofs.lemmas.List.{length-map, length-set, get_or-set_same}
use Rattle.std.proofs.lemmas.Option.{slice_get-map, slice_get-get_or, slice_get_past}

-- what follows of each element from what holds of it
pub all-then : {A : Type 0} (P Q : A → Type 0) (xs : List A) → ((x : A) → P x → Q x) → AllByRecursion P xs → AllByRecursion Q xs
all-then P Q [] then all = tt
all-then P Q (x ∷ xs) then all = (then x all.0, all-then P Q xs then all.1)

module _ {X : Type 0} where
  pub get-within : (xs : List X) (i : ℕ) → i < length xs → is_some (slice_get xs i) ≡ true
  get-within [] i within = absurd (omega (arith, within))
  get-within (x ∷ xs) zero within = refl
  get-within (x ∷ xs) (suc i) within = get-within xs i (omega (arith, within))

  -- what is found where it is looked for
  pub copied-at : (xs : List X) (i : ℕ) (found : Option (Bor X)) → IsItemAt xs i found → option_copied found ≡ slice_get xs i
  copied-at xs i None item = sym (slice_get_past xs i item.3)
  copied-at xs i (Some x) item = sym (slice_get-get_or xs i x.now item.3.0 ∙ ap Some (sym item.1))

  pub get-past : (xs : List X) (i : ℕ) → slice_get xs i ≡ None → length xs ≤ i
  get-past [] i is = omega arith
  get-past (x ∷ xs) zero is = cc
  get-past (x ∷ xs) (suc i) is = omega (arith, get-past xs i is)

  pub get-set_same : (xs : List X) (i : ℕ) (w : X) → i < length xs → slice_get (set xs i w) i ≡ Some w
  get-set_same xs i w within =
      slice_get-get_or (set xs i w) i w (omega (arith, within, length-set xs i w)) ∙ ap Some (get_or-set_same xs i w w within)

  pub get-set_other : (xs : List X) (i j : ℕ) (w : X) → j ≢ i → slice_get (set xs i w) j ≡ slice_get xs j
  get-set_other [] i j w differs = refl
  get-set_other (x ∷ xs) zero zero w differs = absurd (differs refl)
  get-set_other (x ∷ xs) zero (suc j) w differs = refl
  get-set_other (x ∷ xs) (suc i) zero w differs = refl
  get-set_other (x ∷ xs) (suc i) (suc j) w differs = get-set_other xs i j w (λ same. differs (ap suc same))

  pub get-push_last : (xs : List X) (x : X) → slice_get (xs ++ x ∷ []) (length xs) ≡ Some x
  get-push_last [] x = refl
  get-push_last (y ∷ xs) x = get-push_last xs x

  pub get-push_other : (xs : List X) (x : X) (i : ℕ) → i < length xs → slice_get (xs ++ x ∷ []) i ≡ slice_get xs i
  get-push_other [] x i within = absurd (omega (arith, within))
  get-push_other (y ∷ xs) x zero within = refl
  get-push_other (y ∷ xs) x (suc i) within = get-push_other xs x i (omega (arith, within))

  -- the same, where the lists are told to have so many
  pub swapped : (old new : List X) (n n' i : ℕ) (d : X) → n ≡ length old → n' ≡ length new → n' + 1 ≡ n → ((d : X) → i + 1 < n → get_or new i d ≡ get_or old (n - 1) d)
      → ((j : ℕ) (d : X) → j ≢ i → j + 1 < n → get_or new j d ≡ get_or old j d) → IsSwapRemoved old new i
  swapped old new n n' i d is is' less last others = record {
    len = omega (arith, is, is', less);
    last = λ within.
        let end : n - 1 ≡ length new = omega (arith, is', less) in
        slice_get-get_or new i d within ∙ ap Some (last d (omega (arith, within, is', less)) ∙ ap (λ k. get_or old k d) end)
        ∙ sym (slice_get-get_or old (length new) d (omega (arith, is, is', less)));
    others = λ j differs within.
        slice_get-get_or new j d within ∙ ap Some (others j d differs (omega (arith, within, is', less)))
        ∙ sym (slice_get-get_or old j d (omega (arith, within, is, is', less)));
  }

pub swapped-map : {X Y : Type 0} (f : X → Y) (old new : List X) (i : ℕ) → IsSwapRemoved old new i → IsSwapRemoved (map f old) (map f new) i
swapped-map f old new i is = record {
  len = omega (arith, is.len, length-map old f, length-map new f);
  last = λ within.
      slice_get-map f new i ∙ ap (option_map f) (is.last (omega (arith, within, length-map new f)))
      ∙ sym (slice_get-map f old (length new)) ∙ ap (slice_get (map f old)) (sym (length-map new f));
  others = λ j differs within.
      slice_get-map f new j ∙ ap (option_map f) (is.others j differs (omega (arith, within, length-map new f)))
      ∙ sym (slice_get-map f old j);
}
