-- Lists: their parts, what is written into them, and what holds of each element.
use Rattle.std.proofs.Common.{◌≡◌, ℕ, zero, suc, ◌+◌, ◌-◌, ◌<◌, ◌≤◌, true, false, List, [], ◌∷◌, ◌++◌, length, take, drop, get_or, set, replicate, refl, ap, ap₂, sym, ◌∙◌, arith, append_assoc, length-take-le, take-append-drop, eqb-true, add-sub_of_le}
use Rattle.std.specs.Prelude.{slice_get, nat_eq}
use Rattle.std.specs.List.{AllByRecursion}
use Rattle.std.proofs.lemmas.List.{drop-append-le, drop-drop, drop-take, length_push, take-append-le, take_all, take_rest, take-take}

-- ---- parts

-- lists of one length that begin one list are one, and so is what follows them
pub append_parts : {A : Type 0} → (xs ys us vs : List A) → length xs ≡ length ys → xs ++ us ≡ ys ++ vs → (xs ≡ ys) × (us ≡ vs)
append_parts [] [] us vs size e = (refl, e)
append_parts [] (y ∷ ys) us vs size e = absurd (omega arith)
append_parts (x ∷ xs) [] us vs size e = absurd (omega arith)
append_parts (x ∷ xs) (y ∷ ys) us vs size e =
    let first : x ≡ y = cc in
    let more : xs ++ us ≡ ys ++ vs = cc in
    let rest = append_parts xs ys us vs (omega arith) more in
    ((λ i. first i ∷ rest.0 i), rest.1)

-- what stands before others in nothing is nothing
pub nothing_before : {A : Type 0} (front rest : List A) → [] ≡ front ++ rest → front ≡ []
nothing_before [] rest e = refl
nothing_before (x ∷ front) rest e = cc

-- a list that has elements isn't empty
pub nonempty : {A : Type 0} (xs : List A) → nat_eq (length xs) 0 ≡ false → xs ≡ [] → ⊥
nonempty xs e h = let f : nat_eq 0 0 ≡ false = sym (ap (λ l. nat_eq (length l) 0) h) ∙ e in cc

-- and one of none is
pub no_elements : {A : Type 0} (xs : List A) → nat_eq (length xs) 0 ≡ true → xs ≡ []
no_elements [] e = refl
no_elements (x ∷ xs) e = let none : length (x ∷ xs) ≡ 0 = eqb-true (length (x ∷ xs)) 0 e in absurd (omega arith)

-- the first elements in two parts
pub take_in_parts : {A : Type 0} (low high : ℕ) (xs : List A) → low ≤ high → take low xs ++ take (high - low) (drop low xs) ≡ take high xs
take_in_parts low high xs h =
    ap₂ (λ a b. a ++ b)
    (sym (take-take low high xs h))
    (sym (drop-take low (high - low) xs) ∙ ap (λ n. drop low (take n xs)) (add-sub_of_le h))
    ∙ take-append-drop low (take high xs)

-- what stands from a place on, in two parts
pub drop_in_parts : {A : Type 0} (place size : ℕ) (xs : List A) → drop place xs ≡ take size (drop place xs) ++ drop (place + size) xs
drop_in_parts place size xs = sym (take-append-drop size (drop place xs)) ∙ ap (λ l. take size (drop place xs) ++ l) (drop-drop size place xs)

-- a front of the rest goes over to what stands before it
pub front_moved : {A : Type 0} (all front rest : List A) (n : ℕ) → all ≡ front ++ rest → all ≡ (front ++ take n rest) ++ take (length rest - n) (drop n rest)
front_moved all front rest n e =
    e ∙ ap (λ l. front ++ l) (sym (take-append-drop n rest)) ∙ sym (append_assoc front (take n rest) (drop n rest)) ∙ ap (λ l. (front ++ take n rest) ++ l) (sym (take_rest rest n))

-- an element of the rest of a list
pub slice_get-drop : {A : Type 0} (low k i : ℕ) (xs : List A) → low + k ≡ i → slice_get (drop low xs) k ≡ slice_get xs i
slice_get-drop zero k i xs e = ap (slice_get xs) (omega arith)
slice_get-drop (suc low) k i [] e = refl
slice_get-drop (suc low) k zero (x ∷ xs) e = absurd (omega arith)
slice_get-drop (suc low) k (suc i) (x ∷ xs) e = slice_get-drop low k i xs (omega arith)

-- ---- one element more

-- the first elements and one more are all of these
pub take_pushed : {A : Type 0} (n : ℕ) (xs : List A) (x : A) → n ≤ length xs → take (n + 1) (take n xs ++ x ∷ []) ≡ take n xs ++ x ∷ []
take_pushed n xs x h = take_all (n + 1) (take n xs ++ x ∷ []) (omega (arith, length_push (take n xs) x, length-take-le n xs h))

-- what stands before a lower place
pub take_below_pushed : {A : Type 0} (low high : ℕ) (xs : List A) (x : A) → low ≤ high → high ≤ length xs → take low (take high xs ++ x ∷ []) ≡ take low xs
take_below_pushed low high xs x h k = take-append-le low (take high xs) (x ∷ []) (omega (arith, length-take-le high xs k)) ∙ take-take low high xs h

-- and what stands behind it
pub drop_below_pushed : {A : Type 0} (low high : ℕ) (xs : List A) (x : A) → low ≤ high → high ≤ length xs → drop low (take high xs ++ x ∷ []) ≡ take (high - low) (drop low xs) ++ x ∷ []
drop_below_pushed low high xs x h k =
    drop-append-le low (take high xs) (x ∷ []) (omega (arith, length-take-le high xs k))
    ∙ ap (λ ys. ys ++ x ∷ []) (ap (λ n. drop low (take n xs)) (sym (add-sub_of_le h)) ∙ drop-take low (high - low) xs)

-- ---- what holds of each element

-- where it holds at each place, it holds of each
pub AllByRecursion-from_get_or : {A : Type 0} (P : A → Type 0) (xs : List A) (d : A) → ((i : ℕ) → i < length xs → P (get_or xs i d)) → AllByRecursion P xs
AllByRecursion-from_get_or P [] d each = tt
AllByRecursion-from_get_or P (x ∷ xs) d each = (each 0 (omega arith), AllByRecursion-from_get_or P xs d (λ i within. each (suc i) (omega arith)))

-- and where it holds of each, at each place
pub AllByRecursion-get_or : {A : Type 0} (P : A → Type 0) (xs : List A) (i : ℕ) (d : A) → i < length xs → AllByRecursion P xs → P (get_or xs i d)
AllByRecursion-get_or P [] i d within all = absurd (omega arith)
AllByRecursion-get_or P (x ∷ xs) zero d within all = all.0
AllByRecursion-get_or P (x ∷ xs) (suc i) d within all = AllByRecursion-get_or P xs i d (omega arith) all.1

-- it holds of the first
pub AllByRecursion-take : {A : Type 0} (P : A → Type 0) (n : ℕ) (xs : List A) → AllByRecursion P xs → AllByRecursion P (take n xs)
AllByRecursion-take P zero xs all = tt
AllByRecursion-take P (suc n) [] all = tt
AllByRecursion-take P (suc n) (x ∷ xs) all = (all.0, AllByRecursion-take P n xs all.1)

-- and of those behind them
pub AllByRecursion-drop : {A : Type 0} (P : A → Type 0) (n : ℕ) (xs : List A) → AllByRecursion P xs → AllByRecursion P (drop n xs)
AllByRecursion-drop P zero xs all = all
AllByRecursion-drop P (suc n) [] all = tt
AllByRecursion-drop P (suc n) (x ∷ xs) all = AllByRecursion-drop P n xs all.1

-- it holds of the elements of two lists, one behind the other
pub AllByRecursion-append : {A : Type 0} (P : A → Type 0) (xs ys : List A) → AllByRecursion P xs → AllByRecursion P ys → AllByRecursion P (xs ++ ys)
AllByRecursion-append P [] ys all more = more
AllByRecursion-append P (x ∷ xs) ys all more = (all.0, AllByRecursion-append P xs ys all.1 more)

-- of one element more
pub AllByRecursion-push : {A : Type 0} (P : A → Type 0) (xs : List A) (x : A) → AllByRecursion P xs → P x → AllByRecursion P (xs ++ x ∷ [])
AllByRecursion-push P xs x all one = AllByRecursion-append P xs (x ∷ []) all (one, tt)

-- of equal ones
pub AllByRecursion-replicate : {A : Type 0} (P : A → Type 0) (n : ℕ) (x : A) → P x → AllByRecursion P (replicate n x)
AllByRecursion-replicate P zero x one = tt
AllByRecursion-replicate P (suc n) x one = (one, AllByRecursion-replicate P n x one)

-- and still where one is written of which it holds
pub AllByRecursion-set : {A : Type 0} (P : A → Type 0) (xs : List A) (i : ℕ) (new : A) → P new → AllByRecursion P xs → AllByRecursion P (set xs i new)
AllByRecursion-set P [] i new one all = tt
AllByRecursion-set P (x ∷ xs) zero new one all = (one, all.1)
AllByRecursion-set P (x ∷ xs) (suc i) new one all = (all.0, AllByRecursion-set P xs i new one all.1)

-- ---- filters
