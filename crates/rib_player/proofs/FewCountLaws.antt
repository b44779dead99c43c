-- How often keys are counted in lists of entries.
use Rattle.std.proofs.Common.{◌≡◌, not, ℕ, zero, suc, ◌+◌, ◌<◌, List, [], ◌∷◌, ◌++◌, length, take, get_or, Bool, true, false, cond, Option, Some, None, is_some, refl, sym, ap, subst, ◌∙◌, arith, Ordering}
use Rattle.std.proofs.Math.ListN.{set}
use Rattle.std.specs.Prelude.{unwrap_or}
use Rattle.std.specs.Map.{lookup}
use Rattle.std.specs.BTreeMap.{is_at}
use Rattle.std.specs.HashMap.Eq.{lookup_congr}
use Rattle.std.specs.Ordering.{eq_by_cmp}
use Rattle.std.specs.Cmp.{IsTotalOrder, eq_by_cmp_equiv}
use Rattle.std.specs.List.{filter}
use Rattle.std.proofs.lemmas.Map.Entries.{lookup-filter-keys}
use Rattle.rib_player.specs.KeyCounts.{count_in, IsFirst}

module _ {K : Type 0} {cmp : K → K → Ordering} (total : IsTotalOrder cmp) where
  -- what stands for a key is another
  pub count-written : (entries entries' : List (K × ℕ)) (key k : K) (w : Option ℕ) → lookup (is_at (cmp k)) entries' ≡ cond (eq_by_cmp cmp key k) w (lookup (is_at (cmp k)) entries)
      → count_in cmp entries' k ≡ cond (eq_by_cmp cmp k key) (unwrap_or w 0) (count_in cmp entries k)
  count-written entries entries' key k w written = let turned = (eq_by_cmp_equiv total).symm key k in grind arith

  -- keys that tie have one count
  pub same-lookup : (entries : List (K × ℕ)) (k key : K) → eq_by_cmp cmp k key ≡ true → lookup (is_at (cmp k)) entries ≡ lookup (is_at (cmp key)) entries
  same-lookup entries k key e = lookup_congr (eq_by_cmp cmp) (eq_by_cmp_equiv total).congr entries k key e

  pub same-count : (entries : List (K × ℕ)) (k key : K) → eq_by_cmp cmp k key ≡ true → count_in cmp entries k ≡ count_in cmp entries key
  same-count entries k key e = ap (λ o. unwrap_or o 0) (same-lookup entries k key e)

  -- where another count stands for the key, what holds of it there and of the others elsewhere holds of each
  pub counted : (entries entries' : List (K × ℕ)) (key : K) (v : ℕ) (R : ℕ → ℕ → Bool → Type 0) → R v (count_in cmp entries key) true → ((m : ℕ) → R m m false)
      → (k : K) → count_in cmp entries' k ≡ cond (eq_by_cmp cmp k key) v (count_in cmp entries k) → R (count_in cmp entries' k) (count_in cmp entries k) (eq_by_cmp cmp k key)
  counted entries entries' key v R here elsewhere k is =
      subst (λ c. R c (count_in cmp entries k) (eq_by_cmp cmp k key)) (sym is)
      (elim (eq_by_cmp cmp k key) as (λ b. eq_by_cmp cmp k key ≡ b → R (cond b v (count_in cmp entries k)) (count_in cmp entries k) b) [
        | true ↦ λ e. subst (λ c. R v c true) (sym (same-count entries k key e)) here
        | false ↦ λ e. elsewhere (count_in cmp entries k)
      ] refl)

  -- ---- the first entry of a key

  behind : (t : Bool) (c : ℕ) (o : Option ℕ) → cond t (Some c) o ≡ None → (t ≡ false) × (o ≡ None)
  behind true c o e = absurd (cc)
  behind false c o e = (refl, e)

  -- the first entry of a key counts
  pub first-count : (entries : List (K × ℕ)) (key : K) (place : ℕ) (d : K × ℕ) → place < length entries → lookup (is_at (cmp key)) (take place entries) ≡ None → is_at (cmp key) (get_or entries place d).0 ≡ true
      → lookup (is_at (cmp key)) entries ≡ Some (get_or entries place d).1
  first-count [] key place d within first ties = absurd (omega arith)
  first-count (e ∷ entries) key zero d within first ties = ap (λ b. cond b (Some e.1) (lookup (is_at (cmp key)) entries)) ties
  first-count (e ∷ entries) key (suc place) d within first ties =
      let parts = behind (is_at (cmp key) e.0) e.1 (lookup (is_at (cmp key)) (take place entries)) first in
      ap (λ b. cond b (Some e.1) (lookup (is_at (cmp key)) entries)) parts.0
      ∙ first-count entries key place d (omega arith) parts.1 ties

  -- another count stands there
  here : (t t' : Bool) (v c : ℕ) (o : Option ℕ) → t ≡ t' → cond t (Some v) o ≡ cond t' (Some v) (cond t (Some c) o)
  here t t' v c o e = grind arith

  there : (t s : Bool) (v c : ℕ) (o : Option ℕ) → (s ≡ true → t ≡ false) → cond t (Some c) (cond s (Some v) o) ≡ cond s (Some v) (cond t (Some c) o)
  there t s v c o apart = grind arith

  pub first-set : (entries : List (K × ℕ)) (key k : K) (place : ℕ) (d : K × ℕ) (v : ℕ) → place < length entries → lookup (is_at (cmp key)) (take place entries) ≡ None → is_at (cmp key) (get_or entries place d).0 ≡ true
      → lookup (is_at (cmp k)) (set entries place ((get_or entries place d).0, v)) ≡ cond (eq_by_cmp cmp key k) (Some v) (lookup (is_at (cmp k)) entries)
  first-set [] key k place d v within first ties = absurd (omega arith)
  first-set (e ∷ entries) key k zero d v within first ties =
      here (is_at (cmp k) e.0) (eq_by_cmp cmp key k) v e.1 (lookup (is_at (cmp k)) entries) (tied_here e.0 ties)
    where
      tied_here : (x : K) → is_at (cmp key) x ≡ true → is_at (cmp k) x ≡ eq_by_cmp cmp key k
      tied_here x t = (eq_by_cmp_equiv total).symm k x ∙ sym ((eq_by_cmp_equiv total).congr key x k t)
  first-set (e ∷ entries) key k (suc place) d v within first ties =
      let parts = behind (is_at (cmp key) e.0) e.1 (lookup (is_at (cmp key)) (take place entries)) first in
      ap (λ o. cond (is_at (cmp k) e.0) (Some e.1) o) (first-set entries key k place d v (omega arith) parts.1 ties)
      ∙ there (is_at (cmp k) e.0) (eq_by_cmp cmp key k) v e.1 (lookup (is_at (cmp k)) entries) (λ t. sym ((eq_by_cmp_equiv total).congr key k e.0 t) ∙ parts.0)

  -- ---- an entry more, or fewer

  pub lookup-append : (test : K → Bool) (entries : List (K × ℕ)) (e : K × ℕ) → lookup test (entries ++ e ∷ []) ≡ cond (is_some (lookup test entries)) (lookup test entries) (cond (test e.0) (Some e.1) None)
  lookup-append test [] e = refl
  lookup-append test (first ∷ entries) e = let rest = lookup-append test entries e in grind arith

  pub appended : (entries : List (K × ℕ)) (key k : K) (v : ℕ) → lookup (is_at (cmp key)) entries ≡ None
      → lookup (is_at (cmp k)) (entries ++ (key, v) ∷ []) ≡ cond (eq_by_cmp cmp key k) (Some v) (lookup (is_at (cmp k)) entries)
  appended entries key k v none =
      let both = lookup-append (is_at (cmp k)) entries (key, v) in
      let turned = (eq_by_cmp_equiv total).symm key k in
      let same = same-lookup entries k key in
      grind arith

-- none of the entries so far has the key, nor this one
one-further : {K : Type 0} (test : K → Bool) (entries : List (K × ℕ)) (place : ℕ) (d : K × ℕ) → place < length entries → lookup test (take place entries) ≡ None → test (get_or entries place d).0 ≡ false
    → lookup test (take (suc place) entries) ≡ None
one-further test [] place d within none other = absurd (omega arith)
one-further test (e ∷ entries) zero d within none other = ap (λ b. cond b (Some e.1) None) other
one-further test (e ∷ entries) (suc place) d within none other =
    let parts = split (test e.0) e.1 (lookup test (take place entries)) none in
    ap (λ b. cond b (Some e.1) (lookup test (take (suc place) entries))) parts.0 ∙ one-further test entries place d (omega arith) parts.1 other
  where
    split : (t : Bool) (c : ℕ) (o : Option ℕ) → cond t (Some c) o ≡ None → (t ≡ false) × (o ≡ None)
    split true c o e = absurd (cc)
    split false c o e = (refl, e)

pub none-further : {K : Type 0} (test : K → Bool) (entries : List (K × ℕ)) (place : ℕ) (d : K × ℕ) → place < length entries → lookup test (take place entries) ≡ None → test (get_or entries place d).0 ≡ false
    → lookup test (take (place + 1) entries) ≡ None
none-further test entries place d within none other = ap (λ n. lookup test (take n entries)) {x = place + 1} {y = suc place} (omega arith) ∙ one-further test entries place d within none other

-- what stands at the first place of a key, and what another count there leaves
module _ {K : Type 0} {cmp : K → K → Ordering} (total : IsTotalOrder cmp) where
  pub found-count : (entries : List (K × ℕ)) (key : K) (place : ℕ) (e : K × ℕ) → IsFirst cmp key entries place → e ≡ get_or entries place e → count_in cmp entries key ≡ e.1
  found-count entries key place e first is =
      ap (λ o. unwrap_or o 0) (first-count total entries key place e first.within first.first (first.ties e)) ∙ sym (ap (λ (x : K × ℕ). x.1) is)

  pub found-written : (entries : List (K × ℕ)) (key k : K) (place : ℕ) (e : K × ℕ) (v : ℕ) → IsFirst cmp key entries place → e ≡ get_or entries place e
      → count_in cmp (set entries place (e.0, v)) k ≡ cond (eq_by_cmp cmp k key) v (count_in cmp entries k)
  found-written entries key k place e v first is =
      count-written total entries (set entries place (e.0, v)) key k (Some v)
      (ap (λ (x : K × ℕ). lookup (is_at (cmp k)) (set entries place (x.0, v))) is ∙ first-set total entries key k place e v first.within first.first (first.ties e))

  -- where the entries of a key are left out
  pub left-out : (entries : List (K × ℕ)) (key k : K) → count_in cmp (filter (λ e. not (is_at (cmp key) e.0)) entries) k ≡ cond (eq_by_cmp cmp k key) 0 (count_in cmp entries k)
  left-out entries key k =
      count-written total entries (filter (λ e. not (is_at (cmp key) e.0)) entries) key k None
      (lookup-filter-keys (is_at (cmp k)) (λ x. not (is_at (cmp key) x)) (not (eq_by_cmp cmp key k)) other entries ∙ turned (eq_by_cmp cmp key k) (lookup (is_at (cmp k)) entries))
    where
      other : (x : K) → is_at (cmp k) x ≡ true → not (is_at (cmp key) x) ≡ not (eq_by_cmp cmp key k)
      other x t = ap not ((eq_by_cmp_equiv total).symm key x ∙ sym ((eq_by_cmp_equiv total).congr k x key t) ∙ (eq_by_cmp_equiv total).symm k key)

      turned : (b : Bool) (o : Option ℕ) → cond (not b) o None ≡ cond b None o
      turned true o = refl
      turned false o = refl
