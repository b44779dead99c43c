-- What a map holds once a value is put, or taken out, at a key.
use mir.Val.{bool_byte}
use Rattle.std.proofs.Common.{◌≡◌, zero, suc, ◌+◌, ◌≤◌, true, cond, Option, Some, None, is_some, refl, ap, ◌∙◌, arith, Ordering}
use Rattle.std.specs.Ordering.{eq_by_cmp}
use Rattle.std.specs.Cmp.{IsTotalOrder}
use Rattle.std.specs.FinMap.{FinMap, get, len, get-empty, get-insert, get-remove, empty_of_len, len-insert, len-remove}
use Rattle.prefix_store.specs.Stored.{put}

-- the value at the key is the one that was put, and those at others stay
pub get-put : {K R : Type 0} {cmp : K → K → Ordering} (total : IsTotalOrder cmp) (m : FinMap cmp R) (k : K) (new : Option R) (q : K)
    → get (put m k new) q ≡ cond (eq_by_cmp cmp q k) new (get m q)
get-put total m k None q = get-remove total m k q
get-put total m k (Some new) q = get-insert total m k new q

-- a map with a value isn't empty
some_len : {K R : Type 0} {cmp : K → K → Ordering} (m : FinMap cmp R) (k : K) → is_some (get m k) ≡ true → 1 ≤ len m
some_len {cmp = cmp} m k there =
    elim (len m) as (λ size. len m ≡ size → 1 ≤ size) [
      | zero ↦ λ e. let none = ap (λ m. get m k) (empty_of_len m e) ∙ get-empty cmp k in grind arith
      | suc size ↦ λ e. omega arith
    ] refl

-- what a map gains, and what it loses
pub len-put : {K R : Type 0} {cmp : K → K → Ordering} (total : IsTotalOrder cmp) (m : FinMap cmp R) (k : K) (new : Option R)
    → len (put m k new) + bool_byte (is_some (get m k)) ≡ len m + bool_byte (is_some new)
len-put total m k None = let less = len-remove total m k in let some = some_len m k in grind arith
len-put total m k (Some new) = let more = len-insert total m k new in grind arith
