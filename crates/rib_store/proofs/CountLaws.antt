-- How many routes there are.
use mir.Val.{bool_byte}
use Rattle.std.proofs.Common.{◌≡◌, ℕ, zero, suc, ◌+◌, ◌-◌, ◌≤◌, ◌<◌, ◌^◌, true, not, cond, [], ◌∷◌, length, Option, is_some, refl, ap, ◌∙◌, arith}
use Rattle.std.specs.FinSet as set
use Rattle.std.specs.FinMap.{get, len, len-empty}
use Rattle.ip_prefix.specs.Network.{Network, network_cmp}
use Rattle.ip_prefix.specs.OrderLaws.{network_cmp_total}
use Rattle.prefix_store.specs.Stored.{Keys, Routes, put, saturated_count}
use Rattle.prefix_store.proofs.PutLaws.{len-put}
use Rattle.rib_store.specs.Slots.{Slots, routes_in}

-- how many routes there are once one slot is written
pub len-exchanged : {R : Type 0} (old new : Routes R) (prefix : Network) (brought taken_out : Option R) → new ≡ put old prefix brought → taken_out ≡ get old prefix
    → len new + bool_byte (is_some taken_out) ≡ len old + bool_byte (is_some brought)
len-exchanged old new prefix brought taken_out is found = rw (is, found) (len-put network_cmp_total old prefix brought)

-- a set with a key isn't empty
len-some : (keys : Keys) (prefix : Network) → set.contains keys prefix ≡ true → 1 ≤ set.len keys
len-some keys prefix key = elim (set.len keys) as (λ size. set.len keys ≡ size → 1 ≤ size) [
  | zero ↦ λ e. let none = ap (λ s. set.contains s prefix) (set.empty_of_len keys e) ∙ set.contains-empty network_cmp prefix in grind arith
  | suc size ↦ λ e. omega arith
] refl

-- how many keys there are once one is there, and once one is gone
pub len-ensured : (old new : Keys) (prefix : Network) → new ≡ set.insert old prefix → set.len new ≡ set.len old + bool_byte (not (set.contains old prefix))
len-ensured old new prefix is = ap set.len is ∙ set.len-insert network_cmp_total old prefix ∙ grind arith

pub len-removed : (old new : Keys) (prefix : Network) → set.contains old prefix ≡ true → new ≡ set.remove old prefix → set.len new + 1 ≡ set.len old
len-removed old new prefix key is =
    let gone = ap set.len is ∙ set.len-remove network_cmp_total old prefix ∙ ap (λ b. cond b (set.len old - 1) (set.len old)) key in
    let some = len-some old prefix key in
    omega (arith, gone, some)

-- no more routes than slots
pub few_routes : {R : Type 0} (slots : Slots R) → len (routes_in slots) ≤ length slots
unfolding routes_in
few_routes {R} [] = omega (arith, len-empty network_cmp R)
few_routes (slot ∷ slots) =
    let size = len-put network_cmp_total (routes_in slots) slot.0 slot.1 in
    let few = few_routes slots in
    grind arith

-- what a count answers that fits
pub saturated_count-small : (size : ℕ) → size < 2 ^ 64 → saturated_count size ≡ size
saturated_count-small size small = omega (arith, small)
