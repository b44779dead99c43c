-- Slots in order, and the routes in them.
use Rattle.std.proofs.lemmas.List.{nil_from_length}
use Rattle.std.proofs.Common.{◌≡◌, Bool, cond, [], ◌∷◌, Option, Some, None, slice_get, refl, sym, ap, ◌∙◌, arith, is_eq, Less}
use Rattle.std.specs.List.{filter, AllByRecursion}
use Rattle.std.specs.List.Sorted.{IsStrictlySortedBy}
use Rattle.std.specs.Map.{keys_of}
use Rattle.std.specs.FinMap as finite
use Rattle.std.specs.FinMap.{entries-insert, len-entries, len-empty}
use Rattle.std.specs.FinMap.Entries as entries
use Rattle.std.specs.declared.ops.Bound.{Bound}
use Rattle.std.specs.declared.ops.Bound.TheVariants.{Unbounded}
use Rattle.std.specs.BTreeMap.Range.{range_contains, entries_between}
use Rattle.std.proofs.lemmas.Map.Keys.{sorted_head, sorted_tail}
use Rattle.ip_prefix.specs.Network.{Network, network_cmp}
use Rattle.ip_prefix.specs.OrderLaws.{network_cmp_total}
use Rattle.prefix_store.specs.Lookups.{is_above, above}
use Rattle.rib_store.specs.Slots.{Slots, slot_at, routes_in, routed, route_of_slot}
use Rattle.prefix_store.proofs.StoredLaws.{put-none}
use Rattle.rib_store.proofs.SlotLaws.{get-routes_in}

-- a route before all others of a list
put-front : {R : Type 0} (k : Network) (r : R) (slots : Slots R) → AllByRecursion (λ y. network_cmp k y ≡ Less) (keys_of slots) → entries.put network_cmp k r (routed slots) ≡ (k, r) ∷ routed slots
unfolding routed
put-front k r [] all = refl
put-front k r ((prefix, None) ∷ slots) all = put-front k r slots all.1
put-front k r ((prefix, Some route) ∷ slots) all = ap (λ o. entries.by_order o ((k, r) ∷ (prefix, route) ∷ routed slots) ((prefix, r) ∷ routed slots) ((prefix, route) ∷ entries.put network_cmp k r (routed slots))) all.0

absent_front : {R : Type 0} (k : Network) (slots : Slots R) → AllByRecursion (λ y. network_cmp k y ≡ Less) (keys_of slots) → slot_at slots k ≡ None
absent_front k [] all = refl
absent_front k (slot ∷ slots) all = ap (λ o. cond (is_eq o) (Some slot.1) (slot_at slots k)) all.0 ∙ absent_front k slots all.1

-- the routes of slots in order, in order
pub entries-routes_in : {R : Type 0} (slots : Slots R) → IsStrictlySortedBy network_cmp (keys_of slots) → finite.entries (routes_in slots) ≡ routed slots
unfolding routes_in routed
entries-routes_in {R} [] sorted = nil_from_length _ (sym (len-entries (finite.empty {X = R} {R = network_cmp})) ∙ len-empty network_cmp R)
entries-routes_in ((prefix, None) ∷ slots) sorted =
    let none = get-routes_in slots prefix ∙ ap route_of_slot (absent_front prefix slots (sorted_head network_cmp prefix (keys_of slots) sorted)) in
    ap finite.entries (put-none (routes_in slots) prefix none) ∙ entries-routes_in slots (sorted_tail network_cmp prefix (keys_of slots) sorted)
entries-routes_in ((prefix, Some route) ∷ slots) sorted =
    entries-insert network_cmp_total (routes_in slots) prefix route
    ∙ ap (entries.put network_cmp prefix route) (entries-routes_in slots (sorted_tail network_cmp prefix (keys_of slots) sorted))
    ∙ put-front prefix route slots (sorted_head network_cmp prefix (keys_of slots) sorted)

-- a filter by the keys, before the routes are taken or behind it
pub routed-filter : {R : Type 0} (low : Option Network) (p : Network → Bool) → ((n : Network) → p n ≡ is_above low n) → (slots : Slots R) → routed (filter (λ slot. p slot.0) slots) ≡ above low (routed slots)
unfolding routed
routed-filter low p same [] = refl
routed-filter low p same ((prefix, None) ∷ slots) = grind (arith, routed-filter low p same slots)
routed-filter low p same ((prefix, Some route) ∷ slots) = grind (arith, routed-filter low p same slots, same prefix)

pub routed-nil : {R : Type 0} → routed {R = R} [] ≡ []
unfolding routed
routed-nil = refl

pub routed-some : {R : Type 0} (prefix : Network) (slot : Option R) (route : R) (slots : Slots R) → slot ≡ Some route → routed ((prefix, slot) ∷ slots) ≡ (prefix, route) ∷ routed slots
unfolding routed
routed-some prefix slot route slots e = ap (λ s. routed ((prefix, s) ∷ slots)) e

pub routed-none : {R : Type 0} (prefix : Network) (slot : Option R) (slots : Slots R) → slot ≡ None → routed ((prefix, slot) ∷ slots) ≡ routed slots
unfolding routed
routed-none prefix slot slots e = ap (λ s. routed ((prefix, s) ∷ slots)) e

-- what a range of slots shows first
pub first-above : {R : Type 0} (low : Option Network) (bound : Bound Network) (slots shown : Slots R) → ((n : Network) → range_contains network_cmp bound Unbounded n ≡ is_above low n)
    → IsStrictlySortedBy network_cmp (keys_of slots) → shown ≡ entries_between network_cmp bound Unbounded slots
    → slice_get (routed shown) 0 ≡ slice_get (above low (finite.entries (routes_in slots))) 0
first-above low bound slots shown same sorted is =
    ap (λ s. slice_get s 0) (ap routed is ∙ routed-filter low (range_contains network_cmp bound Unbounded) same slots ∙ ap (above low) (sym (entries-routes_in slots sorted)))
