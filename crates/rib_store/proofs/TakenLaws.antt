-- Trees whose routes are all taken.
use Rattle.std.proofs.Common.{◌≡◌, Bool, true, false, ◌||◌, ◌+◌, List, [], ◌∷◌, ◌++◌, map, length, Option, None, IsSome, refl, sym, ap, ap₂, subst, ◌∙◌, length-append, arith}
use Rattle.std.proofs.lemmas.List.{map-append}
use Rattle.std.proofs.lemmas.Bool.{or_parts}
use Rattle.std.specs.FinSet as set
use Rattle.std.specs.FinMap as finite
use Rattle.std.specs.FinMap.{get-empty, len-entries}
use Rattle.ip_prefix.specs.Network.{Network, network_cmp}
use Rattle.ip_prefix.specs.Turns.{way}
use Rattle.rib_store.specs.declared.tree.KeySlot.{KeySlot}
use Rattle.rib_store.specs.declared.tree.KeySlot.TheVariants.{NoKey, Vacant, Filled}
use Rattle.rib_store.specs.declared.tree.Tree.{Tree}
use Rattle.rib_store.specs.declared.tree.Tree.TheVariants as tree
use Rattle.rib_store.specs.Tree.{Shape, shape_of, is_filled, has_routes, HasCorrectMarks, Empty, Rooted, own, root, slot_of, slots_of, vacated, without_routes, RootIsOnSide, IsRadixTree, IsKeyOrFork}
use Rattle.rib_store.specs.Slots.{Slots, slot_at, keys_in, routes_in, route_of_slot}
use Rattle.rib_store.specs.Store.{Trees, slots_in, AreRadixTrees}
use Rattle.rib_store.specs.Walks.{all_routes}
use Rattle.prefix_store.proofs.AboveLaws.{above-none}
use Rattle.rib_store.proofs.FillLaws.{all-trees}
use Rattle.rib_store.proofs.SlotLaws.{get-routes_in}
use Rattle.rib_store.proofs.StoreLaws.{entries_in}
use Rattle.prefix_store.proofs.StoredLaws.{same_routes}

-- ---- a tree whose root isn't marked has none

vacant : {R : Type 0} (slot : KeySlot R) → is_filled slot ≡ false → slot ≡ vacated slot
vacant slot e = grind arith

pub unmarked-without_routes : {K R : Type 0} (network : K → Network) (t : Tree K R) → HasCorrectMarks t → has_routes t ≡ false → shape_of network t ≡ without_routes (shape_of network t)
unmarked-without_routes network tree.Empty marked e = refl
unmarked-without_routes network (tree.Bare key) marked e = refl
unmarked-without_routes network (tree.Leaf key route) marked e = cc
unmarked-without_routes network (tree.Forked' routed key p left right) marked e =
    let none = or_parts (has_routes left) (has_routes right) (sym marked.0 ∙ e) in
    ap₂ (Rooted (network key) NoKey) (unmarked-without_routes network left marked.1 none.0) (unmarked-without_routes network right marked.2 none.1)
unmarked-without_routes network (tree.Rooted' routed key p slot left right) marked e =
    let none = or_parts (is_filled slot) (has_routes left || has_routes right) (sym marked.0 ∙ e) in
    let below = or_parts (has_routes left) (has_routes right) none.1 in
    λ i. Rooted (network key) (vacant slot none.0 i) (unmarked-without_routes network left marked.1 below.0 i) (unmarked-without_routes network right marked.2 below.1 i)

-- ---- its shape

root-without_routes : {R : Type 0} (t : Shape R) → root (without_routes t) ≡ root t
root-without_routes t = grind arith

on-without_routes : {R : Type 0} (from : List Bool) (bit : Bool) (t : Shape R) → RootIsOnSide from bit t → RootIsOnSide from bit (without_routes t)
on-without_routes from bit Empty on = on
on-without_routes from bit (Rooted prefix slot l r) on = on

stands-without_routes : {R : Type 0} (slot : KeySlot R) (l r : Shape R) → IsKeyOrFork (slot_of slot) l r → IsKeyOrFork (slot_of (vacated slot)) (without_routes l) (without_routes r)
stands-without_routes NoKey l r stands = (subst IsSome (sym (root-without_routes l)) stands.0, subst IsSome (sym (root-without_routes r)) stands.1)
stands-without_routes Vacant l r stands = tt
stands-without_routes (Filled route) l r stands = tt

shaped-without_routes : {R : Type 0} (t : Shape R) → IsRadixTree t → IsRadixTree (without_routes t)
shaped-without_routes Empty shaped = tt
shaped-without_routes (Rooted prefix slot l r) shaped = (
  record { left = on-without_routes (way prefix) false l shaped.0.left; right = on-without_routes (way prefix) true r shaped.0.right },
  stands-without_routes slot l r shaped.1,
  shaped-without_routes l shaped.2,
  shaped-without_routes r shaped.3,
)

-- ---- its keys

-- the same slots without routes
abbrev vacant_slot : {R : Type 0} → Network × Option R → Network × Option R
vacant_slot slot = (slot.0, None)

abbrev unrouted : {R : Type 0} → Slots R → Slots R
unrouted slots = map vacant_slot slots

own-without_routes : {R : Type 0} (prefix : Network) (slot : KeySlot R) (below : Slots R) → own prefix (slot_of (vacated slot)) (unrouted below) ≡ unrouted (own prefix (slot_of slot) below)
own-without_routes prefix slot below = grind arith

slots-without_routes : {R : Type 0} (t : Shape R) → slots_of (without_routes t) ≡ unrouted (slots_of t)
slots-without_routes Empty = refl
slots-without_routes (Rooted prefix slot l r) =
    ap₂ (λ x y. own prefix (slot_of (vacated slot)) (x ++ y)) (slots-without_routes l) (slots-without_routes r)
    ∙ ap (own prefix (slot_of (vacated slot))) (sym (map-append vacant_slot (slots_of l) (slots_of r)))
    ∙ own-without_routes prefix slot (slots_of l ++ slots_of r)

keys-unrouted : {R : Type 0} (slots : Slots R) → map (λ (s : Network × Option R). s.0) (unrouted slots) ≡ map (λ s. s.0) slots
keys-unrouted [] = refl
keys-unrouted (slot ∷ slots) = ap (λ ks. slot.0 ∷ ks) (keys-unrouted slots)

keys_in-unrouted : {R : Type 0} (slots : Slots R) → keys_in (unrouted slots) ≡ keys_in slots
unfolding keys_in
keys_in-unrouted slots = ap (λ ks. set.from_list ks) (keys-unrouted slots)

no_route-unrouted : {R : Type 0} (slots : Slots R) (q : Network) → route_of_slot (slot_at (unrouted slots) q) ≡ None
no_route-unrouted [] q = refl
no_route-unrouted (slot ∷ slots) q = grind (arith, no_route-unrouted slots q)

routes_in-unrouted : {R : Type 0} (slots : Slots R) → routes_in (unrouted slots) ≡ finite.empty
routes_in-unrouted slots = same_routes _ _ (λ q. get-routes_in (unrouted slots) q ∙ no_route-unrouted slots q ∙ sym (get-empty network_cmp q))

-- ---- both trees

abbrev pub both_emptied : {R : Type 0} → Trees R → Trees R
both_emptied trees = record { v4 = without_routes trees.v4; v6 = without_routes trees.v6 }

slots_in-without_routes : {R : Type 0} (trees : Trees R) → slots_in (both_emptied trees) ≡ unrouted (slots_in trees)
slots_in-without_routes trees =
    ap₂ (λ x y. x ++ y) (slots-without_routes trees.v4) (slots-without_routes trees.v6)
    ∙ sym (map-append vacant_slot (slots_of trees.v4) (slots_of trees.v6))

pub planted-without_routes : {R : Type 0} (trees : Trees R) → AreRadixTrees trees → AreRadixTrees (both_emptied trees)
planted-without_routes trees planted = record {
  sides = record { left = on-without_routes [] false trees.v4 planted.sides.left; right = on-without_routes [] true trees.v6 planted.sides.right };
  v4 = shaped-without_routes trees.v4 planted.v4;
  v6 = shaped-without_routes trees.v6 planted.v6;
}

pub keys-without_routes : {R : Type 0} (trees : Trees R) → keys_in (slots_in (both_emptied trees)) ≡ keys_in (slots_in trees)
keys-without_routes trees = ap keys_in (slots_in-without_routes trees) ∙ keys_in-unrouted (slots_in trees)

pub routes-without_routes : {R : Type 0} (trees : Trees R) → routes_in (slots_in (both_emptied trees)) ≡ finite.empty
routes-without_routes trees = ap routes_in (slots_in-without_routes trees) ∙ routes_in-unrouted (slots_in trees)

-- ---- what is taken

all : {R : Type 0} (trees : Trees R) → AreRadixTrees trees → all_routes trees.v4 ++ all_routes trees.v6 ≡ entries_in trees
all trees planted = all-trees trees planted ∙ above-none (entries_in trees)

pub all-values : {R : Type 0} (trees : Trees R) → AreRadixTrees trees → map (λ found. found.1) (all_routes trees.v4) ++ map (λ found. found.1) (all_routes trees.v6) ≡ finite.values (routes_in (slots_in trees))
all-values {R} trees planted =
    sym (map-append (λ (found : Network × R). found.1) (all_routes trees.v4) (all_routes trees.v6)) ∙ ap (map (λ (found : Network × R). found.1)) (all trees planted)

pub all-count : {R : Type 0} (trees : Trees R) → AreRadixTrees trees → length (all_routes trees.v4) + length (all_routes trees.v6) ≡ finite.len (routes_in (slots_in trees))
all-count trees planted =
    sym (length-append (all_routes trees.v4) (all_routes trees.v6)) ∙ ap length (all trees planted) ∙ sym (len-entries (routes_in (slots_in trees)))
