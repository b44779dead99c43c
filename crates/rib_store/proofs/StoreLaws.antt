-- A tree for each family, as the two sides of a root above both.
use Rattle.std.proofs.Common.{◌≡◌, Bool, true, false, cond, List, [], Option, None, is_some, not, refl, sym, ap, ◌∙◌, arith}
use Rattle.std.specs.Prelude.{IsSome}
use Rattle.std.specs.List.Sorted.{IsStrictlySortedBy}
use Rattle.std.specs.FinMap as finite
use Rattle.std.specs.FinSet as set
use Rattle.std.specs.Map.{keys_of}
use Rattle.std.specs.Ordering.{eq_by_cmp}
use Rattle.std.specs.Cmp.{eq_by_cmp_equiv}
use Rattle.ip_prefix.specs.declared.addr.Family.{Family}
use Rattle.ip_prefix.specs.declared.addr.Family.TheVariants.{V4, V6}
use Rattle.ip_prefix.specs.declared.turn.Turn.{Turn}
use Rattle.ip_prefix.specs.Network.{Network, network_cmp}
use Rattle.ip_prefix.specs.OrderLaws.{network_cmp_total}
use Rattle.ip_prefix.specs.Turns.{family_bit, way, turn_of, side}
use Rattle.rib_store.specs.Tree.{Shape, at, select_by_turn, same_way, IsOfFamily, IsOnFamilySide, IsUpdatedAt, IsInserted, IsRadixTree}
use Rattle.prefix_store.specs.Stored.{put}
use Rattle.rib_store.specs.Slots.{slot_at, keys_in, routes_in, route_of_slot, routed}
use Rattle.rib_store.specs.Walks.{first_some}
use Rattle.rib_store.specs.Store.{Trees, slots_in, tree_of, with_tree, AreRadixTrees, ChangesAt}
use Rattle.rib_store.proofs.WayLaws.{first_turn}
use Rattle.rib_store.proofs.RoutedLaws.{entries-routes_in}
use Rattle.rib_store.proofs.SlotLaws.{contains-keys_in, get-routes_in}
use Rattle.rib_store.proofs.TreeLaws.{are_of, at_left, at_right}
use Rattle.rib_store.proofs.ChangeLaws.{put_left, put_right}
use Rattle.rib_store.proofs.GrowthLaws.{on_placed}
use Rattle.rib_store.proofs.WalkLaws.{slot_at-append, slot_at-slots_of, sorted-sides, sorted-slots_of, tied-ways}

-- what two trees have at a way
abbrev pub at_sides : {R : Type 0} → Shape R → Shape R → List Bool → Option (Option R)
at_sides l r q = select_by_turn (turn_of [] q) None None (at l q) (at r q)

by_side : {A : Type 0} (t : Turn) (x y : Option A) → first_some (select_by_turn t None None x None) (select_by_turn t None None None y) ≡ select_by_turn t None None x y
by_side t x y = grind arith

pub slot_at-slots_in : {R : Type 0} (trees : Trees R) → AreRadixTrees trees → (q : Network) → slot_at (slots_in trees) q ≡ at_sides trees.v4 trees.v6 (way q)
slot_at-slots_in f planted q =
    slot_at-append q _ _
    ∙ (λ i. first_some ((slot_at-slots_of f.v4 planted.v4 q ∙ at_left [] f.v4 planted.sides.left (way q)) i) ((slot_at-slots_of f.v6 planted.v6 q ∙ at_right [] f.v6 planted.sides.right (way q)) i))
    ∙ by_side (turn_of [] (way q)) (at f.v4 (way q)) (at f.v6 (way q))

-- a key is found in the tree of its family
pub at_sides-family : {R : Type 0} (trees : Trees R) (q : Network) (family : Family) → q.family ≡ family → at_sides trees.v4 trees.v6 (way q) ≡ at (tree_of family trees) (way q)
at_sides-family f q family e = ap (λ t. select_by_turn t None None (at f.v4 (way q)) (at f.v6 (way q))) (first_turn q ∙ ap (λ g. side (family_bit g)) e) ∙ grind arith

pub slot_at-tree_of : {R : Type 0} (trees : Trees R) → AreRadixTrees trees → (q : Network) (family : Family) → q.family ≡ family → slot_at (slots_in trees) q ≡ at (tree_of family trees) (way q)
slot_at-tree_of f planted q family e = slot_at-slots_in f planted q ∙ at_sides-family f q family e

-- what its tree has at a key tells whether it is one, and its route
pub key_at : {R : Type 0} (family : Family) (trees : Trees R) (q : Network) (slot : Option (Option R)) → AreRadixTrees trees → q.family ≡ family → slot ≡ at (tree_of family trees) (way q) → is_some slot ≡ set.contains (keys_in (slots_in trees)) q
key_at family f q slot planted e found = ap is_some (found ∙ sym (slot_at-tree_of f planted q family e)) ∙ sym (contains-keys_in (slots_in f) q)

pub route_at : {R : Type 0} (family : Family) (trees : Trees R) (q : Network) (slot : Option (Option R)) → AreRadixTrees trees → q.family ≡ family → slot ≡ at (tree_of family trees) (way q) → route_of_slot slot ≡ finite.get (routes_in (slots_in trees)) q
route_at family f q slot planted e found = ap route_of_slot (found ∙ sym (slot_at-tree_of f planted q family e)) ∙ sym (get-routes_in (slots_in f) q)

-- a key has a slot there
pub key_there : {R : Type 0} (trees : Trees R) → AreRadixTrees trees → (q : Network) (family : Family) → q.family ≡ family → set.contains (keys_in (slots_in trees)) q ≡ true → IsSome (at (tree_of family trees) (way q))
key_there f planted q family e key = key_at family f q (at (tree_of family f) (way q)) planted e refl ∙ key

-- the family's side of the root of both
pub first_side : (q : Network) (family : Family) → q.family ≡ family → turn_of [] (way q) ≡ side (family_bit family)
first_side q family e = first_turn q ∙ ap (λ f. side (family_bit f)) e

-- the keys of both are in order
pub sorted-slots_in : {R : Type 0} (trees : Trees R) → AreRadixTrees trees → IsStrictlySortedBy network_cmp (keys_of (slots_in trees))
sorted-slots_in f planted =
    sorted-sides [] f.v4 f.v6 planted.sides planted.v4 planted.v6 (sorted-slots_of f.v4 planted.v4) (sorted-slots_of f.v6 planted.v6)

-- the routes of both, in order
abbrev pub entries_in : {R : Type 0} → Trees R → List (Network × R)
entries_in trees = finite.entries (routes_in (slots_in trees))

pub routed-entries : {R : Type 0} (trees : Trees R) → AreRadixTrees trees → routed (slots_in trees) ≡ entries_in trees
routed-entries f planted = sym (entries-routes_in (slots_in f) (sorted-slots_in f planted))

-- all nodes of a tree are of its family
pub are_of-family : {R : Type 0} (trees : Trees R) → AreRadixTrees trees → (family : Family) → IsOfFamily family (tree_of family trees)
are_of-family f planted V4 = are_of V4 f.v4 planted.v4 planted.sides.left
are_of-family f planted V6 = are_of V6 f.v6 planted.v6 planted.sides.right

pub shaped-family : {R : Type 0} (trees : Trees R) → AreRadixTrees trees → (family : Family) → IsRadixTree (tree_of family trees)
shaped-family f planted V4 = planted.v4
shaped-family f planted V6 = planted.v6

-- ---- the tree of a family changed

-- the tree lies on its family's side
pub of-family : {R : Type 0} (trees : Trees R) → AreRadixTrees trees → (family : Family) → IsOnFamilySide family (tree_of family trees)
of-family f planted V4 = planted.sides.left
of-family f planted V6 = planted.sides.right

-- a prefix has this slot, the others are as before, and so is all else of the trees
pub record IsReplaced {R : Type 0} (old : Trees R) (key : Network) (slot : Option (Option R)) (new : Trees R) : Type 0 where
  pub planted : AreRadixTrees new
  pub slots : ChangesAt (slots_in old) key slot (slots_in new)

changed : {R : Type 0} (old new : Trees R) (key : Network) (slot : Option (Option R)) → AreRadixTrees old → AreRadixTrees new
    → IsUpdatedAt (at_sides old.v4 old.v6) (way key) slot (at_sides new.v4 new.v6) → IsReplaced old key slot new
changed old new key slot before after put = record {
  planted = after;
  slots = λ q. slot_at-slots_in new after q ∙ put (way q) ∙ (λ i. cond (twisted q i) slot (sym (slot_at-slots_in old before q) i));
}
  where
    twisted : (q : Network) → same_way (way key) (way q) ≡ eq_by_cmp network_cmp key q
    twisted q = sym (tied-ways q key) ∙ (eq_by_cmp_equiv network_cmp_total).symm q key

pub replaced : {R : Type 0} (family : Family) (old : Trees R) (tree : Shape R) (key : Network) (slot : Option (Option R)) → AreRadixTrees old → key.family ≡ family → IsRadixTree tree → IsOnFamilySide family tree
    → IsUpdatedAt (at (tree_of family old)) (way key) slot (at tree) → IsReplaced old key slot (with_tree family tree old)
replaced V4 old tree key slot planted e shaped on put =
    changed old (with_tree V4 tree old) key slot planted (record { sides = record { left = on; right = planted.sides.right }; v4 = shaped; v6 = planted.v6 })
    (put_left [] (way key) None None slot (at old.v4) (at tree) (at old.v6) (first_side key V4 e) put)
replaced V6 old tree key slot planted e shaped on put =
    changed old (with_tree V6 tree old) key slot planted (record { sides = record { left = planted.sides.left; right = on }; v4 = planted.v4; v6 = shaped })
    (put_right [] (way key) None None slot (at old.v4) (at old.v6) (at tree) (first_side key V6 e) put)

pub placed : {R : Type 0} (family : Family) (old : Trees R) (tree : Shape R) (key : Network) (slot : Option (Option R)) → AreRadixTrees old → key.family ≡ family
    → IsInserted (way key) slot (tree_of family old) tree → IsReplaced old key slot (with_tree family tree old)
placed family old tree key slot planted e put =
    replaced family old tree key slot planted e put.shaped
    (on_placed (way key) slot (tree_of family old) tree [] (family_bit family) put (of-family old planted family) (first_side key family e)) put.slots

-- whether it was new, and whether it wasn't, by what its tree had
pub new_key : {R : Type 0} (family : Family) (trees : Trees R) (q : Network) → AreRadixTrees trees → q.family ≡ family → not (is_some (at (tree_of family trees) (way q))) ≡ not (set.contains (keys_in (slots_in trees)) q)
new_key family f q planted e = ap not (key_at family f q (at (tree_of family f) (way q)) planted e refl)

pub no_key : {R : Type 0} (family : Family) (trees : Trees R) (q : Network) → AreRadixTrees trees → q.family ≡ family → at (tree_of family trees) (way q) ≡ None → set.contains (keys_in (slots_in trees)) q ≡ false
no_key family f q planted e none = sym (key_at family f q (at (tree_of family f) (way q)) planted e refl) ∙ ap is_some none
