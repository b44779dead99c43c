-- What the marks of a tree say: where there is none, no route is found.
use Rattle.std.proofs.Common.{◌≡◌, Bool, true, false, ◌||◌, Option, None, refl, sym, ◌∙◌, arith}
use Rattle.ip_prefix.specs.declared.turn.Turn.{Turn}
use Rattle.ip_prefix.specs.Network.{Network}
use Rattle.rib_store.specs.declared.tree.KeySlot.{KeySlot}
use Rattle.rib_store.specs.declared.tree.KeySlot.TheVariants.{NoKey}
use Rattle.rib_store.specs.declared.tree.Tree.{Tree}
use Rattle.rib_store.specs.declared.tree.Tree.TheVariants as tree
use Rattle.rib_store.specs.Tree.{shape_of, is_filled, has_routes, any_has_routes, any_routes_elsewhere, HasCorrectMarks, slot_of}
use Rattle.rib_store.specs.Walks.{routed_at, first_some, first}

none_of : {R : Type 0} (prefix : Network) (slot : KeySlot R) (l r : Bool) (x y : Option (Network × R)) → (is_filled slot || (l || r)) ≡ false
    → (l ≡ false → x ≡ None) → (r ≡ false → y ≡ None) → first_some (routed_at prefix (slot_of slot)) (first_some x y) ≡ None
none_of prefix slot l r x y e left right = grind arith

-- a tree whose root isn't marked has no route
pub unmarked_first : {K R : Type 0} (network : K → Network) (t : Tree K R) → HasCorrectMarks t → has_routes t ≡ false → first (shape_of network t) ≡ None
unmarked_first network tree.Empty marked e = refl
unmarked_first network (tree.Bare key) marked e = refl
unmarked_first network (tree.Leaf key route) marked e = cc
unmarked_first network (tree.Forked' routed key p left right) marked e =
    none_of (network key) NoKey (has_routes left) (has_routes right) (first (shape_of network left)) (first (shape_of network right)) (sym marked.0 ∙ e)
    (unmarked_first network left marked.1) (unmarked_first network right marked.2)
unmarked_first network (tree.Rooted' routed key p slot left right) marked e =
    none_of (network key) slot (has_routes left) (has_routes right) (first (shape_of network left)) (first (shape_of network right)) (sym marked.0 ∙ e)
    (unmarked_first network left marked.1) (unmarked_first network right marked.2)

-- what has no routes has none elsewhere than where a turn leads
pub none_beside : {K R : Type 0} (t : Turn) (slot : KeySlot R) (left right : Tree K R) → any_has_routes slot left right ≡ false → any_routes_elsewhere t slot left right ≡ false
none_beside t slot left right e = grind arith

-- a node is routed where what lies on its right is, or something elsewhere
pub marked_right : (brought slot left right : Bool) → (brought ≡ true → right ≡ true) → (brought ≡ false → (slot || left) ≡ true) → (slot || (left || right)) ≡ true
marked_right brought slot left right there beside = grind arith

-- and where nothing elsewhere is, it is what lies on its right
pub alone_right : (slot left right : Bool) → (slot || left) ≡ false → right ≡ (slot || (left || right))
alone_right slot left right e = grind arith
