-- Private.
-- Radix trees: their keys with the routes of these, the marks of their nodes, and changes of a key.
-- A way is the list of bits that leads to a node from a root above both families: the bit of the
-- family, then those of the prefix (`way` in `ip_prefix/specs/Turns.antt`).
use Rattle.std.specs.Prelude.{◌≡◌, Bool, true, false, ◌||◌, Option, Some, None, IsSome, IfSome, cond, List, [], ◌∷◌, ◌++◌}
use Rattle.ip_prefix.specs.Network.{Network}
use Rattle.ip_prefix.specs.declared.turn.Turn.{Turn}
use Rattle.ip_prefix.specs.declared.turn.Turn.TheVariants.{Outside, Here, Left, Right}
use Rattle.ip_prefix.specs.Turns.{way, turn_of, side, shared, family_bit}
use Rattle.rib_store.specs.declared.tree.KeySlot.{KeySlot}
use Rattle.rib_store.specs.declared.tree.KeySlot.TheVariants.{NoKey, Vacant, Filled}
use Rattle.rib_store.specs.declared.tree.Tree.{Tree}
use Rattle.ip_prefix.specs.declared.addr.Family.{Family}
use Rattle.rib_store.specs.Slots.{Slots}
use Rattle.rib_store.specs.declared.tree.Tree.TheVariants as tree

-- ---- the nodes of a tree, however they lie in memory

-- a radix tree, whichever variants of `Tree` represent its nodes
pub data Shape (R : Type 0) : Type 0 where
  Empty : Shape R
  -- a node: its prefix, its slot, its left child and its right child
  Rooted : Network → KeySlot R → Shape R → Shape R → Shape R

-- a tree in memory as a `Shape`: the prefix, the slot and the children of each node, without its
-- mark; `network` gives the prefix that a value of K represents
abbrev pub shape_of : {K R : Type 0} → (K → Network) → Tree K R → Shape R
shape_of network tree.Empty = Empty
shape_of network (tree.Bare key) = Rooted (network key) Vacant Empty Empty
shape_of network (tree.Leaf key route) = Rooted (network key) (Filled route) Empty Empty
shape_of network (tree.Forked' routed key p left right) = Rooted (network key) NoKey (shape_of network left) (shape_of network right)
shape_of network (tree.Rooted' routed key p slot left right) = Rooted (network key) slot (shape_of network left) (shape_of network right)

-- the route of a tree that is a single key stored without a heap node; `None` if that key has no
-- route, and for every other tree
abbrev pub leaf_route : {K R : Type 0} → Tree K R → Option R
leaf_route tree.Empty = None
leaf_route (tree.Bare key) = None
leaf_route (tree.Leaf key route) = Some route
leaf_route (tree.Forked' routed key p left right) = None
leaf_route (tree.Rooted' routed key p slot left right) = None

-- the tree is the single key `key`, with or without a route, stored without a heap node (`Bare` or
-- `Leaf`)
abbrev pub IsSingleKey : {K R : Type 0} → K → Tree K R → Type 0
IsSingleKey key tree.Empty = ⊥
IsSingleKey key (tree.Bare other) = other ≡ key
IsSingleKey key (tree.Leaf other route) = other ≡ key
IsSingleKey key (tree.Forked' routed other p left right) = ⊥
IsSingleKey key (tree.Rooted' routed other p slot left right) = ⊥

-- the root of the tree is stored as a branch without a slot (`Forked`), and `prefix` is its prefix,
-- which is no key
abbrev pub IsFork : {K R : Type 0} → K → Tree K R → Type 0
IsFork prefix tree.Empty = ⊥
IsFork prefix (tree.Bare other) = ⊥
IsFork prefix (tree.Leaf other route) = ⊥
IsFork prefix (tree.Forked' routed other p left right) = other ≡ prefix
IsFork prefix (tree.Rooted' routed other p slot left right) = ⊥

-- the position isn't to the left or the right below a node: it is `Outside` or `Here`
abbrev pub IsNotBelow : Turn → Type 0
IsNotBelow Outside = Unit {0}
IsNotBelow Here = Unit {0}
IsNotBelow Left = ⊥
IsNotBelow Right = ⊥

-- the tree has no children (`Empty`, `Bare` or `Leaf`), or `key` isn't below its root: it is the
-- root's prefix, or doesn't begin with it
abbrev pub IsAtRoot : {K R : Type 0} → (K → Network) → Network → Tree K R → Type 0
IsAtRoot network key tree.Empty = Unit {0}
IsAtRoot network key (tree.Bare other) = Unit {0}
IsAtRoot network key (tree.Leaf other route) = Unit {0}
IsAtRoot network key (tree.Forked' routed other p left right) = IsNotBelow (turn_of (way (network other)) (way key))
IsAtRoot network key (tree.Rooted' routed other p slot left right) = IsNotBelow (turn_of (way (network other)) (way key))

-- ---- the marks

-- whether the slot has a route
abbrev pub is_filled : {R : Type 0} → KeySlot R → Bool
is_filled NoKey = false
is_filled Vacant = false
is_filled (Filled route) = true

-- whether some key of the tree has a route, by its root alone: true for a `Leaf`, false for `Empty`
-- and a `Bare`, and otherwise the root's mark, `routed`
abbrev pub has_routes : {K R : Type 0} → Tree K R → Bool
has_routes tree.Empty = false
has_routes (tree.Bare key) = false
has_routes (tree.Leaf key route) = true
has_routes (tree.Forked' routed key p left right) = routed
has_routes (tree.Rooted' routed key p slot left right) = routed

-- whether the slot has a route, or some key of the left or the right tree has one, by the marks of
-- their roots (`has_routes`)
abbrev pub any_has_routes : {K R : Type 0} → KeySlot R → Tree K R → Tree K R → Bool
any_has_routes slot left right = is_filled slot || (has_routes left || has_routes right)

-- whether one of `slot`, `left` and `right` is true, without the one that `turn` leads to: `left`
-- for `Left`, `right` for `Right`, and `slot` otherwise
abbrev pub any_elsewhere : Turn → Bool → Bool → Bool → Bool
any_elsewhere Outside slot left right = left || right
any_elsewhere Here slot left right = left || right
any_elsewhere Left slot left right = slot || right
any_elsewhere Right slot left right = slot || left

-- whether one of `slot`, `left` and `right` has a route, without the one that `turn` leads to
-- (`left` for `Left`, `right` for `Right`, and `slot` otherwise); of a tree, by the mark of its
-- root
abbrev pub any_routes_elsewhere : {K R : Type 0} → Turn → KeySlot R → Tree K R → Tree K R → Bool
any_routes_elsewhere turn slot left right = any_elsewhere turn (is_filled slot) (has_routes left) (has_routes right)

-- each mark in the tree is correct: it is true exactly if the node's slot or a key below it has a
-- route
abbrev pub HasCorrectMarks : {K R : Type 0} → Tree K R → Type 0
HasCorrectMarks tree.Empty = Unit {0}
HasCorrectMarks (tree.Bare key) = Unit {0}
HasCorrectMarks (tree.Leaf key route) = Unit {0}
HasCorrectMarks (tree.Forked' routed key p left right) = (routed ≡ any_has_routes NoKey left right) × HasCorrectMarks left × HasCorrectMarks right
HasCorrectMarks (tree.Rooted' routed key p slot left right) = (routed ≡ any_has_routes slot left right) × HasCorrectMarks left × HasCorrectMarks right

-- ---- the keys of a tree, and their slots

-- one of four values, by the position `turn`: outside, here, left or right
abbrev pub select_by_turn : {A : Type 0} → Turn → A → A → A → A → A
select_by_turn Outside none here left right = none
select_by_turn Here none here left right = here
select_by_turn Left none here left right = left
select_by_turn Right none here left right = right

-- whether two ways, which are lists of bits, are equal
abbrev pub same_way : List Bool → List Bool → Bool
same_way one other = select_by_turn (turn_of one other) false true false false

-- the slot as an option: `None` if the node isn't a key, `Some None` if it is a key without a
-- route, or else the route
abbrev pub slot_of : {R : Type 0} → KeySlot R → Option (Option R)
slot_of NoKey = None
slot_of Vacant = Some None
slot_of (Filled route) = Some (Some route)

-- the slot of the node whose prefix has the way `key` (the bit of its family, then its bits), found
-- by a descent from the root: `None` if it isn't a key, `Some None` if it is a key without a route
abbrev pub at : {R : Type 0} → Shape R → List Bool → Option (Option R)
at Empty key = None
at (Rooted prefix slot left right) key =
    select_by_turn (turn_of (way prefix) key) None (slot_of slot) (at left key) (at right key)

-- the list `below`, with the prefix and its slot in front; `below` alone if the slot is `None`,
-- that of a prefix that isn't a key
abbrev pub own : {R : Type 0} → Network → Option (Option R) → Slots R → Slots R
own prefix None below = below
own prefix (Some slot) below = (prefix, slot) ∷ below

-- the keys of the tree, each with its route or `None`, in pre-order: a node, then all below it on
-- the left, then all on the right
abbrev pub slots_of : {R : Type 0} → Shape R → Slots R
slots_of Empty = []
slots_of (Rooted prefix slot left right) =
    own prefix (slot_of slot) (slots_of left ++ slots_of right)

-- ---- which trees are radix trees

-- the way of the prefix of the tree's root: the bit of its family, then its bits; `None` if the
-- tree is empty
abbrev pub root : {R : Type 0} → Shape R → Option (List Bool)
root Empty = None
root (Rooted prefix slot left right) = Some (way prefix)

-- the tree is empty, or the way of its root (the bit of the family, then those of the prefix)
-- begins with `from` and then `bit`
abbrev pub RootIsOnSide : {R : Type 0} → List Bool → Bool → Shape R → Type 0
RootIsOnSide from bit tree = IfSome (root tree) (λ to. turn_of from to ≡ side bit)

-- the tree is empty, or the way of its root begins with the family's bit, so that its prefix is of
-- the family
abbrev pub IsOnFamilySide : {R : Type 0} → Family → Shape R → Type 0
IsOnFamilySide family = RootIsOnSide [] (family_bit family)

-- the prefixes of all nodes of the tree are of the family
abbrev pub IsOfFamily : {R : Type 0} → Family → Shape R → Type 0
IsOfFamily family Empty = Unit {0}
IsOfFamily family (Rooted prefix slot left right) = (prefix.family ≡ family) × IsOfFamily family left × IsOfFamily family right

-- the two trees are on the left and on the right below the end of the way `from`
pub record AreSides {R : Type 0} (from : List Bool) (l r : Shape R) : Type 0 where
  pub left : RootIsOnSide from false l
  pub right : RootIsOnSide from true r

-- a node with this slot and these children is a key (`slot` isn't `None`), or has two children:
-- neither tree is empty
abbrev pub IsKeyOrFork : {R : Type 0} → Option (Option R) → Shape R → Shape R → Type 0
IsKeyOrFork None left right = IsSome (root left) × IsSome (root right)
IsKeyOrFork (Some slot) left right = Unit {0}

-- the tree is a radix tree: each node is a key or has two children, and the prefix of a child
-- begins with its parent's and goes on by a 0 if it is the left one, by a 1 if it is the right one
abbrev pub IsRadixTree : {R : Type 0} → Shape R → Type 0
IsRadixTree Empty = Unit {0}
IsRadixTree (Rooted prefix slot left right) =
    AreSides (way prefix) left right × IsKeyOrFork (slot_of slot) left right × IsRadixTree left × IsRadixTree right

-- the tree is empty, or its two subtrees are radix trees, whose prefixes go on from the root's by a
-- 0 on the left and by a 1 on the right; the root itself may be no key and have less than two
-- children
abbrev pub IsRadixTreeBelowRoot : {R : Type 0} → Shape R → Type 0
IsRadixTreeBelowRoot Empty = Unit {0}
IsRadixTreeBelowRoot (Rooted prefix slot left right) = AreSides (way prefix) left right × IsRadixTree left × IsRadixTree right

-- ---- changes

-- `after` has the value `slot` at the way `key`, and at every other way the value that `before` has
abbrev pub IsUpdatedAt : {A : Type 0} → (List Bool → A) → List Bool → A → (List Bool → A) → Type 0
IsUpdatedAt before key slot after = (q : List Bool) → after q ≡ cond (same_way key q) slot (before q)

-- the slot without its route: a key stays a key
abbrev pub vacated : {R : Type 0} → KeySlot R → KeySlot R
vacated NoKey = NoKey
vacated Vacant = Vacant
vacated (Filled route) = Vacant

-- the tree with all its keys, and without routes
abbrev pub without_routes : {R : Type 0} → Shape R → Shape R
without_routes Empty = Empty
without_routes (Rooted prefix slot left right) = Rooted prefix (vacated slot) (without_routes left) (without_routes right)

-- the way to the root of a tree after the way `key` is added to it: the longest list of bits with
-- which `key` and the way to the old root begin; `key` itself for `None`, that of an empty tree
abbrev pub root_with_key : Option (List Bool) → List Bool → List Bool
root_with_key None key = key
root_with_key (Some to) key = shared to key

-- the last argument is a tree whose root has this prefix and this slot, and the children `left` and
-- `right`
abbrev pub IsRooted : {R : Type 0} → Network → Option (Option R) → Shape R → Shape R → Shape R → Type 0
IsRooted prefix slot left right Empty = ⊥
IsRooted prefix slot left right (Rooted prefix' slot' left' right') =
    (prefix' ≡ prefix) × (left' ≡ left) × (right' ≡ right) × (slot_of slot' ≡ slot)

-- `tree` has a root with this prefix and this slot, and the children `below` and `beside`: `below`
-- is the left one if `side` is `Left`, and otherwise the right one
abbrev pub IsRootedOver : {R : Type 0} → Network → Option (Option R) → Turn → Shape R → Shape R → Shape R → Type 0
IsRootedOver prefix slot side beside below tree =
    IsRooted prefix slot (select_by_turn side beside beside below beside) (select_by_turn side below below beside below) tree

-- `new` is a radix tree that has the slot `slot` at the way `key` and is `old` at every other way;
-- its root is at the longest way that the old root and the key begin with
pub record IsInserted {R : Type 0} (key : List Bool) (slot : Option (Option R)) (old new : Shape R) : Type 0 where
  pub shaped : IsRadixTree new
  pub slots : IsUpdatedAt (at old) key slot (at new)
  pub roots : root new ≡ Some (root_with_key (root old) key)

-- `new` is a radix tree that has the slot `slot` at `prefix` and the slots of `old` elsewhere; its
-- root is the longest prefix that covers `prefix` and the root of `old`, or `prefix` if `old` is
-- empty
abbrev pub IsInsertedAt : {R : Type 0} → Network → Option (Option R) → Shape R → Shape R → Type 0
IsInsertedAt prefix slot old new = (key : Network) → turn_of (way prefix) (way key) ≡ Here → IsInserted (way key) slot old new
