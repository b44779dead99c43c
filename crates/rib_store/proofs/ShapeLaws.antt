-- What a tree holds, however its nodes lie in memory.
use Rattle.std.proofs.Common.{◌≡◌, ◌⊎◌, ◌||◌, is_some, inl, inr, Bool, false, Option, Some, None, List, refl, ap, subst, ◌∙◌, arith}
use Rattle.std.specs.Prelude.{IsSome}
use Rattle.ip_prefix.specs.declared.turn.Turn.{Turn}
use Rattle.ip_prefix.specs.declared.turn.Turn.TheVariants.{Here, Left, Right}
use Rattle.ip_prefix.specs.Network.{Network}
use Rattle.ip_prefix.specs.Turns.{way, turn_of}
use Rattle.rib_store.specs.declared.tree.Tree.{Tree}
use Rattle.rib_store.specs.declared.tree.Tree.TheVariants as tree
use Rattle.rib_store.specs.Tree.{Shape, Empty, shape_of, leaf_route, IsSingleKey, HasCorrectMarks, has_routes, at, root, select_by_turn, IsUpdatedAt, IsRooted, IsRadixTree, IsInserted}
use Rattle.rib_store.proofs.TreeLaws.{at_rooted, shaped_rooted, root_rooted}
use Rattle.rib_store.proofs.GrowthLaws.{placed_left, placed_right, leaf_shaped, leaf_slots}
use Rattle.rib_store.proofs.ChangeLaws.{put_here, put_none, put_from}

-- a key without others below it holds its own slot alone
pub at_leaf : {K R : Type 0} (network : K → Network) (t : Tree K R) (key : K) → IsSingleKey key t
    → (q : List Bool) → at (shape_of network t) q ≡ select_by_turn (turn_of (way (network key)) q) None (Some (leaf_route t)) None None
at_leaf network tree.Empty key is q = absurd is
at_leaf network (tree.Bare other) key is q = ap (λ k. select_by_turn (turn_of (way (network k)) q) None (Some None) None None) is
at_leaf network (tree.Leaf other route) key is q = ap (λ k. select_by_turn (turn_of (way (network k)) q) None (Some (Some route)) None None) is
at_leaf network (tree.Forked' routed other p left right) key is q = absurd is
at_leaf network (tree.Rooted' routed other p slot left right) key is q = absurd is

here : {A : Type 0} (t : Turn) (x : A) → IsSome (select_by_turn t None (Some x) None None) → t ≡ Here
here t x is = grind arith

-- another slot put there
pub put_leaf : {K R : Type 0} (network : K → Network) (old new : Tree K R) (prefix : K) (key : List Bool) (slot : Option R) → IsSingleKey prefix old → IsSingleKey prefix new
    → leaf_route new ≡ slot → IsSome (at (shape_of network old) key) → IsUpdatedAt (at (shape_of network old)) key (Some slot) (at (shape_of network new))
put_leaf network old new prefix key slot was is slot_is there q =
    at_leaf network new prefix is q ∙ ap (λ s. select_by_turn (turn_of (way (network prefix)) q) None (Some s) None None) slot_is
    ∙ put_from (at (shape_of network old)) _ (λ q. select_by_turn (turn_of (way (network prefix)) q) None (Some slot) None None) key (Some slot) (at_leaf network old prefix was)
    (put_here (way (network prefix)) key None (Some (leaf_route old)) (Some slot) (λ q. None) (λ q. None)
    (here (turn_of (way (network prefix)) key) (leaf_route old) (subst IsSome (at_leaf network old prefix was key) there))) q

-- ---- one more key beside or below

pub rooted_leaf : {K R : Type 0} (network : K → Network) (t : Tree K R) (key : K) → IsSingleKey key t → IsRooted (network key) (Some (leaf_route t)) Empty Empty (shape_of network t)
rooted_leaf network tree.Empty key is = absurd is
rooted_leaf network (tree.Bare other) key is = (ap network is, refl, refl, refl)
rooted_leaf network (tree.Leaf other route) key is = (ap network is, refl, refl, refl)
rooted_leaf network (tree.Forked' routed other p left right) key is = absurd is
rooted_leaf network (tree.Rooted' routed other p slot left right) key is = absurd is

pub shaped_leaf : {K R : Type 0} (network : K → Network) (t : Tree K R) (key : K) → IsSingleKey key t → IsRadixTree (shape_of network t)
shaped_leaf network t key is = shaped_rooted (shape_of network t) (network key) (Some (leaf_route t)) Empty Empty (rooted_leaf network t key is) (record { left = tt; right = tt }, tt, tt, tt)

-- and has no mark to keep
pub marked_leaf : {K R : Type 0} (t : Tree K R) (key : K) → IsSingleKey key t → HasCorrectMarks t
marked_leaf tree.Empty key is = tt
marked_leaf (tree.Bare other) key is = tt
marked_leaf (tree.Leaf other route) key is = tt
marked_leaf (tree.Forked' routed other p left right) key is = absurd is
marked_leaf (tree.Rooted' routed other p slot left right) key is = absurd is

-- it has a route where its mark would say so
pub routed_leaf : {K R : Type 0} (t : Tree K R) (key : K) → IsSingleKey key t → (is_some (leaf_route t) || false) ≡ has_routes t
routed_leaf tree.Empty key is = absurd is
routed_leaf (tree.Bare other) key is = refl
routed_leaf (tree.Leaf other route) key is = refl
routed_leaf (tree.Forked' routed other p left right) key is = absurd is
routed_leaf (tree.Rooted' routed other p slot left right) key is = absurd is

-- the first key of a tree
pub lone_placed : {R : Type 0} (key : Network) (route : Option R) (t : Shape R) → IsRooted key (Some route) Empty Empty t → IsInserted (way key) (Some route) Empty t
lone_placed key route t is = record {
  shaped = leaf_shaped key route t is;
  slots = leaf_slots key route t is;
  roots = root_rooted t key (Some route) Empty Empty is;
}

-- a key below one that had none
pub hung : {K R : Type 0} (network : K → Network) (old : Tree K R) (new : Shape R) (prefix : K) (key : Network) (route : Option R) (slot : Option (Option R)) (below : Shape R) (side : Turn)
    → IsSingleKey prefix old → (side ≡ Left) ⊎ (side ≡ Right) → turn_of (way (network prefix)) (way key) ≡ side → slot ≡ Some (leaf_route old) → IsRooted key (Some route) Empty Empty below
    → IsRooted (network prefix) slot (select_by_turn side Empty Empty below Empty) (select_by_turn side below below Empty below) new → IsInserted (way key) (Some route) (shape_of network old) new
hung {K} {R} network old new prefix key route slot below side was (inl left) turn slot_is leaf is =
    let is' : IsRooted (network prefix) (Some (leaf_route old)) below Empty new = subst (λ (x : Turn × Option (Option R)). IsRooted (network prefix) x.1 (select_by_turn x.0 Empty Empty below Empty) (select_by_turn x.0 below below Empty below) new) (λ i. (left i, slot_is i)) is in
    placed_left (way key) (network prefix) (Some (leaf_route old)) (Some route) Empty Empty below (rooted_leaf network old prefix was) is' (turn ∙ left) (shaped_leaf network old prefix was) (lone_placed key route below leaf)
hung {K} {R} network old new prefix key route slot below side was (inr right) turn slot_is leaf is =
    let is' : IsRooted (network prefix) (Some (leaf_route old)) Empty below new = subst (λ (x : Turn × Option (Option R)). IsRooted (network prefix) x.1 (select_by_turn x.0 Empty Empty below Empty) (select_by_turn x.0 below below Empty below) new) (λ i. (right i, slot_is i)) is in
    placed_right (way key) (network prefix) (Some (leaf_route old)) (Some route) Empty Empty below (rooted_leaf network old prefix was) is' (turn ∙ right) (shaped_leaf network old prefix was) (lone_placed key route below leaf)

-- ---- keys that go

not_here : {A : Type 0} (t : Turn) (x : A) → (t ≡ Here → ⊥) → select_by_turn t None (Some x) None None ≡ None
not_here t x none = grind arith

-- another key goes
pub leaf_other : {K R : Type 0} (network : K → Network) (t : Tree K R) (prefix : K) (key : List Bool) → IsSingleKey prefix t → (turn_of (way (network prefix)) key ≡ Here → ⊥)
    → IsUpdatedAt (at (shape_of network t)) key None (at (shape_of network t))
leaf_other network t prefix key is apart =
    put_none (at (shape_of network t)) None key (at_leaf network t prefix is key ∙ not_here (turn_of (way (network prefix)) key) (leaf_route t) apart)

neither : {A : Type 0} (t : Turn) (x y : Option A) → (t ≡ Left → ⊥) → (t ≡ Right → ⊥) → select_by_turn t None None x y ≡ None
neither t x y left right = grind arith

-- nor is it one that isn't below a branch
pub fork_other : {R : Type 0} (t : Shape R) (prefix : Network) (l r : Shape R) (key : List Bool) → IsRooted prefix None l r t
    → (turn_of (way prefix) key ≡ Left → ⊥) → (turn_of (way prefix) key ≡ Right → ⊥) → IsUpdatedAt (at t) key None (at t)
fork_other t prefix l r key is left right =
    put_none (at t) None key (at_rooted t prefix None l r is key ∙ neither (turn_of (way prefix) key) (at l key) (at r key) left right)

nothing : {A : Type 0} (t : Turn) → ◌≡◌ {A = Option A} None (select_by_turn t None None None None)
nothing t = grind arith

-- it goes
pub leaf_gone : {K R : Type 0} (network : K → Network) (t : Tree K R) (prefix : K) (key : List Bool) → IsSingleKey prefix t → turn_of (way (network prefix)) key ≡ Here
    → IsUpdatedAt (at (shape_of network t)) key None (λ q. None)
leaf_gone network t prefix key is there q =
    nothing (turn_of (way (network prefix)) q)
    ∙ put_from (at (shape_of network t)) _ (λ q. select_by_turn (turn_of (way (network prefix)) q) None None None None) key None (at_leaf network t prefix is)
    (put_here (way (network prefix)) key None (Some (leaf_route t)) None (λ q. None) (λ q. None) there) q

pub not_empty : {K R : Type 0} (network : K → Network) (t : Tree K R) → (t ≡ tree.Empty → ⊥) → IsSome (root (shape_of network t))
not_empty network tree.Empty some = absurd (some refl)
not_empty network (tree.Bare key) some = refl
not_empty network (tree.Leaf key route) some = refl
not_empty network (tree.Forked' routed key p left right) some = refl
not_empty network (tree.Rooted' routed key p slot left right) some = refl
