-- One slot put into a tree, seen from the nodes above it, and nodes split and joined.
use Rattle.std.proofs.Common.{◌≡◌, Bool, true, false, cond, Option, Some, None, IsSome, List, refl, ap, sym, subst, ◌∙◌, arith}
use Rattle.ip_prefix.specs.declared.turn.Turn.TheVariants.{Outside, Here, Left, Right}
use Rattle.ip_prefix.specs.Network.{Network}
use Rattle.ip_prefix.specs.Turns.{way, turn_of}
use Rattle.ip_prefix.proofs.Turns.{here_only}
use Rattle.rib_store.specs.Tree.{Shape, Empty, Rooted, at, select_by_turn, root, same_way, slot_of, RootIsOnSide, IsRooted, IsUpdatedAt, IsRadixTree, IsKeyOrFork}
use Rattle.rib_store.specs.declared.tree.KeySlot.{KeySlot}
use Rattle.rib_store.proofs.WayLaws.{same_is}
use Rattle.rib_store.proofs.TreeLaws.{at_left, at_right, at_rooted, on_same}

-- put into a part of a node, which is all that the node has at the key
put_in : {A : Type 0} (key : List Bool) (v : A) (before after : List Bool → A) (around : List Bool → A → A) → ((x : A) → around key x ≡ x) → IsUpdatedAt before key v after
    → IsUpdatedAt (λ q. around q (before q)) key v (λ q. around q (after q))
put_in key v before after around there p q =
    elim (same_way key q) as (λ s. same_way key q ≡ s → around q (after q) ≡ cond s v (around q (before q))) [
      | true ↦ λ e. ap (λ k. around k (after q)) (sym (same_is key q e)) ∙ there (after q) ∙ p q ∙ ap (λ s. cond s v (before q)) e
      | false ↦ λ e. ap (around q) (p q ∙ ap (λ s. cond s v (before q)) e)
    ] refl

-- as its left child, or its right one
pub put_left : {A : Type 0} (b key : List Bool) (none slot v : A) (l m r : List Bool → A) → turn_of b key ≡ Left → IsUpdatedAt l key v m
    → IsUpdatedAt (λ q. select_by_turn (turn_of b q) none slot (l q) (r q)) key v (λ q. select_by_turn (turn_of b q) none slot (m q) (r q))
put_left b key none slot v l m r there = put_in key v l m (λ q x. select_by_turn (turn_of b q) none slot x (r q)) (λ x. ap (λ t. select_by_turn t none slot x (r key)) there)

pub put_right : {A : Type 0} (b key : List Bool) (none slot v : A) (l r m : List Bool → A) → turn_of b key ≡ Right → IsUpdatedAt r key v m
    → IsUpdatedAt (λ q. select_by_turn (turn_of b q) none slot (l q) (r q)) key v (λ q. select_by_turn (turn_of b q) none slot (l q) (m q))
put_right b key none slot v l r m there = put_in key v r m (λ q x. select_by_turn (turn_of b q) none slot (l q) x) (λ x. ap (λ t. select_by_turn t none slot (l key) x) there)

-- put at the node itself
pub put_here : {A : Type 0} (b key : List Bool) (none slot v : A) (l r : List Bool → A) → turn_of b key ≡ Here
    → IsUpdatedAt (λ q. select_by_turn (turn_of b q) none slot (l q) (r q)) key v (λ q. select_by_turn (turn_of b q) none v (l q) (r q))
put_here b key none slot v l r there q = let one = here_only b key there in grind arith

-- nothing put where nothing is
pub put_none : {A : Type 0} (f : List Bool → A) (none : A) (key : List Bool) → f key ≡ none → IsUpdatedAt f key none f
put_none f none key there q =
    elim (same_way key q) as (λ s. same_way key q ≡ s → f q ≡ cond s none (f q)) [ true ↦ λ e. ap f (sym (same_is key q e)) ∙ there | false ↦ λ e. refl ] refl

pub put_outside : {A : Type 0} (b key : List Bool) (none slot : A) (l r : List Bool → A) → turn_of b key ≡ Outside
    → IsUpdatedAt (λ q. select_by_turn (turn_of b q) none slot (l q) (r q)) key none (λ q. select_by_turn (turn_of b q) none slot (l q) (r q))
put_outside b key none slot l r there = put_none _ none key (ap (λ t. select_by_turn t none slot (l key) (r key)) there)

-- what was before may be said in other words
pub put_from : {A : Type 0} (f g h : List Bool → A) (key : List Bool) (v : A) → ((q : List Bool) → f q ≡ g q) → IsUpdatedAt g key v h → IsUpdatedAt f key v h
put_from f g h key v same p q = p q ∙ ap (λ x. cond (same_way key q) v x) (sym (same q))

-- where only a right child is left, it holds the same
pub join_right : {R : Type 0} (prefix : Network) (l r child : Shape R) (slot : Option (Option R)) → slot ≡ None → l ≡ Empty → child ≡ r → RootIsOnSide (way prefix) true r
    → (q : List Bool) → at child q ≡ select_by_turn (turn_of (way prefix) q) None slot (at l q) (at r q)
join_right prefix l r child slot s e h on q =
    ap (λ t. at t q) h ∙ at_right (way prefix) r on q ∙ (λ i. select_by_turn (turn_of (way prefix) q) None (sym s i) (at (sym e i) q) (at r q))

pub join_left : {R : Type 0} (prefix : Network) (l r child : Shape R) (slot : Option (Option R)) → slot ≡ None → r ≡ Empty → child ≡ l → RootIsOnSide (way prefix) false l
    → (q : List Bool) → at child q ≡ select_by_turn (turn_of (way prefix) q) None slot (at l q) (at r q)
join_left prefix l r child slot s e h on q =
    ap (λ t. at t q) h ∙ at_left (way prefix) l on q ∙ (λ i. select_by_turn (turn_of (way prefix) q) None (sym s i) (at l q) (at (sym e i) q))

pub fork_left : {R : Type 0} (old new : Shape R) (prefix : Network) (slot v : Option (Option R)) (l r m : Shape R) (key : List Bool) → IsRooted prefix slot l r old → IsRooted prefix slot m r new
    → turn_of (way prefix) key ≡ Left → IsUpdatedAt (at l) key v (at m) → IsUpdatedAt (at old) key v (at new)
fork_left {R} old new prefix slot v l r m key was is there p q =
    at_rooted new prefix slot m r is q
    ∙ put_from (at old) _ (λ q. select_by_turn (turn_of (way prefix) q) None slot (at m q) (at r q)) key v (at_rooted old prefix slot l r was) (put_left (way prefix) key None slot v (at l) (at m) (at r) there p) q

pub fork_right : {R : Type 0} (old new : Shape R) (prefix : Network) (slot v : Option (Option R)) (l r m : Shape R) (key : List Bool) → IsRooted prefix slot l r old → IsRooted prefix slot l m new
    → turn_of (way prefix) key ≡ Right → IsUpdatedAt (at r) key v (at m) → IsUpdatedAt (at old) key v (at new)
fork_right {R} old new prefix slot v l r m key was is there p q =
    at_rooted new prefix slot l m is q
    ∙ put_from (at old) _ (λ q. select_by_turn (turn_of (way prefix) q) None slot (at l q) (at m q)) key v (at_rooted old prefix slot l r was) (put_right (way prefix) key None slot v (at l) (at r) (at m) there p) q

pub fork_here : {R : Type 0} (old new : Shape R) (prefix : Network) (slot v : Option (Option R)) (l r : Shape R) (key : List Bool) → IsRooted prefix slot l r old → IsRooted prefix v l r new
    → turn_of (way prefix) key ≡ Here → IsUpdatedAt (at old) key v (at new)
fork_here {R} old new prefix slot v l r key was is there q =
    at_rooted new prefix v l r is q
    ∙ put_from (at old) _ (λ q. select_by_turn (turn_of (way prefix) q) None v (at l q) (at r q)) key v (at_rooted old prefix slot l r was) (put_here (way prefix) key None slot v (at l) (at r) there) q

-- ---- a tree whose root stays where it was

stands_then : {R : Type 0} (slot : Option (Option R)) (l r l' r' : Shape R) → root l' ≡ root l → root r' ≡ root r → IsKeyOrFork slot l r → IsKeyOrFork slot l' r'
stands_then None l r l' r' left right stands = (subst IsSome (sym left) stands.0, subst IsSome (sym right) stands.1)
stands_then (Some slot) l r l' r' left right stands = tt

-- a node is in shape where one of its trees changes so
pub shaped_left : {R : Type 0} (prefix : Network) (slot : KeySlot R) (l r m : Shape R) → root m ≡ root l → IsRadixTree m → IsRadixTree (Rooted prefix slot l r) → IsRadixTree (Rooted prefix slot m r)
shaped_left prefix slot l r m same shaped was =
    (record { left = on_same l m (way prefix) false same was.0.left; right = was.0.right }, stands_then (slot_of slot) l r m r same refl was.1, shaped, was.3)

pub shaped_right : {R : Type 0} (prefix : Network) (slot : KeySlot R) (l r m : Shape R) → root m ≡ root r → IsRadixTree m → IsRadixTree (Rooted prefix slot l r) → IsRadixTree (Rooted prefix slot l m)
shaped_right prefix slot l r m same shaped was =
    (record { left = was.0.left; right = on_same r m (way prefix) true same was.0.right }, stands_then (slot_of slot) l r l m refl same was.1, was.2, shaped)
