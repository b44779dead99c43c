-- A tree with one more key.
use Rattle.std.proofs.Common.{◌≡◌, Bool, true, false, cond, not, Option, Some, None, List, ◌⊎◌, inl, inr, refl, ap, sym, subst, ◌∙◌, arith}
use Rattle.ip_prefix.specs.declared.turn.Turn.{Turn}
use Rattle.ip_prefix.specs.declared.turn.Turn.TheVariants.{Outside, Here, Left, Right}
use Rattle.ip_prefix.specs.Network.{Network}
use Rattle.ip_prefix.specs.Turns.{way, turn_of, shared, side}
use Rattle.rib_store.specs.Tree.{Shape, Empty, Rooted, at, slot_of, select_by_turn, root, root_with_key, RootIsOnSide, IsRooted, IsRadixTree, IsUpdatedAt, IsInserted, IsKeyOrFork}
use Rattle.rib_store.proofs.WayLaws.{turn_shared, shared_inside, parts}
use Rattle.std.specs.Prelude.{IsSome}
use Rattle.rib_store.specs.declared.tree.KeySlot.TheVariants.{NoKey}
use Rattle.rib_store.proofs.TreeLaws.{ShapedParts, at_left, at_right, at_rooted, rooted_shaped, shaped_rooted, root_rooted, some_is, on_side}
use Rattle.rib_store.proofs.ChangeLaws.{fork_left, fork_right, fork_here, put_from}

-- a child with one more key is on its side still
pub on_placed : {R : Type 0} (key : List Bool) (v : Option (Option R)) (l m : Shape R) (b : List Bool) (bit : Bool) → IsInserted key v l m → RootIsOnSide b bit l → turn_of b key ≡ side bit → RootIsOnSide b bit m
on_placed key v Empty m b bit placed on there = on_side m b key bit placed.roots there
on_placed key v (Rooted prefix slot l r) m b bit placed on there = on_side m b (shared (way prefix) key) bit placed.roots (turn_shared b (way prefix) key bit on there)

-- and stands where it stood
stands_left : {R : Type 0} (slot : Option (Option R)) (l r m : Shape R) (x : List Bool) → root m ≡ Some x → IsKeyOrFork slot l r → IsKeyOrFork slot m r
stands_left None l r m x e h = (some_is (root m) x e, h.1)
stands_left (Some route) l r m x e h = tt

stands_right : {R : Type 0} (slot : Option (Option R)) (l r m : Shape R) (x : List Bool) → root m ≡ Some x → IsKeyOrFork slot l r → IsKeyOrFork slot l m
stands_right None l r m x e h = (h.0, some_is (root m) x e)
stands_right (Some route) l r m x e h = tt

not_outside : (t : Turn) (bit : Bool) → t ≡ side bit → t ≡ Outside → ⊥
not_outside t bit e h = grind arith

chosen_at : {A : Type 0} (t : Turn) (none here left right x : A) (u : Turn) → t ≡ u → select_by_turn u none here left right ≡ x → select_by_turn t none here left right ≡ x
chosen_at t none here left right x u e h = ap (λ w. select_by_turn w none here left right) e ∙ h

pub placed_left : {R : Type 0} {old new : Shape R} (key : List Bool) (prefix : Network) (slot v : Option (Option R)) (l r m : Shape R) → IsRooted prefix slot l r old → IsRooted prefix slot m r new
    → turn_of (way prefix) key ≡ Left → IsRadixTree old → IsInserted key v l m → IsInserted key v old new
placed_left {R} {old} {new} key prefix slot v l r m was is there shaped placed =
    let s = rooted_shaped old prefix slot l r was shaped in
    record {
      shaped = shaped_rooted new prefix slot m r is (
        record {
          left = on_placed key v l m (way prefix) false placed s.0.left there;
          right = s.0.right;
        },
        stands_left slot l r m _ placed.roots s.1,
        placed.shaped,
        s.3,
      );
      slots = fork_left old new prefix slot v l r m key was is there placed.slots;
      roots = root_rooted new prefix slot m r is ∙ sym (ap Some (shared_inside (way prefix) key (not_outside _ false there))) ∙ sym (ap (λ o. Some (root_with_key o key)) (root_rooted old prefix slot l r was));
    }

pub placed_right : {R : Type 0} {old new : Shape R} (key : List Bool) (prefix : Network) (slot v : Option (Option R)) (l r m : Shape R) → IsRooted prefix slot l r old → IsRooted prefix slot l m new
    → turn_of (way prefix) key ≡ Right → IsRadixTree old → IsInserted key v r m → IsInserted key v old new
placed_right {R} {old} {new} key prefix slot v l r m was is there shaped placed =
    let s = rooted_shaped old prefix slot l r was shaped in
    record {
      shaped = shaped_rooted new prefix slot l m is (
        record {
          left = s.0.left;
          right = on_placed key v r m (way prefix) true placed s.0.right there;
        },
        stands_right slot l r m _ placed.roots s.1,
        s.2,
        placed.shaped,
      );
      slots = fork_right old new prefix slot v l r m key was is there placed.slots;
      roots = root_rooted new prefix slot l m is ∙ sym (ap Some (shared_inside (way prefix) key (not_outside _ true there))) ∙ sym (ap (λ o. Some (root_with_key o key)) (root_rooted old prefix slot l r was));
    }

here_inside : (t : Turn) → t ≡ Here → t ≡ Outside → ⊥
here_inside t e h = cc

-- the node itself is the key from now on, if it wasn't
pub placed_here : {R : Type 0} {old new : Shape R} (key : List Bool) (prefix : Network) (slot v : Option (Option R)) (l r : Shape R) → IsRooted prefix slot l r old → IsRooted prefix v l r new
    → turn_of (way prefix) key ≡ Here → IsRadixTree old → IsKeyOrFork v l r → IsInserted key v old new
placed_here {R} {old} {new} key prefix slot v l r was is there shaped stands =
    let s = rooted_shaped old prefix slot l r was shaped in
    record {
      shaped = shaped_rooted new prefix v l r is (s.0, stands, s.2, s.3);
      slots = fork_here old new prefix slot v l r key was is there;
      roots = root_rooted new prefix v l r is ∙ sym (ap Some (shared_inside (way prefix) key (here_inside _ there))) ∙ sym (ap (λ o. Some (root_with_key o key)) (root_rooted old prefix slot l r was));
    }

-- ---- a leaf, and a node above

put_leaf : {A : Type 0} (t : Turn) (none v : A) → select_by_turn t none v none none ≡ cond (select_by_turn t false true false false) v none
put_leaf t none v = grind arith

pub leaf_slots : {R : Type 0} (key : Network) (route : Option R) (t : Shape R) → IsRooted key (Some route) Empty Empty t → IsUpdatedAt (λ q. None) (way key) (Some route) (at t)
leaf_slots key route t is q = at_rooted t key (Some route) Empty Empty is q ∙ put_leaf (turn_of (way key) q) None (Some route)

pub leaf_shaped : {R : Type 0} (key : Network) (route : Option R) (t : Shape R) → IsRooted key (Some route) Empty Empty t → IsRadixTree t
leaf_shaped key route t is = shaped_rooted t key (Some route) Empty Empty is (record { left = tt; right = tt }, tt, tt, tt)

-- nothing is at a key outside of the way to the root
pub at_outside : {R : Type 0} (t : Shape R) (b key : List Bool) → root t ≡ Some b → turn_of b key ≡ Outside → at t key ≡ None
at_outside Empty b key e out = refl
at_outside (Rooted prefix slot l r) b key e out =
    let same : way prefix ≡ b = cc in
    chosen_at (turn_of (way prefix) key) None (slot_of slot) (at l key) (at r key) None Outside (ap (λ x. turn_of x key) same ∙ out) refl

-- what two ways share covers both
pub shared_covers : (b key : List Bool) → turn_of b key ≡ Outside → (turn_of (shared b key) b ≡ Outside → ⊥) × (turn_of (shared b key) key ≡ Outside → ⊥)
shared_covers b key out =
    let p = parts b key out in
    (not_outside _ p.bit p.below, elim p.key [ inl here ↦ here_inside _ here | inr there ↦ not_outside _ (not p.bit) there ])

-- what stands on the other side of a new node: nothing, where the node is the key, or the key
pub data Beside {R : Type 0} (key above : Network) (route : Option R) (slot : Option (Option R)) (beside : Shape R) : Type 0 where
  is_key : turn_of (way above) (way key) ≡ Here → slot ≡ Some route → beside ≡ Empty → Beside key above route slot beside
  is_branch : (turn_of (way above) (way key) ≡ Here → ⊥) → slot ≡ None → IsRooted key (Some route) Empty Empty beside → Beside key above route slot beside

-- the key is above the tree, or a branch is
over_side : {R : Type 0} {old new : Shape R} (key above : Network) (b : List Bool) (route : Option R) (slot : Option (Option R)) (beside : Shape R) (bit : Bool)
    → at old (way key) ≡ None → root old ≡ Some b → IsRadixTree old → way above ≡ shared b (way key) → turn_of (way above) b ≡ side bit
    → (turn_of (way above) (way key) ≡ Here) ⊎ (turn_of (way above) (way key) ≡ side (not bit))
    → IsRooted above slot (cond bit beside old) (cond bit old beside) new → Beside key above route slot beside → IsInserted (way key) (Some route) old new
over_side {R} {old} {new} key above b route slot beside bit none e shaped bits below parts is other =
    record {
      shaped = shaped_rooted new above slot (cond bit beside old) (cond bit old beside) is (stands bit below parts other);
      slots = put bit below parts is other;
      roots = root_rooted new above slot (cond bit beside old) (cond bit old beside) is ∙ ap Some bits ∙ sym (ap (λ o. Some (root_with_key o (way key))) e);
    }
  where
    on : (bit : Bool) → turn_of (way above) b ≡ side bit → RootIsOnSide (way above) bit old
    on bit below = on_side old (way above) b bit e below

    there : {s : Turn} → (turn_of (way above) (way key) ≡ Here) ⊎ (turn_of (way above) (way key) ≡ s) → (turn_of (way above) (way key) ≡ Here → ⊥) → turn_of (way above) (way key) ≡ s
    there (inl here) apart = absurd (apart here)
    there (inr on) apart = on

    top : IsRooted key (Some route) Empty Empty beside → root beside ≡ Some (way key)
    top leaf = root_rooted beside key (Some route) Empty Empty leaf

    two : IsRooted key (Some route) Empty Empty beside → IsSome (root old) × IsSome (root beside)
    two leaf = (some_is (root old) b e, some_is (root beside) (way key) (top leaf))

    stands : (bit : Bool) → turn_of (way above) b ≡ side bit → (turn_of (way above) (way key) ≡ Here) ⊎ (turn_of (way above) (way key) ≡ side (not bit)) → Beside key above route slot beside
        → ShapedParts above slot (cond bit beside old) (cond bit old beside)
    stands false below parts (is_key here slot_is empty) =
        subst (λ (x : Option (Option R) × Shape R). ShapedParts above x.0 old x.1) (λ i. (sym slot_is i, sym empty i)) (record { left = on false below; right = tt }, tt, shaped, tt)
    stands true below parts (is_key here slot_is empty) =
        subst (λ (x : Option (Option R) × Shape R). ShapedParts above x.0 x.1 old) (λ i. (sym slot_is i, sym empty i)) (record { left = tt; right = on true below }, tt, tt, shaped)
    stands false below parts (is_branch apart slot_is leaf) =
        subst (λ x. ShapedParts above x old beside) (sym slot_is)
        (record { left = on false below; right = on_side beside (way above) (way key) true (top leaf) (there parts apart) }, two leaf, shaped, leaf_shaped key route beside leaf)
    stands true below parts (is_branch apart slot_is leaf) =
        subst (λ x. ShapedParts above x beside old) (sym slot_is)
        (record { left = on_side beside (way above) (way key) false (top leaf) (there parts apart); right = on true below }, ((two leaf).1, (two leaf).0), leaf_shaped key route beside leaf, shaped)

    put : (bit : Bool) → turn_of (way above) b ≡ side bit → (turn_of (way above) (way key) ≡ Here) ⊎ (turn_of (way above) (way key) ≡ side (not bit))
        → IsRooted above slot (cond bit beside old) (cond bit old beside) new → Beside key above route slot beside → IsUpdatedAt (at old) (way key) (Some route) (at new)
    put false below parts is (is_key here slot_is empty) =
        put_from _ _ (at new) (way key) _ (at_left (way above) old (on false below)) (fork_here (Rooted above NoKey old Empty) new above None (Some route) old Empty (way key) (refl, refl, refl, refl)
        (subst (λ (x : Option (Option R) × Shape R). IsRooted above x.0 old x.1 new) (λ i. (slot_is i, empty i)) is) here)
    put true below parts is (is_key here slot_is empty) =
        put_from _ _ (at new) (way key) _ (at_right (way above) old (on true below)) (fork_here (Rooted above NoKey Empty old) new above None (Some route) Empty old (way key) (refl, refl, refl, refl)
        (subst (λ (x : Option (Option R) × Shape R). IsRooted above x.0 x.1 old new) (λ i. (slot_is i, empty i)) is) here)
    put false below parts is (is_branch apart slot_is leaf) =
        put_from _ _ (at new) (way key) _ (at_left (way above) old (on false below)) (fork_right (Rooted above NoKey old Empty) new above None (Some route) old Empty beside (way key) (refl, refl, refl, refl)
        (subst (λ x. IsRooted above x old beside new) slot_is is) (there parts apart) (leaf_slots key route beside leaf))
    put true below parts is (is_branch apart slot_is leaf) =
        put_from _ _ (at new) (way key) _ (at_right (way above) old (on true below)) (fork_left (Rooted above NoKey Empty old) new above None (Some route) Empty old beside (way key) (refl, refl, refl, refl)
        (subst (λ x. IsRooted above x beside old new) slot_is is) (there parts apart) (leaf_slots key route beside leaf))

-- the turn of a side chooses by the side's bit
by_side : {A : Type 0} (t : Turn) (bit : Bool) (x y : A) → t ≡ side bit → (select_by_turn t x x y x ≡ cond bit x y) × (select_by_turn t y y x y ≡ cond bit y x)
by_side t bit x y e = (grind arith, grind arith)

pub placed_over : {R : Type 0} {old new : Shape R} (key above : Network) (b : List Bool) (route : Option R) (slot : Option (Option R)) (beside : Shape R) (t : Turn)
    → turn_of b (way key) ≡ Outside → root old ≡ Some b → IsRadixTree old → way above ≡ shared b (way key) → t ≡ turn_of (way above) b
    → IsRooted above slot (select_by_turn t beside beside old beside) (select_by_turn t old old beside old) new → Beside key above route slot beside → IsInserted (way key) (Some route) old new
placed_over {R} {old} {new} key above b route slot beside t out e shaped bits turn is beside_is =
    let p = parts b (way key) out in
    let below : turn_of (way above) b ≡ side p.bit = ap (λ x. turn_of x b) bits ∙ p.below in
    let key_part : (turn_of (way above) (way key) ≡ Here) ⊎ (turn_of (way above) (way key) ≡ side (not p.bit)) = subst (λ x. (turn_of x (way key) ≡ Here) ⊎ (turn_of x (way key) ≡ side (not p.bit))) (sym bits) p.key in
    let sides = by_side t p.bit beside old (turn ∙ below) in
    over_side key above b route slot beside p.bit (at_outside old b (way key) e out) e shaped bits below key_part
    (subst (λ (x : Shape R × Shape R). IsRooted above slot x.0 x.1 new) (λ i. (sides.0 i, sides.1 i)) is) beside_is
