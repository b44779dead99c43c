-- A node stands exactly where a key is, or where keys lie on both sides.
use Rattle.std.proofs.Common.{◌≡◌, Bool, true, false, not, ◌&&◌, ◌||◌, Option, Some, None, is_some, List, ◌⊎◌, inl, inr, refl, ap, subst, ◌∙◌, arith}
use Rattle.std.specs.Prelude.{IsSome}
use Rattle.ip_prefix.specs.declared.turn.Turn.{Turn}
use Rattle.ip_prefix.specs.declared.turn.Turn.TheVariants.{Outside, Here, Left, Right}
use Rattle.ip_prefix.specs.Network.{Network}
use Rattle.ip_prefix.specs.Turns.{way, turn_of, side}
use Rattle.ip_prefix.proofs.Turns.{here_only, here_from}
use Rattle.rib_store.specs.declared.tree.KeySlot.{KeySlot}
use Rattle.rib_store.specs.declared.tree.KeySlot.TheVariants.{NoKey, Vacant, Filled}
use Rattle.rib_store.specs.Tree.{Shape, Empty, Rooted, slot_of, select_by_turn, root, RootIsOnSide, IsRadixTree, IsKeyOrFork}
use Rattle.rib_store.proofs.WayLaws.{turn_through, outside_across, outside_above, outside_below}
use Rattle.rib_store.proofs.TreeLaws.{on_below}

-- whether a node stands at a way
abbrev pub node_at : {R : Type 0} → Shape R → List Bool → Bool
node_at Empty q = false
node_at (Rooted prefix slot l r) q = select_by_turn (turn_of (way prefix) q) false true (node_at l q) (node_at r q)

-- whether some key passes a test of its way
abbrev pub any_key : {R : Type 0} → (List Bool → Bool) → Shape R → Bool
any_key test Empty = false
any_key test (Rooted prefix slot l r) = (is_some (slot_of slot) && test (way prefix)) || (any_key test l || any_key test r)

-- no key passes what none on the side does
pub any_none : {R : Type 0} (test : List Bool → Bool) (b : List Bool) (bit : Bool) (t : Shape R) → RootIsOnSide b bit t → IsRadixTree t
    → ((k : List Bool) → turn_of b k ≡ side bit → test k ≡ false) → any_key test t ≡ false
any_none test b bit Empty on shaped h = refl
any_none test b bit (Rooted prefix slot l r) on shaped h =
    let here = h (way prefix) on in
    let left = any_none test b bit l (on_below l b (way prefix) bit false on shaped.0.left) shaped.2 h in
    let right = any_none test b bit r (on_below r b (way prefix) bit true on shaped.0.right) shaped.3 h in
    grind arith

-- some key passes what each on the side does
pub any_some : {R : Type 0} (test : List Bool → Bool) (b : List Bool) (bit : Bool) (t : Shape R) → RootIsOnSide b bit t → IsRadixTree t → IsSome (root t)
    → ((k : List Bool) → turn_of b k ≡ side bit → test k ≡ true) → any_key test t ≡ true
any_some test b bit Empty on shaped some h = cc
any_some test b bit (Rooted prefix NoKey l r) on shaped some h =
    ap (λ x. x || any_key test r) (any_some test b bit l (on_below l b (way prefix) bit false on shaped.0.left) shaped.2 shaped.1.0 h)
any_some test b bit (Rooted prefix Vacant l r) on shaped some h = ap (λ x. x || (any_key test l || any_key test r)) (h (way prefix) on)
any_some test b bit (Rooted prefix (Filled route) l r) on shaped some h = ap (λ x. x || (any_key test l || any_key test r)) (h (way prefix) on)

-- ---- tests of where a key lies, seen from q

-- tests by the turn, which what is outside doesn't pass
abbrev pub by_turn : (Turn → Bool) → List Bool → List Bool → Bool
by_turn w q k = w (turn_of q k)

abbrev pub at_here : Turn → Bool
at_here t = select_by_turn t false true false false

abbrev pub at_side : Bool → Turn → Bool
at_side bit t = select_by_turn t false false (not bit) bit

-- what is told of a node by the tests of its keys
abbrev pub Told : {R : Type 0} → Shape R → List Bool → Type 0
Told t q = node_at t q ≡ (any_key (by_turn at_here q) t || (any_key (by_turn (at_side false) q) t && any_key (by_turn (at_side true) q) t))

-- where a key parts from all others below the node
pub told_left : {R : Type 0} (b : List Bool) (slot : Option (Option R)) (l r : Shape R) (q : List Bool) (w : Turn → Bool) → w Outside ≡ false → RootIsOnSide b true r → IsRadixTree r
    → turn_of b q ≡ Left → ((is_some slot && by_turn w q b) || (any_key (by_turn w q) l || any_key (by_turn w q) r)) ≡ any_key (by_turn w q) l
told_left b slot l r q w none on shaped there =
    let here = ap w (outside_above b q false there) ∙ none in
    let right = any_none (by_turn w q) b true r on shaped (λ k h. ap w (outside_across b q k false true there h refl) ∙ none) in
    grind arith

pub told_right : {R : Type 0} (b : List Bool) (slot : Option (Option R)) (l r : Shape R) (q : List Bool) (w : Turn → Bool) → w Outside ≡ false → RootIsOnSide b false l → IsRadixTree l
    → turn_of b q ≡ Right → ((is_some slot && by_turn w q b) || (any_key (by_turn w q) l || any_key (by_turn w q) r)) ≡ any_key (by_turn w q) r
told_right b slot l r q w none on shaped there =
    let here = ap w (outside_above b q true there) ∙ none in
    let left = any_none (by_turn w q) b false l on shaped (λ k h. ap w (outside_across b q k true false there h refl) ∙ none) in
    grind arith

-- where all keys lie on one turn from q, no test passes that doesn't pass there
none_of : {R : Type 0} (prefix : Network) (l r : Shape R) (slot : KeySlot R) (q : List Bool) (w : Turn → Bool) (t : Turn) → w t ≡ false
    → IsRadixTree (Rooted prefix slot l r) → turn_of q (way prefix) ≡ t → ((k : List Bool) (s : Bool) → turn_of (way prefix) k ≡ side s → turn_of q k ≡ t)
    → any_key (by_turn w q) (Rooted prefix slot l r) ≡ false
none_of prefix l r slot q w t fails shaped here below =
    let own = ap w here ∙ fails in
    let left = any_none (by_turn w q) (way prefix) false l shaped.0.left shaped.2 (λ k h. ap w (below k false h) ∙ fails) in
    let right = any_none (by_turn w q) (way prefix) true r shaped.0.right shaped.3 (λ k h. ap w (below k true h) ∙ fails) in
    grind arith

nothing : (a b c : Bool) → a ≡ false → (b ≡ false) ⊎ (c ≡ false) → false ≡ (a || (b && c))
nothing a b c e (inl f) = grind arith
nothing a b c e (inr g) = grind arith

told_outside : {R : Type 0} (prefix : Network) (l r : Shape R) (slot : KeySlot R) (q : List Bool) (t : Turn) → turn_of q (way prefix) ≡ t
    → IsRadixTree (Rooted prefix slot l r) → turn_of (way prefix) q ≡ Outside
    → false ≡ (any_key (by_turn at_here q) (Rooted prefix slot l r) || (any_key (by_turn (at_side false) q) (Rooted prefix slot l r) && any_key (by_turn (at_side true) q) (Rooted prefix slot l r)))
told_outside prefix l r slot q Outside e shaped out =
    let none = λ (w : Turn → Bool) (fails : w Outside ≡ false). none_of prefix l r slot q w Outside fails shaped e (λ k s h. outside_below q (way prefix) k s e out h) in
    nothing _ _ _ (none at_here refl) (inl (none (at_side false) refl))
told_outside prefix l r slot q Here e shaped out =
    let here = here_only q (way prefix) e in
    let itself = here_from (way prefix) in
    grind arith
told_outside prefix l r slot q Left e shaped out =
    let none = λ (w : Turn → Bool) (fails : w Left ≡ false). none_of prefix l r slot q w Left fails shaped e (λ k s h. turn_through q (way prefix) k false s e h) in
    nothing _ _ _ (none at_here refl) (inr (none (at_side true) refl))
told_outside prefix l r slot q Right e shaped out =
    let none = λ (w : Turn → Bool) (fails : w Right ≡ false). none_of prefix l r slot q w Right fails shaped e (λ k s h. turn_through q (way prefix) k true s e h) in
    nothing _ _ _ (none at_here refl) (inl (none (at_side false) refl))

on_both : (here a b c d : Bool) → a ≡ true → d ≡ true → true ≡ (here || ((a || b) && (c || d)))
on_both here a b c d left right = grind arith

-- the node itself: a key, or keys on both sides
told_here : {R : Type 0} (b : List Bool) (slot : Option (Option R)) (l r : Shape R) → RootIsOnSide b false l → RootIsOnSide b true r → IsKeyOrFork slot l r → IsRadixTree l → IsRadixTree r
    → true ≡ (((is_some slot && by_turn at_here b b) || (any_key (by_turn at_here b) l || any_key (by_turn at_here b) r))
    || (((is_some slot && by_turn (at_side false) b b) || (any_key (by_turn (at_side false) b) l || any_key (by_turn (at_side false) b) r))
    && ((is_some slot && by_turn (at_side true) b b) || (any_key (by_turn (at_side true) b) l || any_key (by_turn (at_side true) b) r))))
told_here b (Some route) l r on_l on_r stands sl sr = rw (here_from b)
told_here b None l r on_l on_r stands sl sr =
    let left = any_some (by_turn (at_side false) b) b false l on_l sl stands.0 (λ k h. ap (at_side false) h) in
    let right = any_some (by_turn (at_side true) b) b true r on_r sr stands.1 (λ k h. ap (at_side true) h) in
    on_both _ _ _ _ _ left right

-- a node stands exactly where a key is, or where keys lie on both sides
pub told : {R : Type 0} (t : Shape R) (q : List Bool) → IsRadixTree t → Told t q
told Empty q shaped = refl
told {R} (Rooted prefix slot l r) q shaped = turns (turn_of (way prefix) q) refl (told l q shaped.2) (told r q shaped.3)
  where
    turns : (t : Turn) → turn_of (way prefix) q ≡ t → Told l q → Told r q
        → select_by_turn t false true (node_at l q) (node_at r q)
        ≡ (any_key (by_turn at_here q) (Rooted prefix slot l r) || (any_key (by_turn (at_side false) q) (Rooted prefix slot l r) && any_key (by_turn (at_side true) q) (Rooted prefix slot l r)))
    turns Outside e f g = told_outside prefix l r slot q (turn_of q (way prefix)) refl shaped e
    turns Here e f g =
        subst (λ x. true ≡ (any_key (by_turn at_here x) (Rooted prefix slot l r) || (any_key (by_turn (at_side false) x) (Rooted prefix slot l r) && any_key (by_turn (at_side true) x) (Rooted prefix slot l r))))
        (here_only (way prefix) q e) (told_here (way prefix) (slot_of slot) l r shaped.0.left shaped.0.right shaped.1 shaped.2 shaped.3)
    turns Left e f g =
        let only = λ (w : Turn → Bool) (out : w Outside ≡ false). told_left (way prefix) (slot_of slot) l r q w out shaped.0.right shaped.3 e in
        grind (arith, only at_here refl, only (at_side false) refl, only (at_side true) refl)
    turns Right e f g =
        let only = λ (w : Turn → Bool) (out : w Outside ≡ false). told_right (way prefix) (slot_of slot) l r q w out shaped.0.left shaped.2 e in
        grind (arith, only at_here refl, only (at_side false) refl, only (at_side true) refl)
