use Rattle.std.proofs.Common.{◌≡◌, Bool, List, Option, Some, None, false, is_some, Result, Ok, Err, OnOk, refl, sym, subst, ◌∙◌}
use Rattle.std.proofs.lemmas.Result.{on_ok_weaker}
use Rattle.ip_prefix.specs.declared.turn.Turn.TheVariants.{Left, Right}
use Rattle.ip_prefix.specs.Turns.{way, turn_of}
use Rattle.rib_store.specs.declared.tree.KeySlot.TheVariants.{NoKey}
use Rattle.rib_store.specs.Tree.{Shape, Rooted, shape_of, is_filled, has_routes, HasCorrectMarks, slot_of, IsRooted, IsRadixTree, IsInserted}
use Rattle.ip_prefix.specs.Network.{Network}
use Rattle.rib_store.specs.declared.tree.KeySlot.{KeySlot}
use Rattle.rib_store.proofs.GrowthLaws.{placed_left, placed_right}
use Rattle.rib_store.proofs.MarkLaws.{marked_right, alone_right}
use Rattle.rib_store.proofs.tree.+put.Goals as goal

-- a node with a key more on its left
placed_left_in : {R : Type 0} {old : Shape R} (key : List Bool) (prefix : Network) (slot : KeySlot R) (v : Option (Option R)) (l r m : Shape R) → IsRooted prefix (slot_of slot) l r old
    → turn_of (way prefix) key ≡ Left → IsRadixTree old → IsInserted key v l m → IsInserted key v old (Rooted prefix slot m r)
placed_left_in key prefix slot v l r m was = placed_left key prefix (slot_of slot) v l r m was (refl, refl, refl, refl)

-- and on its right
placed_right_in : {R : Type 0} {old : Shape R} (key : List Bool) (prefix : Network) (slot : KeySlot R) (v : Option (Option R)) (l r m : Shape R) → IsRooted prefix (slot_of slot) l r old
    → turn_of (way prefix) key ≡ Right → IsRadixTree old → IsInserted key v r m → IsInserted key v old (Rooted prefix slot l m)
placed_right_in key prefix slot v l r m was = placed_right key prefix (slot_of slot) v l r m was (refl, refl, refl, refl)

pub Tree::put-returns-then-has_routes_after_change-clause-placed : goal.Tree::put-returns-then-has_routes_after_change-clause-placed
Tree::put-returns-then-has_routes_after_change-clause-placed g t c =
    let net = g.K.PackedPrefix.network in
    let n = c.deref_mut-node.result.now in
    let prefix = net c.in-Rooted.prefix in
    let left = shape_of net n.left in
    let right = shape_of net n.right in
    let was : IsRooted prefix (slot_of n.slot) left right (shape_of net c.args.self.now) = rw c.in-Rooted.is (cc, cc, cc, cc) in
    on_ok_weaker c.put.result (placed_left_in (way c.args.key.now) prefix n.slot (Some c.args.route.now) left right (shape_of net c.put.new.self) was (cc) c.requires.shaped) c.put.ensures.placed

pub Tree::put-returns-then-has_routes_after_change-2-clause-placed : goal.Tree::put-returns-then-has_routes_after_change-2-clause-placed
Tree::put-returns-then-has_routes_after_change-2-clause-placed g t c =
    let net = g.K.PackedPrefix.network in
    let n = c.deref_mut-node.result.now in
    let prefix = net c.in-Rooted.prefix in
    let left = shape_of net n.left in
    let right = shape_of net n.right in
    let was : IsRooted prefix (slot_of n.slot) left right (shape_of net c.args.self.now) = rw c.in-Rooted.is (cc, cc, cc, cc) in
    on_ok_weaker c.put-then-has_routes_after_change-2.result (placed_right_in (way c.args.key.now) prefix n.slot (Some c.args.route.now) left right (shape_of net c.put-then-has_routes_after_change-2.new.self) was (cc) c.requires.shaped) c.put-then-has_routes_after_change-2.ensures.placed

pub Tree::put-returns-then-has_routes_after_change-3-clause-placed : goal.Tree::put-returns-then-has_routes_after_change-3-clause-placed
Tree::put-returns-then-has_routes_after_change-3-clause-placed g t c =
    let net = g.K.PackedPrefix.network in
    let n = c.deref_mut-fork.result.now in
    let prefix = net c.in-Forked.prefix in
    let left = shape_of net n.left in
    let right = shape_of net n.right in
    let was : IsRooted prefix None left right (shape_of net c.args.self.now) = rw c.in-Forked.is (cc, cc, cc, refl) in
    on_ok_weaker c.put-then-has_routes_after_change-3.result (placed_left_in (way c.args.key.now) prefix NoKey (Some c.args.route.now) left right (shape_of net c.put-then-has_routes_after_change-3.new.self) was (cc) c.requires.shaped) c.put-then-has_routes_after_change-3.ensures.placed

pub Tree::put-returns-then-has_routes_after_change-4-clause-placed : goal.Tree::put-returns-then-has_routes_after_change-4-clause-placed
Tree::put-returns-then-has_routes_after_change-4-clause-placed g t c =
    let net = g.K.PackedPrefix.network in
    let n = c.deref_mut-fork.result.now in
    let prefix = net c.in-Forked.prefix in
    let left = shape_of net n.left in
    let right = shape_of net n.right in
    let was : IsRooted prefix None left right (shape_of net c.args.self.now) = rw c.in-Forked.is (cc, cc, cc, refl) in
    on_ok_weaker c.put-then-has_routes_after_change-4.result (placed_right_in (way c.args.key.now) prefix NoKey (Some c.args.route.now) left right (shape_of net c.put-then-has_routes_after_change-4.new.self) was (cc) c.requires.shaped) c.put-then-has_routes_after_change-4.ensures.placed

pub Tree::put-returns-else-has_routes_after_change-clause-placed : goal.Tree::put-returns-else-has_routes_after_change-clause-placed
Tree::put-returns-else-has_routes_after_change-clause-placed g t c =
    let net = g.K.PackedPrefix.network in
    let n = c.deref_mut-node.result.now in
    let prefix = net c.in-Rooted.prefix in
    let left = shape_of net n.left in
    let right = shape_of net n.right in
    let was : IsRooted prefix (slot_of n.slot) left right (shape_of net c.args.self.now) = rw c.in-Rooted.is (cc, cc, cc, cc) in
    on_ok_weaker c.put_and_update_mark.result (placed_left_in (way c.args.key.now) prefix n.slot (Some c.args.route.now) left right (shape_of net c.put_and_update_mark.new.below) was (cc) c.requires.shaped) c.put_and_update_mark.ensures.placed

pub Tree::put-returns-else-has_routes_after_change-2-clause-placed : goal.Tree::put-returns-else-has_routes_after_change-2-clause-placed
Tree::put-returns-else-has_routes_after_change-2-clause-placed g t c =
    let net = g.K.PackedPrefix.network in
    let n = c.deref_mut-node.result.now in
    let prefix = net c.in-Rooted.prefix in
    let left = shape_of net n.left in
    let right = shape_of net n.right in
    let was : IsRooted prefix (slot_of n.slot) left right (shape_of net c.args.self.now) = rw c.in-Rooted.is (cc, cc, cc, cc) in
    on_ok_weaker c.put_and_update_mark-in-Right.result (placed_right_in (way c.args.key.now) prefix n.slot (Some c.args.route.now) left right (shape_of net c.put_and_update_mark-in-Right.new.below) was (cc) c.requires.shaped) c.put_and_update_mark-in-Right.ensures.placed

pub Tree::put-returns-else-has_routes_after_change-3-clause-placed : goal.Tree::put-returns-else-has_routes_after_change-3-clause-placed
Tree::put-returns-else-has_routes_after_change-3-clause-placed g t c =
    let net = g.K.PackedPrefix.network in
    let n = c.deref_mut-fork.result.now in
    let prefix = net c.in-Forked.prefix in
    let left = shape_of net n.left in
    let right = shape_of net n.right in
    let was : IsRooted prefix None left right (shape_of net c.args.self.now) = rw c.in-Forked.is (cc, cc, cc, refl) in
    on_ok_weaker c.put_and_update_mark-in-Left-turn.result (placed_left_in (way c.args.key.now) prefix NoKey (Some c.args.route.now) left right (shape_of net c.put_and_update_mark-in-Left-turn.new.below) was (cc) c.requires.shaped) c.put_and_update_mark-in-Left-turn.ensures.placed

pub Tree::put-returns-else-has_routes_after_change-4-clause-placed : goal.Tree::put-returns-else-has_routes_after_change-4-clause-placed
Tree::put-returns-else-has_routes_after_change-4-clause-placed g t c =
    let net = g.K.PackedPrefix.network in
    let n = c.deref_mut-fork.result.now in
    let prefix = net c.in-Forked.prefix in
    let left = shape_of net n.left in
    let right = shape_of net n.right in
    let was : IsRooted prefix None left right (shape_of net c.args.self.now) = rw c.in-Forked.is (cc, cc, cc, refl) in
    on_ok_weaker c.put_and_update_mark-in-Right-turn.result (placed_right_in (way c.args.key.now) prefix NoKey (Some c.args.route.now) left right (shape_of net c.put_and_update_mark-in-Right-turn.new.below) was (cc) c.requires.shaped) c.put_and_update_mark-in-Right-turn.ensures.placed

both : {T E P Q S : Type 0} (r : Result T E) → (P → Q → S) → OnOk r P → OnOk r Q → OnOk r S
both (Ok x) f p q = f p q
both (Err e) f p q = tt

pub Tree::put-returns-then-has_routes_after_change-2-clause-marked : goal.Tree::put-returns-then-has_routes_after_change-2-clause-marked
Tree::put-returns-then-has_routes_after_change-2-clause-marked g t c =
    let n = c.deref_mut-node.result.now in
    let left : HasCorrectMarks n.left = subst (λ x. HasCorrectMarks x.left) (sym c.deref_mut-node.ensures.value) (subst HasCorrectMarks c.in-Rooted.is c.requires.marked).1 in
    let routed = c.has_routes_after_change-in-Right.ensures.routed c.if-has_routes_after_change-2.true in
    let beside = c.has_routes_after_change-in-Right.ensures.beside c.if-has_routes_after_change-2.true in
    both c.put-then-has_routes_after_change-2.result
    (λ marked there. (
      routed ∙ sym (marked_right (is_some c.args.route.now) (is_filled n.slot) (has_routes n.left) (has_routes c.put-then-has_routes_after_change-2.new.self) there (λ none. beside (c.is_some-in-Right.ensures ∙ none))),
      left,
      marked,
    )) c.put-then-has_routes_after_change-2.ensures.marked c.put-then-has_routes_after_change-2.ensures.brought

pub Tree::put-returns-then-has_routes_after_change-4-clause-marked : goal.Tree::put-returns-then-has_routes_after_change-4-clause-marked
Tree::put-returns-then-has_routes_after_change-4-clause-marked g t c =
    let n = c.deref_mut-fork.result.now in
    let left : HasCorrectMarks n.left = subst (λ x. HasCorrectMarks x.left) (sym c.deref_mut-fork.ensures.value) (subst HasCorrectMarks c.in-Forked.is c.requires.marked).1 in
    let routed = c.has_routes_after_change-in-Right-turn.ensures.routed c.if-has_routes_after_change-4.true in
    let beside = c.has_routes_after_change-in-Right-turn.ensures.beside c.if-has_routes_after_change-4.true in
    both c.put-then-has_routes_after_change-4.result
    (λ marked there. (
      routed ∙ sym (marked_right (is_some c.args.route.now) false (has_routes n.left) (has_routes c.put-then-has_routes_after_change-4.new.self) there (λ none. beside (c.is_some-in-Right-turn.ensures ∙ none))),
      left,
      marked,
    )) c.put-then-has_routes_after_change-4.ensures.marked c.put-then-has_routes_after_change-4.ensures.brought

pub Tree::put-returns-else-has_routes_after_change-2-clause-marked : goal.Tree::put-returns-else-has_routes_after_change-2-clause-marked
Tree::put-returns-else-has_routes_after_change-2-clause-marked g t c =
    let n = c.deref_mut-node.result.now in
    let left : HasCorrectMarks n.left = subst (λ x. HasCorrectMarks x.left) (sym c.deref_mut-node.ensures.value) (subst HasCorrectMarks c.in-Rooted.is c.requires.marked).1 in
    let alone = c.has_routes_after_change-in-Right.ensures.alone c.if-has_routes_after_change-2.false in
    both c.put_and_update_mark-in-Right.result
    (λ marked routed. (
      routed ∙ alone_right (is_filled n.slot) (has_routes n.left) (has_routes c.put_and_update_mark-in-Right.new.below) alone,
      left,
      marked,
    )) c.put_and_update_mark-in-Right.ensures.marked c.put_and_update_mark-in-Right.ensures.routed
