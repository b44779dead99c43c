use Rattle.std.proofs.Common.{Some, None, false, is_some, refl, sym, subst, ◌∙◌}
use Rattle.ip_prefix.specs.Turns.{way}
use Rattle.rib_store.specs.Tree.{Rooted, shape_of, is_filled, has_routes, IsSingleKey, HasCorrectMarks, at, slot_of, IsRadixTree}
use Rattle.rib_store.proofs.ChangeLaws.{put_left, put_right, put_here, shaped_left, shaped_right}
use Rattle.rib_store.proofs.MarkLaws.{marked_right}
use Rattle.rib_store.proofs.ShapeLaws.{put_leaf}
use Rattle.rib_store.proofs.tree.+exchange.Goals as goal

pub Tree::exchange-returns-in-Bare-clause-slots : goal.Tree::exchange-returns-in-Bare-clause-slots
Tree::exchange-returns-in-Bare-clause-slots g t c =
    let was : IsSingleKey c.in-Bare.prefix c.args.self.now = rw c.in-Bare.is refl in
    put_leaf g.K.PackedPrefix.network c.args.self.now c.exchange_leaf.new.tree c.in-Bare.prefix (way c.args.key.now) c.args.route.now was c.exchange_leaf.ensures.leaf c.exchange_leaf.ensures.slot c.requires.key

pub Tree::exchange-returns-in-Leaf-clause-slots : goal.Tree::exchange-returns-in-Leaf-clause-slots
Tree::exchange-returns-in-Leaf-clause-slots g t c =
    let was : IsSingleKey c.in-Leaf.prefix c.args.self.now = rw c.in-Leaf.is refl in
    put_leaf g.K.PackedPrefix.network c.args.self.now c.exchange_leaf-in-Leaf.new.tree c.in-Leaf.prefix (way c.args.key.now) c.args.route.now was c.exchange_leaf-in-Leaf.ensures.leaf c.exchange_leaf-in-Leaf.ensures.slot c.requires.key

pub Tree::exchange-returns-in-Here-clause-slots : goal.Tree::exchange-returns-in-Here-clause-slots
Tree::exchange-returns-in-Here-clause-slots g t c =
    let net = g.K.PackedPrefix.network in
    let n = c.deref_mut-node.result.now in
    rw (c.in-Rooted.is, sym c.deref_mut-node.ensures.value, c.exchange.ensures.slot) (put_here (way (net c.in-Rooted.prefix)) (way c.args.key.now) None (slot_of n.slot) (Some c.args.route.now) (at (shape_of net n.left)) (at (shape_of net n.right)) cc)

pub Tree::exchange-returns-then-has_routes_after_change-clause-slots : goal.Tree::exchange-returns-then-has_routes_after_change-clause-slots
Tree::exchange-returns-then-has_routes_after_change-clause-slots g t c =
    let net = g.K.PackedPrefix.network in
    let n = c.deref_mut-node.result.now in
    rw (c.in-Rooted.is, sym c.deref_mut-node.ensures.value) (put_left (way (net c.in-Rooted.prefix)) (way c.args.key.now) None (slot_of n.slot) (Some c.args.route.now) (at (shape_of net n.left)) (at (shape_of net c.exchange-then-has_routes_after_change.new.self)) (at (shape_of net n.right)) (cc) c.exchange-then-has_routes_after_change.ensures.slots)

pub Tree::exchange-returns-then-has_routes_after_change-clause-shaped : goal.Tree::exchange-returns-then-has_routes_after_change-clause-shaped
Tree::exchange-returns-then-has_routes_after_change-clause-shaped g t c =
    let net = g.K.PackedPrefix.network in
    let n = c.deref_mut-node.result.now in
    let prefix = net c.in-Rooted.prefix in
    let was : IsRadixTree (Rooted prefix n.slot (shape_of net n.left) (shape_of net n.right)) = rw c.deref_mut-node.ensures.value (subst (λ t. IsRadixTree (shape_of net t)) c.in-Rooted.is c.requires.shaped) in
    shaped_left prefix n.slot (shape_of net n.left) (shape_of net n.right) (shape_of net c.exchange-then-has_routes_after_change.new.self) c.exchange-then-has_routes_after_change.ensures.root c.exchange-then-has_routes_after_change.ensures.shaped was

pub Tree::exchange-returns-then-has_routes_after_change-2-clause-slots : goal.Tree::exchange-returns-then-has_routes_after_change-2-clause-slots
Tree::exchange-returns-then-has_routes_after_change-2-clause-slots g t c =
    let net = g.K.PackedPrefix.network in
    let n = c.deref_mut-node.result.now in
    rw (c.in-Rooted.is, sym c.deref_mut-node.ensures.value) (put_right (way (net c.in-Rooted.prefix)) (way c.args.key.now) None (slot_of n.slot) (Some c.args.route.now) (at (shape_of net n.left)) (at (shape_of net n.right)) (at (shape_of net c.exchange-then-has_routes_after_change-2.new.self)) (cc) c.exchange-then-has_routes_after_change-2.ensures.slots)

pub Tree::exchange-returns-then-has_routes_after_change-2-clause-shaped : goal.Tree::exchange-returns-then-has_routes_after_change-2-clause-shaped
Tree::exchange-returns-then-has_routes_after_change-2-clause-shaped g t c =
    let net = g.K.PackedPrefix.network in
    let n = c.deref_mut-node.result.now in
    let prefix = net c.in-Rooted.prefix in
    let was : IsRadixTree (Rooted prefix n.slot (shape_of net n.left) (shape_of net n.right)) = rw c.deref_mut-node.ensures.value (subst (λ t. IsRadixTree (shape_of net t)) c.in-Rooted.is c.requires.shaped) in
    shaped_right prefix n.slot (shape_of net n.left) (shape_of net n.right) (shape_of net c.exchange-then-has_routes_after_change-2.new.self) c.exchange-then-has_routes_after_change-2.ensures.root c.exchange-then-has_routes_after_change-2.ensures.shaped was

pub Tree::exchange-returns-else-has_routes_after_change-clause-slots : goal.Tree::exchange-returns-else-has_routes_after_change-clause-slots
Tree::exchange-returns-else-has_routes_after_change-clause-slots g t c =
    let net = g.K.PackedPrefix.network in
    let n = c.deref_mut-node.result.now in
    rw (c.in-Rooted.is, sym c.deref_mut-node.ensures.value) (put_left (way (net c.in-Rooted.prefix)) (way c.args.key.now) None (slot_of n.slot) (Some c.args.route.now) (at (shape_of net n.left)) (at (shape_of net c.exchange_and_update_mark.new.below)) (at (shape_of net n.right)) (cc) c.exchange_and_update_mark.ensures.slots)

pub Tree::exchange-returns-else-has_routes_after_change-clause-shaped : goal.Tree::exchange-returns-else-has_routes_after_change-clause-shaped
Tree::exchange-returns-else-has_routes_after_change-clause-shaped g t c =
    let net = g.K.PackedPrefix.network in
    let n = c.deref_mut-node.result.now in
    let prefix = net c.in-Rooted.prefix in
    let was : IsRadixTree (Rooted prefix n.slot (shape_of net n.left) (shape_of net n.right)) = rw c.deref_mut-node.ensures.value (subst (λ t. IsRadixTree (shape_of net t)) c.in-Rooted.is c.requires.shaped) in
    shaped_left prefix n.slot (shape_of net n.left) (shape_of net n.right) (shape_of net c.exchange_and_update_mark.new.below) c.exchange_and_update_mark.ensures.root c.exchange_and_update_mark.ensures.shaped was

pub Tree::exchange-returns-else-has_routes_after_change-2-clause-slots : goal.Tree::exchange-returns-else-has_routes_after_change-2-clause-slots
Tree::exchange-returns-else-has_routes_after_change-2-clause-slots g t c =
    let net = g.K.PackedPrefix.network in
    let n = c.deref_mut-node.result.now in
    rw (c.in-Rooted.is, sym c.deref_mut-node.ensures.value) (put_right (way (net c.in-Rooted.prefix)) (way c.args.key.now) None (slot_of n.slot) (Some c.args.route.now) (at (shape_of net n.left)) (at (shape_of net n.right)) (at (shape_of net c.exchange_and_update_mark-in-Right.new.below)) (cc) c.exchange_and_update_mark-in-Right.ensures.slots)

pub Tree::exchange-returns-else-has_routes_after_change-2-clause-shaped : goal.Tree::exchange-returns-else-has_routes_after_change-2-clause-shaped
Tree::exchange-returns-else-has_routes_after_change-2-clause-shaped g t c =
    let net = g.K.PackedPrefix.network in
    let n = c.deref_mut-node.result.now in
    let prefix = net c.in-Rooted.prefix in
    let was : IsRadixTree (Rooted prefix n.slot (shape_of net n.left) (shape_of net n.right)) = rw c.deref_mut-node.ensures.value (subst (λ t. IsRadixTree (shape_of net t)) c.in-Rooted.is c.requires.shaped) in
    shaped_right prefix n.slot (shape_of net n.left) (shape_of net n.right) (shape_of net c.exchange_and_update_mark-in-Right.new.below) c.exchange_and_update_mark-in-Right.ensures.root c.exchange_and_update_mark-in-Right.ensures.shaped was

pub Tree::exchange-returns-then-has_routes_after_change-3-clause-slots : goal.Tree::exchange-returns-then-has_routes_after_change-3-clause-slots
Tree::exchange-returns-then-has_routes_after_change-3-clause-slots g t c =
    let net = g.K.PackedPrefix.network in
    let n = c.deref_mut-fork.result.now in
    rw (c.in-Forked.is, sym c.deref_mut-fork.ensures.value) (put_left (way (net c.in-Forked.prefix)) (way c.args.key.now) None None (Some c.args.route.now) (at (shape_of net n.left)) (at (shape_of net c.exchange-then-has_routes_after_change-3.new.self)) (at (shape_of net n.right)) (cc) c.exchange-then-has_routes_after_change-3.ensures.slots)

pub Tree::exchange-returns-then-has_routes_after_change-4-clause-slots : goal.Tree::exchange-returns-then-has_routes_after_change-4-clause-slots
Tree::exchange-returns-then-has_routes_after_change-4-clause-slots g t c =
    let net = g.K.PackedPrefix.network in
    let n = c.deref_mut-fork.result.now in
    rw (c.in-Forked.is, sym c.deref_mut-fork.ensures.value) (put_right (way (net c.in-Forked.prefix)) (way c.args.key.now) None None (Some c.args.route.now) (at (shape_of net n.left)) (at (shape_of net n.right)) (at (shape_of net c.exchange-then-has_routes_after_change-4.new.self)) (cc) c.exchange-then-has_routes_after_change-4.ensures.slots)

pub Tree::exchange-returns-else-has_routes_after_change-3-clause-slots : goal.Tree::exchange-returns-else-has_routes_after_change-3-clause-slots
Tree::exchange-returns-else-has_routes_after_change-3-clause-slots g t c =
    let net = g.K.PackedPrefix.network in
    let n = c.deref_mut-fork.result.now in
    rw (c.in-Forked.is, sym c.deref_mut-fork.ensures.value) (put_left (way (net c.in-Forked.prefix)) (way c.args.key.now) None None (Some c.args.route.now) (at (shape_of net n.left)) (at (shape_of net c.exchange_and_update_mark-in-Left-turn_covered.new.below)) (at (shape_of net n.right)) (cc) c.exchange_and_update_mark-in-Left-turn_covered.ensures.slots)

pub Tree::exchange-returns-else-has_routes_after_change-4-clause-slots : goal.Tree::exchange-returns-else-has_routes_after_change-4-clause-slots
Tree::exchange-returns-else-has_routes_after_change-4-clause-slots g t c =
    let net = g.K.PackedPrefix.network in
    let n = c.deref_mut-fork.result.now in
    rw (c.in-Forked.is, sym c.deref_mut-fork.ensures.value) (put_right (way (net c.in-Forked.prefix)) (way c.args.key.now) None None (Some c.args.route.now) (at (shape_of net n.left)) (at (shape_of net n.right)) (at (shape_of net c.exchange_and_update_mark-in-Right-turn_covered.new.below)) (cc) c.exchange_and_update_mark-in-Right-turn_covered.ensures.slots)

pub Tree::exchange-returns-then-has_routes_after_change-2-clause-marked : goal.Tree::exchange-returns-then-has_routes_after_change-2-clause-marked
Tree::exchange-returns-then-has_routes_after_change-2-clause-marked g t c =
    let n = c.deref_mut-node.result.now in
    let left : HasCorrectMarks n.left = subst (λ x. HasCorrectMarks x.left) (sym c.deref_mut-node.ensures.value) (subst HasCorrectMarks c.in-Rooted.is c.requires.marked).1 in
    let routed = c.has_routes_after_change-in-Right.ensures.routed c.if-has_routes_after_change-2.true in
    let beside = c.has_routes_after_change-in-Right.ensures.beside c.if-has_routes_after_change-2.true in (
      routed ∙ sym (marked_right (is_some c.args.route.now) (is_filled n.slot) (has_routes n.left) (has_routes c.exchange-then-has_routes_after_change-2.new.self) c.exchange-then-has_routes_after_change-2.ensures.brought (λ none. beside (c.is_some-in-Right.ensures ∙ none))),
      left,
      c.exchange-then-has_routes_after_change-2.ensures.marked,
    )

pub Tree::exchange-returns-then-has_routes_after_change-4-clause-marked : goal.Tree::exchange-returns-then-has_routes_after_change-4-clause-marked
Tree::exchange-returns-then-has_routes_after_change-4-clause-marked g t c =
    let n = c.deref_mut-fork.result.now in
    let left : HasCorrectMarks n.left = subst (λ x. HasCorrectMarks x.left) (sym c.deref_mut-fork.ensures.value) (subst HasCorrectMarks c.in-Forked.is c.requires.marked).1 in
    let routed = c.has_routes_after_change-in-Right-turn_covered.ensures.routed c.if-has_routes_after_change-4.true in
    let beside = c.has_routes_after_change-in-Right-turn_covered.ensures.beside c.if-has_routes_after_change-4.true in (
      routed ∙ sym (marked_right (is_some c.args.route.now) false (has_routes n.left) (has_routes c.exchange-then-has_routes_after_change-4.new.self) c.exchange-then-has_routes_after_change-4.ensures.brought (λ none. beside (c.is_some-in-Right-turn_covered.ensures ∙ none))),
      left,
      c.exchange-then-has_routes_after_change-4.ensures.marked,
    )
