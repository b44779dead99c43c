use Rattle.std.proofs.Common.{◌≡◌, true, false, None, refl, sym, ap, subst, ◌∙◌}
use Rattle.ip_prefix.specs.Turns.{way}
use Rattle.rib_store.specs.declared.tree.KeySlot.TheVariants.{NoKey}
use Rattle.rib_store.specs.declared.tree.Tree.TheVariants as tree
use Rattle.rib_store.specs.Tree.{Rooted, shape_of, HasCorrectMarks, at, slot_of, RootIsOnSide, IsRadixTree, IsRadixTreeBelowRoot, IsKeyOrFork}
use Rattle.rib_store.proofs.TreeLaws.{on_below}
use Rattle.rib_store.proofs.ChangeLaws.{join_left, join_right}
use Rattle.rib_store.proofs.ShapeLaws.{not_empty}
use Rattle.rib_store.proofs.tree.keys.drop_needless_root.Goals as goal

pub returns-in-Empty-clause-slots : goal.returns-in-Empty-clause-slots
returns-in-Empty-clause-slots g c = λ q.
    let net = g.K.PackedPrefix.network in
    let n = c.in-Rooted.node.value in
    let prefix = net c.in-Rooted.field-1 in
    let shaped : IsRadixTreeBelowRoot (Rooted prefix n.slot (shape_of net n.left) (shape_of net n.right)) = subst (λ t. IsRadixTreeBelowRoot (shape_of net t)) c.in-Rooted.is c.requires.shaped in
    let slot : n.slot ≡ NoKey = cc in
    let left : n.left ≡ tree.Empty = cc in
    let child : c.replace-child.result ≡ n.right = cc in
    join_right prefix (shape_of net n.left) (shape_of net n.right) (shape_of net c.replace-child.result) (slot_of n.slot) (ap slot_of slot) (ap (shape_of net) left) (ap (shape_of net) child) shaped.0.right q
    ∙ sym (ap (λ x. at (shape_of net x) q) c.in-Rooted.is)

pub returns-in-Empty-clause-sides : goal.returns-in-Empty-clause-sides
returns-in-Empty-clause-sides g c = λ from bit on.
    let net = g.K.PackedPrefix.network in
    let n = c.in-Rooted.node.value in
    let prefix = net c.in-Rooted.field-1 in
    let shaped : IsRadixTreeBelowRoot (Rooted prefix n.slot (shape_of net n.left) (shape_of net n.right)) = subst (λ t. IsRadixTreeBelowRoot (shape_of net t)) c.in-Rooted.is c.requires.shaped in
    let child : c.replace-child.result ≡ n.right = cc in
    on_below (shape_of net c.replace-child.result) from (way prefix) bit true (subst (λ t. RootIsOnSide from bit (shape_of net t)) c.in-Rooted.is on) (subst (λ t. RootIsOnSide (way prefix) true (shape_of net t)) (sym child) shaped.0.right)

pub returns-in-Empty-right : goal.returns-in-Empty-right
returns-in-Empty-right g c =
    let net = g.K.PackedPrefix.network in
    let n = c.in-Rooted.node.value in
    let prefix = net c.in-Rooted.field-1 in
    let shaped : IsRadixTreeBelowRoot (Rooted prefix n.slot (shape_of net n.left) (shape_of net n.right)) = subst (λ t. IsRadixTreeBelowRoot (shape_of net t)) c.in-Rooted.is c.requires.shaped in
    let slot : n.slot ≡ NoKey = cc in
    let right : n.right ≡ tree.Empty = cc in
    let child : c.replace-child-in-Empty-right.result ≡ n.left = cc in
    record {
      shaped = subst (λ t. IsRadixTree (shape_of net t)) (sym child) shaped.1;
      marked = subst HasCorrectMarks (sym child) (subst HasCorrectMarks c.in-Rooted.is c.requires.marked).1;
      slots = λ q. join_left prefix (shape_of net n.left) (shape_of net n.right) (shape_of net c.replace-child-in-Empty-right.result) (slot_of n.slot) (ap slot_of slot) (ap (shape_of net) right) (ap (shape_of net) child) shaped.0.left q
          ∙ sym (ap (λ x. at (shape_of net x) q) c.in-Rooted.is);
      sides = λ from bit on. on_below (shape_of net c.replace-child-in-Empty-right.result) from (way prefix) bit false (subst (λ t. RootIsOnSide from bit (shape_of net t)) c.in-Rooted.is on) (subst (λ t. RootIsOnSide (way prefix) false (shape_of net t)) (sym child) shaped.0.left);
    }

pub returns-in_default-right : goal.returns-in_default-right
returns-in_default-right g c =
    let net = g.K.PackedPrefix.network in
    let n = c.in-Rooted.node.value in
    let prefix = net c.in-Rooted.field-1 in
    let shaped : IsRadixTreeBelowRoot (Rooted prefix n.slot (shape_of net n.left) (shape_of net n.right)) = subst (λ t. IsRadixTreeBelowRoot (shape_of net t)) c.in-Rooted.is c.requires.shaped in
    let slot : n.slot ≡ NoKey = cc in
    let left : n.left ≡ tree.Empty → ⊥ = λ e. c.in_default-left.not-Empty (cc) in
    let right : n.right ≡ tree.Empty → ⊥ = λ e. c.in_default-right.not-Empty (cc) in
    record {
      shaped = (shaped.0, subst (λ s. IsKeyOrFork (slot_of s) (shape_of net n.left) (shape_of net n.right)) (sym slot) (not_empty net n.left left, not_empty net n.right right), shaped.1, shaped.2);
      marked = subst HasCorrectMarks c.in-Rooted.is c.requires.marked;
      slots = λ q. sym (ap (λ x. at (shape_of net x) q) c.in-Rooted.is);
      sides = λ from bit on. subst (λ t. RootIsOnSide from bit (shape_of net t)) c.in-Rooted.is on;
    }

-- ---- the same of a branch

pub returns-in-Empty-left-clause-slots : goal.returns-in-Empty-left-clause-slots
returns-in-Empty-left-clause-slots g c = λ q.
    let net = g.K.PackedPrefix.network in
    let n = c.in-Forked.fork.value in
    let prefix = net c.in-Forked.field-1 in
    let shaped : IsRadixTreeBelowRoot (Rooted prefix NoKey (shape_of net n.left) (shape_of net n.right)) = subst (λ t. IsRadixTreeBelowRoot (shape_of net t)) c.in-Forked.is c.requires.shaped in
    let left : n.left ≡ tree.Empty = cc in
    let child : c.replace-child-in-Empty-left.result ≡ n.right = cc in
    join_right prefix (shape_of net n.left) (shape_of net n.right) (shape_of net c.replace-child-in-Empty-left.result) None refl (ap (shape_of net) left) (ap (shape_of net) child) shaped.0.right q
    ∙ sym (ap (λ x. at (shape_of net x) q) c.in-Forked.is)

pub returns-in-Empty-left-clause-sides : goal.returns-in-Empty-left-clause-sides
returns-in-Empty-left-clause-sides g c = λ from bit on.
    let net = g.K.PackedPrefix.network in
    let n = c.in-Forked.fork.value in
    let prefix = net c.in-Forked.field-1 in
    let shaped : IsRadixTreeBelowRoot (Rooted prefix NoKey (shape_of net n.left) (shape_of net n.right)) = subst (λ t. IsRadixTreeBelowRoot (shape_of net t)) c.in-Forked.is c.requires.shaped in
    let child : c.replace-child-in-Empty-left.result ≡ n.right = cc in
    on_below (shape_of net c.replace-child-in-Empty-left.result) from (way prefix) bit true (subst (λ t. RootIsOnSide from bit (shape_of net t)) c.in-Forked.is on) (subst (λ t. RootIsOnSide (way prefix) true (shape_of net t)) (sym child) shaped.0.right)

pub returns-in-Empty-right-2 : goal.returns-in-Empty-right-2
returns-in-Empty-right-2 g c =
    let net = g.K.PackedPrefix.network in
    let n = c.in-Forked.fork.value in
    let prefix = net c.in-Forked.field-1 in
    let shaped : IsRadixTreeBelowRoot (Rooted prefix NoKey (shape_of net n.left) (shape_of net n.right)) = subst (λ t. IsRadixTreeBelowRoot (shape_of net t)) c.in-Forked.is c.requires.shaped in
    let right : n.right ≡ tree.Empty = cc in
    let child : c.replace-child-in-Empty-right-2.result ≡ n.left = cc in
    record {
      shaped = subst (λ t. IsRadixTree (shape_of net t)) (sym child) shaped.1;
      marked = subst HasCorrectMarks (sym child) (subst HasCorrectMarks c.in-Forked.is c.requires.marked).1;
      slots = λ q. join_left prefix (shape_of net n.left) (shape_of net n.right) (shape_of net c.replace-child-in-Empty-right-2.result) None refl (ap (shape_of net) right) (ap (shape_of net) child) shaped.0.left q
          ∙ sym (ap (λ x. at (shape_of net x) q) c.in-Forked.is);
      sides = λ from bit on. on_below (shape_of net c.replace-child-in-Empty-right-2.result) from (way prefix) bit false (subst (λ t. RootIsOnSide from bit (shape_of net t)) c.in-Forked.is on) (subst (λ t. RootIsOnSide (way prefix) false (shape_of net t)) (sym child) shaped.0.left);
    }
