use Rattle.std.proofs.Common.{◌≡◌, None, cond, refl, sym, ap, ◌∙◌}
use Rattle.ip_prefix.specs.declared.turn.Turn.TheVariants.{Outside, Here, Left, Right}
use Rattle.ip_prefix.specs.Turns.{way, turn_of}
use Rattle.rib_store.specs.declared.tree.KeySlot.TheVariants.{NoKey}
use Rattle.rib_store.specs.Tree.{Rooted, shape_of, at, same_way, slot_of, IsRooted}
use Rattle.rib_store.proofs.TreeLaws.{at_rooted}
use Rattle.rib_store.proofs.ShapeLaws.{fork_other}
use Rattle.rib_store.proofs.ChangeLaws.{put_outside, fork_left, fork_right, fork_here}
use Rattle.rib_store.proofs.tree.Tree.+discard.Goals.{in-Here, in-Left, in-Right, in-Left-turn, in-Right-turn}
use Rattle.rib_store.proofs.tree.Tree.+discard.Goals as goal

pub returns-in-Outside-clause-slots : goal.returns-in-Outside-clause-slots
returns-in-Outside-clause-slots g t c = λ q.
    let net = g.K.PackedPrefix.network in
    let n = c.deref_mut-node.result.now in
    let prefix = net c.in-Rooted.prefix in
    let key = way c.args.key.now in
    let turn : turn_of (way prefix) key ≡ Outside = cc in
    let was : IsRooted prefix (slot_of n.slot) (shape_of net n.left) (shape_of net n.right) (shape_of net c.args.self.now) = rw c.in-Rooted.is (cc, cc, cc, cc) in
    put_outside (way prefix) key None (slot_of n.slot) (at (shape_of net n.left)) (at (shape_of net n.right)) turn q
    ∙ ap (cond (same_way key q) None) (sym (at_rooted (shape_of net c.args.self.now) prefix (slot_of n.slot) (shape_of net n.left) (shape_of net n.right) was q))

pub returns-after-turn-clause-slots : goal.returns-after-turn-clause-slots
returns-after-turn-clause-slots g t c = λ q.
    let net = g.K.PackedPrefix.network in
    let n = c.deref_mut-node.result.now in
    let m = c.match-turn.node in
    let prefix = net c.in-Rooted.prefix in
    let key = way c.args.key.now in
    let new = Rooted prefix m.slot (shape_of net m.left) (shape_of net m.right) in
    let was : IsRooted prefix (slot_of n.slot) (shape_of net n.left) (shape_of net n.right) (shape_of net c.args.self.now) = rw c.in-Rooted.is (cc, cc, cc, cc) in
    ap (λ t. at t q) c.unbox_leaf.ensures.shape ∙ c.drop_needless_root.ensures.slots q ∙ elim c.match-turn.branch [
      | in-Here w ↦
          let turn : turn_of (way prefix) key ≡ Here = cc in
          let is : IsRooted prefix None (shape_of net n.left) (shape_of net n.right) new = rw w.node-is (refl, refl, refl, w.remove_key.ensures) in
          fork_here (shape_of net c.args.self.now) new prefix (slot_of n.slot) None (shape_of net n.left) (shape_of net n.right) key was is turn q
      | in-Left w ↦
          let turn : turn_of (way prefix) key ≡ Left = cc in
          let is : IsRooted prefix (slot_of n.slot) (shape_of net w.discard.new.self) (shape_of net n.right) new = rw w.node-is (refl, refl, refl, refl) in
          fork_left (shape_of net c.args.self.now) new prefix (slot_of n.slot) None (shape_of net n.left) (shape_of net n.right) (shape_of net w.discard.new.self) key was is turn w.discard.ensures.slots q
      | in-Right w ↦
          let turn : turn_of (way prefix) key ≡ Right = cc in
          let is : IsRooted prefix (slot_of n.slot) (shape_of net n.left) (shape_of net w.discard-in-Right.new.self) new = rw w.node-is (refl, refl, refl, refl) in
          fork_right (shape_of net c.args.self.now) new prefix (slot_of n.slot) None (shape_of net n.left) (shape_of net n.right) (shape_of net w.discard-in-Right.new.self) key was is turn w.discard-in-Right.ensures.slots q
    ]

pub returns-in_default-clause-slots : goal.returns-in_default-clause-slots
returns-in_default-clause-slots g t c = λ q.
    let net = g.K.PackedPrefix.network in
    let n = c.deref_mut-fork.result.now in
    let prefix = net c.in-Forked.prefix in
    let key = way c.args.key.now in
    let old = shape_of net c.args.self.now in
    let was : IsRooted prefix None (shape_of net n.left) (shape_of net n.right) old = rw c.in-Forked.is (cc, cc, cc, refl) in
    let left : turn_of (way prefix) key ≡ Left → ⊥ = λ e. c.in_default.not-Left (c.turn-in-Forked.ensures ∙ e) in
    let right : turn_of (way prefix) key ≡ Right → ⊥ = λ e. c.in_default.not-Right (c.turn-in-Forked.ensures ∙ e) in
    sym (at_rooted old prefix None (shape_of net n.left) (shape_of net n.right) was q)
    ∙ fork_other old prefix (shape_of net n.left) (shape_of net n.right) key was left right q

pub returns-after-turn-2-clause-slots : goal.returns-after-turn-2-clause-slots
returns-after-turn-2-clause-slots g t c = λ q.
    let net = g.K.PackedPrefix.network in
    let n = c.deref_mut-fork.result.now in
    let m = c.match-turn-2.fork in
    let prefix = net c.in-Forked.prefix in
    let key = way c.args.key.now in
    let old = shape_of net c.args.self.now in
    let new = Rooted prefix NoKey (shape_of net m.left) (shape_of net m.right) in
    let was : IsRooted prefix None (shape_of net n.left) (shape_of net n.right) old = rw c.in-Forked.is (cc, cc, cc, refl) in
    c.drop_needless_root-in-Forked.ensures.slots q ∙ elim c.match-turn-2.branch [
      | in-Left-turn w ↦
          let turn : turn_of (way prefix) key ≡ Left = cc in
          let is : IsRooted prefix None (shape_of net w.discard-in-Left-turn.new.self) (shape_of net n.right) new = rw w.fork-is (refl, refl, refl, refl) in
          fork_left old new prefix None None (shape_of net n.left) (shape_of net n.right) (shape_of net w.discard-in-Left-turn.new.self) key was is turn w.discard-in-Left-turn.ensures.slots q
      | in-Right-turn w ↦
          let turn : turn_of (way prefix) key ≡ Right = cc in
          let is : IsRooted prefix None (shape_of net n.left) (shape_of net w.discard-in-Right-turn.new.self) new = rw w.fork-is (refl, refl, refl, refl) in
          fork_right old new prefix None None (shape_of net n.left) (shape_of net n.right) (shape_of net w.discard-in-Right-turn.new.self) key was is turn w.discard-in-Right-turn.ensures.slots q
    ]
