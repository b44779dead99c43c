use Rattle.std.proofs.Common.{◌≡◌, ◌||◌, Some, None, is_some, refl, sym, ap, subst, ◌∙◌}
use Rattle.ip_prefix.specs.Turns.{way}
use Rattle.rib_store.specs.Tree.{Rooted, shape_of, has_routes, any_has_routes, IsFork, HasCorrectMarks, IsRooted}
use Rattle.rib_store.proofs.GrowthLaws.{placed_here}
use Rattle.rib_store.proofs.tree.puts.make_fork_a_key.Given.{Over}
use Rattle.rib_store.proofs.tree.puts.make_fork_a_key.Goals as goal

-- what lay below the branch lies below the key
below : (g : Over) (c : goal.Joined-tree-2 g) → (c.replace-left.result ≡ c.in-Forked.fork.value.left) × (c.replace-right.result ≡ c.in-Forked.fork.value.right)
below g c = (
  c.replace-left.ensures.value ∙ ap (λ m. m.left) c.deref_mut.ensures.value,
  c.replace-right.ensures.value ∙ ap (λ m. m.right) c.deref_mut-in-Forked.ensures.value ∙ ap (λ m. m.right) c.deref_mut.ensures.value,
)

pub returns-in-Forked-clause-placed : goal.returns-in-Forked-clause-placed
returns-in-Forked-clause-placed g c = λ key there.
    let net = g.K.PackedPrefix.network in
    let n = c.in-Forked.fork.value in
    let prefix = net c.args.prefix in
    let new = Rooted prefix c.leaf_to_slot-slot.result (shape_of net c.replace-left.result) (shape_of net c.replace-right.result) in
    let same = subst (IsFork c.args.prefix) c.in-Forked.is c.requires.fork in
    let was : IsRooted prefix None (shape_of net n.left) (shape_of net n.right) (shape_of net c.args.tree.now) = rw c.in-Forked.is (ap net same, refl, refl, refl) in
    let is : IsRooted prefix (Some c.args.route.now) (shape_of net n.left) (shape_of net n.right) new =
    (refl, ap (shape_of net) (below g c).0, ap (shape_of net) (below g c).1, c.leaf_to_slot-slot.ensures.slot ∙ ap Some c.new_leaf.ensures.slot) in
    placed_here (way key) prefix None (Some c.args.route.now) (shape_of net n.left) (shape_of net n.right) was is there c.requires.shaped tt

pub returns-in-Forked-clause-routed : goal.returns-in-Forked-clause-routed
returns-in-Forked-clause-routed g c =
    let mark = (subst HasCorrectMarks c.in-Forked.is c.requires.marked).0 in
    c.has_routes-routed.ensures
    ∙ ap (λ m. any_has_routes m.slot m.left m.right) c.deref.ensures
    ∙ (λ i. (c.leaf_to_slot-slot.ensures.filled ∙ ap is_some c.new_leaf.ensures.slot) i || (has_routes ((below g c).0 i) || has_routes ((below g c).1 i)))
    ∙ ap (λ below. is_some c.args.route.now || below) (sym mark ∙ sym (ap has_routes c.in-Forked.is))
