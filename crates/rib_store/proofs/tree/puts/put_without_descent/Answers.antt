use Rattle.std.proofs.Common.{◌≡◌, ◌||◌, Some, refl, ap, ◌∙◌}
use Rattle.std.proofs.lemmas.Result.{on_ok_weaker}
use Rattle.ip_prefix.specs.declared.turn.Turn.TheVariants.{Here}
use Rattle.ip_prefix.specs.Turns.{way, turn_of}
use Rattle.rib_store.specs.Tree.{Rooted, shape_of, slot_of, IsRooted}
use Rattle.rib_store.proofs.GrowthLaws.{placed_here}
use Rattle.rib_store.proofs.tree.puts.put_without_descent.Goals as goal

pub returns-in-Here-clause-placed : goal.returns-in-Here-clause-placed
returns-in-Here-clause-placed g c =
    let net = g.K.PackedPrefix.network in
    let n = c.deref_mut-node.result.now in
    let prefix = net c.in-Rooted.prefix in
    let key = way c.args.key.now in
    let slot = Some c.args.route.now in
    let old = shape_of net c.args.tree.now in
    let new = Rooted prefix c.put-made.new.self (shape_of net n.left) (shape_of net n.right) in
    let was : IsRooted prefix (slot_of n.slot) (shape_of net n.left) (shape_of net n.right) old = rw c.in-Rooted.is (cc, cc, cc, cc) in
    let is : IsRooted prefix slot (shape_of net n.left) (shape_of net n.right) new = (refl, refl, refl, c.put-made.ensures.slot) in
    let turn : turn_of (way prefix) key ≡ Here = cc in
    placed_here key prefix (slot_of n.slot) slot (shape_of net n.left) (shape_of net n.right) was is turn c.requires.shaped tt

pub returns-in-Here-turn-clause-brought : goal.returns-in-Here-turn-clause-brought
returns-in-Here-turn-clause-brought g c =
    on_ok_weaker c.make_fork_a_key.result (λ routed some. routed ∙ ap (λ brought. brought || c.in-Forked.field-0) some) c.make_fork_a_key.ensures.routed
