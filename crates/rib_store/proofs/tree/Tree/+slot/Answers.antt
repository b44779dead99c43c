use Rattle.std.proofs.Common.{sym, subst, ◌∙◌}
use Rattle.ip_prefix.specs.Turns.{way}
use Rattle.rib_store.specs.declared.tree.KeySlot.TheVariants.{NoKey}
use Rattle.rib_store.specs.Tree.{Rooted, shape_of, IsRadixTree}
use Rattle.rib_store.proofs.TreeLaws.{at_left_under}
use Rattle.rib_store.proofs.tree.Tree.+slot.Goals as goal

pub returns-in-Left-turn_under : goal.returns-in-Left-turn_under
returns-in-Left-turn_under g t c =
    let net = g.K.PackedPrefix.network in
    let n = c.deref-in-Left-turn_under.result.now in
    let prefix = net c.in-Forked.prefix in
    let was : IsRadixTree (Rooted prefix NoKey (shape_of net n.left) (shape_of net n.right)) =
    rw c.deref-in-Left-turn_under.ensures (subst (λ t. IsRadixTree (shape_of net t)) c.in-Forked.is c.requires) in
    let there = at_left_under prefix NoKey (shape_of net n.left) (shape_of net n.right) (way c.args.key.now) was
    (λ inside. sym c.in-Left-turn_under.is ∙ c.turn_under-in-Forked.ensures prefix (sym c.len-in-Forked.ensures) inside) in
    rw (c.in-Forked.is, sym c.deref-in-Left-turn_under.ensures) (c.slot-in-Left-turn_under.ensures ∙ sym there)
