use Rattle.std.proofs.Common.{rules, ◌≡◌, ◌||◌, Some, is_some, sym, ap, ap₂, subst, ◌∙◌}
use Rattle.ip_prefix.specs.declared.turn.Turn.TheVariants.{Here}
use Rattle.ip_prefix.specs.Turns.{way, turn_of}
use Rattle.rib_store.specs.Tree.{Empty, shape_of, leaf_route, IsRooted}
use Rattle.rib_store.proofs.GrowthLaws.{placed_here}
use Rattle.rib_store.proofs.ShapeLaws.{rooted_leaf, shaped_leaf, routed_leaf, hung}
use Rattle.rib_store.proofs.tree.puts.put_at_leaf.Goals as goal

pub returns-in-Here-clause-placed : goal.returns-in-Here-clause-placed
returns-in-Here-clause-placed g c =
    let net = g.K.PackedPrefix.network in
    let prefix = c.args.prefix in
    let there : turn_of (way (net prefix)) (way c.args.key.now) ≡ Here = cc in
    placed_here (way c.args.key.now) (net prefix) (Some (leaf_route c.args.tree.now)) (Some c.args.route.now) Empty Empty
    (rooted_leaf net c.args.tree.now prefix c.requires.leaf)
    (subst (λ r. IsRooted (net prefix) (Some r) Empty Empty (shape_of net c.exchange_leaf.new.tree)) c.exchange_leaf.ensures.slot
    (rooted_leaf net c.exchange_leaf.new.tree prefix c.exchange_leaf.ensures.leaf))
    there (shaped_leaf net c.args.tree.now prefix c.requires.leaf) tt

pub returns-in_ok-node-in-Left-clause-placed : goal.returns-in_ok-node-in-Left-clause-placed
returns-in_ok-node-in-Left-clause-placed g c =
    let net = g.K.PackedPrefix.network in
    let leaf = c.new_leaf.result in
    hung net c.args.tree.now (shape_of net c.set_root_with_child.new.tree) c.args.prefix c.args.key.now c.args.route.now _ (shape_of net leaf) c.turn-side.result c.requires.leaf (search rules) (sym c.turn-side.ensures)
    (c.leaf_to_slot.ensures.slot ∙ ap (λ t. Some (leaf_route t)) c.replace.ensures.value)
    (subst (λ r. IsRooted c.args.key.now (Some r) Empty Empty (shape_of net leaf)) c.new_leaf.ensures.slot
    (subst (λ n. IsRooted n (Some (leaf_route leaf)) Empty Empty (shape_of net leaf)) c.pack.ensures (rooted_leaf net leaf c.pack.result c.new_leaf.ensures.leaf)))
    c.set_root_with_child.ensures.rooted

pub returns-in_ok-node-in-Left-clause-quiet : goal.returns-in_ok-node-in-Left-clause-quiet
returns-in_ok-node-in-Left-clause-quiet g c = λ none turn.
    c.set_root_with_child.ensures.routed
    ∙ ap₂ (λ filled r. filled || r) (c.leaf_to_slot.ensures.filled ∙ ap (λ t. is_some (leaf_route t)) c.replace.ensures.value) (c.new_leaf.ensures.routed ∙ ap is_some none)
    ∙ routed_leaf c.args.tree.now c.args.prefix c.requires.leaf
