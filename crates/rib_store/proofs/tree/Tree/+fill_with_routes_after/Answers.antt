use Rattle.std.proofs.Common.{◌++◌, vec_capacity, sym, ap, ◌∙◌}
use Rattle.ip_prefix.specs.declared.turn.Turn.TheVariants.{Here, Left}
use Rattle.rib_store.specs.declared.tree.KeySlot.TheVariants.{NoKey}
use Rattle.rib_store.specs.Tree.{shape_of}
use Rattle.prefix_store.specs.Lookups.{dereferenced}
use Rattle.rib_store.specs.Walks.{all_routes, all_after, filled}
use Rattle.rib_store.proofs.FillLaws.{filled-then, first_after-turn}
use Rattle.rib_store.proofs.tree.Tree.+fill_with_routes_after.Goals as goal

pub returns-in-Here-clause-found : goal.returns-in-Here-clause-found
returns-in-Here-clause-found g t c =
    let net = g.K.PackedPrefix.network in
    let n = c.in-Rooted.node.value in
    let low = c.args.low.now in
    let fill = filled (vec_capacity c.args.found.now) (dereferenced c.args.found.now.items) in
    filled-then (vec_capacity c.args.found.now) (vec_capacity c.fill_with_routes-in-Here.new.found) (dereferenced c.args.found.now.items) (dereferenced c.fill_with_routes-in-Here.new.found.items) (dereferenced c.fill_with_routes-in-Here-2.new.found.items) _ _
    c.fill_with_routes-in-Here.ensures.room c.fill_with_routes-in-Here.ensures.found c.fill_with_routes-in-Here-2.ensures.found
    ∙ (λ i. fill (all_routes (shape_of net (c.deref.ensures i).left) ++ all_routes (shape_of net (c.deref-in-Here.ensures i).right)))
    ∙ ap fill (sym (first_after-turn (net c.in-Rooted.prefix) n.slot (shape_of net n.left) (shape_of net n.right) low Here (sym c.turn-in-Rooted.ensures ∙ c.in-Here.is)))
    ∙ ap (λ tree. fill (all_after (shape_of net tree) low)) (sym c.in-Rooted.is)

pub returns-in-Left-clause-found : goal.returns-in-Left-clause-found
returns-in-Left-clause-found g t c =
    let net = g.K.PackedPrefix.network in
    let n = c.in-Rooted.node.value in
    let low = c.args.low.now in
    let fill = filled (vec_capacity c.args.found.now) (dereferenced c.args.found.now.items) in
    filled-then (vec_capacity c.args.found.now) (vec_capacity c.fill_with_routes_after.new.found) (dereferenced c.args.found.now.items) (dereferenced c.fill_with_routes_after.new.found.items) (dereferenced c.fill_with_routes-in-Left.new.found.items) _ _
    c.fill_with_routes_after.ensures.room c.fill_with_routes_after.ensures.found c.fill_with_routes-in-Left.ensures.found
    ∙ (λ i. fill (all_after (shape_of net (c.deref-in-Left.ensures i).left) low ++ all_routes (shape_of net (c.deref-in-Left-2.ensures i).right)))
    ∙ ap fill (sym (first_after-turn (net c.in-Rooted.prefix) n.slot (shape_of net n.left) (shape_of net n.right) low Left (sym c.turn-in-Rooted.ensures ∙ c.in-Left.is)))
    ∙ ap (λ tree. fill (all_after (shape_of net tree) low)) (sym c.in-Rooted.is)

pub returns-in-Here-turn-clause-found : goal.returns-in-Here-turn-clause-found
returns-in-Here-turn-clause-found g t c =
    let net = g.K.PackedPrefix.network in
    let n = c.in-Forked.fork.value in
    let low = c.args.low.now in
    let fill = filled (vec_capacity c.args.found.now) (dereferenced c.args.found.now.items) in
    filled-then (vec_capacity c.args.found.now) (vec_capacity c.fill_with_routes-in-Here-turn.new.found) (dereferenced c.args.found.now.items) (dereferenced c.fill_with_routes-in-Here-turn.new.found.items) (dereferenced c.fill_with_routes-in-Here-turn-2.new.found.items) _ _
    c.fill_with_routes-in-Here-turn.ensures.room c.fill_with_routes-in-Here-turn.ensures.found c.fill_with_routes-in-Here-turn-2.ensures.found
    ∙ (λ i. fill (all_routes (shape_of net (c.deref-in-Here-turn.ensures i).left) ++ all_routes (shape_of net (c.deref-in-Here-turn-2.ensures i).right)))
    ∙ ap fill (sym (first_after-turn (net c.in-Forked.prefix) NoKey (shape_of net n.left) (shape_of net n.right) low Here (sym c.turn-in-Forked.ensures ∙ c.in-Here-turn.is)))
    ∙ ap (λ tree. fill (all_after (shape_of net tree) low)) (sym c.in-Forked.is)

pub returns-in-Left-turn-clause-found : goal.returns-in-Left-turn-clause-found
returns-in-Left-turn-clause-found g t c =
    let net = g.K.PackedPrefix.network in
    let n = c.in-Forked.fork.value in
    let low = c.args.low.now in
    let fill = filled (vec_capacity c.args.found.now) (dereferenced c.args.found.now.items) in
    filled-then (vec_capacity c.args.found.now) (vec_capacity c.fill_with_routes_after-in-Left-turn.new.found) (dereferenced c.args.found.now.items) (dereferenced c.fill_with_routes_after-in-Left-turn.new.found.items) (dereferenced c.fill_with_routes-in-Left-turn.new.found.items) _ _
    c.fill_with_routes_after-in-Left-turn.ensures.room c.fill_with_routes_after-in-Left-turn.ensures.found c.fill_with_routes-in-Left-turn.ensures.found
    ∙ (λ i. fill (all_after (shape_of net (c.deref-in-Left-turn.ensures i).left) low ++ all_routes (shape_of net (c.deref-in-Left-turn-2.ensures i).right)))
    ∙ ap fill (sym (first_after-turn (net c.in-Forked.prefix) NoKey (shape_of net n.left) (shape_of net n.right) low Left (sym c.turn-in-Forked.ensures ∙ c.in-Left-turn.is)))
    ∙ ap (λ tree. fill (all_after (shape_of net tree) low)) (sym c.in-Forked.is)
