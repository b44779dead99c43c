use Rattle.std.proofs.Common.{◌≡◌, false, length, vec_capacity, sym, ap, ◌∙◌, arith, ◌++◌, option_to_list}
use Rattle.rib_store.specs.Tree.{slot_of, shape_of, has_routes}
use Rattle.prefix_store.specs.Lookups.{dereferenced}
use Rattle.rib_store.specs.Walks.{all_routes, routed_at, filled}
use Rattle.prefix_store.proofs.AboveLaws.{length-dereferenced}
use Rattle.rib_store.proofs.FillLaws.{filled-nil, filled-full, filled-then, unmarked-all}
use Rattle.rib_store.proofs.tree.Tree.+fill_with_routes.Goals as goal

pub returns-then-not-any-clause-found : goal.returns-then-not-any-clause-found
returns-then-not-any-clause-found g t c =
    let net = g.K.PackedPrefix.network in
    let mark : c.in-Rooted.any ≡ false = cc in
    let off : has_routes c.args.self.now ≡ false = ap has_routes c.in-Rooted.is ∙ mark in
    let old = c.args.found.now in
    filled-nil (vec_capacity old) (dereferenced old.items)
    ∙ ap (filled (vec_capacity old) (dereferenced old.items)) (sym (unmarked-all net c.args.self.now c.requires off))

pub returns-then-len-capacity-clause-found : goal.returns-then-len-capacity-clause-found
returns-then-len-capacity-clause-found g t c =
    let old = c.args.found.now in
    let full : length (dereferenced old.items) ≡ vec_capacity old = omega (arith, length-dereferenced old.items, old.ok) in
    filled-full (vec_capacity old) (dereferenced old.items) _ full

pub returns-else-len-capacity-clause-found : goal.returns-else-len-capacity-clause-found
returns-else-len-capacity-clause-found g t c =
    let old = c.args.found.now in
    let room = vec_capacity old in
    let net = g.K.PackedPrefix.network in
    filled-then room (vec_capacity c.add_route_if_any.new.found) (dereferenced old.items) (dereferenced c.add_route_if_any.new.found.items) (dereferenced c.fill_with_routes-in-Rooted.new.found.items) _ _
    c.add_route_if_any.ensures.room c.add_route_if_any.ensures.found
    (filled-then (vec_capacity c.add_route_if_any.new.found) (vec_capacity c.fill_with_routes.new.found) (dereferenced c.add_route_if_any.new.found.items) (dereferenced c.fill_with_routes.new.found.items) (dereferenced c.fill_with_routes-in-Rooted.new.found.items) _ _
    c.fill_with_routes.ensures.room c.fill_with_routes.ensures.found c.fill_with_routes-in-Rooted.ensures.found)
    ∙ (λ i. filled room (dereferenced old.items) (option_to_list (routed_at (c.unpack-in-Rooted.ensures i) (slot_of (c.deref.ensures i).slot))
    ++ (all_routes (shape_of net (c.deref-in-Rooted.ensures i).left) ++ all_routes (shape_of net (c.deref-in-Rooted-2.ensures i).right))))
    ∙ ap (λ tree. filled room (dereferenced old.items) (all_routes (shape_of net tree))) (sym c.in-Rooted.is)

pub returns-then-not-any-2-clause-found : goal.returns-then-not-any-2-clause-found
returns-then-not-any-2-clause-found g t c =
    let net = g.K.PackedPrefix.network in
    let mark : c.in-Forked.any ≡ false = cc in
    let off : has_routes c.args.self.now ≡ false = ap has_routes c.in-Forked.is ∙ mark in
    let old = c.args.found.now in
    filled-nil (vec_capacity old) (dereferenced old.items)
    ∙ ap (filled (vec_capacity old) (dereferenced old.items)) (sym (unmarked-all net c.args.self.now c.requires off))

pub returns-then-len-capacity-2-clause-found : goal.returns-then-len-capacity-2-clause-found
returns-then-len-capacity-2-clause-found g t c =
    let old = c.args.found.now in
    let full : length (dereferenced old.items) ≡ vec_capacity old = omega (arith, length-dereferenced old.items, old.ok) in
    filled-full (vec_capacity old) (dereferenced old.items) _ full

pub returns-else-len-capacity-2-clause-found : goal.returns-else-len-capacity-2-clause-found
returns-else-len-capacity-2-clause-found g t c =
    let old = c.args.found.now in
    let room = vec_capacity old in
    let net = g.K.PackedPrefix.network in
    filled-then room (vec_capacity c.fill_with_routes-in-Forked.new.found) (dereferenced old.items) (dereferenced c.fill_with_routes-in-Forked.new.found.items) (dereferenced c.fill_with_routes-in-Forked-2.new.found.items) _ _
    c.fill_with_routes-in-Forked.ensures.room c.fill_with_routes-in-Forked.ensures.found c.fill_with_routes-in-Forked-2.ensures.found
    ∙ (λ i. filled room (dereferenced old.items) (all_routes (shape_of net (c.deref-in-Forked.ensures i).left) ++ all_routes (shape_of net (c.deref-in-Forked-2.ensures i).right)))
    ∙ ap (λ tree. filled room (dereferenced old.items) (all_routes (shape_of net tree))) (sym c.in-Forked.is)
