use Rattle.std.proofs.Common.{slice_get, sym, ap, ◌∙◌, arith, option_map}
use Rattle.std.proofs.lemmas.Grind.{common_steps}
use Rattle.std.specs.FinMap as finite
use Rattle.prefix_store.specs.Lookups.{above}
use Rattle.prefix_store.proofs.AboveLaws.{above-next, none-above, keys-in_order, length-dereferenced}
use Rattle.prefix_store.proofs.store.PrefixStore.next_routes.Goals as goal

pub routes-preserved : goal.routes-preserved
routes-preserved g c =
    let routes = g.Self.PrefixStore.routes c.args.self.now in
    let one = c.in-Some.next in
    let next = above-next c.routes.last (finite.entries routes) (one.0, one.1.now) (keys-in_order routes)
    (ap (λ low. slice_get (above low (finite.entries routes)) 0) (sym c.as_ref.ensures.value) ∙ sym c.after.ensures ∙ ap (option_map (λ p. (p.0, p.1.now))) c.in-Some.is) in
    record { found = grind (arith, common_steps); room = c.push_reserved.ensures.capacity ∙ c.routes.invariant.room }

pub returns-in_default-clause-found : goal.returns-in_default-clause-found
returns-in_default-clause-found g c =
    let entries = finite.entries (g.Self.PrefixStore.routes c.args.self.now) in
    let over = none-above (above c.routes.last entries)
    (ap (λ low. slice_get (above low entries) 0) (sym c.as_ref.ensures.value) ∙ sym c.after.ensures ∙ ap (option_map (λ p. (p.0, p.1.now))) c.in_default.is) in
    let many = length-dereferenced c.routes.found.items in
    grind (arith, common_steps)
