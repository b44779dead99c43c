use Rattle.std.proofs.Common.{take, vec_capacity, sym, ap, ap₂, ◌∙◌, option_copied}
use Rattle.std.specs.FinMap as finite
use Rattle.prefix_store.specs.Lookups.{above, dereferenced}
use Rattle.rib_store.specs.Store.{trees_of}
use Rattle.rib_store.proofs.FillLaws.{all-trees, above-v4, above-v6, filled_anew, filled_twice}
use Rattle.rib_store.proofs.radix_store.RadixStorePrefixStore.next_routes.Goals as goal
use Rattle.rib_store.proofs.radix_store.RadixStorePrefixStore.next_routes.Goals.{in-None, in-Some+in-V4}

pub returns-in-V6-clause-found : goal.returns-in-V6-clause-found
returns-in-V6-clause-found g c =
    let room = vec_capacity c.args.found.now in
    filled_anew room c.clear.new.self c.fill_with_routes_after-in-V6.new.found _ c.clear.ensures.capacity c.clear.ensures.items c.fill_with_routes_after-in-V6.ensures.found
    ∙ ap (take room) (above-v6 (trees_of c.self.inside.v4 c.self.inside.v6) c.self.invariant.planted c.in-Some.low.now (sym c.family.ensures ∙ c.in-V6.is))
    ∙ ap₂ (λ low s. take room (above (option_copied low) (finite.entries s.routes))) (sym c.in-Some.is) c.self.view_is

pub returns-clause-found : goal.returns-clause-found
returns-clause-found g c =
    let room = vec_capacity c.args.found.now in
    let f = trees_of c.self.inside.v4 c.self.inside.v6 in
    elim c.match-prefix.branch [
      | in-None w ↦
          filled_twice room c.clear.new.self c.match-prefix.found c.fill_with_routes-2.new.found _ _ c.clear.ensures.capacity c.clear.ensures.items
          (ap vec_capacity w.found-is ∙ w.fill_with_routes.ensures.room) (ap (λ v. dereferenced v.items) w.found-is ∙ w.fill_with_routes.ensures.found) c.fill_with_routes-2.ensures.found
          ∙ ap (take room) (all-trees f c.self.invariant.planted)
          ∙ ap₂ (λ low s. take room (above (option_copied low) (finite.entries s.routes))) (sym w.in-None.is) c.self.view_is
      | in-Some+in-V4 w ↦
          filled_twice room c.clear.new.self c.match-prefix.found c.fill_with_routes-2.new.found _ _ c.clear.ensures.capacity c.clear.ensures.items
          (ap vec_capacity w.found-is ∙ w.fill_with_routes_after.ensures.room) (ap (λ v. dereferenced v.items) w.found-is ∙ w.fill_with_routes_after.ensures.found) c.fill_with_routes-2.ensures.found
          ∙ ap (take room) (above-v4 f c.self.invariant.planted w.in-Some.low.now (sym w.family.ensures ∙ w.in-V4.is))
          ∙ ap₂ (λ low s. take room (above (option_copied low) (finite.entries s.routes))) (sym w.in-Some.is) c.self.view_is
    ]
