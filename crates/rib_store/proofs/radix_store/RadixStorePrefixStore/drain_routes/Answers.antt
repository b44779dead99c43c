use Rattle.std.proofs.Common.{◌≡◌, ◌++◌, map, length, sym, ap, subst, ◌∙◌, arith}
use Rattle.std.proofs.lemmas.List.{length-map}
use Rattle.std.specs.FinMap as finite
use Rattle.std.specs.FinMap.{len-empty}
use Rattle.std.specs.FinSet as set
use Rattle.ip_prefix.specs.Network.{network_cmp}
use Rattle.rib_store.specs.Slots.{keys_in, routes_in}
use Rattle.rib_store.specs.Store.{trees_of, slots_in, AreRadixTrees}
use Rattle.rib_store.specs.Walks.{all_routes}
use Rattle.rib_store.proofs.TakenLaws.{both_emptied, planted-without_routes, keys-without_routes, routes-without_routes, all-values, all-count}
use Rattle.rib_store.proofs.radix_store.RadixStorePrefixStore.drain_routes.Given.{Over}
use Rattle.rib_store.proofs.radix_store.RadixStorePrefixStore.drain_routes.Goals as goal
use Rattle.rib_store.proofs.radix_store.RadixStorePrefixStore.drain_routes.Goals.{After-drain_routes-2}

pub drain_routes-requires-clause-room : goal.drain_routes-requires-clause-room
drain_routes-requires-clause-room g c =
    omega (
      arith,
      c.requires,
      all-count (trees_of c.self.inside.v4 c.self.inside.v6) c.self.invariant.planted,
      ap (λ s. finite.len s.routes) c.self.view_is,
      ap length c.clear.ensures.items,
      c.clear.ensures.capacity,
    )

pub drain_routes-requires-2-clause-room : goal.drain_routes-requires-2-clause-room
drain_routes-requires-2-clause-room g c =
    let trees = trees_of c.self.inside.v4 c.self.inside.v6 in
    omega (
      arith,
      c.requires,
      all-count trees c.self.invariant.planted,
      ap (λ s. finite.len s.routes) c.self.view_is,
      ap length (c.drain_routes.ensures.taken ∙ ap (λ items. items ++ map (λ found. found.1) (all_routes trees.v4)) c.clear.ensures.items),
      length-map (all_routes trees.v4) (λ found. found.1),
      c.drain_routes.ensures.room,
      c.clear.ensures.capacity,
    )

-- both trees are emptied
emptied_both : (g : Over) (c : After-drain_routes-2 g) → trees_of c.drain_routes.new.self c.drain_routes-2.new.self ≡ both_emptied (trees_of c.self.inside.v4 c.self.inside.v6)
emptied_both g c = λ i. record { v4 = c.drain_routes.ensures.shape i; v6 = c.drain_routes-2.ensures.shape i }

pub invariant_of-self : goal.invariant_of-self
invariant_of-self g c =
    let old = trees_of c.self.inside.v4 c.self.inside.v6 in
    let is = emptied_both g (goal.at.invariant_of-self g c).After-drain_routes-2 in
    record {
      planted = subst AreRadixTrees (sym is) (planted-without_routes old c.self.invariant.planted);
      v4_marks = c.drain_routes.ensures.marked;
      v6_marks = c.drain_routes-2.ensures.marked;
      keys = omega (arith, c.self.invariant.keys, ap set.len (ap (λ t. keys_in (slots_in t)) is ∙ keys-without_routes old));
      routes = omega (arith, ap finite.len (ap (λ t. routes_in (slots_in t)) is ∙ routes-without_routes old) ∙ len-empty network_cmp g.row.R.Denot);
    }

pub returns-clause-keys : goal.returns-clause-keys
returns-clause-keys g c =
    let old = trees_of c.self.inside.v4 c.self.inside.v6 in
    let is = emptied_both g (goal.at.returns-clause-keys g c).After-drain_routes-2 in
    ap (λ t. keys_in (slots_in t)) is ∙ keys-without_routes old ∙ ap (λ s. s.keys) c.self.view_is

pub returns-clause-routes : goal.returns-clause-routes
returns-clause-routes g c =
    let old = trees_of c.self.inside.v4 c.self.inside.v6 in
    let is = emptied_both g (goal.at.returns-clause-routes g c).After-drain_routes-2 in
    ap (λ t. routes_in (slots_in t)) is ∙ routes-without_routes old

pub returns-clause-taken : goal.returns-clause-taken
returns-clause-taken g c =
    let old = trees_of c.self.inside.v4 c.self.inside.v6 in
    c.drain_routes-2.ensures.taken
    ∙ ap (λ items. items ++ map (λ found. found.1) (all_routes old.v6)) (c.drain_routes.ensures.taken ∙ ap (λ items. items ++ map (λ found. found.1) (all_routes old.v4)) c.clear.ensures.items)
    ∙ all-values old c.self.invariant.planted ∙ ap (λ s. finite.values s.routes) c.self.view_is
