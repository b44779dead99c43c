use mir.Val.{bool_byte}
use Rattle.std.proofs.Common.{◌≡◌, ◌+◌, Some, true, [], is_some, false, refl, sym, ap, ◌∙◌, arith}
use Rattle.std.specs.FinMap as finite
use Rattle.std.specs.FinSet as set
use Rattle.ip_prefix.specs.declared.addr.Family.TheVariants.{V4, V6}
use Rattle.prefix_store.specs.Contents.{v4_network, v6_network}
use Rattle.prefix_store.specs.Stored.{put}
use Rattle.rib_store.specs.Tree.{shape_of, HasCorrectMarks}
use Rattle.rib_store.specs.Slots.{slot_at, routes_in}
use Rattle.rib_store.specs.Store.{slots_in, trees_of}
use Rattle.rib_store.proofs.TreeLaws.{on_same}
use Rattle.rib_store.proofs.SlotLaws.{contains-keys_in, keys_in-written, routes_in-written}
use Rattle.rib_store.proofs.CountLaws.{len-exchanged}
use Rattle.rib_store.proofs.StoreLaws.{IsReplaced, replaced, key_there, route_at}
use Rattle.rib_store.proofs.radix_store.RadixStorePrefixStore.exchange.Given.{Over}
use Rattle.rib_store.proofs.radix_store.RadixStorePrefixStore.exchange.Goals as goal
use Rattle.rib_store.proofs.radix_store.RadixStorePrefixStore.exchange.Goals.{After-is_some-taken_out, in-V4, in-V6}

pub exchange-requires-clause-key : goal.exchange-requires-clause-key
exchange-requires-clause-key g c =
    key_there (trees_of c.self.inside.v4 c.self.inside.v6) c.self.invariant.planted c.args.prefix.now V4 (sym c.family.ensures ∙ c.in-V4.is)
    (ap (λ s. set.contains s.keys c.args.prefix.now) c.self.view_is ∙ c.requires)

pub exchange-requires-in-V6-clause-key : goal.exchange-requires-in-V6-clause-key
exchange-requires-in-V6-clause-key g c =
    key_there (trees_of c.self.inside.v4 c.self.inside.v6) c.self.invariant.planted c.args.prefix.now V6 (sym c.family.ensures ∙ c.in-V6.is)
    (ap (λ s. set.contains s.keys c.args.prefix.now) c.self.view_is ∙ c.requires)

-- the prefix has the route that was brought, and what it had was given
exchanged : (g : Over) (c : After-is_some-taken_out g) → let old = trees_of c.self.inside.v4 c.self.inside.v6 in let s = c.match-family.self-inside in
    IsReplaced old c.args.prefix.now (Some c.args.route.now) (trees_of s.v4 s.v6) × HasCorrectMarks s.v4 × HasCorrectMarks s.v6 × (c.match-family.route ≡ finite.get (routes_in (slots_in old)) c.args.prefix.now)
    × (s.key_count ≡ c.self.inside.key_count) × (s.route_count ≡ c.self.inside.route_count)
exchanged g c =
    let old = trees_of c.self.inside.v4 c.self.inside.v6 in
    let planted = c.self.invariant.planted in
    let key = c.args.prefix.now in
    elim c.match-family.branch [
      | in-V4 w ↦
          let family = sym c.family.ensures ∙ w.in-V4.is in
          let new = shape_of v4_network w.exchange.new.self in
          let d = w.exchange.ensures in
          rw (w.self-inside-is, w.route-is) (replaced V4 old new key (Some c.args.route.now) planted family d.shaped (on_same old.v4 new [] false d.root planted.sides.left) d.slots, d.marked, c.self.invariant.v6_marks, route_at V4 old key _ planted family (sym d.taken_out), refl, refl)
      | in-V6 w ↦
          let family = sym c.family.ensures ∙ w.in-V6.is in
          let new = shape_of v6_network w.exchange-in-V6.new.self in
          let d = w.exchange-in-V6.ensures in
          rw (w.self-inside-is, w.route-is) (replaced V6 old new key (Some c.args.route.now) planted family d.shaped (on_same old.v6 new [] true d.root planted.sides.right) d.slots, c.self.invariant.v4_marks, d.marked, route_at V6 old key _ planted family (sym d.taken_out), refl, refl)
    ]

pub route_count_after-self-inside-requires : goal.route_count_after-self-inside-requires
route_count_after-self-inside-requires g c =
    let (put, v4, v6, taken_out, keys, routes) = exchanged g (goal.at.route_count_after-self-inside-requires g c).After-is_some-taken_out in
    let old = routes_in (slots_in (trees_of c.self.inside.v4 c.self.inside.v6)) in
    let new = routes_in (slots_in (trees_of c.match-family.self-inside.v4 c.match-family.self-inside.v6)) in
    let size = len-exchanged old new c.args.prefix.now c.args.route.now c.match-family.route (routes_in-written _ _ c.args.prefix.now c.args.route.now put.slots) taken_out in
    record {
      planted = put.planted;
      count = (
        finite.len old,
        routes ∙ c.self.invariant.routes,
        ap (λ b. finite.len new + bool_byte b) c.is_some-taken_out.ensures ∙ size ∙ ap (λ b. finite.len old + bool_byte b) (sym c.is_some-brought.ensures),
      );
    }

pub invariant_of-self : goal.invariant_of-self
invariant_of-self g c =
    let (put, v4, v6, taken_out, keys, routes) = exchanged g (goal.at.invariant_of-self g c).After-is_some-taken_out in
    let old = slots_in (trees_of c.self.inside.v4 c.self.inside.v6) in
    let there : is_some (slot_at old c.args.prefix.now) ≡ true = sym (contains-keys_in old c.args.prefix.now) ∙ ap (λ s. set.contains s.keys c.args.prefix.now) c.self.view_is ∙ c.requires in
    record {
      planted = put.planted;
      v4_marks = v4;
      v6_marks = v6;
      keys = omega (arith, keys, c.self.invariant.keys, ap set.len (keys_in-written old _ c.args.prefix.now c.args.route.now there put.slots));
      routes = c.route_count_after-self-inside.ensures;
    }

pub returns-clause-keys : goal.returns-clause-keys
returns-clause-keys g c =
    let put = (exchanged g (goal.at.returns-clause-keys g c).After-is_some-taken_out).0 in
    let there = sym (contains-keys_in _ c.args.prefix.now) ∙ ap (λ s. set.contains s.keys c.args.prefix.now) c.self.view_is ∙ c.requires in
    keys_in-written _ _ c.args.prefix.now c.args.route.now there put.slots ∙ ap (λ s. s.keys) c.self.view_is

pub returns-clause-routes : goal.returns-clause-routes
returns-clause-routes g c =
    routes_in-written _ _ c.args.prefix.now c.args.route.now (exchanged g (goal.at.returns-clause-routes g c).After-is_some-taken_out).0.slots
    ∙ ap (λ s. put s.routes c.args.prefix.now c.args.route.now) c.self.view_is

pub returns-clause-taken_out : goal.returns-clause-taken_out
returns-clause-taken_out g c = (exchanged g (goal.at.returns-clause-taken_out g c).After-is_some-taken_out).3 ∙ ap (λ s. finite.get s.routes c.args.prefix.now) c.self.view_is
