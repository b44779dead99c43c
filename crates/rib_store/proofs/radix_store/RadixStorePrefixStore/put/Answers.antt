use mir.Val.{bool_byte}
use Rattle.std.proofs.Common.{◌≡◌, ◌+◌, Some, not, false, refl, sym, ap, subst, ◌∙◌, arith, rules}
use Rattle.std.proofs.lemmas.Result.{IfOk-at_ok, IfErr-at_err}
use Rattle.std.specs.FinMap as finite
use Rattle.std.specs.FinSet as set
use Rattle.ip_prefix.specs.declared.addr.Family.TheVariants.{V4, V6}
use Rattle.ip_prefix.specs.Turns.{way}
use Rattle.prefix_store.specs.Contents.{v4_network, v6_network}
use Rattle.prefix_store.specs.Stored.{put}
use Rattle.rib_store.specs.Tree.{shape_of, HasCorrectMarks, at, IsOfFamily}
use Rattle.rib_store.specs.Slots.{keys_in, routes_in}
use Rattle.rib_store.specs.Store.{slots_in, trees_of, tree_of}
use Rattle.rib_store.proofs.SlotLaws.{keys_in-more, routes_in-written}
use Rattle.rib_store.proofs.CountLaws.{len-ensured, len-exchanged}
use Rattle.rib_store.proofs.StoreLaws.{IsReplaced, placed, new_key, no_key, route_at, are_of-family}
use Rattle.rib_store.proofs.radix_store.RadixStorePrefixStore.put.Given.{Over}
use Rattle.rib_store.proofs.radix_store.RadixStorePrefixStore.put.Goals as goal
use Rattle.rib_store.proofs.radix_store.RadixStorePrefixStore.put.Goals.{In_ok-made, in-V4, in-V6}

pub put-requires-clause-family : goal.put-requires-clause-family
put-requires-clause-family g c =
    let old = trees_of c.self.inside.v4 c.self.inside.v6 in
    subst (λ f. IsOfFamily f (tree_of V4 old)) (sym (sym c.family.ensures ∙ c.in-V4.is)) (are_of-family old c.self.invariant.planted V4)

pub put-requires-in-V6-clause-family : goal.put-requires-in-V6-clause-family
put-requires-in-V6-clause-family g c =
    let old = trees_of c.self.inside.v4 c.self.inside.v6 in
    subst (λ f. IsOfFamily f (tree_of V6 old)) (sym (sym c.family.ensures ∙ c.in-V6.is)) (are_of-family old c.self.invariant.planted V6)

-- the prefix has the route that was brought, and what it had was given
outcome : (g : Over) (c : In_ok-made g) → let old = trees_of c.self.inside.v4 c.self.inside.v6 in let s = c.match-family.self-inside in
    IsReplaced old c.args.prefix.now (Some c.args.route.now) (trees_of s.v4 s.v6) × (HasCorrectMarks s.v4 × HasCorrectMarks s.v6) × (c.in_ok-made.made ≡ not (set.contains (keys_in (slots_in old)) c.args.prefix.now))
    × (c.match-family.route ≡ finite.get (routes_in (slots_in old)) c.args.prefix.now)
    × (s.key_count ≡ c.self.inside.key_count) × (s.route_count ≡ c.self.inside.route_count)
outcome g c =
    let old = trees_of c.self.inside.v4 c.self.inside.v6 in
    let planted = c.self.invariant.planted in
    let key = c.args.prefix.now in
    elim c.match-family.branch [
      | in-V4 w ↦
          let family = sym c.family.ensures ∙ w.in-V4.is in
          let e = sym w.branch'-is ∙ c.in_ok-made.was in
          let d = w.put.ensures in
          rw (w.self-inside-is, w.route-is) (
            placed V4 old (shape_of v4_network w.put.new.self) key (Some c.args.route.now) planted family (IfOk-at_ok _ e d.placed),
            (IfOk-at_ok _ e d.marked, c.self.invariant.v6_marks),
            IfOk-at_ok _ e d.made ∙ new_key V4 old key planted family,
            IfOk-at_ok _ e d.taken_out ∙ route_at V4 old key (at old.v4 (way key)) planted family refl,
            refl,
            refl,
          )
      | in-V6 w ↦
          let family = sym c.family.ensures ∙ w.in-V6.is in
          let e = sym w.branch'-is ∙ c.in_ok-made.was in
          let d = w.put-in-V6.ensures in
          rw (w.self-inside-is, w.route-is) (
            placed V6 old (shape_of v6_network w.put-in-V6.new.self) key (Some c.args.route.now) planted family (IfOk-at_ok _ e d.placed),
            (c.self.invariant.v4_marks, IfOk-at_ok _ e d.marked),
            IfOk-at_ok _ e d.made ∙ new_key V6 old key planted family,
            IfOk-at_ok _ e d.taken_out ∙ route_at V6 old key (at old.v6 (way key)) planted family refl,
            refl,
            refl,
          )
    ]

pub returns-in_err-made-clause-known : goal.returns-in_err-made-clause-known
returns-in_err-made-clause-known g c =
    let old = trees_of c.self.inside.v4 c.self.inside.v6 in
    let absent : set.contains (keys_in (slots_in old)) c.args.prefix.now ≡ false = elim c.match-family.branch [
      | in-V4 w ↦ no_key V4 old c.args.prefix.now c.self.invariant.planted (sym c.family.ensures ∙ w.in-V4.is) (IfErr-at_err _ (sym w.branch'-is ∙ c.in_err-made.was) w.put.ensures.known)
      | in-V6 w ↦ no_key V6 old c.args.prefix.now c.self.invariant.planted (sym c.family.ensures ∙ w.in-V6.is) (IfErr-at_err _ (sym w.branch'-is ∙ c.in_err-made.was) w.put-in-V6.ensures.known)
    ] in
    let told = ap (λ s. set.contains s.keys c.args.prefix.now) (sym c.self.view_is) ∙ absent in
    search (rules, told)

pub route_count_after-self-inside-requires : goal.route_count_after-self-inside-requires
route_count_after-self-inside-requires g c =
    let (change, marks, made, taken_out, keys, routes) = outcome g (goal.at.route_count_after-self-inside-requires g c).In_ok-made in
    let old = routes_in (slots_in (trees_of c.self.inside.v4 c.self.inside.v6)) in
    let new = routes_in (slots_in (trees_of c.match-family.self-inside.v4 c.match-family.self-inside.v6)) in
    let size = len-exchanged old new c.args.prefix.now c.args.route.now c.match-family.route (routes_in-written _ _ c.args.prefix.now c.args.route.now change.slots) taken_out in
    record {
      planted = change.planted;
      count = (
        finite.len old,
        routes ∙ c.self.invariant.routes,
        ap (λ b. finite.len new + bool_byte b) c.is_some-taken_out.ensures ∙ size ∙ ap (λ b. finite.len old + bool_byte b) (sym c.is_some-brought.ensures),
      );
    }

pub invariant_of-self-2 : goal.invariant_of-self-2
invariant_of-self-2 g c =
    let (change, marks, made, taken_out, keys, routes) = outcome g (goal.at.invariant_of-self-2 g c).In_ok-made in
    let old = trees_of c.self.inside.v4 c.self.inside.v6 in
    let more : c.from.result ≡ bool_byte (not (set.contains (keys_in (slots_in old)) c.args.prefix.now)) = c.from.ensures ∙ ap bool_byte made in
    let size = len-ensured (keys_in (slots_in old)) _ c.args.prefix.now (keys_in-more (slots_in old) _ c.args.prefix.now c.args.route.now change.slots) in
    record {
      planted = change.planted;
      v4_marks = marks.0;
      v6_marks = marks.1;
      keys = omega (arith, keys, more, size, c.self.invariant.keys, c.saturating_add-self-inside.ensures);
      routes = c.route_count_after-self-inside.ensures;
    }

pub returns : goal.returns
returns g c =
    let (change, marks, made, taken_out, keys, routes) = outcome g (goal.at.returns g c).In_ok-made in
    let old = trees_of c.self.inside.v4 c.self.inside.v6 in
    record {
      keys = keys_in-more (slots_in old) _ c.args.prefix.now c.args.route.now change.slots ∙ ap (λ s. set.insert s.keys c.args.prefix.now) c.self.view_is;
      made = made ∙ ap (λ s. not (set.contains s.keys c.args.prefix.now)) c.self.view_is;
      routes = routes_in-written (slots_in old) _ c.args.prefix.now c.args.route.now change.slots ∙ ap (λ s. put s.routes c.args.prefix.now c.args.route.now) c.self.view_is;
      taken_out = taken_out ∙ ap (λ s. finite.get s.routes c.args.prefix.now) c.self.view_is;
      refused = tt;
      held = tt;
      kept = tt;
      known = tt;
    }
