use Rattle.std.proofs.Common.{◌≡◌, ◌+◌, None, true, false, [], refl, sym, ap, ◌∙◌, arith}
use Rattle.std.specs.FinMap as finite
use Rattle.std.specs.FinSet as set
use Rattle.ip_prefix.specs.declared.addr.Family.TheVariants.{V4, V6}
use Rattle.prefix_store.specs.Contents.{v4_network, v6_network}
use Rattle.prefix_store.specs.Stored.{saturated_count}
use Rattle.rib_store.specs.Tree.{shape_of, HasCorrectMarks}
use Rattle.rib_store.specs.Slots.{keys_in, routes_in}
use Rattle.rib_store.specs.Store.{slots_in, trees_of}
use Rattle.rib_store.proofs.SlotLaws.{keys_in-less, routes_in-less}
use Rattle.rib_store.proofs.CountLaws.{len-removed}
use Rattle.rib_store.proofs.NodeSetLaws.{len-keys_in-trees}
use Rattle.rib_store.proofs.StoreLaws.{IsReplaced, replaced}
use Rattle.rib_store.proofs.radix_store.RadixStorePrefixStore.discard.Given.{Over}
use Rattle.rib_store.proofs.radix_store.RadixStorePrefixStore.discard.Goals as goal
use Rattle.rib_store.proofs.radix_store.RadixStorePrefixStore.discard.Goals.{Joined-family, in-V4, in-V6, then-self, else-self}

-- the prefix has no slot any more
vacated : (g : Over) (c : Joined-family g) → let s = c.match-family.self-inside in
    IsReplaced (trees_of c.self.inside.v4 c.self.inside.v6) c.args.prefix.now None (trees_of s.v4 s.v6) × (HasCorrectMarks s.v4 × HasCorrectMarks s.v6) × (s.key_count ≡ c.self.inside.key_count) × (s.route_count ≡ c.self.inside.route_count)
vacated g c =
    let old = trees_of c.self.inside.v4 c.self.inside.v6 in
    let planted = c.self.invariant.planted in
    elim c.match-family.branch [
      | in-V4 w ↦
          let d = w.discard.ensures in
          rw w.self-inside-is (replaced V4 old (shape_of v4_network w.discard.new.self) c.args.prefix.now None planted (sym c.family.ensures ∙ w.in-V4.is) d.shaped (d.sides [] false planted.sides.left) d.slots, (d.marked, c.self.invariant.v6_marks), refl, refl)
      | in-V6 w ↦
          let d = w.discard-in-V6.ensures in
          rw w.self-inside-is (replaced V6 old (shape_of v6_network w.discard-in-V6.new.self) c.args.prefix.now None planted (sym c.family.ensures ∙ w.in-V6.is) d.shaped (d.sides [] true planted.sides.right) d.slots, (c.self.invariant.v4_marks, d.marked), refl, refl)
    ]

-- and is one key less
less : (g : Over) (c : Joined-family g) → let s = c.match-family.self-inside in s.key_count ≡ saturated_count (set.len (keys_in (slots_in (trees_of s.v4 s.v6))) + 1)
less g c =
    let (put, marks, keys, routes) = vacated g c in
    let old = slots_in (trees_of c.self.inside.v4 c.self.inside.v6) in
    let key = c.args.prefix.now in
    let there : set.contains (keys_in old) key ≡ true = ap (λ s. set.contains s.keys key) c.self.view_is ∙ c.requires.key in
    omega (arith, keys, c.self.invariant.keys, len-removed (keys_in old) _ key there (keys_in-less old _ key put.slots))

pub overflow_sub-self : goal.overflow_sub-self
overflow_sub-self g c = omega (arith, less g (goal.at.overflow_sub-self g c).Joined-family)

pub invariant_of-self : goal.invariant_of-self
invariant_of-self g c =
    let b = (goal.at.invariant_of-self g c).Joined-family in
    let (put, marks, same, count) = vacated g b in
    let s = c.match-family.self-inside in
    let old = slots_in (trees_of c.self.inside.v4 c.self.inside.v6) in
    let key = c.args.prefix.now in
    let free : finite.get (routes_in old) key ≡ None = ap (λ s. finite.get s.routes key) c.self.view_is ∙ c.requires.free in
    record {
      planted = put.planted;
      v4_marks = marks.0;
      v6_marks = marks.1;
      keys = elim c.if-self.branch [
        | then-self w ↦ w.self-is ∙ omega (arith, w.count_keys.ensures, w.count_keys-then-self.ensures, w.saturating_add-self-inside.ensures, len-keys_in-trees (trees_of s.v4 s.v6) put.planted)
        | else-self w ↦ w.self-is ∙ omega (arith, less g b, w.if-self.false)
      ];
      routes = omega (arith, count, c.self.invariant.routes, ap finite.len (routes_in-less old _ key put.slots free));
    }

pub returns : goal.returns
returns g c =
    let put = (vacated g (goal.at.returns g c).Joined-family).0 in
    let old = slots_in (trees_of c.self.inside.v4 c.self.inside.v6) in
    let key = c.args.prefix.now in
    let free : finite.get (routes_in old) key ≡ None = ap (λ s. finite.get s.routes key) c.self.view_is ∙ c.requires.free in
    record {
      keys = keys_in-less old _ key put.slots ∙ ap (λ s. set.remove s.keys key) c.self.view_is;
      routes = routes_in-less old _ key put.slots free ∙ ap (λ s. s.routes) c.self.view_is;
    }
