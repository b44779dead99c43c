use Rattle.std.proofs.Common.{◌≡◌, Option, Some, None, is_some, refl, sym, ap, ◌∙◌, option_map, option_copied}
use Rattle.std.specs.FinMap as finite
use Rattle.std.specs.FinSet as set
use Rattle.ip_prefix.specs.declared.addr.Family.TheVariants.{V4, V6}
use Rattle.rib_store.specs.Store.{trees_of}
use Rattle.rib_store.proofs.StoreLaws.{key_at, route_at}
use Rattle.rib_store.proofs.radix_store.RadixStore.slot.Goals as goal

is_some-mapped : {A B : Type 0} (f : A → B) (o : Option A) → is_some o ≡ is_some (option_map f o)
is_some-mapped f None = refl
is_some-mapped f (Some x) = refl

pub returns-in-V4-clause-key : goal.returns-in-V4-clause-key
returns-in-V4-clause-key g c =
    let q = c.args.prefix.now in
    is_some-mapped (λ slot. option_copied slot) c.slot.result ∙ key_at V4 (trees_of c.self.inside.v4 c.self.inside.v6) q _ c.self.invariant.planted (sym c.family.ensures ∙ c.in-V4.is) c.slot.ensures ∙ ap (λ s. set.contains s.keys q) c.self.view_is

pub returns-in-V4-clause-route : goal.returns-in-V4-clause-route
returns-in-V4-clause-route g c =
    let q = c.args.prefix.now in
    route_at V4 (trees_of c.self.inside.v4 c.self.inside.v6) q _ c.self.invariant.planted (sym c.family.ensures ∙ c.in-V4.is) c.slot.ensures ∙ ap (λ s. finite.get s.routes q) c.self.view_is

pub returns-in-V6-clause-key : goal.returns-in-V6-clause-key
returns-in-V6-clause-key g c =
    let q = c.args.prefix.now in
    is_some-mapped (λ slot. option_copied slot) c.slot-in-V6.result ∙ key_at V6 (trees_of c.self.inside.v4 c.self.inside.v6) q _ c.self.invariant.planted (sym c.family.ensures ∙ c.in-V6.is) c.slot-in-V6.ensures ∙ ap (λ s. set.contains s.keys q) c.self.view_is

pub returns-in-V6-clause-route : goal.returns-in-V6-clause-route
returns-in-V6-clause-route g c =
    let q = c.args.prefix.now in
    route_at V6 (trees_of c.self.inside.v4 c.self.inside.v6) q _ c.self.invariant.planted (sym c.family.ensures ∙ c.in-V6.is) c.slot-in-V6.ensures ∙ ap (λ s. finite.get s.routes q) c.self.view_is
