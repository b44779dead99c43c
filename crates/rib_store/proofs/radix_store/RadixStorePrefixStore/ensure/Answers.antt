use Rattle.std.proofs.Common.{◌≡◌, Option, Result, Ok, Err, Some, None, is_some, false, sym, ap, ◌∙◌, refl, option_map, option_copied}
use Rattle.std.specs.Prelude.{OnOk, OnErr}
use Rattle.std.specs.FinMap as finite
use Rattle.ip_prefix.specs.Network.{Network}
use Rattle.prefix_store.specs.Stored.{Routes, put}
use Rattle.prefix_store.proofs.StoredLaws.{put-same}
use Rattle.rib_store.specs.Slots.{route_of_slot}
use Rattle.rib_store.proofs.SlotLaws.{keys-there}
use Rattle.rib_store.proofs.radix_store.RadixStorePrefixStore.ensure.Goals as goal

none_is : {A : Type 0} (o : Option A) → is_some o ≡ false → o ≡ None
none_is None e = refl
none_is (Some x) e = cc e

-- no route was put where none was
unchanged : {R A E : Type 0} (result : Result A E) (old new : Routes R) (prefix : Network) → finite.get old prefix ≡ None → OnOk result (new ≡ put old prefix None) → OnErr result (new ≡ old) → new ≡ old
unchanged (Ok made) old new prefix none is held = is ∙ ap (put old prefix) (sym none) ∙ put-same old prefix
unchanged (Err fault) old new prefix none is held = held

pub returns-then-is_some-clause-keys : goal.returns-then-is_some-clause-keys
returns-then-is_some-clause-keys g c =
    keys-there c.args.self.now.keys c.args.prefix (sym c.slot.ensures.key ∙ sym c.is_some.ensures ∙ c.if-is_some.true)

pub returns-clause-routes : goal.returns-clause-routes
returns-clause-routes g c =
    let free = ap (λ slot. route_of_slot (option_map (λ s. option_copied s) slot)) (sym (none_is c.slot.result (sym c.is_some.ensures ∙ c.if-is_some.false))) ∙ c.slot.ensures.route in
    unchanged c.put.result c.args.self.now.routes c.put.new.self.routes c.args.prefix (sym free) c.put.ensures.routes c.put.ensures.held
