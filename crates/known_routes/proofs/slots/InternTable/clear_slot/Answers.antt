use Rattle.std.proofs.Common.{refl}
use Rattle.known_routes.specs.declared.slot.Slot.TheVariants.{Free}
use Rattle.known_routes.proofs.SlotLaws.{tagged-set}
use Rattle.known_routes.proofs.slots.InternTable.clear_slot.Goals as goal

pub invariant_of-self-clause-tagged : goal.invariant_of-self-clause-tagged
invariant_of-self-clause-tagged c = tagged-set c.args.self.now.slots.items c.args.self.now.tags.items c.args.index Free 0 c.args.self.now.tagged refl
