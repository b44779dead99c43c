use Rattle.std.proofs.Common.{◌≡◌, ℕ, ◌<◌, true, cond, length, slice_index_or, refl, sym, ap, ◌∙◌, arith}
use Rattle.std.proofs.lemmas.Grind.{common_steps}
use Rattle.known_routes.specs.declared.slot.Slot.TheVariants.{Taken}
use Rattle.known_routes.specs.InternTable.{is_taken, is_tagged}
use Rattle.known_routes.proofs.SlotLaws.{tagged-set, taken-put}
use Rattle.known_routes.proofs.slots.InternTable.put.Goals as goal

pub invariant_of-self-clause-counted : goal.invariant_of-self-clause-counted
invariant_of-self-clause-counted c =
    let s = c.args.self.now in
    let index = c.slot_for-index.result in
    let free : slice_index_or s.tags.items index 0 ≡ 0 = grind (arith, common_steps) in
    let within : index < length s.tags.items = omega (arith, c.if-index-len.false, c.len.ensures, s.tags.ok) in
    omega (
      arith,
      s.counted,
      ap {B = ℕ} (λ tag. cond (is_tagged tag) 1 0) free,
      taken-put s.slots.items s.tags.items index c.replace-slot.new.dest 0 within s.tagged (ap is_taken c.replace-slot.ensures.after),
    )

pub invariant_of-self-clause-tagged : goal.invariant_of-self-clause-tagged
invariant_of-self-clause-tagged c =
    let s = c.args.self.now in
    tagged-set s.slots.items s.tags.items c.slot_for-index.result c.replace-slot.new.dest c.tag_of.result s.tagged (ap is_taken c.replace-slot.ensures.after ∙ sym c.tag_of.ensures)

pub invariant_of-self-2-clause-counted : goal.invariant_of-self-2-clause-counted
invariant_of-self-2-clause-counted c =
    let s = c.args.self.now in
    let index = c.slot_for-index.result in
    let taken : is_tagged (slice_index_or s.tags.items index 0) ≡ true = grind (arith, common_steps) in
    let within : index < length s.tags.items = omega (arith, c.if-index-len.false, c.len.ensures, s.tags.ok) in
    omega (
      arith,
      s.counted,
      ap {B = ℕ} (λ b. cond b 1 0) taken,
      taken-put s.slots.items s.tags.items index (Taken c.args.hash c.args.route) 0 within s.tagged refl,
    )

pub invariant_of-self-2-clause-tagged : goal.invariant_of-self-2-clause-tagged
invariant_of-self-2-clause-tagged c =
    let s = c.args.self.now in
    tagged-set s.slots.items s.tags.items c.slot_for-index.result (Taken c.args.hash c.args.route) c.tag_of-2.result s.tagged (sym c.tag_of-2.ensures)
