use Rattle.std.proofs.Common.{sym, subst}
use Rattle.std.proofs.lemmas.Result.{err_from_is_err_and}
use Rattle.bgp_wire.specs.Readers.{MayRefuseFront}
use Rattle.mrt_wire.specs.Rib.{SpellsEntry}
use Rattle.mrt_wire.proofs.ReadingLaws.{refused_front}
use Rattle.mrt_wire.proofs.RibLaws.{entry_fields, refused_attrs}
use Rattle.mrt_wire.proofs.rib.read_entry.Goals as goal

pub returns-in_err-framed-clause-refused : goal.returns-in_err-framed-clause-refused
returns-in_err-framed-clause-refused c =
    let family = c.args.context.family in
    let p = err_from_is_err_and c.from_residual.result c.from_residual.ensures.1 in
    rw p.1
    (refused_front (SpellsEntry family) c.args.octets.now p.0
    (λ entry rest b. (rw c.in_err-framed.ensures.ok_part at c.split_entry_fields.ensures.none) (entry.index, (entry.time, b.spelled.0)) rest (entry_fields family entry rest c.args.octets.now b)))

pub returns-in_err-route-clause-refused : goal.returns-in_err-route-clause-refused
returns-in_err-route-clause-refused c =
    let family = c.args.context.family in
    let octets = c.args.octets.now in
    let f = c.in_ok-framed.framed in
    let p = err_from_is_err_and c.from_residual-in_err-route.result c.from_residual-in_err-route.ensures.1 in
    rw p.1
    (subst (MayRefuseFront (SpellsEntry family) octets) (sym p.2)
    (refused_attrs family f.index f.time f.attributes.now f.rest.now octets c.in_err-route.field-0.0 (rw c.in_ok-framed.ensures.ok_part at c.split_entry_fields.ensures.some) c.in_err-route.ensures.refused))
