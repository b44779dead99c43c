use Rattle.std.proofs.Common.{refl}
use Rattle.mrt_wire.proofs.FieldFronts.{cut_whole}
use Rattle.mrt_wire.proofs.fields.skip.Goals as goal

pub returns-clause-some : goal.returns-clause-some
returns-clause-some c =
    let cut = c.in_ok-rest.ensures.cases in
    (c.in_ok-rest.field-0-0.now, record { front = c.in_ok-rest.field-0-0.now; spelled = record { long = cut.3; whole = refl }; whole = cut_whole c.args.size cut.1 cut.2 })
