use Rattle.mrt_wire.proofs.FieldFronts.{no_size}
use Rattle.mrt_wire.proofs.fields.split_length_prefixed.Goals as goal

pub returns-in_err-number-clause-none : goal.returns-in_err-number-clause-none
returns-in_err-number-clause-none c = rw c.from_residual.ensures (no_size c.args.octets.now c.in_err-number.ensures)
