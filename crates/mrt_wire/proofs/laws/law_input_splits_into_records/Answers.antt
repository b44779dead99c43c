use Rattle.mrt_wire.proofs.Existence as law
use Rattle.mrt_wire.proofs.laws.law_input_splits_into_records.Goals as goal

pub returns : goal.returns
returns c = law.law_input_splits_into_records
