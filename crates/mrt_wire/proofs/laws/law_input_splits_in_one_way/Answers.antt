use Rattle.mrt_wire.proofs.SplitLaws as law
use Rattle.mrt_wire.proofs.laws.law_input_splits_in_one_way.Goals as goal

pub returns : goal.returns
returns c = law.law_input_splits_in_one_way
