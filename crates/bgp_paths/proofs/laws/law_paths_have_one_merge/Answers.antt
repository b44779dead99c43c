use Rattle.bgp_paths.proofs.Merging.{some_merged, one_merged}
use Rattle.bgp_paths.proofs.laws.law_paths_have_one_merge.Goals as goal

pub returns-clause-some : goal.returns-clause-some
returns-clause-some c = some_merged

pub returns-clause-one : goal.returns-clause-one
returns-clause-one c = one_merged
