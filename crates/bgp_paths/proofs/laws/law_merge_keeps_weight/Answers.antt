use Rattle.bgp_paths.proofs.Merging.{same_weight}
use Rattle.bgp_paths.proofs.laws.law_merge_keeps_weight.Goals as goal

pub returns : goal.returns
returns c = same_weight
