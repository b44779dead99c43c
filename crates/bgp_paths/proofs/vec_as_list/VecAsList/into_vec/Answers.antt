-- What the prover finds, named so that it refuses a wrong body sooner.
use Rattle.std.proofs.Common.{arith}
use Rattle.std.proofs.lemmas.Grind.{common_steps}
use Rattle.bgp_paths.proofs.vec_as_list.VecAsList.into_vec.Goals as goal

pub returns : goal.returns
returns c = grind (arith, common_steps)
