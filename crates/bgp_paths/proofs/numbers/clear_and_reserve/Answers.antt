-- What the prover finds, named so that it refuses a wrong body sooner.
use Rattle.std.proofs.Common.{arith}
use Rattle.std.proofs.lemmas.Grind.{common_steps}
use Rattle.bgp_paths.proofs.numbers.clear_and_reserve.Goals as goal

pub returns-else-capacity-count-clause-bound : goal.returns-else-capacity-count-clause-bound
returns-else-capacity-count-clause-bound c = grind (arith, common_steps)
