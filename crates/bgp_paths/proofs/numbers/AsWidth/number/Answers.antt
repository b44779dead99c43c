-- What the prover finds, named so that it refuses a wrong body sooner.
use Rattle.std.proofs.Common.{arith}
use Rattle.std.proofs.lemmas.Grind.{common_steps}
use Rattle.bgp_paths.proofs.numbers.AsWidth.number.Goals as goal

pub returns-in-Two : goal.returns-in-Two
returns-in-Two c = grind (arith, common_steps)
