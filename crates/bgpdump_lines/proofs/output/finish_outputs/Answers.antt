-- What the prover finds, named so that it refuses a wrong body sooner.
use Rattle.std.proofs.Common.{arith}
use Rattle.std.proofs.lemmas.Grind.{common_steps}
use Rattle.bgpdump_lines.proofs.output.finish_outputs.Goals as goal

pub returns-then-reported-clause-outcome : goal.returns-then-reported-clause-outcome
returns-then-reported-clause-outcome g c = grind (arith, common_steps)
