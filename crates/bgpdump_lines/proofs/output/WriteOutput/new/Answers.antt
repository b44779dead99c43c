-- What the prover finds, named so that it refuses a wrong body sooner.
use Rattle.std.proofs.Common.{arith}
use Rattle.std.proofs.lemmas.Grind.{common_steps}
use Rattle.bgpdump_lines.proofs.output.WriteOutput.new.Goals as goal

pub returns-clause-failed : goal.returns-clause-failed
returns-clause-failed g c = grind (arith, common_steps)
