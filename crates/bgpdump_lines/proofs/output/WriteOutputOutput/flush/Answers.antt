-- What the prover finds, named so that it refuses a wrong body sooner.
use Rattle.std.proofs.Common.{arith}
use Rattle.std.proofs.lemmas.Grind.{common_steps}
use Rattle.bgpdump_lines.proofs.output.WriteOutputOutput.flush.Goals as goal

pub returns-in-Err-clause-failed : goal.returns-in-Err-clause-failed
returns-in-Err-clause-failed g c = grind (arith, common_steps)
