-- What the prover finds, named so that it refuses a wrong body sooner.
use Rattle.std.proofs.Common.{arith}
use Rattle.std.proofs.lemmas.Grind.{common_steps}
use Rattle.bgpdump_lines.proofs.outcome.Outcome.status.Goals as goal

pub returns-in-Done : goal.returns-in-Done
returns-in-Done c = grind (arith, common_steps)

pub returns-in-Reported : goal.returns-in-Reported
returns-in-Reported c = grind (arith, common_steps)
