-- What the prover finds, named so that it refuses a wrong body sooner.
use Rattle.std.proofs.Common.{arith}
use Rattle.std.proofs.lemmas.Grind.{common_steps}
use Rattle.bgpdump_lines.proofs.fault.OutcomeFromWriteFault.from.Goals as goal

pub returns-in-Write : goal.returns-in-Write
returns-in-Write c = grind (arith, common_steps)
