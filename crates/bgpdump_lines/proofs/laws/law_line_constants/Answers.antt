-- What the prover finds, named so that it refuses a wrong body sooner.
use Rattle.std.proofs.Common.{arith}
use Rattle.std.proofs.lemmas.Grind.{common_steps}
use Rattle.bgpdump_lines.proofs.laws.law_line_constants.Goals as goal

pub returns-clause-limit : goal.returns-clause-limit
returns-clause-limit c = grind (arith, common_steps)
