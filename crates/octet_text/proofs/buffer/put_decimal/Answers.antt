-- What the prover finds, named so that it refuses a wrong body sooner.
use Rattle.std.proofs.Common.{arith}
use Rattle.std.proofs.lemmas.Grind.{common_steps}
use Rattle.octet_text.proofs.buffer.put_decimal.Goals as goal

pub returns-clause-appended : goal.returns-clause-appended
returns-clause-appended c = grind (arith, common_steps)
