-- What the prover finds, named so that it refuses a wrong body sooner.
use Rattle.std.proofs.Common.{arith}
use Rattle.std.proofs.lemmas.Grind.{common_steps}
use Rattle.octet_text.proofs.cursor.copy_octets_at.Goals as goal

pub returns : goal.returns
returns c = grind (arith, common_steps)
