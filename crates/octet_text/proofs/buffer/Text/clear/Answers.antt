-- What the prover finds, named so that it refuses a wrong body sooner.
use Rattle.std.proofs.Common.{arith}
use Rattle.std.proofs.lemmas.Grind.{common_steps}
use Rattle.octet_text.proofs.buffer.Text.clear.Goals as goal

pub invariant_of-self : goal.invariant_of-self
invariant_of-self c = grind (arith, common_steps)

pub returns-else-len-gt-MOST_KEPT : goal.returns-else-len-gt-MOST_KEPT
returns-else-len-gt-MOST_KEPT c = grind (arith, common_steps)
