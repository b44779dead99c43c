-- What the prover finds, named so that it refuses a wrong body sooner.
use Rattle.std.proofs.Common.{arith}
use Rattle.std.proofs.lemmas.Grind.{common_steps}
use Rattle.octet_text.proofs.buffer.Text.put_decimal.Goals as goal

pub write_decimal-self-inside-requires : goal.write_decimal-self-inside-requires
write_decimal-self-inside-requires c = grind (arith, common_steps)
