-- What the prover finds, named so that it refuses a wrong body sooner.
use Rattle.std.proofs.Common.{arith}
use Rattle.std.proofs.lemmas.Grind.{common_steps}
use Rattle.octet_text.proofs.cursor.write_decimal.Goals as goal

pub write_below_million-requires : goal.write_below_million-requires
write_below_million-requires c = grind (arith, common_steps)
