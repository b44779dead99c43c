-- What the prover finds, named so that it refuses a wrong body sooner.
use Rattle.std.proofs.Common.{arith}
use Rattle.std.proofs.lemmas.Grind.{common_steps}
use Rattle.bgpdump_command_line.proofs.command_line.selected_stamp.Goals as goal

pub returns-then-has_value : goal.returns-then-has_value
returns-then-has_value c = grind (arith, common_steps)
