-- What the prover finds, named so that it refuses a wrong body sooner.
use Rattle.std.proofs.Common.{arith}
use Rattle.std.proofs.lemmas.Grind.{common_steps}
use Rattle.rib_player.proofs.steps.push_cleared_entries.Goals as goal

pub routes-preserved : goal.routes-preserved
routes-preserved c = grind (arith, common_steps)
