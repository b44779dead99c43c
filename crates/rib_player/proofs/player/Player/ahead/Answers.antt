-- What the prover finds, named so that it refuses a wrong body sooner.
use Rattle.std.proofs.Common.{arith}
use Rattle.std.proofs.lemmas.Grind.{common_steps}
use Rattle.rib_player.proofs.player.Player.ahead.Goals as goal

pub returns : goal.returns
returns g c = grind (arith, common_steps)
