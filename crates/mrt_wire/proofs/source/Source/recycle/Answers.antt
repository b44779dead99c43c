-- What the prover finds, named so that it refuses a wrong body sooner.
use Rattle.std.proofs.Common.{arith}
use Rattle.std.proofs.lemmas.Grind.{common_steps}
use Rattle.mrt_wire.proofs.source.Source.recycle.Goals as goal

pub returns-in-Event : goal.returns-in-Event
returns-in-Event c = grind (arith, common_steps)
