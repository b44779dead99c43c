-- What the prover finds, named so that it refuses a wrong body sooner.
use Rattle.std.proofs.Common.{arith}
use Rattle.std.proofs.lemmas.Grind.{common_steps}
use Rattle.mrt_frames.proofs.buffer.next_fill_end.Goals as goal

pub returns-clause-growth : goal.returns-clause-growth
returns-clause-growth c = grind (arith, common_steps)
