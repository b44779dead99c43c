-- What the prover finds, named so that it refuses a wrong body sooner.
use Rattle.std.proofs.Common.{arith}
use Rattle.std.proofs.lemmas.Grind.{common_steps}
use Rattle.mrt_frames.proofs.frames.FrameReader.take_body.Goals as goal

pub returns-clause-octets : goal.returns-clause-octets
returns-clause-octets g c = grind (arith, common_steps)
