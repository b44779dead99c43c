use Rattle.std.proofs.Common.{arith}
use Rattle.mrt_frames.proofs.frames.FrameReader.take_header.Goals as goal

pub returns-clause-buffered : goal.returns-clause-buffered
returns-clause-buffered g c = λ enough.
    let filled = (c.in_ok-count.ensures.buffered (omega (arith, enough))).1 in
    omega (arith, filled.0)
