use Rattle.std.proofs.Common.{length, arith, take-take}
use Rattle.mrt_frames.proofs.Buffers.{Consumes-buffered}
use Rattle.mrt_frames.proofs.input.BufferedInputInput.take.Goals as goal

pub returns-clause-octets : goal.returns-clause-octets
returns-clause-octets g c =
    let size = length c.args.buffer.now in
    let copied = c.copy_from_slice.ensures in
    let all = take-take size size c.buffer-ready.result.now (omega arith) in
    let ready = c.buffer-ready.ensures in
    let fits = rw ready at c.if-ready-size.false in
    (rw (copied.after, all, ready) (Consumes-buffered _ _ _ _ _ fits c.consume.ensures.bytes), λ none room. absurd (omega (arith, none, room, copied.len)))
