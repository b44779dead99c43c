-- What was passed over was taken from the input, and each turn passes over more.
use Rattle.std.proofs.Common.{◌-◌, ◌+◌, ◌≡◌, ◌≤◌, length}
use Rattle.mrt_frames.proofs.Buffers.{Skipped}
use Rattle.mrt_frames.proofs.frames.FrameReader.skip_body.Given as goal

abbrev pub invariant-loop-ahead : goal.invariant-loop-ahead
invariant-loop-ahead g l = record {
  limit : l.self.limit ≡ l.initial.self.limit;
  octets : Skipped (g.I.Input.left l.initial.input) (g.I.Input.left l.input) l.initial.self.taken l.self.taken (l.size - l.ahead);
  within : l.ahead ≤ l.size;
  buffered : l.size ≤ length (g.I.Input.buffered l.initial.input) → length (g.I.Input.buffered l.initial.input) ≡ (l.size - l.ahead) + length (g.I.Input.buffered l.input);
  failed : g.I.Input.failed l.input ≡ g.I.Input.failed l.initial.input;
}

abbrev pub decreases-loop-ahead : goal.decreases-loop-ahead
decreases-loop-ahead g l = l.ahead
