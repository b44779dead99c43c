-- What is filled was taken from the input, and each turn fills more.
use Rattle.std.proofs.Common.{take, length, ◌-◌, ◌≡◌, ◌≤◌, ◌++◌}
use Rattle.mrt_frames.specs.Taken.{Takes}
use Rattle.mrt_frames.proofs.buffer.fill_within.Given as goal

abbrev pub invariant-loop-filled : goal.invariant-loop-filled
invariant-loop-filled g l = record {
  within : l.filled ≤ l.end;
  octets : Takes (g.I.Input.left l.initial.input) (g.I.Input.left l.input) l.initial.taken l.taken (take l.filled l.buffer);
  failed : g.I.Input.failed l.input ≡ g.I.Input.failed l.initial.input;
  buffered : length l.buffer ≤ length (g.I.Input.buffered l.initial.input) → g.I.Input.buffered l.initial.input ≡ take l.filled l.buffer ++ g.I.Input.buffered l.input;
}

abbrev pub decreases-loop-filled : goal.decreases-loop-filled
decreases-loop-filled g l = l.end - l.filled
