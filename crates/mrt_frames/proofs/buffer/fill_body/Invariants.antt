-- What is filled was taken from the input, and each turn fills more.
use Rattle.std.proofs.Common.{◌-◌, ◌≡◌, ◌+◌, ◌*◌, ◌≤◌, max, length, take, vec_len}
use Rattle.mrt_frames.specs.Taken.{Takes}
use Rattle.mrt_frames.proofs.buffer.fill_body.Given as goal

abbrev pub invariant-loop-filled : goal.invariant-loop-filled
invariant-loop-filled g l = record {
  within : l.filled ≤ l.size;
  in_room : l.taken ≤ l.limit;
  held : l.filled ≤ vec_len l.buffer;
  growth : vec_len l.buffer ≤ max (vec_len l.initial.buffer) (2 * l.filled + 4096);
  octets : Takes (g.I.Input.left l.initial.input) (g.I.Input.left l.input) l.initial.taken l.taken (take l.filled l.buffer.items);
  buffered : l.size ≤ length (g.I.Input.buffered l.initial.input) → length (g.I.Input.buffered l.initial.input) ≡ l.filled + length (g.I.Input.buffered l.input);
  failed : g.I.Input.failed l.input ≡ g.I.Input.failed l.initial.input;
}

abbrev pub decreases-loop-filled : goal.decreases-loop-filled
decreases-loop-filled g l = l.size - l.filled
