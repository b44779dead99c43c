-- Those in front of the place are the same.
use Rattle.std.proofs.Common.{◌≡◌, take, length}
use Rattle.mrt_events.proofs.same.same_segments.Given as goal

abbrev pub invariant-segments : goal.invariant-segments
invariant-segments l = record {
  end : l.place-end ≡ length l.ones;
  lengths : length l.ones ≡ length l.others;
  same : take l.place l.ones ≡ take l.place l.others;
}
