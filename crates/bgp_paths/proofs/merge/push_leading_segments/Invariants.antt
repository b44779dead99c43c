use Rattle.std.proofs.Common.{◌≡◌, ◌++◌, drop}
use Rattle.bgp_paths.proofs.Gathering.{kept_segments}
use Rattle.bgp_paths.proofs.merge.push_leading_segments.Given as goal

-- what is pushed already, and what is kept of the segments that are left
abbrev pub invariant-loop-segment : goal.invariant-loop-segment
invariant-loop-segment l = l.path.items ++ kept_segments l.segment-index (drop l.segment-index l.segments) l.left ≡ l.initial.path.items ++ kept_segments 0 l.segments l.weight
