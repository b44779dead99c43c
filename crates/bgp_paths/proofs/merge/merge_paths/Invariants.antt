use Rattle.std.proofs.Common.{◌≡◌, ◌++◌, take}
use Rattle.bgp_paths.specs.Merge.{segments_without_confederations}
use Rattle.bgp_paths.proofs.merge.merge_paths.Given as goal

abbrev pub invariant-loop-segment : goal.invariant-loop-segment
invariant-loop-segment l = l.segments.items ≡ l.initial.segments.items ++ segments_without_confederations (take l.segment-index l.back)
