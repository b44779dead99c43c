use Rattle.std.proofs.Common.{◌≡◌, ◌*◌, ◌-◌, ◌^◌, ◌≤◌, take, sum_by}
use Rattle.bgp_paths.specs.Merge.{segment_weight}
use Rattle.bgp_paths.proofs.merge.count_ases.Given as goal

-- the weight so far, and that each segment weighs less than 2 ^ 64
abbrev pub invariant-loop-segment : goal.invariant-loop-segment
invariant-loop-segment l = record {
  weighed : l.total ≡ sum_by segment_weight (take l.segment-index l.segment-items);
  small : l.total ≤ l.segment-index * (2 ^ 64 - 1);
}
