use Rattle.std.proofs.Common.{◌≡◌, ◌≤◌, length, take}
use Rattle.bgp_paths.proofs.replacing.copy_list.Given as goal

-- the segments so far are copied, each to its own place
abbrev pub invariant-loop-segment : goal.invariant-loop-segment
invariant-loop-segment l = record {
  counted : l.count ≡ l.segment-index;
  within : l.count ≤ length l.list.items;
  copied : take l.count l.list.items ≡ take l.segment-index l.segments;
}
