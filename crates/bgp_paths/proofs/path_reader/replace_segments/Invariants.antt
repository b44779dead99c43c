use Rattle.std.proofs.Common.{◌≤◌, length, take}
use Rattle.ip_prefix.specs.Sequences.{Begins, SpellsAll}
use Rattle.bgp_paths.specs.Path.{SpellsSegment}
use Rattle.bgp_paths.proofs.path_reader.replace_segments.Given as goal

-- the segments so far are spelled by the octets before the rest
abbrev pub invariant-loop-rest : goal.invariant-loop-rest
invariant-loop-rest l = record {
  within : l.count ≤ length l.list.items;
  read : Begins (SpellsAll (SpellsSegment l.width)) (take l.count l.list.items) l.rest l.octets;
}

abbrev pub decreases-loop-rest : goal.decreases-loop-rest
decreases-loop-rest l = length l.rest
