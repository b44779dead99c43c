use Rattle.std.proofs.Common.{◌≡◌, ◌+◌, ◌/◌, ◌%◌, ◌≤◌, length, vec_capacity}
use Rattle.ip_prefix.specs.Sequences.{Begins, SpellsAll}
use Rattle.bgp_paths.specs.Path.{SpellsAsn, asn_size}
use Rattle.bgp_paths.proofs.numbers.push_numbers.Given as goal

-- the numbers so far are spelled by the octets before the rest, which are a whole number of numbers, and for these there is room, which stays
abbrev pub invariant-loop-rest : goal.invariant-loop-rest
invariant-loop-rest l = record {
  size : l.size ≡ asn_size l.width;
  read : Begins (SpellsAll (SpellsAsn l.width)) l.numbers.items l.rest l.octets;
  whole : length l.rest % asn_size l.width ≡ 0;
  room : length l.numbers.items + length l.rest / asn_size l.width ≤ vec_capacity l.numbers;
  kept : vec_capacity l.numbers ≡ vec_capacity l.initial.numbers;
}

abbrev pub decreases-loop-rest : goal.decreases-loop-rest
decreases-loop-rest l = length l.rest
