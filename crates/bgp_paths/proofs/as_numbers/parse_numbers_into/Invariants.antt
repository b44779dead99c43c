use Rattle.std.proofs.Common.{◌≡◌, ◌+◌, ◌/◌, ◌%◌, length, take}
use Rattle.ip_prefix.specs.Sequences.{Begins, SpellsAll}
use Rattle.bgp_paths.specs.Path.{SpellsAsn, asn_size}
use Rattle.bgp_paths.specs.declared.as_numbers.TheConstants.{MOST_IN_PLACE}
use Rattle.bgp_paths.proofs.as_numbers.parse_numbers_into.Given as goal

-- the numbers so far are spelled by the octets before the rest, which are a whole number of numbers, and for these there are places
abbrev pub invariant-loop-rest : goal.invariant-loop-rest
invariant-loop-rest l = record {
  size : l.size ≡ asn_size l.width;
  read : Begins (SpellsAll (SpellsAsn l.width)) (take l.count l.places) l.rest l.octets;
  whole : length l.rest % asn_size l.width ≡ 0;
  left : l.count + length l.rest / asn_size l.width ≡ length l.octets / asn_size l.width;
  places : length l.places ≡ MOST_IN_PLACE;
}

abbrev pub decreases-loop-rest : goal.decreases-loop-rest
decreases-loop-rest l = length l.rest
