use Rattle.std.proofs.Common.{length}
use Rattle.ip_prefix.specs.Sequences.{Begins, SpellsAll}
use Rattle.ip_prefix.specs.Network.{SpellsNetwork}
use Rattle.bgp_wire.proofs.prefixes.fill_nonempty_prefixes.Given as goal

-- the prefixes so far are spelled by the octets before the rest
abbrev pub invariant-loop-list : goal.invariant-loop-list
invariant-loop-list l = Begins (SpellsAll (SpellsNetwork l.family)) l.list.items l.rest l.octets

abbrev pub decreases-loop-list : goal.decreases-loop-list
decreases-loop-list l = length l.rest
