-- As many entries as are counted so far stand before the rest, and this is what they say.
use Rattle.mrt_wire.proofs.TellingLaws.{ItemsSoFar}
use Rattle.mrt_wire.proofs.rib.read_entries.Given as goal

abbrev pub invariant-loop : goal.invariant-loop
invariant-loop l = ItemsSoFar l.context l.prefix l.counter l.parsed l.rest l.initial.rest
