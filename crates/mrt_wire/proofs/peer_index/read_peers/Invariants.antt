use Rattle.std.proofs.Common.{◌≡◌, length}
use Rattle.ip_prefix.specs.Sequences.{Begins, SpellsAll}
use Rattle.mrt_wire.specs.Rib.{SpellsPeer}
use Rattle.mrt_wire.proofs.peer_index.read_peers.Given as goal

-- as many peers as are counted so far are spelled by the octets before the rest
abbrev pub invariant-loop : goal.invariant-loop
invariant-loop l = record {
  size : length l.peers.items ≡ l.counter;
  read : Begins (SpellsAll SpellsPeer) l.peers.items l.rest l.initial.rest;
}
