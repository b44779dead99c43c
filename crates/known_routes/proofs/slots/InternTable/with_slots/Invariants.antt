use Rattle.std.proofs.Common.{count_by, ◌≡◌, vec_len}
use Rattle.known_routes.specs.InternTable.{is_taken, AreTagged}
use Rattle.known_routes.proofs.slots.InternTable.with_slots.Given as goal

-- those so far are free
abbrev pub invariant-slots : goal.invariant-slots
invariant-slots l = record {
  none : count_by is_taken l.slots.items ≡ 0;
  many : vec_len l.slots ≡ l.counter;
  tagged : AreTagged l.slots.items l.tags.items;
}
