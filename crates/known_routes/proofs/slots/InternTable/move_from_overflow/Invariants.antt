use Rattle.std.proofs.Common.{◌≡◌, vec_len}
use Rattle.known_routes.proofs.slots.InternTable.move_from_overflow.Given as goal

-- the places stay as many
abbrev pub invariant-runs : goal.invariant-runs
invariant-runs l = vec_len l.self.slots ≡ vec_len l.fn.self.slots
