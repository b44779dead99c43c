use Rattle.std.proofs.Common.{◌≡◌, vec_len}
use Rattle.known_routes.proofs.slots.InternTable.refill_from.Given as goal

-- the places stay as many
abbrev pub invariant-slots : goal.invariant-slots
invariant-slots l = vec_len l.self.slots ≡ vec_len l.fn.self.slots
