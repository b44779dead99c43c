use Rattle.std.proofs.Common.{◌+◌, ◌-◌, vec_len}
use Rattle.mrt_wire.proofs.route_cache.RouteCache.ensure_slot.Given as goal

-- how many are wanting
abbrev pub decreases-slots : goal.decreases-slots
decreases-slots l = l.slot + 1 - vec_len l.self.slots
