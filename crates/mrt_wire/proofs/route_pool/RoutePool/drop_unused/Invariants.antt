use Rattle.std.proofs.Common.{◌≡◌, vec_len}
use Rattle.mrt_wire.proofs.route_pool.RoutePool.drop_unused.Given as goal

abbrev pub invariant-routes : goal.invariant-routes
invariant-routes l =
    (l.self.used ≡ l.initial.self.used) × (l.self.needed ≡ l.initial.self.needed) × (l.self.most ≡ l.initial.self.most)

-- how many are left
abbrev pub decreases-routes : goal.decreases-routes
decreases-routes l = vec_len l.self.routes
