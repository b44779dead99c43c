use Rattle.std.proofs.Common.{◌≡◌, ◌-◌, vec_len}
use Rattle.mrt_wire.proofs.route_pool.RoutePool.drop_shared_routes.Given as goal

abbrev pub invariant-routes : goal.invariant-routes
invariant-routes l = (l.self.used ≡ 0) × (l.self.most ≡ l.initial.self.most)

-- how many aren't looked at yet
abbrev pub decreases-routes : goal.decreases-routes
decreases-routes l = vec_len l.self.routes - l.index
