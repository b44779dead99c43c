-- What the prover finds, named so that it refuses a wrong body sooner.
use Rattle.std.proofs.Common.{rules}
use Rattle.mrt_wire.proofs.route_cache.CachedRoute.was_read_from.Goals as goal

pub returns-then-eq-2 : goal.returns-then-eq-2
returns-then-eq-2 c = search rules
