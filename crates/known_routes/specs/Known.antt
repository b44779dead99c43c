-- Private.
-- Numbers of routes of a `RouteInterner`, for the contracts of its methods.
use Rattle.std.specs.Prelude.{ℕ}
use Rattle.known_routes.specs.declared.routes.RouteInterner.{RouteInterner}

-- the number of slots of the interner's hash table that have a route; routes in its overflow
-- list, for which no slot was free, aren't counted
abbrev pub route_count : RouteInterner → ℕ
route_count known = known.routes.taken

-- the number of routes that bounds the number of slots of the interner's hash table: how many
-- were in slots when the last play of an event began, or when the table last grew since
abbrev pub sized_for : RouteInterner → ℕ
sized_for known = known.stood
