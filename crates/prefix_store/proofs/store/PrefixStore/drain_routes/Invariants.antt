-- What was taken and what is left is all, and what is left stands above the last of what was taken.
use Rattle.std.proofs.Common.{◌≡◌, ◌++◌, vec_capacity}
use Rattle.std.specs.FinMap as finite
use Rattle.prefix_store.specs.Stored.{ContainsDomain}
use Rattle.prefix_store.specs.Lookups.{above}
use Rattle.prefix_store.proofs.store.PrefixStore.drain_routes.Given as goal

abbrev pub invariant-routes : goal.invariant-routes
invariant-routes g l =
    let left = g.Self.PrefixStore.routes l.self in
    record {
      keys : g.Self.PrefixStore.keys l.self ≡ g.Self.PrefixStore.keys l.fn.self;
      taken : l.taken.items ++ finite.values left ≡ finite.values (g.Self.PrefixStore.routes l.fn.self);
      above : above l.last (finite.entries left) ≡ finite.entries left;
      among : ContainsDomain (g.Self.PrefixStore.keys l.self) left;
      room : vec_capacity l.taken ≡ vec_capacity l.fn.taken;
    }

abbrev pub decreases-routes : goal.decreases-routes
decreases-routes g l = finite.len (g.Self.PrefixStore.routes l.self)
