-- What was found and what stands above the last of it is all.
use Rattle.std.proofs.Common.{◌≡◌, ◌-◌, ◌++◌, vec_len, vec_capacity, option_copied}
use Rattle.std.specs.FinMap as finite
use Rattle.prefix_store.specs.Lookups.{above, dereferenced}
use Rattle.prefix_store.proofs.store.PrefixStore.next_routes.Given as goal

abbrev pub invariant-routes : goal.invariant-routes
invariant-routes g l =
    let entries = finite.entries (g.Self.PrefixStore.routes l.self) in
    record {
      found : dereferenced l.found.items ++ above l.last entries ≡ above (option_copied l.fn.prefix) entries;
      room : vec_capacity l.found ≡ vec_capacity l.fn.found;
    }

abbrev pub decreases-routes : goal.decreases-routes
decreases-routes g l = vec_capacity l.found - vec_len l.found
