use Rattle.std.proofs.Common.{◌≡◌, ◌<◌, ◌++◌, map, length, vec_capacity}
use Rattle.std.specs.FinMap as finite
use Rattle.prefix_store.specs.Lookups.{above}
use Rattle.rib_player.specs.Journal.{sides_of}
use Rattle.rib_player.specs.Sides.{cleared_side}
use Rattle.rib_player.proofs.steps.session_loss_entries.Given as goal

-- the sides so far and those of what stands above the last of them are all
abbrev pub invariant-routes : goal.invariant-routes
invariant-routes g l =
    let found = finite.entries (g.S.PrefixStore.routes l.store) in
    record {
      sides : sides_of l.entries.items ++ map (λ e. cleared_side l.peer e.0) (above l.last found) ≡ map (λ e. cleared_side l.peer e.0) found;
      room : 0 < vec_capacity l.found;
    }

abbrev pub decreases-routes : goal.decreases-routes
decreases-routes g l = length (above l.last (finite.entries (g.S.PrefixStore.routes l.store)))
