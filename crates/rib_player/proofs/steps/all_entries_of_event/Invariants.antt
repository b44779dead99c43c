use Rattle.std.proofs.Common.{◌≡◌, ◌&&◌, is_some}
use Rattle.std.specs.FinMap as finite
use Rattle.rib_player.specs.declared.pair.Pair.{Pair}
use Rattle.rib_player.specs.Journal.{sides_of}
use Rattle.rib_player.specs.Changes.{found, is_lost, or_no_route}
use Rattle.rib_player.proofs.steps.all_entries_of_event.Given as goal

-- what is found, with the pairs of the peers that are left, is what is found at last
abbrev pub invariant-peers : goal.invariant-peers
invariant-peers g l =
    (q : Pair) → or_no_route (found (sides_of l.entries.items) q) (is_lost l.peer-iterator q && is_some (finite.get l.table.routes q))
    ≡ or_no_route (found (sides_of l.fn.changes.entries.items) q) (is_lost l.fn.changes.lost.keys q && is_some (finite.get l.table.routes q))
