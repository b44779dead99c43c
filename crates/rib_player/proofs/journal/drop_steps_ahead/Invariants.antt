use Rattle.std.proofs.Common.{◌≡◌, ℕ, ◌+◌, ◌≤◌, List, length, take, deque_capacity}
use Rattle.std.specs.List.{AllByRecursion}
use Rattle.rib_player.specs.declared.pair.Pair.{Pair}
use Rattle.rib_player.specs.Tables.{Routes}
use Rattle.rib_player.specs.Claims.{claims_beyond, held_claims, OnlyKeysHaveExtraClaims}
use Rattle.rib_player.specs.Journal.{sides_by_step}
use Rattle.rib_player.specs.Sides.{AreDistinct, marks_by_step}
use Rattle.rib_player.specs.JournalState.{AreClaimed, CanDrop}
use Rattle.rib_player.proofs.journal.drop_steps_ahead.Given as goal

-- the steps that are left make the claims that are left
abbrev pub invariant-steps : goal.invariant-steps
invariant-steps g l =
    let steps = l.steps.items in
    let count = held_claims l.table.keys (claims_beyond l.claims) in
    record {
      within : l.cursor ≤ length steps;
      distinct : AllByRecursion AreDistinct (sides_by_step steps);
      held : OnlyKeysHaveExtraClaims l.table.keys (claims_beyond l.claims);
      can : CanDrop (marks_by_step steps) l.cursor count l.table.routes;
      claimed : (tables : List Routes) (new : Pair → ℕ) → AreClaimed (marks_by_step l.fn.steps.items) (held_claims l.fn.table.keys (claims_beyond l.fn.claims)) tables new
          → AreClaimed (marks_by_step steps) count (take (length steps + 1) tables) new;
      routes : l.table.routes ≡ l.fn.table.routes;
      steps : take l.cursor steps ≡ take l.cursor l.fn.steps.items;
      capacity : deque_capacity l.steps ≡ deque_capacity l.fn.steps;
    }

abbrev pub decreases-steps : goal.decreases-steps
decreases-steps g l = length l.steps.items
