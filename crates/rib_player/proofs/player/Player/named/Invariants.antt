use Rattle.std.proofs.Common.{◌≡◌, take, sum_by}
use Rattle.prefix_store.specs.Stored.{saturated_count}
use Rattle.rib_player.specs.Sides.{entry_count}
use Rattle.rib_player.proofs.player.Player.named.Given as goal

-- the pairs of the steps so far are counted
abbrev pub invariant-steps : goal.invariant-steps
invariant-steps g l = l.total ≡ saturated_count (sum_by entry_count (take l.index l.steps.items))
