use Rattle.std.proofs.Common.{◌≡◌}
use Rattle.rib_player.specs.Timeline.{without_first}
use Rattle.rib_player.proofs.player.Player.forget.Given as goal

-- as many steps as are counted so far are forgotten
abbrev pub invariant-steps : goal.invariant-steps
invariant-steps g l = l.self ≡ without_first l.counter l.fn.self
