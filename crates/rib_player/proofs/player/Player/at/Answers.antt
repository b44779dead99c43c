use Rattle.std.proofs.Common.{subst, arith}
use Rattle.std.proofs.lemmas.Grind.{common_steps}
use Rattle.rib_player.specs.Timeline.{IsWellFormed}
use Rattle.rib_player.proofs.PlayedLaws.{well_formed-played}
use Rattle.rib_player.proofs.player.Player.at.Goals as goal

pub returns-clause-well_formed : goal.returns-clause-well_formed
returns-clause-well_formed g c = subst IsWellFormed c.self.view_is (well_formed-played c.self.invariant.played c.self.inside.journal.floor)

pub returns-clause-cursor : goal.returns-clause-cursor
returns-clause-cursor g c = grind (arith, common_steps)
