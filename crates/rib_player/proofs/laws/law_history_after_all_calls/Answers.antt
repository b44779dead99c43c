use Rattle.std.specs.Prelude.{[]}
use Rattle.rib_player.specs.Timeline.{fresh}
use Rattle.rib_player.proofs.TimelineLaws.{StandsFor-fresh, StandsFor-after_calls}
use Rattle.rib_player.proofs.laws.law_history_after_all_calls.Goals as goal

pub returns-clause-new : goal.returns-clause-new
returns-clause-new c calls = StandsFor-after_calls fresh [] calls StandsFor-fresh

pub returns-clause-any : goal.returns-clause-any
returns-clause-any c = StandsFor-after_calls
