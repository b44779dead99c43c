use Rattle.rib_player.proofs.TimelineLaws.{StandsFor-after_call}
use Rattle.rib_player.proofs.laws.law_history_after_one_call.Goals as goal

pub returns : goal.returns
returns c = StandsFor-after_call
