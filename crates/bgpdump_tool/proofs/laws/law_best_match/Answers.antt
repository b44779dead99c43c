use Rattle.bgpdump_tool.proofs.BestLaws.{best_is}
use Rattle.bgpdump_tool.proofs.laws.law_best_match.Goals as goal

pub returns : goal.returns
returns c = best_is
