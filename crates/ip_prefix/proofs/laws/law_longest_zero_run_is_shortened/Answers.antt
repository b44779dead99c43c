use Rattle.ip_prefix.proofs.ZeroRuns.{longest_zero_run_is}
use Rattle.ip_prefix.proofs.laws.law_longest_zero_run_is_shortened.Goals as goal

pub returns : goal.returns
returns c = longest_zero_run_is
