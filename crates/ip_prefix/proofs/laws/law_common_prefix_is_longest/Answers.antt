use Rattle.ip_prefix.proofs.Turns.{covers-common, common_least}
use Rattle.ip_prefix.proofs.laws.law_common_prefix_is_longest.Goals as goal

pub returns : goal.returns
returns c = record { both = covers-common; longest = common_least }
