use Rattle.prefix_store.proofs.LongestLaws.{longest-one}
use Rattle.prefix_store.proofs.laws.law_one_longest.Goals as goal

pub returns : goal.returns
returns g c = longest-one
