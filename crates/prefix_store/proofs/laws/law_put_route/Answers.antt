use Rattle.prefix_store.proofs.StoredLaws.{get-put-there, get-put-others}
use Rattle.prefix_store.proofs.laws.law_put_route.Goals as goal

pub returns-clause-there : goal.returns-clause-there
returns-clause-there g c = get-put-there

pub returns-clause-others : goal.returns-clause-others
returns-clause-others g c = get-put-others
