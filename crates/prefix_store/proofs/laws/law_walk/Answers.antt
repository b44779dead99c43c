use Rattle.std.specs.FinMap as finite
use Rattle.prefix_store.proofs.AboveLaws.{above-none, above-next, none-above, keys-in_order}
use Rattle.prefix_store.proofs.laws.law_walk.Goals as goal

pub returns-clause-all : goal.returns-clause-all
returns-clause-all g c = λ routes. above-none (finite.entries routes)

pub returns-clause-next : goal.returns-clause-next
returns-clause-next g c = λ routes low next is. above-next low (finite.entries routes) next (keys-in_order routes) is

pub returns-clause-end : goal.returns-clause-end
returns-clause-end g c = λ routes low. none-above _

pub returns-clause-order : goal.returns-clause-order
returns-clause-order g c = keys-in_order
