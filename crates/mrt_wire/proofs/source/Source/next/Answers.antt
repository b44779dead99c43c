use Rattle.mrt_wire.proofs.FirstLaws.{first_answered}
use Rattle.mrt_wire.proofs.source.Source.next.Goals as goal

pub returns-else-is_err-clause-first : goal.returns-else-is_err-clause-first
returns-else-is_err-clause-first g c = λ _ answer is. first_answered _ _ _ _ c.read-answer.result answer c.read-answer.ensures.next is
