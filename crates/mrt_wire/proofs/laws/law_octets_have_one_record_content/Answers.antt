use Rattle.mrt_wire.proofs.ContentLaws as law
use Rattle.mrt_wire.proofs.laws.law_octets_have_one_record_content.Goals as goal

pub returns : goal.returns
returns c = law.same_content
