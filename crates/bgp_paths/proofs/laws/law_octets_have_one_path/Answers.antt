use Rattle.bgp_paths.proofs.HasOneFront.{one_path_of}
use Rattle.bgp_paths.proofs.laws.law_octets_have_one_path.Goals as goal

pub returns : goal.returns
returns c = one_path_of
