use Rattle.ip_prefix.proofs.Containing.{covers_nested, one_of_length}
use Rattle.ip_prefix.proofs.laws.law_containing_prefixes_nest.Goals as goal

pub returns : goal.returns
returns c = record { covered = covers_nested; one = one_of_length }
