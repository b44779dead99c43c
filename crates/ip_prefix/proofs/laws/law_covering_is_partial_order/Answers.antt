use Rattle.ip_prefix.proofs.Containing.{covers_reflexive, covers_transitive, covers_antisymmetric, covers_length}
use Rattle.ip_prefix.proofs.laws.law_covering_is_partial_order.Goals as goal

pub returns : goal.returns
returns c = record { reflexive = covers_reflexive; transitive = covers_transitive; antisymmetric = covers_antisymmetric; lengths = covers_length }
