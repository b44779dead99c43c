use Rattle.ip_prefix.proofs.Spelled.{one_address, one_prefix}
use Rattle.ip_prefix.proofs.laws.law_text_has_one_value.Goals as goal

pub returns : goal.returns
returns c = record { addresses = one_address; prefixes = one_prefix }
