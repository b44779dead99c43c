use Rattle.ip_prefix.proofs.Spelled.{address_text_spells, network_text_spells}
use Rattle.ip_prefix.proofs.laws.law_printed_text_parses.Goals as goal

pub returns : goal.returns
returns c = record { addresses = address_text_spells; prefixes = network_text_spells }
