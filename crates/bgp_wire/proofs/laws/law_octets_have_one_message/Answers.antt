use Rattle.bgp_wire.proofs.OneContent.{one_message_of, one_update}
use Rattle.bgp_wire.proofs.laws.law_octets_have_one_message.Goals as goal

pub returns-clause-message : goal.returns-clause-message
returns-clause-message c width message other octets = one_message_of width octets message other

pub returns-clause-update : goal.returns-clause-update
returns-clause-update c width update other octets = one_update width octets update other
