use Rattle.mrt_events.proofs.PeerLaws.{tied_addresses}
use Rattle.mrt_events.proofs.same.same_attributes.Goals as goal

pub same_option-requires : goal.same_option-requires
same_option-requires c = tied_addresses
