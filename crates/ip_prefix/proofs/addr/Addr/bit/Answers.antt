-- The bit is one of the highest of the number.
use Rattle.ip_prefix.specs.Kept.{bit_count_le}
use Rattle.ip_prefix.proofs.Highest.{bit_of_highest}
use Rattle.ip_prefix.proofs.addr.Addr.bit.Goals as goal

pub returns : goal.returns
returns c =
    let place_in = rw (← c.self.view_is) at c.requires in
    rw (c.get.ensures, ← c.self.view_is) (bit_of_highest _ _ _ (bit_count_le c.self.inside.family) place_in)
