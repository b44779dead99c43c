-- The octet is one of the highest of the number.
use Rattle.std.proofs.Common.{◌≤◌, ◌+◌, ◌*◌, ◌∙◌, sym, arith}
use Rattle.ip_prefix.specs.Network.{bit_count, octet_at}
use Rattle.ip_prefix.specs.Kept.{bit_count_le}
use Rattle.ip_prefix.proofs.Highest.{octets_fill, octet_of_highest, low_octet}
use Rattle.ip_prefix.proofs.addr.Addr.octet.Goals as goal

pub returns : goal.returns
unfolding octet_at
returns c =
    let place_in = rw (← c.self.view_is) at c.requires in
    let octet_in : 8 * c.args.index + 8 ≤ bit_count c.self.inside.family = omega (arith, octets_fill c.self.inside.family) in
    rw (c.get.ensures, ← c.self.view_is) (low_octet _ ∙ sym (octet_of_highest _ c.args.index _ (bit_count_le c.self.inside.family) octet_in))
