-- The group is one of the highest of the number.
use Rattle.std.proofs.Common.{◌∙◌, sym}
use Rattle.ip_prefix.specs.Network.{group_at}
use Rattle.ip_prefix.specs.Kept.{bit_count_le}
use Rattle.ip_prefix.proofs.Highest.{group_of_highest, low_group}
use Rattle.ip_prefix.proofs.addr.Addr.group.Goals as goal

pub returns : goal.returns
unfolding group_at
returns c =
    let place_in = rw (← c.self.view_is) at c.requires in
    rw (c.get.ensures, ← c.self.view_is) (low_group _ ∙ sym (group_of_highest _ c.args.index _ (bit_count_le c.self.inside.family) place_in))
