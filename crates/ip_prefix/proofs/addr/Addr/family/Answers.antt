use Rattle.std.proofs.Common.{◌-◌, ◌/◌, ◌^◌, subst}
use Rattle.ip_prefix.specs.Network.{IsAddress, bit_count}
use Rattle.ip_prefix.specs.Kept.{length-bits_of}
use Rattle.ip_prefix.proofs.addr.Addr.family.Goals as goal

pub returns-clause-whole : goal.returns-clause-whole
returns-clause-whole c =
    let family = c.self.inside.family in
    subst IsAddress c.self.view_is (length-bits_of (bit_count family) (c.self.inside.number / 2 ^ (128 - bit_count family)))
