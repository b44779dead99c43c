-- The bit is one of the highest of the number.
use Rattle.std.proofs.Common.{◌<◌, ◌≤◌, length, Some, ap, sym, ◌∙◌, arith}
use Rattle.std.specs.Prelude.{slice_get}
use Rattle.ip_prefix.specs.Kept.{length-masked, bit_count_le}
use Rattle.ip_prefix.specs.Network.{Network}
use Rattle.ip_prefix.proofs.Highest.{bit_of_highest}
use Rattle.ip_prefix.proofs.prefix.Prefix.bit.Goals as goal
use Rattle.ip_prefix.proofs.prefix.Prefix.bit.Goals.{After-bit}

pub bit-requires : goal.bit-requires
bit-requires c =
    let long = ap (λ (n : Network). length n.bits) c.self.view_is in
    omega (arith, c.requires, long, length-masked c.self.inside.number c.self.inside.len, c.self.invariant.1, bit_count_le c.self.inside.family)

pub returns : goal.returns
returns c =
    let long = ap (λ (n : Network). length n.bits) c.self.view_is in
    let within : c.self.inside.len ≤ 128 = omega (arith, c.self.invariant.1, bit_count_le c.self.inside.family) in
    let place : c.args.index < c.self.inside.len = omega (arith, c.requires, long, length-masked c.self.inside.number c.self.inside.len) in
    ap (λ (n : Network). slice_get n.bits c.args.index) (sym c.self.view_is)
    ∙ bit_of_highest c.self.inside.len c.args.index c.self.inside.number within place
    ∙ ap Some (sym c.bit.ensures)
