use Rattle.std.proofs.Common.{◌≤◌, ◌-◌, ◌/◌, ◌^◌, ◌∙◌, ap, sym, subst, length, arith}
use Rattle.ip_prefix.specs.Network.{bit_count, IsNetwork}
use Rattle.ip_prefix.specs.Bits.{bits_of}
use Rattle.ip_prefix.specs.Kept.{length-masked}
use Rattle.ip_prefix.proofs.prefix.Prefix.len.Goals as goal

pub returns-clause-value : goal.returns-clause-value
returns-clause-value c = sym (length-masked c.self.inside.number c.self.inside.len) ∙ ap (λ n. length n.bits) c.self.view_is

pub returns-clause-fits : goal.returns-clause-fits
returns-clause-fits c =
    let size = c.self.inside.len in
    let short : length (bits_of size (c.self.inside.number / 2 ^ (128 - size))) ≤ bit_count c.self.inside.family =
    omega (arith, length-masked c.self.inside.number size, c.self.invariant.1) in
    subst IsNetwork c.self.view_is short
