-- The highest 32 bits are those of the prefix, filled with zeros.
use Rattle.std.proofs.Common.{◌≡◌, ◌-◌, ◌/◌, ◌^◌, ◌≤◌, ◌++◌, false, length, replicate, ap, sym, ◌∙◌, arith}
use Rattle.ip_prefix.specs.Network.{bit_count, Network}
use Rattle.ip_prefix.specs.Bits.{bits_of, highest_bits}
use Rattle.ip_prefix.specs.Kept.{length-masked}
use Rattle.ip_prefix.proofs.Masks.{filled}
use Rattle.ip_prefix.proofs.prefix.Prefix.v4_number.Goals as goal

pub returns : goal.returns
returns c =
    let p = c.self.inside in
    let width : bit_count p.family ≡ 32 = ap bit_count (ap (λ (n : Network). n.family) c.self.view_is ∙ c.requires) in
    let within : p.len ≤ 32 = omega (arith, c.self.invariant.1, width) in
    ap (λ n. bits_of 32 (n / 2 ^ 96)) c.get.ensures
    ∙ filled 32 p.number p.len within (omega arith) c.self.invariant.2
    ∙ ap (λ k. highest_bits p.len p.number ++ replicate (32 - k) false) (sym (length-masked p.number p.len))
    ∙ ap (λ (n : Network). n.bits ++ replicate (32 - length n.bits) false) c.self.view_is
