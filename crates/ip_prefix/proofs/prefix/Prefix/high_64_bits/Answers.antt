-- The number is the highest bits, filled with zeros, and its high half the first of these.
use Rattle.std.proofs.Common.{◌≡◌, ◌+◌, ◌-◌, ◌≤◌, ◌++◌, false, length, replicate, take, ap, sym, ◌∙◌, arith, ◌/◌, ◌^◌}
use Rattle.ip_prefix.specs.Bits.{bits_of, highest_bits}
use Rattle.ip_prefix.specs.Kept.{length-masked, bit_count_le}
use Rattle.ip_prefix.specs.Network.{Network}
use Rattle.ip_prefix.proofs.BitLists.{take-bits_of}
use Rattle.ip_prefix.proofs.Comparing.{bits_of-filled}
use Rattle.ip_prefix.proofs.prefix.Prefix.high_64_bits.Goals as goal

pub returns : goal.returns
returns c =
    let p = c.self.inside in
    let len : p.len ≤ 128 = omega (arith, c.self.invariant.1, bit_count_le p.family) in
    let all : p.len + (128 - p.len) ≡ 128 = omega arith in
    ap (λ n. bits_of 64 (n / 2 ^ 64)) c.get.ensures
    ∙ sym (take-bits_of 64 64 p.number)
    ∙ ap (λ w. take 64 (bits_of w p.number)) (sym all)
    ∙ ap (take 64) (sym (bits_of-filled p.len (128 - p.len) p.number c.self.invariant.2)
    ∙ ap (λ k. highest_bits p.len p.number ++ replicate (128 - k) false) (sym (length-masked p.number p.len))
    ∙ ap (λ (n : Network). n.bits ++ replicate (128 - length n.bits) false) c.self.view_is)
