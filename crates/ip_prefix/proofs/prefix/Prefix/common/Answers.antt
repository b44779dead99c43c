-- What both begin with is as long as what their numbers share, where neither is shorter.
use Rattle.std.proofs.Common.{◌≡◌, ◌+◌, ◌-◌, length, take, ap, ◌∙◌, arith}
use Rattle.ip_prefix.specs.Turns.{shared}
use Rattle.ip_prefix.specs.Kept.{bit_count_le}
use Rattle.ip_prefix.proofs.Shared.{leading-shared, length-shared, shared-front}
use Rattle.ip_prefix.proofs.prefix.Prefix.common.Goals as goal

pub returns : goal.returns
returns c =
    let m = c.args.self.now in
    let n = c.args.other.now in
    let count = leading-shared 128 c.number.result c.number-2.result c.number.type_inv c.number-2.type_inv ∙ (λ i. length (shared (c.number.ensures i) (c.number-2.ensures i))) in
    let fits : length m.bits + (128 - length m.bits) ≡ length n.bits + (128 - length n.bits) = omega (arith, c.len.ensures.fits, c.len-2.ensures.fits, bit_count_le m.family, bit_count_le n.family) in
    let all = length-shared m.bits n.bits (128 - length m.bits) (128 - length n.bits) fits in
    let len : c.min-2.result ≡ length (shared m.bits n.bits) = omega (arith, c.min-2.ensures, c.min.ensures, c.len.ensures.value, c.len-2.ensures.value, all, count) in
    let bits = ap (λ k. take k m.bits) len ∙ shared-front m.bits n.bits in
    c.shortened.ensures ∙ (λ i. record { family = m.family; bits = bits i })
