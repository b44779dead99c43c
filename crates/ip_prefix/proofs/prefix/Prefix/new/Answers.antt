-- The bits of the prefix are the first of the address, and the number has zeros below them.
use Rattle.std.proofs.Common.{◌≤◌, ◌-◌, ◌^◌, ◌/◌, ◌∙◌, ap, sym, subst, take, arith}
use Rattle.ip_prefix.specs.Network.{bit_count}
use Rattle.ip_prefix.specs.Bits.{bits_of}
use Rattle.ip_prefix.specs.Kept.{IsMasked}
use Rattle.ip_prefix.proofs.Masks.{IsMasked-highest, bits_of-highest}
use Rattle.ip_prefix.proofs.prefix.Prefix.new.Goals as goal

pub invariant_of-result : goal.invariant_of-result
invariant_of-result c =
    let family = c.family-family.result in
    let len = c.args.len in
    let within : len ≤ bit_count family = omega (arith, c.width.ensures) in
    subst (λ number. IsMasked family number len) (sym (c.new.ensures ∙ c.keep_highest_bits.ensures)) (IsMasked-highest family c.number.result len c.number.ensures.aligned.0 within)

pub returns : goal.returns
returns c =
    let family = c.args.addr.family in
    let len = c.args.len in
    let within : len ≤ bit_count family = omega (arith, c.width.ensures, ap bit_count c.family-family.ensures.value) in
    let bits = ap (λ n. bits_of len (n / 2 ^ (128 - len))) (c.new.ensures ∙ c.keep_highest_bits.ensures) ∙ bits_of-highest family c.number.result len within ∙ ap (take len) (sym c.number.ensures.bits) in
    (within, λ i. record { family = c.family-family.ensures.value i; bits = bits i })
