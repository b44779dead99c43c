use Rattle.std.proofs.Common.{◌≡◌, ◌-◌, ◌/◌, ◌^◌, ◌++◌, false, length, take, replicate, sym, ap, ◌∙◌, arith, take-take}
use Rattle.ip_prefix.specs.Bits.{number_of}
use Rattle.ip_prefix.specs.Kept.{number_of-bits_of}
use Rattle.ip_prefix.proofs.BitLists.{take-bits_of}
use Rattle.rib_player.proofs.claims.v4_prefix_number.Goals as goal

pub returns-clause-key : goal.returns-clause-key
returns-clause-key c =
    let half = c.high_64_bits.result in
    let bits = c.args.prefix.now.bits ++ replicate (128 - length c.args.prefix.now.bits) false in
    let number : half / 2 ^ 32 ≡ number_of (take 32 bits) =
    omega (arith, number_of-bits_of 32 (half / 2 ^ 32), c.high_64_bits.type_inv)
    ∙ ap number_of (sym (take-bits_of 32 32 half) ∙ ap (take 32) c.high_64_bits.ensures ∙ take-take 32 64 bits (omega arith)) in
    omega (arith, number, c.len.ensures.value)
