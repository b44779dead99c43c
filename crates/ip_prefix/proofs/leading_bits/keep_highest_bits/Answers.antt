-- What stands in the high half is shifted once more.
use Rattle.std.proofs.Common.{◌≡◌, ℕ, ◌+◌, ◌-◌, ◌*◌, ◌/◌, ◌%◌, ◌^◌, sym, ap, ◌∙◌, arith, ◌<◌, mul_assoc, mod-eq_of_lt}
use Rattle.std.proofs.lemmas.Nat.{pow-add, shr_split, shr-shr}
use Rattle.ip_prefix.proofs.leading_bits.keep_highest_bits.Goals as goal

pub returns-then-len-le-HALF_BITS : goal.returns-then-len-le-HALF_BITS
returns-then-len-le-HALF_BITS c =
    let number : ℕ = c.args.number in
    let below : ℕ = 64 - c.args.len in
    let high : ℕ = number / 2 ^ (128 - c.args.len) in
    let all : below + 64 ≡ 128 - c.args.len = omega (arith, c.if-len-le-HALF_BITS.true) in
    let turned : 64 + below ≡ 128 - c.args.len = omega (arith, c.if-len-le-HALF_BITS.true) in
    let shifted : number / 2 ^ 64 / 2 ^ below ≡ high = shr-shr number 64 below ∙ ap (λ k. number / 2 ^ k) turned in
    let fits : high * 2 ^ below < 2 ^ 64 = omega (arith, shr_split (number / 2 ^ 64) below, ap (λ q. q * 2 ^ below) shifted, c.ranges.number.fits) in
    let half : c.from.result ≡ high * 2 ^ below = c.from.ensures ∙ ap (λ q. q * 2 ^ below % 2 ^ 64) shifted ∙ mod-eq_of_lt fits in
    let whole : high * 2 ^ (128 - c.args.len) ≡ high * 2 ^ below * 2 ^ 64 = ap (λ k. high * 2 ^ k) (sym all) ∙ ap (λ p. high * p) (pow-add 2 below 64) ∙ sym (mul_assoc high (2 ^ below) (2 ^ 64)) in
    ap (λ k. k * 2 ^ 64 % 2 ^ 128) half ∙ omega (arith, whole, shr_split number (128 - c.args.len), c.ranges.number.fits)
