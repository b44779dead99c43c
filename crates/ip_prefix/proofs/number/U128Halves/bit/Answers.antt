-- The bit of the high half is one of the number.
use Rattle.std.proofs.Common.{◌≡◌, ℕ, ◌+◌, ◌-◌, ◌/◌, ◌^◌, ◌==◌, bit_and, sym, ap, ◌∙◌, arith, shr-shr}
use Rattle.ip_prefix.specs.Kept.{whole, high-again}
use Rattle.ip_prefix.proofs.number.U128Halves.bit.Goals as goal

pub returns-then-index-lt-HALF_BITS : goal.returns-then-index-lt-HALF_BITS
returns-then-index-lt-HALF_BITS c =
    let high : ℕ = c.self.inside.high in
    let low : ℕ = c.self.inside.low in
    let below : ℕ = 63 - c.args.index in
    let both : 64 + below ≡ 127 - c.args.index = omega (arith, c.if-index-lt-HALF_BITS.true) in
    ap (λ h. bit_and (h / 2 ^ below) 1 == 1) (sym (high-again high low c.self.invariant))
    ∙ ap (λ q. bit_and q 1 == 1) (shr-shr (whole high low) 64 below)
    ∙ (λ i. bit_and (c.self.view_is i / 2 ^ both i) 1 == 1)
