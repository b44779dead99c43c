-- The lengths and the bit behind tell the turn of what is covered.
use Rattle.std.proofs.Common.{Some, ap, sym, ◌∙◌, arith}
use Rattle.std.specs.Prelude.{slice_get}
use Rattle.ip_prefix.specs.Turns.{way}
use Rattle.ip_prefix.proofs.Turns.{under_here, under_side}
use Rattle.ip_prefix.proofs.prefix.Prefix.turn_under.Goals as goal

pub returns-then-len : goal.returns-then-len
unfolding way
returns-then-len c = λ other long under.
    sym (under_here (way other) (way c.args.self.now) under (omega (arith, c.len.ensures.value, c.if-len.true, long)))

pub returns-then-bit : goal.returns-then-bit
unfolding way
returns-then-bit c = λ other long under.
    sym (under_side (way other) (way c.args.self.now) _ under (ap (slice_get c.args.self.now.bits) long ∙ c.bit.ensures ∙ ap Some c.if-bit.true))

pub returns-else-bit : goal.returns-else-bit
unfolding way
returns-else-bit c = λ other long under.
    sym (under_side (way other) (way c.args.self.now) _ under (ap (slice_get c.args.self.now.bits) long ∙ c.bit.ensures ∙ ap Some c.if-bit.false))
