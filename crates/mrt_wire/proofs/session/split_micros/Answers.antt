use Rattle.std.proofs.Common.{sym, subst}
use Rattle.ip_prefix.specs.Fronts.{BeginsWithNone}
use Rattle.mrt_wire.specs.Session.{SpellsMicros}
use Rattle.mrt_wire.proofs.session.split_micros.Goals as goal

pub returns-in_err-micros : goal.returns-in_err-micros
returns-in_err-micros c =
    rw c.from_residual.ensures
    (subst (λ timed. BeginsWithNone (SpellsMicros timed) c.args.octets.now) (sym c.if-not-timed.false)
    (λ micros rest b. c.in_err-micros.ensures b.spelled.0 rest record { front = b.front; spelled = b.spelled.3; whole = b.whole }))
