use Rattle.std.proofs.Common.{None, sym, subst}
use Rattle.bgp_wire.specs.Path.{SpellsAsn}
use Rattle.mrt_wire.specs.Decoding.{FindsValue}
use Rattle.mrt_wire.proofs.fields.split_asn.Goals as goal

pub returns-in_err-number-in-Two : goal.returns-in_err-number-in-Two
returns-in_err-number-in-Two c =
    rw c.from_residual.ensures (subst (λ w. FindsValue (SpellsAsn w) c.args.octets.now None) (sym c.in-Two.is) c.in_err-number-in-Two.ensures)

pub returns-in-Four : goal.returns-in-Four
returns-in-Four c =
    subst (λ w. FindsValue (SpellsAsn w) c.args.octets.now c.split_u32.result) (sym c.in-Four.is) c.split_u32.ensures
