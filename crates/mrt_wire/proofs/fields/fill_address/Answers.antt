use Rattle.std.proofs.Common.{rules, arith, length, ap, sym, ◌∙◌, length-take-le}
use Rattle.ip_prefix.specs.Network.{Address, octet_count}
use Rattle.mrt_wire.proofs.FieldFronts.{cut_whole}
use Rattle.mrt_wire.proofs.fields.fill_address.Goals as goal

pub returns-in_ok-front-in-V4-clause-some : goal.returns-in_ok-front-in-V4-clause-some
returns-in_ok-front-in-V4-clause-some c = let cut = c.in_ok-front-in-V4.ensures.cases in record { front = c.in_ok-front-in-V4.front.now; spelled = search rules; whole = cut_whole 4 cut.0 cut.1 }

pub returns-in_ok-front-in-V6-clause-some : goal.returns-in_ok-front-in-V6-clause-some
returns-in_ok-front-in-V6-clause-some c =
    let octets = c.args.octets.now in
    let cut = c.in_ok-front-in-V6.ensures.cases in
    let size = ap length cut.0 ∙ length-take-le 16 octets (omega (arith, cut.2)) ∙ ap (λ (a : Address). octet_count a.family) (sym c.v6.ensures) in
    record {
      front = c.in_ok-front-in-V6.front.now;
      spelled = record { of_family = search rules; spelled = record { size = size; bits = search rules } };
      whole = cut_whole 16 cut.0 cut.1;
    }
