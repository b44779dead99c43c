use Rattle.std.proofs.Common.{◌≡◌, take, ap, sym, subst, ◌∙◌}
use Rattle.bgp_wire.specs.Reach.{SpellsNextHop}
use Rattle.bgp_wire.proofs.Reaching.{hop_here}
use Rattle.bgp_wire.proofs.reach.split_next_hop.Goals as goal

pub returns-in_err-hop-clause-none : goal.returns-in_err-hop-clause-none
returns-in_err-hop-clause-none c =
    let after = c.in_ok-len.after_len.now in
    let len = c.in_ok-len.field-0-0.now in
    let front : c.split_at.result.0.now ≡ take len after = c.split_at.ensures.front ∙ ap (λ n. take n after) c.from-size.ensures in
    rw c.from_residual-in_err-hop.ensures
    (λ hop rest s. c.in_err-hop.ensures hop (subst (SpellsNextHop hop) (sym front) (hop_here hop rest c.args.octets.now len after c.in_ok-len.ensures.cases.0 s)))
