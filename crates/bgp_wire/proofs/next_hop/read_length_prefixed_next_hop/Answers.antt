use Rattle.std.proofs.Common.{◌≡◌, take, ap, sym, subst, ◌∙◌, arith}
use Rattle.bgp_wire.specs.Reach.{SpellsNextHop, SpellsSizedHop}
use Rattle.bgp_paths.proofs.Refusing.{finds_whole}
use Rattle.bgp_wire.proofs.Hops.{hop_in_front, hop_alone}
use Rattle.bgp_wire.proofs.next_hop.read_length_prefixed_next_hop.Goals as goal

pub returns : goal.returns
returns c =
    let octets = c.args.octets.now in
    let rest = c.in_ok-len.rest.now in
    let len = c.in_ok-len.field-0-0.now in
    let begun = c.in_ok-len.ensures.cases.0 in
    let front : c.in_ok-hop.hop.now ≡ take len rest = c.in_ok-hop.ensures.cases.1 ∙ ap (λ n. take n rest) c.from.ensures in
    finds_whole SpellsNextHop SpellsSizedHop c.in_ok-hop.hop.now octets c.read_next_hop.result
    (λ hop s. hop_alone hop len rest octets begun (omega (arith, c.in_ok-hop.ensures.cases.0, c.from.ensures)) (subst (SpellsNextHop hop) front s))
    (λ hop s. subst (SpellsNextHop hop) (sym front) (hop_in_front hop len rest octets begun s).1)
    c.read_next_hop.ensures
