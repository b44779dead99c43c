use Rattle.std.proofs.Common.{inl, sym, subst, arith}
use Rattle.bgp_wire.specs.Reach.{SpellsSizedHop, SpellsRibHopInEitherForm}
use Rattle.bgp_paths.proofs.Refusing.{finds_whole}
use Rattle.bgp_wire.proofs.Hops.{abbreviated, in_full, full_form}
use Rattle.bgp_wire.proofs.next_hop.read_rib_next_hop.Goals as goal

pub returns-then-first-ne0 : goal.returns-then-first-ne0
returns-then-first-ne0 c =
    let octets = c.args.octets.now in
    let first = c.in_ok-first.field-0-0.now in
    let rest = c.in_ok-first.field-0-1.now in
    finds_whole SpellsSizedHop SpellsRibHopInEitherForm octets octets c.read_length_prefixed_next_hop.result
    (λ hop s. inl s)
    (λ hop s. abbreviated hop first rest octets c.in_ok-first.ensures.cases.0 c.if-first-ne0.true s)
    c.read_length_prefixed_next_hop.ensures

pub returns : goal.returns
returns c =
    let octets = c.args.octets.now in
    let first = c.in_ok-first.field-0-0.now in
    let rest = c.in_ok-first.field-0-1.now in
    let begun = c.in_ok-first.ensures.cases.0 in
    finds_whole SpellsSizedHop SpellsRibHopInEitherForm c.in_ok-rest.rest.now octets c.read_length_prefixed_next_hop-2.result
    (λ hop s. full_form hop first rest octets begun c.if-first-ne0.false (omega (arith, c.in_ok-rest.ensures.cases.0)) (subst (SpellsSizedHop hop) c.in_ok-rest.ensures.cases.2 s))
    (λ hop s. subst (SpellsSizedHop hop) (sym c.in_ok-rest.ensures.cases.2) (in_full hop first rest octets begun c.if-first-ne0.false s).1)
    c.read_length_prefixed_next_hop-2.ensures
