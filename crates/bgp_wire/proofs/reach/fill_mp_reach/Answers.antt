use Rattle.std.proofs.Common.{Some, IfErr, refl, ap, sym, subst, ◌∙◌}
use Rattle.ip_prefix.specs.Sequences.{SpellsAll}
use Rattle.ip_prefix.specs.Network.{SpellsNetwork}
use Rattle.bgp_wire.specs.PlainValues.{lent_octets}
use Rattle.bgp_wire.specs.Reach.{Reach, SpellsAfterUnicast, SpellsReach, SpellsMpReach}
use Rattle.bgp_wire.specs.Parts.{IsAfiSafiOf}
use Rattle.bgp_paths.specs.Readers.{Refuses}
use Rattle.bgp_paths.proofs.Refusing.{refused_on}
use Rattle.bgp_wire.proofs.Reaching.{reach_part, same_stand}
use Rattle.bgp_wire.proofs.reach.fill_mp_reach.Goals as goal

pub returns-in_default-split_next_hop-clause-refused : goal.returns-in_default-split_next_hop-clause-refused
returns-in_default-split_next_hop-clause-refused c value s =
    let begun = subst (IsAfiSafiOf c.in-Some.octets.now) (c.in_ok-ok_or.ensures.ok_part ∙ ap Some c.in-Unicast.is) c.read_afi_safi.ensures in
    let part = reach_part c.in-Unicast.family c.in-Unicast.rest.now c.in-Some.octets.now begun value (subst (λ v. SpellsMpReach value (lent_octets v)) c.in-Some.is s) in
    c.in_default-split_next_hop.ensures.none part.0.hop part.1.body part.1.stands

pub returns-in_err-fill_prefixes-in-Unicast-clause-refused : goal.returns-in_err-fill_prefixes-in-Unicast-clause-refused
returns-in_err-fill_prefixes-in-Unicast-clause-refused c =
    let octets = c.in-Some.octets.now in
    let Spells = SpellsAll (SpellsNetwork c.in-Unicast.family) in
    let rest = c.in-Unicast.rest.now in
    let f = c.in-Some-split_next_hop.framed in
    let begun = subst (IsAfiSafiOf octets) (c.in_ok-ok_or.ensures.ok_part ∙ ap Some c.in-Unicast.is) c.read_afi_safi.ensures in
    let passed = c.from_residual-in_err-fill_prefixes-in-Unicast in
    subst (λ value. IfErr passed.result (Refuses SpellsMpReach (lent_octets value))) (sym c.in-Some.is)
    (refused_on SpellsMpReach Spells (Some octets) f.rest.now c.in_err-fill_prefixes-in-Unicast.field-0.0 passed.result passed.ensures.1
    (λ value s.
    let part = reach_part c.in-Unicast.family rest octets begun value s in
    (part.0.prefixes, subst (Spells part.0.prefixes) (same_stand part.0.hop f.hop part.1.body f.rest.now rest part.1.stands c.in-Some-split_next_hop.ensures.some).1 part.1.spelled))
    c.in_err-fill_prefixes-in-Unicast.ensures.refused)

pub returns-in_ok-fill_prefixes-in-Unicast-clause-filled : goal.returns-in_ok-fill_prefixes-in-Unicast-clause-filled
returns-in_ok-fill_prefixes-in-Unicast-clause-filled c =
    let octets = c.in-Some.octets.now in
    let f = c.in-Some-split_next_hop.framed in
    let begun = subst (IsAfiSafiOf octets) (c.in_ok-ok_or.ensures.ok_part ∙ ap Some c.in-Unicast.is) c.read_afi_safi.ensures in
    let reach : Reach = record { hop = f.hop; prefixes = c.fill_prefixes.new.prefixes } in
    let reached : SpellsAfterUnicast SpellsReach reach octets =
    record { family = c.in-Unicast.family; rest = c.in-Unicast.rest.now; whole = begun; spelled = record { body = f.rest.now; stands = c.in-Some-split_next_hop.ensures.some; spelled = c.in_ok-fill_prefixes-in-Unicast.ensures.filled } } in
    (Some reach, subst (λ value. SpellsMpReach (Some reach) (lent_octets value)) (sym c.in-Some.is) reached, refl, refl)
