use Rattle.std.proofs.Common.{◌≡◌, true, false, ap, sym, subst, ◌∙◌}
use Rattle.octet_forms.proofs.Sequences.{one_list}
use Rattle.bgp_paths.specs.declared.fault.WireFault.TheVariants.{Malformed}
use Rattle.bgp_wire.specs.declared.framing.TheConstants.{MP_REACH_NLRI}
use Rattle.bgp_wire.specs.Attribute.{SpellsAttribute, first_value, repeats, SpellsOptional}
use Rattle.bgp_wire.specs.Content.{SpellsRibAttrs}
use Rattle.bgp_wire.specs.PlainValues.{lent_octets, SpellsUnmergedAttrs}
use Rattle.bgp_wire.specs.Reach.{SpellsRibHopInEitherForm}
use Rattle.bgp_wire.proofs.OneAttribute.{attribute_code}
use Rattle.bgp_wire.proofs.Plainly.{rib_plainly}
use Rattle.bgp_paths.proofs.Refusing.{refused_on}
use Rattle.bgp_wire.proofs.rib_entry.fill_rib_attrs.Goals as goal

pub returns-in_err-read_attribute_list-clause-refused : goal.returns-in_err-read_attribute_list-clause-refused
returns-in_err-read_attribute_list-clause-refused c =
    let octets = c.args.octets.now in
    let width = c.args.width in
    let Whole = SpellsRibAttrs c.args.family width in
    refused_on Whole (SpellsUnmergedAttrs width) octets octets c.in_err-read_attribute_list.field-0.0 c.from_residual.result c.from_residual.ensures.1 (λ attrs s. rib_plainly c.args.family width attrs octets s) c.in_err-read_attribute_list.ensures.refused

pub returns-then-was_seen_twice-clause-refused : goal.returns-then-was_seen_twice-clause-refused
returns-then-was_seen_twice-clause-refused c attrs s =
    let read = c.in_ok-read_attribute_list.ensures.read in
    let lists = one_list SpellsAttribute attribute_code c.args.octets.now s.list read.list s.spelled read.spelled in
    let once : repeats MP_REACH_NLRI read.list ≡ false = subst (λ list. repeats MP_REACH_NLRI list ≡ false) lists s.hop_said.once in
    let twice : repeats MP_REACH_NLRI read.list ≡ true = sym (c.was_seen_twice.ensures read.list read.seen) ∙ c.if-was_seen_twice.true in
    cc

pub returns-in_err-choose_rib_next_hop-clause-refused : goal.returns-in_err-choose_rib_next_hop-clause-refused
returns-in_err-choose_rib_next_hop-clause-refused c =
    let octets = c.args.octets.now in
    let Whole = SpellsRibAttrs c.args.family c.args.width in
    let read = c.in_ok-read_attribute_list.ensures.read in
    let value = lent_octets c.read_attribute_list.new.later.reach in
    refused_on Whole (SpellsOptional SpellsRibHopInEitherForm) octets value Malformed c.from_residual-in_err-choose_rib_next_hop.result c.from_residual-in_err-choose_rib_next_hop.ensures.1
    (λ attrs s. (
      s.hop_said.reached,
      subst (SpellsOptional SpellsRibHopInEitherForm s.hop_said.reached)
          (ap (first_value MP_REACH_NLRI) (one_list SpellsAttribute attribute_code octets s.list read.list s.spelled read.spelled) ∙ sym read.values.reach) s.hop_said.reached_spelled,
    ))
    c.in_err-choose_rib_next_hop.ensures.refused
