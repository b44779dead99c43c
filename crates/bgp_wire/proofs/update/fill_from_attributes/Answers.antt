use Rattle.std.proofs.Common.{◌≡◌, ℕ, true, false, List, ap, sym, subst, ◌∙◌}
use Rattle.octet_forms.proofs.Sequences.{one_list}
use Rattle.bgp_wire.specs.declared.framing.TheConstants.{MP_REACH_NLRI, MP_UNREACH_NLRI}
use Rattle.bgp_wire.specs.Attribute.{Attribute, SpellsAttribute, first_value, repeats}
use Rattle.bgp_wire.specs.PlainValues.{lent_octets, SpellsUnmergedAttrs}
use Rattle.bgp_wire.specs.Parts.{SpellsParts}
use Rattle.bgp_wire.specs.Reach.{SpellsMpReach, SpellsMpUnreach}
use Rattle.bgp_wire.proofs.OneAttribute.{attribute_code}
use Rattle.bgp_wire.proofs.Plainly.{parts_plainly}
use Rattle.bgp_paths.proofs.Refusing.{refused_on}
use Rattle.bgp_wire.proofs.update.fill_from_attributes.Goals as goal
use Rattle.bgp_wire.proofs.update.fill_from_attributes.Goals.{then-was_seen_twice-via-then-was_seen_twice, then-was_seen_twice-via-else-was_seen_twice+then-was_seen_twice-2}

pub returns-in_err-read_attribute_list-clause-refused : goal.returns-in_err-read_attribute_list-clause-refused
returns-in_err-read_attribute_list-clause-refused c =
    let octets = c.args.octets.now in
    let width = c.args.width in
    refused_on (SpellsParts width) (SpellsUnmergedAttrs width) octets octets c.in_err-read_attribute_list.field-0.0 c.from_residual.result c.from_residual.ensures.1 (λ parts s. parts_plainly width parts octets s) c.in_err-read_attribute_list.ensures.refused

-- a type that stands once in a list doesn't repeat there
never_twice : (kind : ℕ) (list other : List Attribute) → list ≡ other → repeats kind list ≡ false → repeats kind other ≡ true → ⊥
never_twice kind list other e once twice = let same : repeats kind list ≡ repeats kind other = ap (repeats kind) e in cc

pub returns-then-was_seen_twice-clause-refused : goal.returns-then-was_seen_twice-clause-refused
returns-then-was_seen_twice-clause-refused c parts s =
    let read = c.in_ok-read_attribute_list.ensures.read in
    let lists = one_list SpellsAttribute attribute_code c.args.octets.now s.list read.list s.spelled read.spelled in
    elim c.then-was_seen_twice.branch [
      | then-was_seen_twice-via-then-was_seen_twice w ↦
          never_twice MP_REACH_NLRI s.list read.list lists s.said.together.reached_once (sym (c.was_seen_twice.ensures read.list read.seen) ∙ w.if-was_seen_twice.true)
      | then-was_seen_twice-via-else-was_seen_twice+then-was_seen_twice-2 w ↦
          never_twice MP_UNREACH_NLRI s.list read.list lists s.said.together.unreached_once (sym (w.was_seen_twice-else-was_seen_twice.ensures read.list read.seen) ∙ w.if-was_seen_twice-2.true)
    ]

pub returns-in_err-fill_mp_reach-clause-refused : goal.returns-in_err-fill_mp_reach-clause-refused
returns-in_err-fill_mp_reach-clause-refused c =
    let octets = c.args.octets.now in
    let Whole = SpellsParts c.args.width in
    let read = c.in_ok-read_attribute_list.ensures.read in
    refused_on Whole SpellsMpReach octets (lent_octets c.read_attribute_list.new.later.reach) c.in_err-fill_mp_reach.field-0.0 c.from_residual-in_err-fill_mp_reach.result c.from_residual-in_err-fill_mp_reach.ensures.1
    (λ parts s. (
      s.said.reach,
      subst (SpellsMpReach s.said.reach)
          (ap (first_value MP_REACH_NLRI) (one_list SpellsAttribute attribute_code octets s.list read.list s.spelled read.spelled) ∙ sym read.values.reach) s.said.together.reached,
    ))
    c.in_err-fill_mp_reach.ensures.refused

pub returns-in_err-fill_mp_unreach-clause-refused : goal.returns-in_err-fill_mp_unreach-clause-refused
returns-in_err-fill_mp_unreach-clause-refused c =
    let octets = c.args.octets.now in
    let Whole = SpellsParts c.args.width in
    let read = c.in_ok-read_attribute_list.ensures.read in
    refused_on Whole SpellsMpUnreach octets (lent_octets c.read_attribute_list.new.later.unreach) c.in_err-fill_mp_unreach.field-0.0 c.from_residual-in_err-fill_mp_unreach.result c.from_residual-in_err-fill_mp_unreach.ensures.1
    (λ parts s. (
      parts.mp_withdrawn,
      subst (SpellsMpUnreach parts.mp_withdrawn)
          (ap (first_value MP_UNREACH_NLRI) (one_list SpellsAttribute attribute_code octets s.list read.list s.spelled read.spelled) ∙ sym read.values.unreach) s.said.together.unreached,
    ))
    c.in_err-fill_mp_unreach.ensures.refused
