use Rattle.std.proofs.Common.{◌≡◌, ℕ, ◌<◌, ◌^◌, ◌++◌, List, length, refl, ap, sym, subst, ◌∙◌}
use Rattle.ip_prefix.specs.declared.addr.Family.TheVariants.{V4}
use Rattle.ip_prefix.specs.Sequences.{SpellsAll}
use Rattle.ip_prefix.specs.Network.{SpellsNetwork}
use Rattle.bgp_wire.specs.Attribute.{SpellsAttribute}
use Rattle.bgp_wire.specs.Parts.{SpellsParts}
use Rattle.bgp_wire.specs.Reach.{reach_hop, reach_prefixes}
use Rattle.bgp_wire.specs.Update.{with_u16_length, IsUpdate, SpellsUpdate}
use Rattle.bgp_paths.proofs.Refusing.{refused_on}
use Rattle.bgp_wire.proofs.Reaching.{same_sized, same_update}
use Rattle.bgp_wire.proofs.update.fill_update.Goals as goal

pub returns-in_default-split_length_prefixed-clause-refused : goal.returns-in_default-split_length_prefixed-clause-refused
returns-in_default-split_length_prefixed-clause-refused c update s =
    let first = c.in-Some.ensures.some in
    c.in_default-split_length_prefixed.ensures.none s.attributes s.announced s.whole.attributes_fit
    (same_sized c.in-Some.withdrawn.now s.withdrawn c.in-Some.rest.now (with_u16_length s.attributes ++ s.announced) first.0 s.whole.withdrawn_fits (sym first.1 ∙ s.whole.whole)).1

-- the parts that were found are those of any UPDATE of the body
found : (withdrawn rest attributes announced body : List ℕ) → (length withdrawn < 2 ^ 16) × (body ≡ with_u16_length withdrawn ++ rest) → (length attributes < 2 ^ 16) × (rest ≡ with_u16_length attributes ++ announced)
    → (others : List ℕ × (List ℕ × List ℕ)) → IsUpdate others.0 others.1.0 others.1.1 body → (others.0 ≡ withdrawn) × (others.1.0 ≡ attributes) × (others.1.1 ≡ announced)
found withdrawn rest attributes announced body first second others s =
    same_update others.0 others.1.0 others.1.1 withdrawn attributes announced body s
    record { withdrawn_fits = first.0; attributes_fit = second.0; whole = first.1 ∙ ap (λ l. with_u16_length withdrawn ++ l) second.1 }

pub returns-in_err-fill_from_attributes-clause-refused : goal.returns-in_err-fill_from_attributes-clause-refused
returns-in_err-fill_from_attributes-clause-refused c =
    let f = c.in-Some-split_length_prefixed in
    let same = found c.in-Some.withdrawn.now c.in-Some.rest.now f.attributes.now f.announced.now c.args.body.now c.in-Some.ensures.some f.ensures.some in
    refused_on (SpellsUpdate c.args.width) (SpellsParts c.args.width) c.args.body.now f.attributes.now c.in_err-fill_from_attributes.field-0.0 c.from_residual.result c.from_residual.ensures.1
    (λ update s. (
      record {
        withdrawn = update.withdrawn;
        mp_withdrawn = update.mp_withdrawn;
        attrs = update.attrs;
        announced = update.announced;
        mp_hop = reach_hop s.said.reach;
        mp_announced = reach_prefixes s.said.reach;
      },
      record {
        list = s.list;
        spelled = subst (SpellsAll SpellsAttribute s.list) (same (s.withdrawn, (s.attributes, s.announced)) s.whole).1 s.spelled;
        said = record { reach = s.said.reach; together = s.said.together; hop = refl; announced = refl };
      },
    ))
    c.in_err-fill_from_attributes.ensures.refused

pub returns-in_err-fill_prefixes-clause-refused : goal.returns-in_err-fill_prefixes-clause-refused
returns-in_err-fill_prefixes-clause-refused c =
    let f = c.in-Some-split_length_prefixed in
    let passed = c.from_residual-in_err-fill_prefixes in
    let same = found c.in-Some.withdrawn.now c.in-Some.rest.now f.attributes.now f.announced.now c.args.body.now c.in-Some.ensures.some f.ensures.some in
    let Spells = SpellsAll (SpellsNetwork V4) in
    refused_on (SpellsUpdate c.args.width) Spells c.args.body.now c.in-Some.withdrawn.now c.in_err-fill_prefixes.field-0.0 passed.result passed.ensures.1
    (λ update s. (update.withdrawn, subst (Spells update.withdrawn) (same (s.withdrawn, (s.attributes, s.announced)) s.whole).0 s.withdrawn_spelled))
    c.in_err-fill_prefixes.ensures.refused

pub returns-in_err-fill_prefixes-2-clause-refused : goal.returns-in_err-fill_prefixes-2-clause-refused
returns-in_err-fill_prefixes-2-clause-refused c =
    let f = c.in-Some-split_length_prefixed in
    let passed = c.from_residual-in_err-fill_prefixes-2 in
    let same = found c.in-Some.withdrawn.now c.in-Some.rest.now f.attributes.now f.announced.now c.args.body.now c.in-Some.ensures.some f.ensures.some in
    let Spells = SpellsAll (SpellsNetwork V4) in
    refused_on (SpellsUpdate c.args.width) Spells c.args.body.now f.announced.now c.in_err-fill_prefixes-2.field-0.0 passed.result passed.ensures.1
    (λ update s. (update.announced, subst (Spells update.announced) (same (s.withdrawn, (s.attributes, s.announced)) s.whole).2 s.announced_spelled))
    c.in_err-fill_prefixes-2.ensures.refused
