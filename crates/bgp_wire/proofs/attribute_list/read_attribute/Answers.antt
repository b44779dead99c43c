use Rattle.std.proofs.Common.{◌≡◌, ℕ, List, Some, Result, Ok, Err, IsErrAnd, IfErr, ap, sym, subst, ◌∙◌}
use Rattle.ip_prefix.specs.Sequences.{SpellsAll}
use Rattle.bgp_paths.specs.declared.fault.WireFault.{WireFault}
use Rattle.bgp_paths.specs.declared.fault.WireFault.TheVariants.{Malformed}
use Rattle.bgp_paths.specs.declared.numbers.AsWidth.{AsWidth}
use Rattle.bgp_paths.specs.Path.{SpellsU32}
use Rattle.bgp_wire.specs.declared.attrs.Attrs.{Attrs}
use Rattle.bgp_wire.specs.declared.framing.TheConstants.{AGGREGATOR}
use Rattle.bgp_wire.specs.PlainValues.{AreUnmergedAttrsOf}
use Rattle.bgp_wire.specs.Content.{FirstValues}
use Rattle.bgp_paths.specs.Readers.{ParsesTo, Refuses}
use Rattle.bgp_wire.specs.Attribute.{octets_or_empty, SpellsAggregator}
use Rattle.bgp_paths.proofs.Refusing.{refused_part, refused_always}
use Rattle.bgp_wire.proofs.There.{spelled_there}
use Rattle.bgp_wire.proofs.attribute_list.read_attribute.Goals as goal

-- where the value of a type is refused, so are all lists that have it first
refused_value : {A R : Type 0} (Spells : A → List ℕ → Type 0) (width : AsWidth) (kind : ℕ) (value : List ℕ) (fault : WireFault) (answer : Result R WireFault) → IsErrAnd answer (λ y. y ≡ fault)
    → ((first : FirstValues) → first kind ≡ Some value → (attrs : Attrs) → AreUnmergedAttrsOf width attrs first → (a : A) × Spells a value) → Refuses Spells value fault
    → IfErr answer (λ fault. (first : FirstValues) → first kind ≡ Some value → Refuses (AreUnmergedAttrsOf width) first fault)
refused_value Spells width kind value fault (Ok done) p has none = tt
refused_value Spells width kind value fault (Err y) p has none = λ first e. refused_part (AreUnmergedAttrsOf width) Spells first value y (has first e) (subst (Refuses Spells value) (sym p) none)

pub returns-in_err-set_or_fail-in-7-clause-refused : goal.returns-in_err-set_or_fail-in-7-clause-refused
returns-in_err-set_or_fail-in-7-clause-refused c =
    let value = c.args.framed.value.now in
    let passed = c.from_residual-in_err-set_or_fail-in-7 in
    refused_value SpellsAggregator c.args.width c.args.framed.kind value Malformed passed.result passed.ensures.1
    (λ first e attrs s. spelled_there SpellsAggregator attrs.aggregator (first AGGREGATOR) value s.aggregator (ap first (sym c.in-7.is) ∙ e))
    (refused_always SpellsAggregator value Malformed (subst (ParsesTo SpellsAggregator value) c.in_err-set_or_fail-in-7.ensures.none c.read_aggregator.ensures))

pub returns-in_err-fill_numbers-in-8-clause-refused : goal.returns-in_err-fill_numbers-in-8-clause-refused
returns-in_err-fill_numbers-in-8-clause-refused c =
    let value = c.args.framed.value.now in
    let passed = c.from_residual-in_err-fill_numbers-in-8 in
    refused_value (SpellsAll SpellsU32) c.args.width c.args.framed.kind value c.in_err-fill_numbers-in-8.field-0.0 passed.result passed.ensures.1
    (λ first e attrs s. (attrs.communities, subst (λ octets. SpellsAll SpellsU32 attrs.communities (octets_or_empty octets)) (ap first (sym c.in-8.is) ∙ e) s.communities))
    c.in_err-fill_numbers-in-8.ensures.refused
