use Rattle.std.proofs.Common.{◌≡◌, ℕ, List, [], ◌∷◌, ◌++◌, Some, None, Err, IfErr, ap, sym, subst, ◌∙◌, refl}
use Rattle.std.proofs.lemmas.Result.{err_from_is_err_and}
use Rattle.ip_prefix.specs.Sequences.{Begins, SpellsAll}
use Rattle.octet_forms.proofs.Lists.{nonempty, no_elements}
use Rattle.octet_forms.proofs.Sequences.{one_more, none_at_all, goes_on, all_read}
use Rattle.bgp_paths.specs.declared.fault.WireFault.{WireFault}
use Rattle.bgp_paths.specs.declared.fault.WireFault.TheVariants.{Malformed, Memory}
use Rattle.bgp_paths.specs.declared.numbers.AsWidth.{AsWidth}
use Rattle.bgp_wire.specs.Attribute.{Attribute, SpellsAttribute, first_value}
use Rattle.bgp_wire.specs.PlainValues.{with_value, ReadSoFar, AreUnmergedAttrsOf, SpellsUnmergedAttrs}
use Rattle.bgp_wire.specs.Content.{FirstValues, first_values}
use Rattle.bgp_paths.specs.Readers.{Refuses}
use Rattle.bgp_wire.proofs.Noting.{first_values-more, later_value, first_of_type, first_value-front}
use Rattle.bgp_wire.proofs.OneAttribute.{attribute_code}
use Rattle.bgp_wire.proofs.attribute_list.read_attribute_list.Goals as goal
use Rattle.bgp_wire.proofs.attribute_list.read_attribute_list.Goals.{then-not-test_and_set+in_ok-read_attribute, else-not-test_and_set}

pub returns-in_default-clause-refused : goal.returns-in_default-clause-refused
returns-in_default-clause-refused c attrs s =
    let rest = c.loop-rest.rest.now in
    let done = c.loop-rest.invariant in
    let some : rest ≡ [] → ⊥ = λ e. nonempty rest (sym c.is_empty.ensures ∙ c.loop-rest-test.true) e in
    none_at_all SpellsAttribute attribute_code done.0 rest c.args.sent.octets.now some done.1 c.in_default.ensures.none s.list s.spelled

-- where the first value of a type is refused, so is the whole list
refused_list : (width : AsWidth) (octets : List ℕ) (read : List Attribute) (rest : List ℕ) (kind : ℕ) (value : List ℕ) (fault : WireFault)
    → Begins (SpellsAll SpellsAttribute) read rest octets → first_value kind read ≡ Some value
    → ((first : FirstValues) → first kind ≡ Some value → Refuses (AreUnmergedAttrsOf width) first fault) → Refuses (SpellsUnmergedAttrs width) octets fault
refused_list width octets read rest kind value Malformed b e none = λ attrs s.
    let on = goes_on SpellsAttribute attribute_code read s.list rest octets b s.spelled in
    none (first_values s.list) (ap (first_value kind) on.1 ∙ first_value-front kind read on.0 value e) attrs s.said
refused_list width octets read rest kind value Memory b e none = tt

pub returns-in_err-read_attribute-clause-refused : goal.returns-in_err-read_attribute-clause-refused
returns-in_err-read_attribute-clause-refused c =
    let width = c.args.sent.width in
    let octets = c.args.sent.octets.now in
    let done = c.loop-rest.invariant in
    let f = c.in-Some.framed in
    let front = c.in-Some.ensures.some in
    let next : Attribute = record { flags = front.0; kind = f.kind; value = f.value.now } in
    let read = one_more SpellsAttribute done.0 next f.rest.now c.loop-rest.rest.now octets done.1 front.1 in
    let none : first_value f.kind done.0 ≡ None = c.test_and_set.ensures.first done.0 done.3 c.if-not-test_and_set.true c.in_err-read_attribute.ensures.known in
    let first : first_value f.kind (done.0 ++ next ∷ []) ≡ Some f.value.now =
    ap (λ g. g f.kind) (first_values-more done.0 next) ∙ first_of_type f.kind f.value.now (first_values done.0) none in
    let fault = c.in_err-read_attribute.field-0.0 in
    let p = err_from_is_err_and c.from_residual.result c.from_residual.ensures.1 in
    subst (λ answer. IfErr answer (Refuses (SpellsUnmergedAttrs width) octets)) (sym (p.1 ∙ ap Err p.2))
    (refused_list width octets (done.0 ++ next ∷ []) f.rest.now f.kind f.value.now fault read first c.in_err-read_attribute.ensures.refused)

pub loop-rest-preserved : goal.loop-rest-preserved
loop-rest-preserved c =
    let width = c.args.sent.width in
    let done = c.loop-rest.invariant in
    let f = c.in-Some.framed in
    let front = c.in-Some.ensures.some in
    let next : Attribute = record { flags = front.0; kind = f.kind; value = f.value.now } in
    let now : ReadSoFar width c.if-not-test_and_set.attrs c.if-not-test_and_set.later (with_value f.kind f.value.now (first_values done.0)) =
    elim c.if-not-test_and_set.branch [
      | then-not-test_and_set+in_ok-read_attribute w ↦
          subst (λ a. ReadSoFar width a c.if-not-test_and_set.later (with_value f.kind f.value.now (first_values done.0))) (sym w.attrs-is)
          (subst (λ l. ReadSoFar width w.read_attribute.new.attrs l (with_value f.kind f.value.now (first_values done.0))) (sym w.later-is)
          (w.in_ok-read_attribute.ensures.read (first_values done.0) (λ within. c.test_and_set.ensures.first done.0 done.3 w.if-not-test_and_set.true within) done.2))
      | else-not-test_and_set w ↦
          subst (λ a. ReadSoFar width a c.if-not-test_and_set.later (with_value f.kind f.value.now (first_values done.0))) (sym w.attrs-is)
          (subst (λ l. ReadSoFar width c.loop-rest.attrs l (with_value f.kind f.value.now (first_values done.0))) (sym w.later-is)
          (subst (ReadSoFar width c.loop-rest.attrs c.loop-rest.later) (sym (later_value f.kind f.value.now (first_values done.0) (c.test_and_set.ensures.later done.0 done.3 w.if-not-test_and_set.false))) done.2))
    ] in (
      done.0 ++ next ∷ [],
      one_more SpellsAttribute done.0 next f.rest.now c.loop-rest.rest.now c.args.sent.octets.now done.1 front.1,
      subst (ReadSoFar width c.if-not-test_and_set.attrs c.if-not-test_and_set.later) (sym (first_values-more done.0 next)) now,
      c.test_and_set.ensures.noted done.0 next refl done.3,
    )

pub returns-clause-read : goal.returns-clause-read
returns-clause-read c =
    let done = c.loop-rest.invariant in
    let rest = c.loop-rest.rest.now in
    let nothing = no_elements rest (sym c.loop-rest-test.ensures) in
    record {
      list = done.0;
      spelled = all_read SpellsAttribute done.0 rest c.args.sent.octets.now done.1 nothing;
      said = c.clear_absent_lists.ensures c.args.sent.width c.loop-rest.later done.0 done.3 done.2;
      values = done.2.kept;
      seen = done.3;
    }
