use Rattle.std.proofs.Common.{◌≡◌, ℕ, ◌+◌, [], ◌∷◌, ◌++◌, Err, IfErr, take, slice_set, ap, sym, subst, ◌∙◌, arith}
use Rattle.std.proofs.lemmas.Grind.{common_steps}
use Rattle.std.proofs.lemmas.Result.{err_from_is_err_and}
use Rattle.ip_prefix.specs.Sequences.{Begins, SpellsAll}
use Rattle.octet_forms.proofs.Lists.{nonempty}
use Rattle.octet_forms.proofs.Sequences.{one_more, none_at_all}
use Rattle.bgp_paths.specs.declared.segment.Segment.{Segment}
use Rattle.bgp_paths.specs.Path.{SpellsSegment}
use Rattle.bgp_paths.specs.Readers.{IsSplitSegment, Refuses}
use Rattle.bgp_paths.proofs.HasOneFront.{segment_code}
use Rattle.bgp_paths.proofs.Refusing.{refused_rest, refused_numbers, segment_filled}
use Rattle.bgp_paths.proofs.path_reader.replace_segments.Goals as goal

pub returns-in_default-clause-refused : goal.returns-in_default-clause-refused
returns-in_default-clause-refused c =
    let width = c.args.width in
    let rest = c.loop-rest.rest.now in
    let some : rest ≡ [] → ⊥ = λ e. nonempty rest (sym c.is_empty.ensures ∙ c.loop-rest-test.true) e in
    none_at_all (SpellsSegment width) (segment_code width) (take c.loop-rest.count c.loop-rest.list.items) rest c.args.octets.now some c.loop-rest.invariant.read c.in_default.ensures.none

pub returns-in_err-fill_segment-clause-refused : goal.returns-in_err-fill_segment-clause-refused
returns-in_err-fill_segment-clause-refused c =
    let width = c.args.width in
    let octets = c.args.octets.now in
    let rest = c.loop-rest.rest.now in
    let f = c.in-Some.framed in
    let framed : (count : ℕ) × IsSplitSegment width f.kind count f.body.now f.rest.now rest = c.in-Some.ensures.some in
    let some : rest ≡ [] → ⊥ = λ e. nonempty rest (sym c.is_empty.ensures ∙ c.loop-rest-test.true) e in
    let fault = c.in_err-fill_segment.field-0.0 in
    let none = refused_numbers width f.kind framed.0 f.body.now f.rest.now rest fault framed.1 c.in_err-fill_segment.ensures.refused in
    let p = err_from_is_err_and c.from_residual-in_err-fill_segment.result c.from_residual-in_err-fill_segment.ensures.1 in
    subst (λ answer. IfErr answer (Refuses (SpellsAll (SpellsSegment width)) octets)) (sym (p.1 ∙ ap Err p.2))
    (refused_rest (SpellsSegment width) (segment_code width) (take c.loop-rest.count c.loop-rest.list.items) rest octets fault some c.loop-rest.invariant.read none)

pub loop-rest-preserved : goal.loop-rest-preserved
loop-rest-preserved c =
    let width = c.args.width in
    let octets = c.args.octets.now in
    let f = c.in-Some.framed in
    let count = c.loop-rest.count in
    let framed : (count : ℕ) × IsSplitSegment width f.kind count f.body.now f.rest.now c.loop-rest.rest.now = c.in-Some.ensures.some in
    let segment : Segment = c.fill_segment.new.segment in
    let put : take (count + 1) (slice_set c.if-count-len.list.items count segment) ≡ take count c.loop-rest.list.items ++ segment ∷ [] = grind (arith, common_steps) in
    record {
      within = grind (arith, common_steps);
      read = subst (λ segments. Begins (SpellsAll (SpellsSegment width)) segments f.rest.now octets) (sym put)
          (one_more (SpellsSegment width) (take count c.loop-rest.list.items) segment f.rest.now c.loop-rest.rest.now octets c.loop-rest.invariant.read
          (segment_filled width f.kind framed.0 f.body.now f.rest.now c.loop-rest.rest.now segment framed.1 c.in_ok-fill_segment.ensures.kind c.in_ok-fill_segment.ensures.filled));
    }
