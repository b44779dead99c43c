use Rattle.std.proofs.Common.{Err, IfErr, ap, sym, subst, ◌∙◌}
use Rattle.std.proofs.lemmas.Result.{err_from_is_err_and}
use Rattle.ip_prefix.specs.Sequences.{SpellsAll}
use Rattle.bgp_paths.specs.Path.{SpellsSegment}
use Rattle.bgp_paths.specs.Readers.{Refuses}
use Rattle.bgp_paths.proofs.Refusing.{only_filled, only_refused}
use Rattle.bgp_paths.proofs.path_reader.refill_segments.Goals as goal

pub returns-in_err-fill_segment-clause-refused : goal.returns-in_err-fill_segment-clause-refused
returns-in_err-fill_segment-clause-refused c =
    let width = c.args.width in
    let octets = c.args.octets.now in
    let f = c.in-Some.framed in
    let fault = c.in_err-fill_segment.field-0.0 in
    let p = err_from_is_err_and c.from_residual.result c.from_residual.ensures.1 in
    subst (λ answer. IfErr answer (Refuses (SpellsAll (SpellsSegment width)) octets)) (sym (p.1 ∙ ap Err p.2))
    (only_refused width f.kind f.body.now octets fault c.in-Some.ensures c.in_err-fill_segment.ensures.refused)

pub returns-clause-filled : goal.returns-clause-filled
returns-clause-filled c =
    let f = c.in-Some.framed in
    only_filled c.args.width f.kind f.body.now c.args.octets.now c.fill_segment.new.segment c.in-Some.ensures c.in_ok-fill_segment.ensures.kind c.in_ok-fill_segment.ensures.filled
