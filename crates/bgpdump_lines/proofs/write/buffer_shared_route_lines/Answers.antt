use Rattle.std.proofs.Common.{[], refl, sym, subst, append-nil, flat_map}
use Rattle.std.proofs.lemmas.Result.{err_from_is_err_and}
use Rattle.mrt_events.specs.Event.{Announced}
use Rattle.bgpdump_lines.specs.Heading.{line_under_heading}
use Rattle.bgpdump_lines.specs.Run.{AppendsPrefix}
use Rattle.bgpdump_lines.specs.WrittenSoFar.{PutsThroughBufferOrFront}
use Rattle.bgpdump_lines.proofs.WritingLaws.{AppendsPrefix-longer, AppendsPrefix-passed, PutsThroughBuffer-printed, PutsThroughBuffer-trans, PutsThroughBufferOrFront-then}
use Rattle.bgpdump_lines.proofs.write.buffer_shared_route_lines.Goals as goal

pub returns-in_err-write_if_long-clause-text : goal.returns-in_err-write_if_long-clause-text
returns-in_err-write_if_long-clause-text g c =
    let p = err_from_is_err_and c.from_residual.result c.from_residual.ensures.1 in
    let a = g.O.Output.written c.args.out.now in
    let b = g.O.Output.written c.write_if_long.new.out in
    rw p.1 (AppendsPrefix-longer a b c.args.text.now _ (subst (AppendsPrefix a b) (append-nil c.args.text.now) c.in_err-write_if_long.ensures.text))

pub returns-in_err-offsets-clause-text : goal.returns-in_err-offsets-clause-text
returns-in_err-offsets-clause-text g c =
    let p = err_from_is_err_and c.from_residual-in_err-offsets.result c.from_residual-in_err-offsets.ensures.1 in
    rw p.1 (AppendsPrefix-passed _ _ c.args.text.now c.write_if_long.new.text _ c.in_ok-write_if_long.ensures.text)

pub returns-clause-text : goal.returns-clause-text
returns-clause-text g c =
    let a = g.O.Output.written c.args.out.now in
    let b = g.O.Output.written c.write_if_long.new.out in
    let d = g.O.Output.written c.buffer_other_prefixes.new.out in
    let mid = c.write_if_long.new.text in
    let line = line_under_heading c.args.heading.now in
    let own = line (Announced c.in-Some.first.peer.now c.in-Some.first.prefix.now c.in-Some.first.route.now) in
    let passed = PutsThroughBuffer-trans a b b c.args.text.now mid c.put_whole_route_line.new.text [] own c.in_ok-write_if_long.ensures.text
    (PutsThroughBuffer-printed b b mid c.put_whole_route_line.new.text own refl c.in_ok-offsets.ensures.printed.0) in
    subst (λ l. PutsThroughBufferOrFront a d c.args.text.now c.buffer_other_prefixes.new.text (flat_map line l) c.buffer_other_prefixes.result) (sym c.in-Some.ensures.first)
    (PutsThroughBufferOrFront-then a b d c.args.text.now c.put_whole_route_line.new.text c.buffer_other_prefixes.new.text own _ c.buffer_other_prefixes.result passed c.buffer_other_prefixes.ensures.text)
