use Rattle.std.proofs.Common.{◌++◌, [], map, drop, length-drop, subst, arith, take_all, flat_map}
use Rattle.std.proofs.lemmas.Result.{err_from_is_err_and}
use Rattle.std.specs.Io.KnownBytes.{Appends}
use Rattle.mrt_events.specs.Event.{item_value}
use Rattle.bgpdump_lines.specs.Heading.{line_under_heading}
use Rattle.bgpdump_lines.specs.Lines.{event_lines}
use Rattle.bgpdump_lines.specs.Run.{AppendsPrefix}
use Rattle.bgpdump_lines.specs.WrittenSoFar.{PutsThroughBuffer}
use Rattle.bgpdump_lines.proofs.LineLaws.{lines-three}
use Rattle.mrt_events.proofs.SharedLaws.{said_range}
use Rattle.bgpdump_lines.proofs.WritingLaws.{AppendsPrefix-first, PutsThroughBuffer-one-stops, PutsThroughBuffer-two-stops, PutsThroughBuffer-three, PutsThroughBuffer-end, PutsThroughBuffer-end-stops}
use Rattle.bgpdump_lines.proofs.write.write_event_lines.Given.{Over}
use Rattle.bgpdump_lines.proofs.write.write_event_lines.Goals as goal
use Rattle.bgpdump_lines.proofs.write.write_event_lines.Goals.{In_ok-buffer_item_lines-2}

pub buffer_shared_route_lines-requires : goal.buffer_shared_route_lines-requires
buffer_shared_route_lines-requires g c =
    said_range c.as_slice-items.result.now _ c.longest_shared_range-shared.result.start _ c.as_slice-items.ensures c.longest_shared_range-shared.ensures.alike

pub returns-in_err-buffer_item_lines-clause-text : goal.returns-in_err-buffer_item_lines-clause-text
returns-in_err-buffer_item_lines-clause-text g c =
    let line = line_under_heading c.of-heading.result in
    let items = c.as_slice-items.result.now in
    let three = lines-three c.args.event.now line items c.longest_shared_range-shared.result.start c.longest_shared_range-shared.result.end c.of-heading.ensures.line c.longest_shared_range-shared.ensures.ordered c.as_slice-items.ensures in
    let fresh = subst (λ t. AppendsPrefix (g.O.Output.written c.args.out.now) (g.O.Output.written c.buffer_item_lines.new.out) (t ++ event_lines c.args.event.now)) c.clear.ensures in
    let p = err_from_is_err_and c.from_residual.result c.from_residual.ensures.1 in
    rw p.1 (fresh (AppendsPrefix-first _ _ c.clear.new.self _ _ _ three c.in_err-buffer_item_lines.ensures.text))

pub returns-in_err-buffer_shared_route_lines-clause-text : goal.returns-in_err-buffer_shared_route_lines-clause-text
returns-in_err-buffer_shared_route_lines-clause-text g c =
    let line = line_under_heading c.of-heading.result in
    let items = c.as_slice-items.result.now in
    let three = lines-three c.args.event.now line items c.longest_shared_range-shared.result.start c.longest_shared_range-shared.result.end c.of-heading.ensures.line c.longest_shared_range-shared.ensures.ordered c.as_slice-items.ensures in
    let fresh = subst (λ t. AppendsPrefix (g.O.Output.written c.args.out.now) (g.O.Output.written c.buffer_shared_route_lines.new.out) (t ++ event_lines c.args.event.now)) c.clear.ensures in
    let p = err_from_is_err_and c.from_residual-in_err-buffer_shared_route_lines.result c.from_residual-in_err-buffer_shared_route_lines.ensures.1 in
    rw p.1 (fresh (PutsThroughBuffer-one-stops _ _ _ c.clear.new.self c.buffer_item_lines.new.text _ _ _ _ three c.in_ok-buffer_item_lines.ensures.text c.in_err-buffer_shared_route_lines.ensures.text))

pub returns-in_err-buffer_item_lines-2-clause-text : goal.returns-in_err-buffer_item_lines-2-clause-text
returns-in_err-buffer_item_lines-2-clause-text g c =
    let line = line_under_heading c.of-heading.result in
    let items = c.as_slice-items.result.now in
    let end = c.longest_shared_range-shared.result.end in
    let m = g.O.Output.written c.buffer_shared_route_lines.new.out in
    let d = g.O.Output.written c.buffer_item_lines-2.new.out in
    let y = c.buffer_shared_route_lines.new.text in
    let three = lines-three c.args.event.now line items c.longest_shared_range-shared.result.start end c.of-heading.ensures.line c.longest_shared_range-shared.ensures.ordered c.as_slice-items.ensures in
    let all = take_all _ (drop end items) (omega (arith, length-drop end items)) in
    let put = subst (λ l. AppendsPrefix m d (y ++ flat_map line (map item_value l))) all c.in_err-buffer_item_lines-2.ensures.text in
    let fresh = subst (λ t. AppendsPrefix (g.O.Output.written c.args.out.now) (g.O.Output.written c.buffer_item_lines-2.new.out) (t ++ event_lines c.args.event.now)) c.clear.ensures in
    let p = err_from_is_err_and c.from_residual-in_err-buffer_item_lines-2.result c.from_residual-in_err-buffer_item_lines-2.ensures.1 in
    rw p.1 (fresh (PutsThroughBuffer-two-stops _ _ m d c.clear.new.self c.buffer_item_lines.new.text y _ _ _ _ three c.in_ok-buffer_item_lines.ensures.text c.in_ok-buffer_shared_route_lines.ensures.text put))

-- behind what was written stands a text, and both hold all lines
passed : (g : Over) (c : In_ok-buffer_item_lines-2 g) → PutsThroughBuffer (g.O.Output.written c.args.out.now) (g.O.Output.written c.buffer_item_lines-2.new.out) [] c.buffer_item_lines-2.new.text (event_lines c.args.event.now)
passed g c =
    let line = line_under_heading c.of-heading.result in
    let items = c.as_slice-items.result.now in
    let end = c.longest_shared_range-shared.result.end in
    let m = g.O.Output.written c.buffer_shared_route_lines.new.out in
    let d = g.O.Output.written c.buffer_item_lines-2.new.out in
    let y = c.buffer_shared_route_lines.new.text in
    let three = lines-three c.args.event.now line items c.longest_shared_range-shared.result.start end c.of-heading.ensures.line c.longest_shared_range-shared.ensures.ordered c.as_slice-items.ensures in
    let all = take_all _ (drop end items) (omega (arith, length-drop end items)) in
    let put = subst (λ l. PutsThroughBuffer m d y c.buffer_item_lines-2.new.text (flat_map line (map item_value l))) all c.in_ok-buffer_item_lines-2.ensures.text in
    subst (λ t. PutsThroughBuffer (g.O.Output.written c.args.out.now) d t c.buffer_item_lines-2.new.text (event_lines c.args.event.now)) c.clear.ensures
    (PutsThroughBuffer-three _ _ m d c.clear.new.self c.buffer_item_lines.new.text y c.buffer_item_lines-2.new.text _ _ _ _ three c.in_ok-buffer_item_lines.ensures.text c.in_ok-buffer_shared_route_lines.ensures.text put)

pub returns-in_err-put_all-clause-text : goal.returns-in_err-put_all-clause-text
returns-in_err-put_all-clause-text g c =
    let p = err_from_is_err_and c.from_residual-in_err-put_all.result c.from_residual-in_err-put_all.ensures.1 in
    rw p.1 (PutsThroughBuffer-end-stops _ _ _ _ _ (passed g (goal.at.returns-in_err-put_all-clause-text g c).In_ok-buffer_item_lines-2) (subst (AppendsPrefix _ _) c.as_slice.ensures c.in_err-put_all.ensures.front))

pub returns-clause-text : goal.returns-clause-text
returns-clause-text g c =
    PutsThroughBuffer-end _ _ _ _ _ (passed g (goal.at.returns-clause-text g c).In_ok-buffer_item_lines-2) (subst (Appends _ _) c.as_slice.ensures c.in_ok-put_all.ensures.all)
