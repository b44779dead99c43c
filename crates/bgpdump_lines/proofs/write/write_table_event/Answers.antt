use Rattle.std.proofs.Common.{◌≡◌, [], ◌++◌, map, subst, flat_map}
use Rattle.std.proofs.lemmas.Result.{err_from_is_err_and}
use Rattle.std.specs.Io.KnownBytes.{Appends}
use Rattle.mrt_events.specs.Event.{item_value}
use Rattle.bgpdump_lines.specs.Heading.{lines_under_heading}
use Rattle.bgpdump_lines.specs.Lines.{event_lines}
use Rattle.bgpdump_lines.specs.Run.{AppendsPrefix}
use Rattle.bgpdump_lines.specs.WrittenSoFar.{PutsThroughBuffer}
use Rattle.bgpdump_lines.proofs.WritingLaws.{PutsThroughBuffer-end, PutsThroughBuffer-end-stops}
use Rattle.bgpdump_lines.proofs.write.write_table_event.Given.{Over}
use Rattle.bgpdump_lines.proofs.write.write_table_event.Goals as goal
use Rattle.bgpdump_lines.proofs.write.write_table_event.Goals.{In_ok-buffer_table_items}

pub returns-in_err-buffer_table_items-clause-text : goal.returns-in_err-buffer_table_items-clause-text
returns-in_err-buffer_table_items-clause-text g c =
    let lines : lines_under_heading c.of-heading.result (map item_value c.as_slice-items.result.now) ≡ event_lines c.args.event.now = λ i. flat_map (c.of-heading.ensures.line i) (c.as_slice-items.ensures i) in
    let p = err_from_is_err_and c.from_residual.result c.from_residual.ensures.1 in
    rw p.1 (subst (AppendsPrefix (g.O.Output.written c.args.out.now) (g.O.Output.written c.buffer_table_items.new.out)) (λ i. c.clear.ensures i ++ lines i) c.in_err-buffer_table_items.ensures.text)

-- behind what was written stands a text, and both hold all lines
passed : (g : Over) (c : In_ok-buffer_table_items g) → PutsThroughBuffer (g.O.Output.written c.args.out.now) (g.O.Output.written c.buffer_table_items.new.out) [] c.buffer_table_items.new.text (event_lines c.args.event.now)
passed g c =
    let lines : lines_under_heading c.of-heading.result (map item_value c.as_slice-items.result.now) ≡ event_lines c.args.event.now = λ i. flat_map (c.of-heading.ensures.line i) (c.as_slice-items.ensures i) in
    subst (λ t. PutsThroughBuffer (g.O.Output.written c.args.out.now) (g.O.Output.written c.buffer_table_items.new.out) t c.buffer_table_items.new.text (event_lines c.args.event.now)) c.clear.ensures
    (subst (PutsThroughBuffer (g.O.Output.written c.args.out.now) (g.O.Output.written c.buffer_table_items.new.out) c.clear.new.self c.buffer_table_items.new.text) lines c.in_ok-buffer_table_items.ensures.text)

pub returns-in_err-put_all-clause-text : goal.returns-in_err-put_all-clause-text
returns-in_err-put_all-clause-text g c =
    let b = (goal.at.returns-in_err-put_all-clause-text g c).In_ok-buffer_table_items in
    let p = err_from_is_err_and c.from_residual-in_err-put_all.result c.from_residual-in_err-put_all.ensures.1 in
    rw p.1 (PutsThroughBuffer-end-stops _ _ _ c.buffer_table_items.new.text _ (passed g b) (subst (AppendsPrefix _ _) c.as_slice.ensures c.in_err-put_all.ensures.front))

pub returns-clause-text : goal.returns-clause-text
returns-clause-text g c =
    let b = (goal.at.returns-clause-text g c).In_ok-buffer_table_items in
    PutsThroughBuffer-end _ _ _ c.buffer_table_items.new.text _ (passed g b) (subst (Appends _ _) c.as_slice.ensures c.in_ok-put_all.ensures.all)
