use Rattle.std.proofs.Common.{[], ◌++◌, ◌∙◌, ap, refl, subst, rules}
use Rattle.std.proofs.lemmas.Result.{err_from_is_err_and}
use Rattle.mrt_events.specs.Event.{item_value}
use Rattle.bgpdump_lines.specs.Heading.{line_under_heading}
use Rattle.bgpdump_lines.specs.Run.{AppendsPrefix}
use Rattle.bgpdump_lines.specs.WrittenSoFar.{PutsThroughBuffer}
use Rattle.bgpdump_lines.proofs.LineLaws.{lines_of_all, lines-sayings}
use Rattle.bgpdump_lines.proofs.WritingLaws.{AppendsPrefix-passed, PutsThroughBuffer-items, PutsThroughBuffer-next}
use Rattle.bgpdump_lines.proofs.write.buffer_table_items.Goals as goal

pub returns-in_err-write_if_long-clause-text : goal.returns-in_err-write_if_long-clause-text
returns-in_err-write_if_long-clause-text g c =
    let line = line_under_heading c.args.heading.now in
    let items = c.args.items.now in
    let a = g.O.Output.written c.args.out.now in
    let d = g.O.Output.written c.write_if_long.new.out in
    let p = err_from_is_err_and c.from_residual.result c.from_residual.ensures.1 in
    rw p.1 (subst (λ l. AppendsPrefix a d (c.args.text.now ++ l)) (lines-sayings line items)
    (PutsThroughBuffer-items (λ i. line (item_value i)) items c.items.item-index a _ d c.args.text.now c.items.text c.items.invariant.passed c.in_err-write_if_long.ensures.text))

pub returns-in_err-last-clause-text : goal.returns-in_err-last-clause-text
returns-in_err-last-clause-text g c =
    let line = line_under_heading c.args.heading.now in
    let items = c.args.items.now in
    let mid = c.items.text in
    let a = g.O.Output.written c.args.out.now in
    let d = g.O.Output.written c.write_if_long.new.out in
    let p = err_from_is_err_and c.from_residual-in_err-last.result c.from_residual-in_err-last.ensures.1 in
    rw p.1 (subst (λ l. AppendsPrefix a d (c.args.text.now ++ l)) (lines-sayings line items)
    (PutsThroughBuffer-items (λ i. line (item_value i)) items c.items.item-index a _ d c.args.text.now mid c.items.invariant.passed (AppendsPrefix-passed _ _ mid c.write_if_long.new.text [] c.in_ok-write_if_long.ensures.text)))

pub items-preserved : goal.items-preserved
items-preserved g c =
    let line = line_under_heading c.args.heading.now in
    let after = c.write_if_long.new.text in
    record {
      passed = PutsThroughBuffer-next (λ i. line (item_value i)) c.args.items.now c.items.item-index c.item-item.result _ _ _ c.args.text.now c.items.text after _ c.items-test.true
          c.items.invariant.passed c.in_ok-write_if_long.ensures.text (c.in_ok-last.ensures.printed.0 ∙ ap (λ i. after ++ line (item_value i)) c.item-item.is);
      last = c.in_ok-last.ensures.last;
      failed = search rules;
    }

pub returns-clause-text : goal.returns-clause-text
returns-clause-text g c =
    subst (PutsThroughBuffer (g.O.Output.written c.args.out.now) (g.O.Output.written c.items.out) c.args.text.now c.items.text)
    (lines_of_all (line_under_heading c.args.heading.now) c.args.items.now c.items.item-index [] _ refl c.items-test.false) c.items.invariant.passed
