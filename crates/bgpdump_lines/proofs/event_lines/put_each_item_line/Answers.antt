use Rattle.std.proofs.Common.{◌++◌, ◌∙◌, ap, append_assoc, take, flat_map}
use Rattle.std.proofs.lemmas.Result.{err_from_is_err_and}
use Rattle.mrt_events.specs.Event.{item_value}
use Rattle.bgpdump_lines.specs.Heading.{line_under_heading}
use Rattle.bgpdump_lines.proofs.LineLaws.{lines_of_all}
use Rattle.bgpdump_lines.proofs.event_lines.put_each_item_line.Goals as goal

pub returns : goal.returns
returns c =
    (lines_of_all (line_under_heading c.args.heading.now) c.args.items.now c.items.item-index c.args.text.now c.items.text c.items.invariant.0 c.items-test.false, tt)

pub returns-in_err-last : goal.returns-in_err-last
returns-in_err-last c =
    let line = line_under_heading c.args.heading.now in
    let so_far = flat_map (λ item. line (item_value item)) (take c.items.item-index c.args.items.now) in
    let more = c.in_err-last.ensures.printed.1.0 in
    let p = err_from_is_err_and c.from_residual.result c.from_residual.ensures.1 in
    rw p.1 (
      tt,
      (so_far ++ more, c.in_err-last.ensures.printed.1.1 ∙ ap (λ l. l ++ more) c.items.invariant.0 ∙ append_assoc c.args.text.now so_far more),
    )
