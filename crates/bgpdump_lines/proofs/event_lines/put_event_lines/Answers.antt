use Rattle.std.proofs.Common.{◌++◌, ◌∙◌, ap, map, drop, length-drop, arith, take_all, flat_map}
use Rattle.mrt_events.specs.Event.{item_value}
use Rattle.bgpdump_lines.specs.Heading.{line_under_heading}
use Rattle.bgpdump_lines.proofs.LineLaws.{lines-parts}
use Rattle.mrt_events.proofs.SharedLaws.{said_range}
use Rattle.bgpdump_lines.proofs.event_lines.put_event_lines.Goals as goal

pub put_shared_route_lines-requires : goal.put_shared_route_lines-requires
put_shared_route_lines-requires c =
    said_range c.as_slice-items.result.now _ c.longest_shared_range-shared.result.start _ c.as_slice-items.ensures c.longest_shared_range-shared.ensures.alike

pub returns : goal.returns
returns c = (
  let line = line_under_heading c.of-heading.result in
      lines-parts line c.as_slice-items.result.now c.longest_shared_range-shared.result.start c.longest_shared_range-shared.result.end _ _ _ _
      c.longest_shared_range-shared.ensures.ordered c.in_ok-put_item_lines.ensures.0 c.in_ok-put_shared_route_lines.ensures.0
      (c.in_ok-put_item_lines-2.ensures.0 ∙ ap (λ l. c.put_shared_route_lines.new.text ++ flat_map line (map item_value l)) (take_all _ (drop c.longest_shared_range-shared.result.end c.as_slice-items.result.now) (omega (arith, length-drop c.longest_shared_range-shared.result.end c.as_slice-items.result.now))))
      ∙ (λ i. c.args.text.now ++ flat_map (c.of-heading.ensures.line i) (c.as_slice-items.ensures i)),
  tt,
)
