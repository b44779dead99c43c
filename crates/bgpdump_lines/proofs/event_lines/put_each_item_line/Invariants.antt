-- The lines of the items so far, the last of which the text ends in where it is remembered.
use Rattle.std.proofs.Common.{◌≡◌, ◌++◌, take, flat_map, IfSome}
use Rattle.mrt_events.specs.Event.{item_value}
use Rattle.bgpdump_lines.specs.Heading.{EndsInLineUnder, line_under_heading}
use Rattle.bgpdump_lines.proofs.event_lines.put_each_item_line.Given as goal

abbrev pub invariant-items : goal.invariant-items
invariant-items l =
    (l.text ≡ l.initial.text ++ flat_map (λ item. line_under_heading l.heading (item_value item)) (take l.item-index l.items))
    × IfSome l.last (λ line. EndsInLineUnder l.heading line l.text)
