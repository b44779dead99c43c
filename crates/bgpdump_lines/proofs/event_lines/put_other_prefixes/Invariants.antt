-- The lines of the items so far, the last of which the text ends in.
use Rattle.std.proofs.Common.{◌≡◌, ◌++◌, take, flat_map}
use Rattle.mrt_events.specs.Event.{item_value}
use Rattle.bgpdump_lines.specs.Heading.{EndsInLineOfRoute, line_under_heading}
use Rattle.bgpdump_lines.proofs.event_lines.put_other_prefixes.Given as goal

abbrev pub invariant-items : goal.invariant-items
invariant-items l =
    (l.text ≡ l.initial.text ++ flat_map (λ item. line_under_heading l.heading (item_value item)) (take l.item-index l.items))
    × EndsInLineOfRoute l.heading l.first.peer.now l.first.route.now l.offsets l.text
