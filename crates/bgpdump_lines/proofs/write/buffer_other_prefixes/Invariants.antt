-- The text has the lines of the items so far, and ends in the last of them.
use Rattle.std.proofs.Common.{◌≡◌, ◌++◌, take, length, flat_map}
use Rattle.mrt_events.specs.Event.{item_value}
use Rattle.bgpdump_lines.specs.Heading.{EndsInLineOfRoute, line_under_heading}
use Rattle.bgpdump_lines.proofs.write.buffer_other_prefixes.Given as goal

abbrev pub invariant-items : goal.invariant-items
invariant-items g l = record {
  text : l.text ≡ l.initial.text ++ flat_map (λ item. line_under_heading l.heading (item_value item)) (take l.place l.items);
  last : EndsInLineOfRoute l.heading l.first.peer.now l.first.route.now l.offsets l.text;
  end : l.place-end ≡ length l.items;
  out : l.out ≡ l.initial.out;
}
