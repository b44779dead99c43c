-- Behind what was written stands the text; both hold the lines of the items so far.
use Rattle.std.proofs.Common.{◌≡◌, take, flat_map, IfSome}
use Rattle.mrt_events.specs.Event.{item_value}
use Rattle.bgpdump_lines.specs.Heading.{EndsInLineUnder, line_under_heading}
use Rattle.bgpdump_lines.specs.WrittenSoFar.{PutsThroughBuffer}
use Rattle.bgpdump_lines.proofs.write.buffer_each_item_line.Given as goal

abbrev pub invariant-items : goal.invariant-items
invariant-items g l = record {
  passed : PutsThroughBuffer (g.O.Output.written l.initial.out) (g.O.Output.written l.out) l.initial.text l.text
      (flat_map (λ item. line_under_heading l.heading (item_value item)) (take l.item-index l.items));
  last : IfSome l.last (λ line. EndsInLineUnder l.heading line l.text);
  failed : g.O.Output.failed l.out ≡ g.O.Output.failed l.initial.out;
}
