-- Behind what was written stands what the text has behind the line that is kept; both hold the lines of the items so far.
use Rattle.std.proofs.Common.{◌≡◌, ◌≤◌, [], take, drop, length, flat_map}
use Rattle.mrt_events.specs.Event.{item_value}
use Rattle.bgpdump_lines.specs.Heading.{EndsInLineOfRoute, line_under_heading}
use Rattle.bgpdump_lines.specs.WrittenSoFar.{PutsThroughBuffer}
use Rattle.bgpdump_lines.proofs.write.write_remaining_prefixes.Given as goal

abbrev pub invariant-items : goal.invariant-items
invariant-items g l = record {
  passed : PutsThroughBuffer (g.O.Output.written l.initial.out) (g.O.Output.written l.out) [] (drop l.end l.text)
      (flat_map (λ item. line_under_heading l.heading (item_value item)) (take l.item-index l.items));
  within : l.end ≤ length l.text;
  kept : EndsInLineOfRoute l.heading l.first.peer.now l.first.route.now l.template (take l.end l.text);
  last : EndsInLineOfRoute l.heading l.first.peer.now l.first.route.now l.last l.text;
  failed : g.O.Output.failed l.out ≡ g.O.Output.failed l.initial.out;
}
