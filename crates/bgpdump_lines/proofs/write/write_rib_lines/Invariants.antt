-- Behind what was written stands the text; both hold the lines of the routes so far.
use Rattle.std.proofs.Common.{◌≡◌, [], take, flat_map, IfSome}
use Rattle.bgpdump_lines.specs.Heading.{EndsInLineUnder}
use Rattle.bgpdump_lines.specs.Lines.{rib_reply_line}
use Rattle.bgpdump_lines.specs.WrittenSoFar.{PutsThroughBuffer}
use Rattle.bgpdump_lines.proofs.write.write_rib_lines.Given as goal

abbrev pub invariant-routes : goal.invariant-routes
invariant-routes g l = record {
  passed : PutsThroughBuffer (g.O.Output.written l.initial.out) (g.O.Output.written l.out) [] l.text
      (flat_map (λ f. rib_reply_line l.peer (f.0, f.1.now.value)) (take l.entry-index l.routes));
  last : IfSome l.last (λ line. EndsInLineUnder l.heading line l.text);
  failed : g.O.Output.failed l.out ≡ g.O.Output.failed l.initial.out;
}
