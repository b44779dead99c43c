-- The lines of the peers up to this one were written.
use Rattle.std.proofs.Common.{◌≡◌}
use Rattle.bgpdump_tool.specs.Counts.{count_line}
use Rattle.bgpdump_tool.proofs.WalkLaws.{Walked}
use Rattle.bgpdump_tool.proofs.execution.queries.write_peer_counts.Given as goal

abbrev pub invariant-peers : goal.invariant-peers
invariant-peers g l = record {
  walked : Walked count_line l.counts.entries l.peer-iterator (g.O.Output.written l.initial.out) (g.O.Output.written l.out);
  failed : g.O.Output.failed l.out ≡ g.O.Output.failed l.initial.out;
}
