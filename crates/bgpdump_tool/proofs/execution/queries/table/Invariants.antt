-- The lines of the routes up to the last were written and counted.
use Rattle.std.proofs.Common.{◌≡◌, ◌<◌, length, vec_capacity}
use Rattle.std.specs.FinMap as finite
use Rattle.prefix_store.specs.Stored.{saturated_count}
use Rattle.prefix_store.specs.Lookups.{above}
use Rattle.rib_player.specs.Tables.{peer_routes}
use Rattle.bgpdump_lines.specs.Lines.{rib_reply_line}
use Rattle.bgpdump_tool.proofs.WalkLaws.{Walked}
use Rattle.bgpdump_tool.proofs.execution.queries.table.Given as goal

abbrev pub invariant-routes : goal.invariant-routes
invariant-routes g l =
    let entries = finite.entries (peer_routes l.table.routes l.peer) in
    record {
      walked : Walked (rib_reply_line l.peer) entries (above l.passed entries) (g.O.Output.written l.initial.out) (g.O.Output.written l.out);
      count : l.count ≡ saturated_count (length walked.done);
      failed : g.O.Output.failed l.out ≡ g.O.Output.failed l.initial.out;
      room : 0 < vec_capacity l.found;
    }

abbrev pub decreases-routes : goal.decreases-routes
decreases-routes g l = length (above l.passed (finite.entries (peer_routes l.table.routes l.peer)))
