-- The lines of the peers up to the last were written.
use Rattle.std.proofs.Common.{◌≡◌, length, is_some, slice_get}
use Rattle.rib_player.specs.Tables.{routed_peers}
use Rattle.rib_player.specs.Lookups.{peers_above}
use Rattle.bgpdump_tool.specs.Replies.{peer_line}
use Rattle.bgpdump_tool.proofs.WalkLaws.{Walked}
use Rattle.bgpdump_tool.proofs.execution.queries.write_each_peer.Given as goal

abbrev pub invariant-peers : goal.invariant-peers
invariant-peers g l = record {
  walked : Walked (peer_line l.table.routes) (routed_peers l.table.routes) (peers_above l.last (routed_peers l.table.routes)) (g.O.Output.written l.initial.out) (g.O.Output.written l.out);
  begun : is_some l.last ≡ is_some (slice_get walked.done 0);
  failed : g.O.Output.failed l.out ≡ g.O.Output.failed l.initial.out;
}

abbrev pub decreases-peers : goal.decreases-peers
decreases-peers g l = length (peers_above l.last (routed_peers l.table.routes))
