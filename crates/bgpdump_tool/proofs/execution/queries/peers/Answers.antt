use Rattle.std.proofs.Common.{◌≡◌, ℕ, IfSome, BTreeMap, ap, subst, ◌∙◌}
use Rattle.mrt_events.specs.declared.peer.Peer.{Peer}
use Rattle.rib_player.specs.Lookups.{counted_peers}
use Rattle.bgpdump_lines.specs.WrittenSoFar.{PutsAllOrFront}
use Rattle.bgpdump_tool.specs.Counts.{peer_counts_text}
use Rattle.bgpdump_tool.proofs.WalkLaws.{counts-told}
use Rattle.bgpdump_tool.proofs.execution.queries.peers.Goals as goal

pub returns-in-Some-clause-text : goal.returns-in-Some-clause-text
returns-in-Some-clause-text g c =
    let routes = c.args.table.now.routes in
    let listed : c.in-Some.counts.entries ≡ counted_peers routes =
    subst (λ found. IfSome found (λ (peers : BTreeMap Peer ℕ). peers.entries ≡ counted_peers routes)) c.in-Some.is c.in_ok-counts.ensures in
    subst (λ text. PutsAllOrFront (g.O.Output.written c.args.out.now) (g.O.Output.written c.write_peer_counts.new.out) text c.write_peer_counts.result)
    (ap peer_counts_text listed ∙ counts-told routes) c.write_peer_counts.ensures.text
