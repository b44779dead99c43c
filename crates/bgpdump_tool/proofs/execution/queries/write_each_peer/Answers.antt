use Rattle.std.proofs.Common.{ℕ, ◌++◌, Err, ◌≡◌, ◌∷◌, [], Some, is_some, slice_get, length, arith, rules, refl, sym, ap, subst, ◌∙◌}
use Rattle.std.specs.FinMap as finite
use Rattle.std.specs.Io.KnownBytes.{Appends}
use Rattle.std.proofs.lemmas.Result.{err_from_is_err_and}
use Rattle.octet_forms.proofs.Options.{is_some-option_map, None_from_is_some}
use Rattle.mrt_events.specs.declared.peer.Peer.{Peer}
use Rattle.prefix_store.proofs.AboveLaws.{none-above}
use Rattle.prefix_store.specs.Stored.{saturated_count}
use Rattle.rib_player.specs.Tables.{peer_routes, routed_peers}
use Rattle.rib_player.specs.Lookups.{peers_above}
use Rattle.rib_player.proofs.PeerLaws.{all-peers, peers-next, peers-in_order}
use Rattle.bgpdump_lines.specs.Run.{AppendsPrefix}
use Rattle.bgpdump_tool.specs.Replies.{peer_line, peer_line_of}
use Rattle.bgpdump_lines.specs.WrittenSoFar.{Puts}
use Rattle.bgpdump_tool.proofs.WalkLaws.{Walked-start, Walked-next, Walked-end, Walked-stops, found_with, some_first, lines_of_some}
use Rattle.bgpdump_tool.proofs.execution.queries.write_each_peer.Given.{Over}
use Rattle.bgpdump_tool.proofs.execution.queries.write_each_peer.Goals as goal
use Rattle.bgpdump_tool.proofs.execution.queries.write_each_peer.Goals.{In-Some, In_default}

pub peers-init : goal.peers-init
peers-init g c = record {
  walked = Walked-start (peer_line c.args.table.now.routes) (routed_peers c.args.table.now.routes) _ (g.O.Output.written c.args.out.now) (all-peers (routed_peers c.args.table.now.routes));
  begun = refl;
  failed = refl;
}

-- the peer that was found, and its count
found : (g : Over) (c : In-Some g) → let routes = c.args.table.now.routes in
    (slice_get (peers_above c.peers.last (routed_peers routes)) 0 ≡ Some c.in-Some.found.0)
    × (c.in-Some.found.1 ≡ saturated_count (finite.len (peer_routes routes c.in-Some.found.0)))
found g c =
    let routes = c.args.table.now.routes in
    let p = found_with (λ p. saturated_count (finite.len (peer_routes routes p))) _ c.in-Some.found (sym c.peer_after.ensures ∙ c.in-Some.is) in
    (ap (λ low. slice_get (peers_above low (routed_peers routes)) 0) (sym c.as_ref.ensures.value) ∙ p.0, p.1)

next : (g : Over) (c : In-Some g) → let peers = routed_peers c.args.table.now.routes in
    peers_above c.peers.last peers ≡ c.in-Some.found.0 ∷ peers_above (Some c.in-Some.found.0) peers
next g c =
    let routes = c.args.table.now.routes in
    peers-next c.peers.last (routed_peers routes) c.in-Some.found.0 (peers-in_order routes) (found g c).0

line : (g : Over) (c : In-Some g) → peer_line_of c.in-Some.found.0 c.in-Some.found.1 ≡ peer_line c.args.table.now.routes c.in-Some.found.0
line g c = ap (peer_line_of c.in-Some.found.0) (found g c).1

pub returns-in_err-write_peer_line-clause-text : goal.returns-in_err-write_peer_line-clause-text
returns-in_err-write_peer_line-clause-text g c =
    let b = (goal.at.returns-in_err-write_peer_line-clause-text g c).In-Some in
    let routes = c.args.table.now.routes in
    let walked = c.peers.invariant.walked in
    let old = g.O.Output.written c.args.out.now in
    let mid = g.O.Output.written c.peers.out in
    let new = g.O.Output.written c.write_peer_line.new.out in
    let p = err_from_is_err_and c.from_residual.result c.from_residual.ensures.1 in
    rw p.1 (subst (AppendsPrefix old new)
    (lines_of_some routes (routed_peers routes) (ap (λ ps. is_some (slice_get ps 0)) (walked.whole ∙ ap (λ ps. walked.done ++ ps) (next g b)) ∙ some_first walked.done c.in-Some.found.0 _))
    (Walked-stops (peer_line routes) (routed_peers routes) c.in-Some.found.0 _ _ old mid new c.in_err-write_peer_line.field-0.0 (next g b) walked
    (subst (λ text. Puts {A = Unit {0}} mid new text (Err c.in_err-write_peer_line.field-0.0)) (line g b) c.in_err-write_peer_line.ensures.text)))

pub peers-smaller : goal.peers-smaller
peers-smaller g c = omega (arith, ap length (next g (goal.at.peers-smaller g c).In-Some))

pub peers-preserved : goal.peers-preserved
peers-preserved g c =
    let b = (goal.at.peers-preserved g c).In-Some in
    let routes = c.args.table.now.routes in
    record {
      walked = Walked-next (peer_line routes) (routed_peers routes) c.in-Some.found.0 _ _ (g.O.Output.written c.args.out.now) (g.O.Output.written c.peers.out) (g.O.Output.written c.write_peer_line.new.out)
          (next g b) c.peers.invariant.walked (subst (Appends (g.O.Output.written c.peers.out) (g.O.Output.written c.write_peer_line.new.out)) (line g b) c.in_ok-write_peer_line.ensures.text);
      begun = sym (some_first c.peers.invariant.walked.done c.in-Some.found.0 []);
      failed = search rules;
    }

-- no peer is left
over : (g : Over) (c : In_default g) → peers_above c.peers.last (routed_peers c.args.table.now.routes) ≡ []
over g c =
    let routes = c.args.table.now.routes in
    none-above _ (ap (λ low. slice_get (peers_above low (routed_peers routes)) 0) (sym c.as_ref.ensures.value)
    ∙ None_from_is_some _ (sym (is_some-option_map {B = Peer × ℕ} (λ p. (p, saturated_count (finite.len (peer_routes routes p)))) _) ∙ ap is_some (sym c.peer_after.ensures ∙ c.in_default.is)))

pub returns-else-is_none-clause-text : goal.returns-else-is_none-clause-text
returns-else-is_none-clause-text g c =
    let routes = c.args.table.now.routes in
    let end = Walked-end (peer_line routes) (routed_peers routes) _ (g.O.Output.written c.args.out.now) (g.O.Output.written c.peers.out) (over g (goal.at.returns-else-is_none-clause-text g c).In_default) c.peers.invariant.walked in
    subst (Appends (g.O.Output.written c.args.out.now) (g.O.Output.written c.peers.out))
    (lines_of_some routes (routed_peers routes) (ap (λ ps. is_some (slice_get ps 0)) end.0 ∙ sym c.peers.invariant.begun ∙ c.if-is_none.ensures)) end.1
