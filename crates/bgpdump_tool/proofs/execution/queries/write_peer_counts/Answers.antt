use Rattle.std.proofs.Common.{◌++◌, is_some, slice_get, rules, refl, ap, subst, ◌∙◌}
use Rattle.std.proofs.lemmas.Result.{err_from_is_err_and}
use Rattle.bgpdump_lines.specs.Run.{AppendsPrefix}
use Rattle.bgpdump_tool.specs.Counts.{count_line}
use Rattle.bgpdump_tool.proofs.WalkLaws.{Walked-start, Walked-next, Walked-stops, counts_of_some, some_first}
use Rattle.bgpdump_tool.proofs.execution.queries.write_peer_counts.Goals as goal

pub peers-init : goal.peers-init
peers-init g c = record {
  walked = Walked-start count_line c.args.counts.now.entries _ (g.O.Output.written c.args.out.now) (c.into_iter-peer-iterator.ensures.into_iter_gives ∙ c.iter-peer-items.ensures.rest);
  failed = refl;
}

pub peers-preserved : goal.peers-preserved
peers-preserved g c = record {
  walked = Walked-next count_line c.args.counts.now.entries (c.in-Some.peer.now, c.in-Some.routes.now) c.peers.peer-iterator c.next.new.self (g.O.Output.written c.args.out.now) (g.O.Output.written c.peers.out)
      (g.O.Output.written c.write_peer_line.new.out) c.in-Some.ensures.steps c.peers.invariant.walked c.in_ok-write_peer_line.ensures.text;
  failed = search rules;
}

pub returns-in_err-write_peer_line-clause-text : goal.returns-in_err-write_peer_line-clause-text
returns-in_err-write_peer_line-clause-text g c =
    let walked = c.peers.invariant.walked in
    let entries = c.args.counts.now.entries in
    let old = g.O.Output.written c.args.out.now in
    let mid = g.O.Output.written c.peers.out in
    let new = g.O.Output.written c.write_peer_line.new.out in
    let p = err_from_is_err_and c.from_residual.result c.from_residual.ensures.1 in
    rw p.1 (subst (AppendsPrefix old new)
    (counts_of_some entries (ap (λ es. is_some (slice_get es 0)) (walked.whole ∙ ap (λ es. walked.done ++ es) c.in-Some.ensures.steps) ∙ some_first walked.done (c.in-Some.peer.now, c.in-Some.routes.now) c.next.new.self))
    (Walked-stops count_line entries (c.in-Some.peer.now, c.in-Some.routes.now) c.peers.peer-iterator c.next.new.self old mid new c.in_err-write_peer_line.field-0.0 c.in-Some.ensures.steps walked c.in_err-write_peer_line.ensures.text))
