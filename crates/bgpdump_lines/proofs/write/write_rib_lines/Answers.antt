use Rattle.std.proofs.Common.{ℕ, List, [], ◌++◌, ◌∙◌, ap, subst, rules, Bor, take_all, flat_map, Global}
use Rattle.std.proofs.lemmas.Result.{err_from_is_err_and}
use Rattle.std.specs.declared.rc.Rc.{Rc}
use Rattle.ip_prefix.specs.Network.{Network}
use Rattle.mrt_events.specs.declared.event.Route.{Route}
use Rattle.mrt_events.specs.declared.peer.Peer.{Peer}
use Rattle.bgpdump_lines.specs.Run.{AppendsPrefix}
use Rattle.bgpdump_lines.specs.Lines.{rib_reply_line}
use Rattle.std.specs.Io.KnownBytes.{Appends}
use Rattle.bgpdump_lines.specs.WrittenSoFar.{PutsThroughBuffer}
use Rattle.bgpdump_lines.proofs.WritingLaws.{AppendsPrefix-passed, PutsThroughBuffer-end, PutsThroughBuffer-end-stops, PutsThroughBuffer-items, PutsThroughBuffer-next}
use Rattle.bgpdump_lines.proofs.write.write_rib_lines.Goals as goal

-- the line of a prefix and the route that is pointed to
abbrev pointed_line : Peer → Network × Bor (Rc Route Global) → List ℕ
pointed_line peer entry = rib_reply_line peer (entry.0, entry.1.now.value)

pub returns-in_err-write_if_long-clause-text : goal.returns-in_err-write_if_long-clause-text
returns-in_err-write_if_long-clause-text g c =
    let p = err_from_is_err_and c.from_residual.result c.from_residual.ensures.1 in
    rw p.1 (PutsThroughBuffer-items (pointed_line c.args.peer.now) c.args.routes.now c.routes.entry-index _ _ _ [] c.routes.text c.routes.invariant.passed c.in_err-write_if_long.ensures.text)

pub returns-in_err-put_route_line-clause-text : goal.returns-in_err-put_route_line-clause-text
returns-in_err-put_route_line-clause-text g c =
    let p = err_from_is_err_and c.from_residual-in_err-put_route_line.result c.from_residual-in_err-put_route_line.ensures.1 in
    rw p.1 (PutsThroughBuffer-items (pointed_line c.args.peer.now) c.args.routes.now c.routes.entry-index _ _ _ [] c.routes.text c.routes.invariant.passed
    (AppendsPrefix-passed _ _ c.routes.text c.write_if_long.new.text [] c.in_ok-write_if_long.ensures.text))

pub routes-preserved : goal.routes-preserved
routes-preserved g c =
    let peer = c.args.peer.now in
    let item = c.entry-item.result in
    let after = c.write_if_long.new.text in
    let own = c.for_rib_lines-heading.ensures peer item.0 c.deref.result.now ∙ ap (λ route. rib_reply_line peer (item.0, route)) c.deref.ensures ∙ ap (pointed_line peer) c.entry-item.is in
    record {
      passed = PutsThroughBuffer-next (pointed_line peer) c.args.routes.now c.routes.entry-index item _ _ _ [] c.routes.text after _ c.routes-test.true
          c.routes.invariant.passed c.in_ok-write_if_long.ensures.text (c.in_ok-put_route_line.ensures.printed.0 ∙ ap (λ l. after ++ l) own);
      last = c.in_ok-put_route_line.ensures.last;
      failed = search rules;
    }

pub returns-in_err-put_all-clause-text : goal.returns-in_err-put_all-clause-text
returns-in_err-put_all-clause-text g c =
    let p = err_from_is_err_and c.from_residual-in_err-put_all.result c.from_residual-in_err-put_all.ensures.1 in
    let line = pointed_line c.args.peer.now in
    let passed = subst (PutsThroughBuffer _ _ [] c.routes.text) (ap (flat_map line) (take_all c.routes.entry-index c.args.routes.now c.routes-test.false)) c.routes.invariant.passed in
    rw p.1 (PutsThroughBuffer-end-stops _ _ _ c.routes.text _ passed (subst (AppendsPrefix _ _) c.as_slice.ensures c.in_err-put_all.ensures.front))

pub returns-clause-text : goal.returns-clause-text
returns-clause-text g c =
    let line = pointed_line c.args.peer.now in
    let passed = subst (PutsThroughBuffer _ _ [] c.routes.text) (ap (flat_map line) (take_all c.routes.entry-index c.args.routes.now c.routes-test.false)) c.routes.invariant.passed in
    PutsThroughBuffer-end _ _ _ c.routes.text _ passed (subst (Appends _ _) c.as_slice.ensures c.in_ok-put_all.ensures.all)
