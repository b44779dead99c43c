use Rattle.std.proofs.Common.{Bor, ◌≡◌, ◌<◌, ◌+◌, ◌-◌, ◌∷◌, ◌++◌, [], Some, List, take, slice_get, length, vec_capacity, arith, rules, refl, sym, ap, subst, ◌∙◌, length-append, flat_map, Global}
use Rattle.std.specs.FinMap as finite
use Rattle.std.proofs.lemmas.List.{length-map}
use Rattle.std.specs.declared.rc.Rc.{Rc}
use Rattle.std.proofs.lemmas.Result.{err_from_is_err_and}
use Rattle.ip_prefix.specs.Network.{Network}
use Rattle.mrt_events.specs.declared.event.Route.{Route}
use Rattle.prefix_store.specs.Lookups.{above}
use Rattle.prefix_store.proofs.AboveLaws.{above-none, above-front, none-left, keys-in_order, seen_last, seen_none}
use Rattle.rib_player.specs.Tables.{peer_routes}
use Rattle.rib_player.specs.Lookups.{pointed_routes}
use Rattle.bgpdump_lines.specs.Lines.{rib_reply_line}
use Rattle.bgpdump_lines.proofs.WritingLaws.{AppendsPrefix-longer}
use Rattle.bgpdump_tool.proofs.WalkLaws.{Walked-start, Walked-many, Walked-breaks, table_told, lines-dereferenced}
use Rattle.bgpdump_tool.proofs.execution.queries.table.Given.{Over}
use Rattle.bgpdump_tool.proofs.execution.queries.table.Goals as goal
use Rattle.bgpdump_tool.proofs.execution.queries.table.Goals.{In-Some, In_default}

-- a route that is pointed to
abbrev entry : Network × Bor (Rc Route Global) → Network × Route
entry f = (f.0, f.1.now.value)

pub routes-init : goal.routes-init
routes-init g c =
    let entries = finite.entries (peer_routes c.args.table.now.routes c.args.peer.now) in
    record {
      walked = Walked-start (rib_reply_line c.args.peer.now) entries _ (g.O.Output.written c.args.out.now) (above-none entries);
      count = refl;
      failed = refl;
      room = search rules;
    }

-- the routes that were found are others and then the last of them
last : (g : Over) (c : In-Some g) → (ys : List (Network × Route)) × (pointed_routes c.next_routes.new.found.items ≡ ys ++ (c.in-Some.end.now.0, c.in-Some.end.now.1.now.value) ∷ [])
last g c =
    seen_last entry c.next_routes.new.found.items c.last.result c.in-Some.end
    (c.last.ensures.value ∙ ap (λ items. slice_get items (length items - 1)) c.deref.ensures.value) c.in-Some.is

-- they, and those above the last of them, are those that were left
next : (g : Over) (c : In-Some g) → let entries = finite.entries (peer_routes c.args.table.now.routes c.args.peer.now) in
    above c.routes.passed entries ≡ pointed_routes c.next_routes.new.found.items ++ above (Some c.in-Some.end.now.0) entries
next g c =
    let routes = peer_routes c.args.table.now.routes c.args.peer.now in
    above-front c.routes.passed (finite.entries routes) (keys-in_order routes) (vec_capacity c.routes.found) (pointed_routes c.next_routes.new.found.items) (c.in-Some.end.now.0, c.in-Some.end.now.1.now.value)
    (c.next_routes.ensures.found ∙ ap (λ low. take (vec_capacity c.routes.found) (above low (finite.entries routes))) c.as_ref.ensures.value) (last g c)

pub returns-in_err-write_rib_lines-clause-text : goal.returns-in_err-write_rib_lines-clause-text
returns-in_err-write_rib_lines-clause-text g c =
    let b = (goal.at.returns-in_err-write_rib_lines-clause-text g c).In-Some in
    let line = rib_reply_line c.args.peer.now in
    let entries = finite.entries (peer_routes c.args.table.now.routes c.args.peer.now) in
    let found = pointed_routes c.next_routes.new.found.items in
    let p = err_from_is_err_and c.from_residual-in_err-write_rib_lines.result c.from_residual-in_err-write_rib_lines.ensures.1 in
    let put = rw (c.deref-in-routes.ensures.value, lines-dereferenced c.args.peer.now c.next_routes.new.found.items) at c.in_err-write_rib_lines.ensures.text in
    rw p.1 (AppendsPrefix-longer _ _ (flat_map line entries) _
    (Walked-breaks line entries found _ _ _ _ _ (next g b) c.routes.invariant.walked put))

pub routes-smaller : goal.routes-smaller
routes-smaller g c =
    let b = (goal.at.routes-smaller g c).In-Some in
    let entries = finite.entries (peer_routes c.args.table.now.routes c.args.peer.now) in
    let found = pointed_routes c.next_routes.new.found.items in
    let split = last g b in
    let some : 0 < length found = omega (arith, ap length split.1, length-append split.0 ((c.in-Some.end.now.0, c.in-Some.end.now.1.now.value) ∷ [])) in
    omega (arith, some, ap length (next g b), length-append found (above (Some c.in-Some.end.now.0) entries))

pub routes-preserved : goal.routes-preserved
routes-preserved g c =
    let b = (goal.at.routes-preserved g c).In-Some in
    let line = rib_reply_line c.args.peer.now in
    let entries = finite.entries (peer_routes c.args.table.now.routes c.args.peer.now) in
    let items = c.next_routes.new.found.items in
    let found = pointed_routes items in
    let put = rw (c.deref-in-routes.ensures.value, lines-dereferenced c.args.peer.now c.next_routes.new.found.items) at c.in_ok-write_rib_lines.ensures.text in
    let done = c.routes.invariant.walked.done in
    let size : length found ≡ c.len.result = length-map items entry ∙ sym c.next_routes.new.found.ok.0 ∙ sym c.len.ensures in
    let more : length (done ++ found) ≡ length done + c.len.result = length-append done found ∙ ap (λ n. length done + n) size in
    record {
      walked = Walked-many line entries found _ _ _ _ _ (next g b) c.routes.invariant.walked put;
      count = omega (arith, c.saturating_add-count.ensures, c.routes.invariant.count, more);
      failed = search rules;
      room = subst (λ n. 0 < n) (sym c.next_routes.ensures.room) c.routes.invariant.room;
    }

-- no route is left
over : (g : Over) (c : In_default g) → above c.routes.passed (finite.entries (peer_routes c.args.table.now.routes c.args.peer.now)) ≡ []
over g c =
    let entries = finite.entries (peer_routes c.args.table.now.routes c.args.peer.now) in
    none-left (vec_capacity c.routes.found) (above c.routes.passed entries) c.routes.invariant.room
    (seen_none entry c.next_routes.new.found.items c.last.result
    (c.last.ensures.value ∙ ap (λ items. slice_get items (length items - 1)) c.deref.ensures.value) c.in_default.is
    ∙ c.next_routes.ensures.found ∙ ap (λ low. take (vec_capacity c.routes.found) (above low entries)) c.as_ref.ensures.value)

pub returns-clause-text : goal.returns-clause-text
returns-clause-text g c =
    table_told c.args.table.now.routes c.args.peer.now _ (g.O.Output.written c.args.out.now) (g.O.Output.written c.routes.out) (g.O.Output.written c.write_labelled_numbers.new.out) c.routes.count c.write_labelled_numbers.result
    (over g (goal.at.returns-clause-text g c).In_default) c.routes.invariant.walked c.routes.invariant.count c.write_labelled_numbers.ensures.text
