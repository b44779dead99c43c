use Rattle.std.proofs.Common.{◌≡◌, ℕ, List, [], ◌++◌, ◌-◌, ◌∙◌, ap, refl, sym, subst, map, arith, rules, take, drop, length, length-append, length-drop, take_all}
use Rattle.std.proofs.lemmas.List.{get_or-map, length-map, drop_all, drop-append-le, take-append-le}
use Rattle.std.proofs.lemmas.List.Elements.{All-get_or}
use Rattle.std.proofs.lemmas.Result.{err_from_is_err_and}
use Rattle.std.specs.Io.KnownBytes.{Appends}
use Rattle.std.proofs.KnownBytes.{Appends-nil}
use Rattle.mrt_events.specs.Event.{item_value}
use Rattle.mrt_events.specs.SharedRoute.{Announces}
use Rattle.bgpdump_lines.specs.Heading.{EndsInLineOfRoute, line_under_heading, lines_under_heading}
use Rattle.bgpdump_lines.specs.WrittenSoFar.{PutsThroughBuffer}
use Rattle.bgpdump_lines.specs.Run.{AppendsPrefix}
use Rattle.bgpdump_lines.proofs.LineLaws.{lines_of_all, lines-sayings}
use Rattle.bgpdump_lines.proofs.WritingLaws.{AppendsPrefix-behind, AppendsPrefix-longer, AppendsPrefix-passed, PutsThroughBuffer-items, PutsThroughBuffer-next, PutsThroughBuffer-end, PutsThroughBuffer-end-stops, PutsThroughBuffer-whole}
use Rattle.bgpdump_lines.proofs.write.write_remaining_prefixes.Given.{Over}
use Rattle.bgpdump_lines.proofs.write.write_remaining_prefixes.Goals as goal
use Rattle.bgpdump_lines.proofs.write.write_remaining_prefixes.Goals.{In_ok-put_all}

-- a slice up to the end has all that follows
rest : (text : List ℕ) (at : ℕ) → take (length text - at) (drop at text) ≡ drop at text
rest text at = take_all (length text - at) (drop at text) (omega (arith, length-drop at text))

-- what stood in the text was written
written : (g : Over) (c : In_ok-put_all g) → Appends (g.O.Output.written c.args.out.now) (g.O.Output.written c.put_all.new.output) c.args.text.now
written g c = subst (Appends _ _) c.as_slice.ensures c.in_ok-put_all.ensures.all

pub returns-in_err-put_all-clause-text : goal.returns-in_err-put_all-clause-text
returns-in_err-put_all-clause-text g c =
    let p = err_from_is_err_and c.from_residual.result c.from_residual.ensures.1 in
    rw p.1 (AppendsPrefix-longer _ _ c.args.text.now _ (subst (AppendsPrefix _ _) c.as_slice.ensures c.in_err-put_all.ensures.front))

pub items-init : goal.items-init
items-init g c =
    let text = c.put_whole_route_line.new.text in
    let end = c.len-end.result in
    let ends : EndsInLineOfRoute c.args.heading.now c.args.first.peer.now c.args.first.route.now c.in_ok-template.template text = record { ordered = c.in_ok-template.ensures.last.ordered; front = c.in_ok-template.ensures.last.front; tail = c.in_ok-template.ensures.last.tail } in
    record {
      passed = record { front = []; appended = Appends-nil _; whole = drop_all end text (omega (arith, c.len-end.ensures)) };
      within = omega (arith, c.len-end.ensures);
      kept = subst (EndsInLineOfRoute c.args.heading.now c.args.first.peer.now c.args.first.route.now c.in_ok-template.template) (sym (take_all end text (omega (arith, c.len-end.ensures)))) ends;
      last = ends;
      failed = refl;
    }

pub returns-in_err-offsets-clause-text : goal.returns-in_err-offsets-clause-text
returns-in_err-offsets-clause-text g c =
    let b = (goal.at.returns-in_err-offsets-clause-text g c).In_ok-put_all in
    let line = line_under_heading c.args.heading.now in
    let items = c.args.items.now in
    let mid = drop c.len-end.result c.items.text in
    let p = err_from_is_err_and c.from_residual-in_err-offsets.result c.from_residual-in_err-offsets.ensures.1 in
    rw p.1 (AppendsPrefix-behind _ _ _ c.args.text.now _ (written g b) (subst (AppendsPrefix _ _) (lines-sayings line items)
    (PutsThroughBuffer-items (λ i. line (item_value i)) items c.items.item-index _ _ _ [] mid c.items.invariant.passed c.in_err-offsets.ensures.text)))

pub put_another_prefix-requires-clause-alike : goal.put_another_prefix-requires-clause-alike
put_another_prefix-requires-clause-alike g c =
    let P = Announces c.args.first.peer.now c.args.first.route.now in
    let items = c.args.items.now in
    let item = c.item-item.result in
    let i = c.items.item-index in
    let within = c.items-test.true in
    let announcement = get_or-map item_value items i item (item_value item) within ∙ ap item_value (sym c.item-item.is) in
    subst P announcement (All-get_or P (map item_value items) i (item_value item) (omega (arith, within, length-map items item_value)) c.requires)

pub returns-in_err-last-clause-text : goal.returns-in_err-last-clause-text
returns-in_err-last-clause-text g c =
    let b = (goal.at.returns-in_err-last-clause-text g c).In_ok-put_all in
    let line = line_under_heading c.args.heading.now in
    let items = c.args.items.now in
    let mid = drop c.len-end.result c.items.text in
    let p = err_from_is_err_and c.from_residual-in_err-last.result c.from_residual-in_err-last.ensures.1 in
    rw p.1 (AppendsPrefix-behind _ _ _ c.args.text.now _ (written g b) (subst (AppendsPrefix _ _) (lines-sayings line items)
    (PutsThroughBuffer-items (λ i. line (item_value i)) items c.items.item-index _ _ _ [] mid c.items.invariant.passed
    (AppendsPrefix-passed _ _ mid (drop c.len-end.result c.write_rest_if_long.new.text) [] c.in_ok-offsets.ensures.text))))

pub items-preserved : goal.items-preserved
items-preserved g c =
    let line = line_under_heading c.args.heading.now in
    let end = c.len-end.result in
    let after = c.write_rest_if_long.new.text in
    let more = line (item_value c.item-item.result) in
    let printed = c.in_ok-last.ensures.printed.0 in
    let within = c.in_ok-offsets.ensures.within in
    record {
      passed = PutsThroughBuffer-next (λ i. line (item_value i)) c.args.items.now c.items.item-index c.item-item.result _ _ _ [] (drop end c.items.text) (drop end after) _ c.items-test.true
          c.items.invariant.passed c.in_ok-offsets.ensures.text
          (ap (drop end) printed ∙ drop-append-le end after more within ∙ ap (λ i. drop end after ++ line (item_value i)) c.item-item.is);
      within = omega (arith, within, ap length printed ∙ length-append after more);
      kept = subst (EndsInLineOfRoute c.args.heading.now c.args.first.peer.now c.args.first.route.now c.in_ok-template.template)
          (sym (ap (take end) printed ∙ take-append-le end after more within ∙ c.in_ok-offsets.ensures.kept)) c.items.invariant.kept;
      last = c.in_ok-last.ensures.last;
      failed = search rules;
    }

pub returns-in_err-put_all-2-clause-text : goal.returns-in_err-put_all-2-clause-text
returns-in_err-put_all-2-clause-text g c =
    let b = (goal.at.returns-in_err-put_all-2-clause-text g c).In_ok-put_all in
    let line = line_under_heading c.args.heading.now in
    let end = c.len-end.result in
    let p = err_from_is_err_and c.from_residual-in_err-put_all-2.result c.from_residual-in_err-put_all-2.ensures.1 in
    let passed = subst (PutsThroughBuffer _ _ [] (drop end c.items.text)) (lines_of_all line c.args.items.now c.items.item-index [] _ refl c.items-test.false) c.items.invariant.passed in
    let put = subst (AppendsPrefix _ _) (rest c.as_slice-2.result.now end ∙ ap (drop end) c.as_slice-2.ensures) c.in_err-put_all-2.ensures.front in
    rw p.1 (AppendsPrefix-behind _ _ _ c.args.text.now _ (written g b) (PutsThroughBuffer-end-stops _ _ _ (drop end c.items.text) _ passed put))

pub returns-clause-text : goal.returns-clause-text
returns-clause-text g c =
    let b = (goal.at.returns-clause-text g c).In_ok-put_all in
    let line = line_under_heading c.args.heading.now in
    let end = c.len-end.result in
    let passed = subst (PutsThroughBuffer _ _ [] (drop end c.items.text)) (lines_of_all line c.args.items.now c.items.item-index [] _ refl c.items-test.false) c.items.invariant.passed in
    let put = subst (Appends _ _) (rest c.as_slice-2.result.now end ∙ ap (drop end) c.as_slice-2.ensures) c.in_ok-put_all-2.ensures.all in
    subst (λ t. PutsThroughBuffer (g.O.Output.written c.args.out.now) (g.O.Output.written c.put_all-2.new.output) c.args.text.now t (lines_under_heading c.args.heading.now (map item_value c.args.items.now))) (sym c.clear-2.ensures)
    (PutsThroughBuffer-whole _ _ _ c.args.text.now _ (written g b) (PutsThroughBuffer-end _ _ _ (drop end c.items.text) _ passed put))
