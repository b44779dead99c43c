use Rattle.std.proofs.Common.{◌≡◌, ◌<◌, ℕ, List, ◌++◌, ◌-◌, ◌∙◌, ap, sym, subst, map, All, arith, take, drop, length, length-drop, take_all, flat_map}
use Rattle.std.proofs.lemmas.List.{get_or-map, length-map, drop-map}
use Rattle.std.proofs.lemmas.List.Elements.{All-drop, All-get_or}
use Rattle.std.proofs.lemmas.Result.{err_from_is_err_and}
use Rattle.mrt_events.specs.declared.event.Item.{Item}
use Rattle.mrt_events.specs.Event.{item_value}
use Rattle.mrt_events.specs.SharedRoute.{Announces}
use Rattle.bgpdump_lines.specs.Heading.{line_under_heading, lines_under_heading}
use Rattle.bgpdump_lines.specs.WrittenSoFar.{PutsThroughBufferOrFront}
use Rattle.bgpdump_lines.specs.Run.{AppendsPrefix}
use Rattle.bgpdump_lines.proofs.LineLaws.{lines_at, lines_of_all}
use Rattle.bgpdump_lines.proofs.WritingLaws.{AppendsPrefix-none, PutsThroughBuffer-printed, PutsThroughBufferOrFront-then}
use Rattle.bgpdump_lines.proofs.write.buffer_other_prefixes.Goals as goal

-- a slice up to the end has all that follows
rest : (items : List Item) (at : ℕ) → take (length items - at) (drop at items) ≡ drop at items
rest items at = take_all (length items - at) (drop at items) (omega (arith, length-drop at items))

pub write_remaining_prefixes-requires : goal.write_remaining_prefixes-requires
write_remaining_prefixes-requires g c =
    let P = Announces c.args.first.peer.now c.args.first.route.now in
    let items = c.args.items.now in
    let at = c.items.place in
    subst (λ l. All P (map item_value l)) (sym (rest items at)) (subst (All P) (drop-map item_value at items) (All-drop P at (map item_value items) c.requires.alike))

pub returns-then-len-gt-LONG_TEXT-clause-text : goal.returns-then-len-gt-LONG_TEXT-clause-text
returns-then-len-gt-LONG_TEXT-clause-text g c =
    let line = line_under_heading c.args.heading.now in
    let items = c.args.items.now in
    let at = c.items.place in
    let done = flat_map (λ item. line (item_value item)) (take at items) in
    let a = g.O.Output.written c.args.out.now in
    let d = g.O.Output.written c.write_remaining_prefixes.new.out in
    let result = c.write_remaining_prefixes.result in
    subst (λ l. PutsThroughBufferOrFront a d c.args.text.now c.write_remaining_prefixes.new.text l result)
    (sym (lines_at line items at ∙ ap (λ l. done ++ flat_map line (map item_value l)) (sym (rest items at))))
    (PutsThroughBufferOrFront-then a _ d c.args.text.now c.items.text _ done _ result
    (PutsThroughBuffer-printed a _ c.args.text.now c.items.text done (ap g.O.Output.written c.items.invariant.out) c.items.invariant.text) c.write_remaining_prefixes.ensures.text)

pub put_another_prefix-requires-clause-alike : goal.put_another_prefix-requires-clause-alike
put_another_prefix-requires-clause-alike g c =
    let P = Announces c.args.first.peer.now c.args.first.route.now in
    let items = c.args.items.now in
    let item = c.index-items-place.result in
    let i = c.items.place in
    let within : i < length items = omega (arith, c.items-test.true, c.items.invariant.end) in
    let announcement = get_or-map item_value items i item (item_value item) within ∙ ap item_value (sym c.index-items-place.is) in
    subst P announcement (All-get_or P (map item_value items) i (item_value item) (omega (arith, within, length-map items item_value)) c.requires.alike)

pub returns-in_err-offsets-clause-text : goal.returns-in_err-offsets-clause-text
returns-in_err-offsets-clause-text g c =
    let a = g.O.Output.written c.args.out.now in
    let text = c.args.text.now ++ lines_under_heading c.args.heading.now (map item_value c.args.items.now) in
    let p = err_from_is_err_and c.from_residual.result c.from_residual.ensures.1 in
    rw p.1 (subst (λ known. AppendsPrefix a known text) (sym (ap g.O.Output.written c.items.invariant.out)) (AppendsPrefix-none a text))

pub returns-clause-text : goal.returns-clause-text
returns-clause-text g c =
    let line = line_under_heading c.args.heading.now in
    PutsThroughBuffer-printed (g.O.Output.written c.args.out.now) _ c.args.text.now c.items.text _ (ap g.O.Output.written c.items.invariant.out)
    (lines_of_all line c.args.items.now c.items.place c.args.text.now c.items.text c.items.invariant.text (omega (arith, c.items-test.false, c.items.invariant.end)))
