use Rattle.std.proofs.Common.{◌∙◌, ap, sym, subst, map, arith}
use Rattle.std.proofs.lemmas.List.{get_or-map, length-map}
use Rattle.std.proofs.lemmas.List.Elements.{All-get_or}
use Rattle.mrt_events.specs.Event.{item_value}
use Rattle.mrt_events.specs.SharedRoute.{Announces}
use Rattle.bgpdump_lines.specs.Heading.{line_under_heading}
use Rattle.bgpdump_lines.proofs.LineLaws.{lines_of_all}
use Rattle.bgpdump_lines.proofs.event_lines.put_other_prefixes.Goals as goal

pub put_another_prefix-requires-clause-alike : goal.put_another_prefix-requires-clause-alike
put_another_prefix-requires-clause-alike c =
    let peer = c.args.first.peer.now in
    let route = c.args.first.route.now in
    let items = c.args.items.now in
    let item = c.item-item.result in
    let i = c.items.item-index in
    let within = c.items-test.true in
    let announcement = get_or-map item_value items i item (item_value item) within ∙ ap item_value (sym c.item-item.is) in
    subst (Announces peer route) announcement (All-get_or (Announces peer route) (map item_value items) i (item_value item) (omega (arith, within, length-map items item_value)) c.requires.alike)

pub returns : goal.returns
returns c =
    (lines_of_all (line_under_heading c.args.heading.now) c.args.items.now c.items.item-index c.args.text.now c.items.text c.items.invariant.0 c.items-test.false, tt)
