use Rattle.std.proofs.Common.{◌++◌, ◌∷◌, [], map, ap, sym, ◌∙◌, option_to_list}
use Rattle.std.proofs.lemmas.List.{map-append}
use Rattle.mrt_events.specs.declared.event.Item.TheVariants.{Announce}
use Rattle.mrt_events.specs.Event.{Announced, item_value}
use Rattle.mrt_wire.specs.Items.{entry_time, route_of}
use Rattle.mrt_wire.proofs.rib.ParsedEntries.add.Goals as goal

pub returns-clause-items : goal.returns-clause-items
returns-clause-items c =
    let route = c.args.entry.route in
    let attrs = route.value.attrs in
    let time = entry_time c.args.context.stamp c.args.context.seconds c.args.entry.originated in
    let old = c.args.self.now.items.items in
    let peer = c.in-Some.peer in
    let prefix = c.args.prefix in
    ap (map item_value) c.in_ok-push.ensures.items
    ∙ map-append item_value old (Announce peer prefix route ∷ [])
    ∙ ap (λ time. map item_value old ++ Announced peer prefix (route_of attrs time) ∷ []) c.requires
    ∙ ap (λ found. map item_value old ++ map (λ peer. Announced peer prefix (route_of attrs time)) (option_to_list found)) (sym (sym c.peer_by_index.ensures ∙ c.in-Some.is))
