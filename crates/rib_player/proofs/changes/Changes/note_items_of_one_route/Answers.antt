use Rattle.std.proofs.Common.{rules, IfSome, slice_get, sym, subst}
use Rattle.std.specs.List.{AllByRecursion}
use Rattle.mrt_events.specs.Event.{item_value}
use Rattle.rib_player.specs.Changes.{HasRoute}
use Rattle.rib_player.proofs.ChangesLaws.{all-route_presence}
use Rattle.rib_player.proofs.changes.Changes.note_items_of_one_route.Goals as goal

pub note_items-requires : goal.note_items-requires
note_items-requires g c =
    let first : IfSome (slice_get c.args.items.now 0) (λ item. HasRoute c.in-Some-Announce.route.value (item_value item)) = search rules in
    subst (λ route. AllByRecursion (λ item. HasRoute route (item_value item)) c.args.items.now) (sym c.in_ok-route.ensures.value)
    (all-route_presence c.args.items.now c.in-Some-Announce.route.value c.requires first)
