use Rattle.std.proofs.Common.{List, map, drop, sym, ap, ap₂, ◌∙◌, length-drop, arith, take_all}
use Rattle.mrt_events.proofs.SharedLaws.{said_range}
use Rattle.rib_player.specs.declared.pair.Pair.{Pair}
use Rattle.rib_player.specs.History.{item_effect, later, last_effect}
use Rattle.rib_player.specs.Entries.{Entry}
use Rattle.rib_player.specs.Journal.{sides_of}
use Rattle.rib_player.specs.Changes.{effect_of_changes, found, is_lost, effect_of, items_effect}
use Rattle.rib_player.proofs.ChangesLaws.{effect-parts, effects-sayings}
use Rattle.rib_player.proofs.changes.changes_of.Goals as goal

pub note_items_of_one_route-requires : goal.note_items_of_one_route-requires
note_items_of_one_route-requires g c =
    said_range c.as_slice-items.result.now _ c.shared_ranges-shared.result.middle _ c.as_slice-items.ensures c.shared_ranges-shared.ensures.second.alike

pub note_items_of_one_route-requires-2 : goal.note_items_of_one_route-requires-2
note_items_of_one_route-requires-2 g c =
    said_range c.as_slice-items.result.now _ c.shared_ranges-shared.result.start _ c.as_slice-items.ensures c.shared_ranges-shared.ensures.first.alike

pub returns : goal.returns
returns g c =
    let items = c.as_slice-items.result.now in
    let ranges = c.shared_ranges-shared.result in
    let shared = c.shared_ranges-shared.ensures in
    λ (q : Pair). effect-parts q items ranges.start ranges.middle ranges.end
    (effect_of_changes c.note_items_if_any.new.self q) (effect_of_changes c.note_items_of_one_route.new.self q) (effect_of_changes c.note_items_of_one_route-2.new.self q) (effect_of_changes c.note_items_if_any-2.new.self q)
    shared.first.ordered shared.second.ordered
    (c.in_ok-note_items_if_any.ensures q
    ∙ ap₂ (λ l before. later (items_effect q l) before) (take_all _ (drop ranges.end items) (omega (arith, length-drop ranges.end items)))
    (ap₂ (λ (entries : List Entry) peers. effect_of (found (sides_of entries) q) (is_lost peers q)) c.in_ok-with_capacity.ensures.items c.new.ensures.empty))
    (c.in_ok-note_items_of_one_route.ensures q)
    (c.in_ok-note_items_of_one_route-2.ensures q)
    (c.in_ok-note_items_if_any-2.ensures q)
    ∙ ap last_effect (sym (effects-sayings q items) ∙ ap (map (item_effect q)) c.as_slice-items.ensures)
