use Rattle.std.proofs.Common.{◌≡◌, [], ap, ap₂, sym, subst, ◌∙◌, set}
use Rattle.std.proofs.lemmas.List.{get_or-map, map-set, with_items_is, set-get_or}
use Rattle.rib_player.specs.Journal.{sides_of, sides_by_step, step_sides, routes_across}
use Rattle.rib_player.specs.Sides.{sides_at, sides_across, AreDistinctKeys, marks_of, step_marks, marks_by_step}
use Rattle.rib_player.specs.Tables.{Contents}
use Rattle.rib_player.proofs.journal.apply_or_undo_step.Goals as goal
use Rattle.rib_player.proofs.journal.apply_or_undo_step.Given.{Over}
use Rattle.rib_player.proofs.journal.apply_or_undo_step.Goals.{After-as_mut_slice}

-- the entries that are crossed
at_index : (g : Over) (c : After-as_mut_slice g) → sides_at (sides_by_step c.args.steps.now.items) c.args.index ≡ sides_of c.as_mut_slice.result.now
at_index g c =
    get_or-map step_sides c.args.steps.now.items c.args.index c.index_mut-step.result.now _ c.requires.within
    ∙ ap step_sides (sym c.index_mut-step.ensures.value)
    ∙ ap sides_of (sym c.as_mut_slice.ensures.value)

pub swap_routes-requires : goal.swap_routes-requires
swap_routes-requires g c =
    subst (λ (t : Contents). AreDistinctKeys t.keys (sides_of c.as_mut_slice.result.now)) (sym c.add_prefetched_nodes.ensures)
    (subst (AreDistinctKeys c.args.table.now.keys) (at_index g (goal.at.swap_routes-requires g c).After-as_mut_slice) c.requires.kept)

pub returns : goal.returns
returns g c =
    let steps = c.args.steps.now.items in
    let routes = ap (λ (t : Contents). t.routes) c.add_prefetched_nodes.ensures in
    let there = at_index g (goal.at.returns g c).After-as_mut_slice in
    let items = with_items_is c.index_mut-step.result.now.entries c.swap_routes.new.entries (c.swap_routes.auto.entries ∙ c.as_mut_slice.ensures.len) in
    record {
      keys = c.swap_routes.ensures.keys ∙ ap (λ (t : Contents). t.keys) c.add_prefetched_nodes.ensures;
      routes = c.swap_routes.ensures.routes ∙ ap₂ routes_across (sym there) routes;
      sides = map-set step_sides steps c.args.index _
          ∙ ap (set (sides_by_step steps) c.args.index) (ap sides_of items ∙ c.swap_routes.ensures.entries ∙ ap₂ sides_across routes (sym there));
      marks = map-set step_marks steps c.args.index _
          ∙ ap (set (marks_by_step steps) c.args.index)
          (ap marks_of items ∙ c.swap_routes.ensures.marks ∙ ap marks_of c.as_mut_slice.ensures.value ∙ ap step_marks c.index_mut-step.ensures.value
          ∙ sym (get_or-map step_marks steps c.args.index c.index_mut-step.result.now [] c.requires.within))
          ∙ set-get_or (marks_by_step steps) c.args.index [];
    }
