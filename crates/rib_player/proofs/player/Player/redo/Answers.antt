use Rattle.std.proofs.Common.{◌+◌, refl, ap, ap₂, ◌∙◌, arith}
use Rattle.std.proofs.lemmas.List.{length-map}
use Rattle.rib_player.specs.Timeline.{after_redo}
use Rattle.rib_player.specs.Journal.{step_sides, sides_by_step, timeline_of}
use Rattle.rib_player.proofs.PlayedLaws.{played-kept, redone-played, length-crossed}
use Rattle.rib_player.proofs.CursorLaws.{timeline-after_redo}
use Rattle.rib_player.proofs.player.Player.redo.Goals as goal

pub apply_or_undo_step-requires-clause-kept : goal.apply_or_undo_step-requires-clause-kept
apply_or_undo_step-requires-clause-kept g c =
    played-kept c.self.invariant.played c.self.inside.journal.cursor (omega (arith, c.self.invariant.played.within, c.self.inside.journal.steps.ok.0))

pub invariant_of-self : goal.invariant_of-self
invariant_of-self g c =
    record {
      played = redone-played c.self.invariant.played c.apply_or_undo_step.ensures refl (omega (arith, c.self.invariant.played.within, c.self.inside.journal.steps.ok.0));
      saturated_count = omega (arith, c.self.invariant.saturated_count, length-crossed c.self.invariant.played c.apply_or_undo_step.ensures);
    }

pub returns-clause-after_redo : goal.returns-clause-after_redo
returns-clause-after_redo g c =
    let journal = c.self.inside.journal in
    ap₂ (timeline_of journal.floor (journal.cursor + 1)) c.apply_or_undo_step.ensures.sides c.apply_or_undo_step.ensures.routes
    ∙ timeline-after_redo journal.floor journal.cursor (sides_by_step journal.steps.items) c.self.inside.table.routes (omega (arith, c.self.invariant.played.within, journal.steps.ok.0, length-map journal.steps.items step_sides)) ∙ ap after_redo c.self.view_is
