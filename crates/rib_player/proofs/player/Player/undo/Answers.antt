use Rattle.std.proofs.Common.{◌-◌, ap, ap₂, ◌∙◌, arith}
use Rattle.rib_player.specs.Timeline.{after_undo}
use Rattle.rib_player.specs.Journal.{sides_by_step, timeline_of}
use Rattle.rib_player.proofs.PlayedLaws.{within-played, played-kept, undone-played, length-crossed}
use Rattle.rib_player.proofs.CursorLaws.{timeline-after_undo}
use Rattle.rib_player.proofs.player.Player.undo.Goals as goal

pub apply_or_undo_step-requires-clause-kept : goal.apply_or_undo_step-requires-clause-kept
apply_or_undo_step-requires-clause-kept g c =
    played-kept c.self.invariant.played (c.self.inside.journal.cursor - 1) (omega (arith, c.self.invariant.played.within))

pub invariant_of-self : goal.invariant_of-self
invariant_of-self g c =
    record {
      played = undone-played c.self.invariant.played c.apply_or_undo_step.ensures (omega arith);
      saturated_count = omega (arith, c.self.invariant.saturated_count, length-crossed c.self.invariant.played c.apply_or_undo_step.ensures);
    }

pub returns-clause-after_undo : goal.returns-clause-after_undo
returns-clause-after_undo g c =
    let journal = c.self.inside.journal in
    ap₂ (timeline_of journal.floor (journal.cursor - 1)) c.apply_or_undo_step.ensures.sides c.apply_or_undo_step.ensures.routes
    ∙ timeline-after_undo journal.floor journal.cursor (sides_by_step journal.steps.items) c.self.inside.table.routes (omega arith) (within-played c.self.invariant.played) ∙ ap after_undo c.self.view_is
