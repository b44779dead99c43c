-- So many steps were undone.
use Rattle.std.proofs.Common.{◌≡◌, ◌-◌, ◌≤◌}
use Rattle.rib_player.specs.Timeline.{undoable}
use Rattle.bgpdump_tool.specs.Execution.{at_cursor}
use Rattle.bgpdump_tool.proofs.execution.moves.undo_steps.Given as goal

abbrev pub invariant-steps : goal.invariant-steps
invariant-steps g l = record {
  at : l.player ≡ at_cursor (l.initial.player.cursor - l.counter) l.initial.player;
  few : l.counter ≤ undoable l.initial.player;
}
