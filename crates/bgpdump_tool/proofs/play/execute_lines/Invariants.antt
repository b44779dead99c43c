-- The lines so far were carried out.
use Rattle.std.proofs.Common.{◌≡◌, ◌||◌, length}
use Rattle.bgpdump_lines.specs.Run.{outputs_of}
use Rattle.bgpdump_tool.specs.Execution.{run_state_from_devices}
use Rattle.bgpdump_tool.proofs.PlayLaws.{LinesDone}
use Rattle.bgpdump_tool.proofs.play.execute_lines.Given as goal

abbrev pub invariant-lines : goal.invariant-lines
invariant-lines g l = record {
  lines : LinesDone l.initial.session.source (g.I.Input.left l.initial.input) l.fn.script l.rest l.number
      (run_state_from_devices g.I.Input.left g.E.Output.written l.session l.input l.err)
      (outputs_of g.O.Output.written g.E.Output.written l.initial.out l.initial.err)
      (outputs_of g.O.Output.written g.E.Output.written l.out l.err);
  read : g.I.Input.failed l.input ≡ g.I.Input.failed l.initial.input;
  wrote : (g.O.Output.failed l.out || g.E.Output.failed l.err) ≡ (g.O.Output.failed l.initial.out || g.E.Output.failed l.initial.err);
}

abbrev pub decreases-lines : goal.decreases-lines
decreases-lines g l = length l.rest
