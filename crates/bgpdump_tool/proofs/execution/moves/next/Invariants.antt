-- So many steps were taken.
use Rattle.std.proofs.Common.{◌≡◌, ◌||◌, ℕ, List, Option}
use Rattle.std.specs.Io.KnownBytes.{Keeps}
use Rattle.mrt_wire.specs.Results.{SourceState}
use Rattle.bgpdump_tool.specs.Execution.{Progress, HasProgress, HasRoom, run_state_from_devices}
use Rattle.bgpdump_tool.proofs.MoveLaws.{Forth}
use Rattle.bgpdump_tool.proofs.execution.moves.next.Given as goal

abbrev pub invariant-steps : goal.invariant-steps
invariant-steps g l = record {
  forth : (from : SourceState) (left : Option (List ℕ)) (s : Progress)
      → HasProgress from left (run_state_from_devices g.I.Input.left g.E.Output.written l.initial.session l.initial.input l.initial.err) s
      → Forth l.counter from left s
      (run_state_from_devices g.I.Input.left g.E.Output.written l.initial.session l.initial.input l.initial.err)
      (run_state_from_devices g.I.Input.left g.E.Output.written l.session l.input l.err);
  room : (lost : ℕ) → HasRoom l.initial.session.player l.initial.session.source lost → HasRoom l.session.player l.session.source lost;
  out : Keeps (g.O.Output.written l.initial.out) (g.O.Output.written l.out);
  read : g.I.Input.failed l.input ≡ g.I.Input.failed l.initial.input;
  wrote : (g.O.Output.failed l.out || g.E.Output.failed l.err) ≡ (g.O.Output.failed l.initial.out || g.E.Output.failed l.initial.err);
}
