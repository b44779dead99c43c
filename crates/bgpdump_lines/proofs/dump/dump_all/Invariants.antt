-- So far all that was found was written; each answer takes octets below the limit.
use Rattle.std.proofs.Common.{◌≡◌, ◌||◌, ◌-◌, false}
use Rattle.mrt_wire.specs.Results.{start_state}
use Rattle.bgpdump_lines.specs.declared.dump.TheConstants.{INPUT_LIMIT}
use Rattle.bgpdump_lines.specs.WrittenSoFar.{WrittenSoFar}
use Rattle.bgpdump_lines.proofs.dump.dump_all.Given as goal

abbrev pub invariant-steps : goal.invariant-steps
invariant-steps g l = record {
  going : WrittenSoFar (start_state l.fn.stamp INPUT_LIMIT) l.source (g.I.Input.left l.initial.input) (g.I.Input.left l.input)
      (record { out = g.O.Output.written l.initial.out; err = g.E.Output.written l.initial.err })
      (record { out = g.O.Output.written l.out; err = g.E.Output.written l.err }) l.reported;
  read : g.I.Input.failed l.input ≡ g.I.Input.failed l.initial.input;
  sound : (g.O.Output.failed l.out || g.E.Output.failed l.err) ≡ false;
}

abbrev pub decreases-steps : goal.decreases-steps
decreases-steps g l = INPUT_LIMIT - l.source.offset
