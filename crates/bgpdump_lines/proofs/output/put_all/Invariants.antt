-- What is gone from the rest was appended, and each turn takes at least one octet.
use Rattle.std.proofs.Common.{◌≡◌, ℕ, List, ◌++◌, length}
use Rattle.std.specs.Io.KnownBytes.{Appends}
use Rattle.bgpdump_lines.proofs.output.put_all.Given as goal

abbrev pub invariant-loop-rest : goal.invariant-loop-rest
invariant-loop-rest g l = (front : List ℕ) × record {
  split : l.octets ≡ front ++ l.rest;
  appended : Appends (g.W.Output.written l.initial.output) (g.W.Output.written l.output) front;
  failed : g.W.Output.failed l.output ≡ g.W.Output.failed l.initial.output;
}

abbrev pub decreases-loop-rest : goal.decreases-loop-rest
decreases-loop-rest g l = length l.rest
