use Rattle.std.proofs.Common.{true, false}
use Rattle.ip_prefix.proofs.Turns.{turn-outside, turn-here, turn-side}
use Rattle.ip_prefix.proofs.laws.law_turns_are_by_covering.Goals as goal

pub returns : goal.returns
returns c = record {
  outside = turn-outside;
  here = turn-here;
  left = λ m n. turn-side m n false;
  right = λ m n. turn-side m n true;
}
