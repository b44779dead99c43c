-- The text is no decimal where a test refuses it, and else that of the number that is parsed of it.
use Rattle.std.proofs.Common.{◌<◌, ◌≤◌, length, get_or, arith}
use Rattle.ip_prefix.proofs.Lengths.{low_no_length, other_no_length, parsed_length}
use Rattle.ip_prefix.proofs.parse.read_length.Goals as goal
use Rattle.ip_prefix.proofs.parse.read_length.Goals.{else-text-gt1-via-then-text-gt1+else-text-lt49, else-text-gt1-via-else-text-gt1}

pub returns-then-text-lt49 : goal.returns-then-text-lt49
returns-then-text-lt49 c = low_no_length c.args.text.now c.if-text-gt1.true c.if-text-lt49.true

pub returns-in-Ok : goal.returns-in-Ok
returns-in-Ok c =
    let text = c.args.text.now in
    let short : (get_or text 0 0 < 49 → length text ≤ 1) = λ low. elim c.else-text-gt1.branch [
      | else-text-gt1-via-then-text-gt1+else-text-lt49 w ↦ absurd (omega (arith, w.if-text-lt49.false))
      | else-text-gt1-via-else-text-gt1 w ↦ w.if-text-gt1.false
    ] in
    rw c.ok.ensures.value (parsed_length text c.parse.result short (rw c.in-Ok.ensures.cases.0 at c.parse.ensures.value.0))

pub returns-in-Err : goal.returns-in-Err
returns-in-Err c = other_no_length c.args.text.now c.in-Err.ensures.cases.0
