use Rattle.bgpdump_tool.proofs.WordLaws.{zero_no_times}
use Rattle.bgpdump_tool.proofs.command.parse_step_count.Goals as goal

pub returns-then-number-eq0 : goal.returns-then-number-eq0
returns-then-number-eq0 c = zero_no_times c.args.word.now c.in_ok-number.number c.if-number-eq0.true c.in_ok-number.ensures
