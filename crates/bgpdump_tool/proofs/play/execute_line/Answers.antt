use Rattle.std.proofs.Common.{rules}
use Rattle.bgpdump_tool.specs.Script.{HasCommand}
use Rattle.bgpdump_tool.proofs.play.execute_line.Goals as goal

pub returns-in-Some-clause-carries_line : goal.returns-in-Some-clause-carries_line
returns-in-Some-clause-carries_line g c = (HasCommand c.in-Some.command, search rules, λ from left s stands. c.execute_command.ensures.carries_out from left s stands)
