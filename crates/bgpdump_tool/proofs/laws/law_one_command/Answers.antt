use Rattle.bgpdump_lines.specs.Lines.{space}
use Rattle.bgpdump_tool.specs.Script.{split_at_marks}
use Rattle.bgpdump_tool.proofs.CommandLaws.{one_of_words}
use Rattle.bgpdump_tool.proofs.laws.law_one_command.Goals as goal

pub returns : goal.returns
returns c = λ a b line. one_of_words a b (split_at_marks space line)
