use Rattle.bgpdump_tool.specs.Script.{script_lines}
use Rattle.bgpdump_tool.proofs.CommandLaws.{one_reading, lines_read}
use Rattle.bgpdump_tool.proofs.laws.law_one_script.Goals as goal

pub returns : goal.returns
returns c = record {
  one = λ a b script. one_reading a b (script_lines script);
  some = λ script. lines_read (script_lines script);
}
