use Rattle.std.proofs.Common.{◌∙◌, ap}
use Rattle.clap.proofs.WalkLemmas.{one_text-rows}
use Rattle.clap.specs.Words.{found_of, one_text}
use Rattle.std.specs.Prelude.{codes}
use Rattle.bgpdump_command_line.specs.CommandLine.{equals_text}
use Rattle.bgpdump_command_line.proofs.CommandLineLaws.{flag_read}
use Rattle.bgpdump_command_line.proofs.command_line.has_lines_flag.Goals as goal

pub returns : goal.returns
returns c =
    c.unwrap_or.ensures ∙ flag_read _ (one_text (found_of c.args.matches.now) (codes "lines")) c.get_one.result c.get_one.ensures.none c.get_one.ensures.value
    ∙ ap (equals_text (codes "true")) (one_text-rows (found_of c.args.matches.now) (codes "lines"))
