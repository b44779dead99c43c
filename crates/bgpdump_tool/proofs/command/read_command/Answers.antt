use Rattle.bgpdump_lines.specs.Lines.{space}
use Rattle.bgpdump_tool.specs.Script.{split_at_marks}
use Rattle.bgpdump_tool.proofs.CommandLaws.{found_in, many_words}
use Rattle.bgpdump_tool.proofs.WordLaws.{words_some}
use Rattle.bgpdump_tool.proofs.command.read_command.Goals as goal

pub returns-in_default : goal.returns-in_default
returns-in_default c = found_in c.args.line.now _ c.parse_bare_command.result c.in_default.ensures.split_at_marks c.parse_bare_command.ensures

pub returns-in_default-split_once : goal.returns-in_default-split_once
returns-in_default-split_once c =
    found_in c.args.line.now _ c.parse_with_one_argument.result (cc (c.in-Some.ensures.split_at_marks, c.in_default-split_once.ensures.split_at_marks)) c.parse_with_one_argument.ensures

pub returns-in_default-split_once-2 : goal.returns-in_default-split_once-2
returns-in_default-split_once-2 c =
    found_in c.args.line.now _ c.parse_with_two_arguments.result (cc (c.in-Some.ensures.split_at_marks, c.in-Some-split_once.ensures.split_at_marks, c.in_default-split_once-2.ensures.split_at_marks)) c.parse_with_two_arguments.ensures

pub returns-in-None : goal.returns-in-None
returns-in-None c =
    found_in c.args.line.now _ c.parse_with_three_arguments.result (cc (c.in-Some.ensures.split_at_marks, c.in-Some-split_once.ensures.split_at_marks, c.in-Some-split_once-2.ensures.split_at_marks, c.in-None.ensures.split_at_marks)) c.parse_with_three_arguments.ensures

pub returns-in-Some-split_once-3 : goal.returns-in-Some-split_once-3
returns-in-Some-split_once-3 c =
    let (third, rest) = c.in-Some-split_once-3.field-0 in
    many_words (split_at_marks space c.args.line.now) (split_at_marks space rest.now) c.in-Some.name.now c.in-Some-split_once.first.now c.in-Some-split_once-2.second.now third.now
    (cc (c.in-Some.ensures.split_at_marks, c.in-Some-split_once.ensures.split_at_marks, c.in-Some-split_once-2.ensures.split_at_marks, c.in-Some-split_once-3.ensures.split_at_marks)) (words_some rest.now)
