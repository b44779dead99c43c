use Rattle.std.proofs.Common.{rules, arith, refl}
use Rattle.std.proofs.lemmas.Result.{err_from_is_err_and}
use Rattle.bgpdump_tool.specs.declared.play.TheConstants.{LONGEST_SCRIPT}
use Rattle.bgpdump_tool.specs.Script.{script_lines}
use Rattle.bgpdump_tool.proofs.CarryLaws.{HasRoom-up}
use Rattle.bgpdump_tool.proofs.PlayLaws.{LinesDone-start, LinesDone-line, HasExecutedScript-stopped, HasExecutedScript-last}
use Rattle.bgpdump_tool.proofs.play.execute_lines.Goals as goal

pub lines-init : goal.lines-init
lines-init g c = record {
  lines = LinesDone-start _ c.args.script.now _ _ c.requires.player c.requires.source c.requires.reported refl;
  read = refl;
  wrote = refl;
}

pub execute_line-requires : goal.execute_line-requires
execute_line-requires g c = record {
  room = HasRoom-up _ _ _ LONGEST_SCRIPT (omega (arith, c.lines.invariant.lines.count, c.lines.invariant.lines.few, c.requires.short)) c.lines.invariant.lines.room;
}

pub returns-in_err-execute_line-clause-plays : goal.returns-in_err-execute_line-clause-plays
returns-in_err-execute_line-clause-plays g c =
    let p = err_from_is_err_and c.from_residual.result c.from_residual.ensures.1 in
    rw (p.1, p.2) (HasExecutedScript-stopped _ _ c.args.script.now c.lines.rest.now c.in-Some.found.0.now (script_lines c.in-Some.found.1.now) c.lines.number _ _ _ _ _ c.in_err-execute_line.field-0.0 c.lines.invariant.lines c.in-Some.ensures.split_at_marks c.in_err-execute_line.ensures.carries_line)

pub lines-preserved : goal.lines-preserved
lines-preserved g c = record {
  lines = LinesDone-line _ _ c.args.script.now c.lines.rest.now c.in-Some.found.0.now c.in-Some.found.1.now c.lines.number _ _ _ _ _ c.lines.invariant.lines c.in-Some.ensures.split_at_marks c.in-Some.ensures.shorter c.in_ok-execute_line.ensures.carries_line c.execute_line.ensures.room;
  read = search rules;
  wrote = search rules;
}

pub execute_line-requires-2 : goal.execute_line-requires-2
execute_line-requires-2 g c = record {
  room = HasRoom-up _ _ _ LONGEST_SCRIPT (omega (arith, c.lines.invariant.lines.count, c.lines.invariant.lines.few, c.requires.short)) c.lines.invariant.lines.room;
}

pub returns-clause-plays : goal.returns-clause-plays
returns-clause-plays g c =
    HasExecutedScript-last _ _ c.args.script.now c.lines.rest.now c.lines.number _ _ _ _ _ c.execute_line-2.result c.lines.invariant.lines c.in_default.ensures.split_at_marks c.execute_line-2.ensures.carries_line
