use Rattle.std.proofs.Common.{rules, ◌<◌, ap, arith}
use Rattle.bgpdump_tool.specs.Execution.{at_cursor}
use Rattle.bgpdump_tool.proofs.MoveLaws.{back_all, back_fewer, back_more}
use Rattle.bgpdump_tool.proofs.execution.moves.undo_steps.Goals as goal

pub steps-init : goal.steps-init
steps-init g c = record { at = ap (λ n. at_cursor n c.args.player.now) (omega arith); few = omega arith }

pub returns-then-is_err : goal.returns-then-is_err
returns-then-is_err g c =
    let cannot : ¬ (c.steps.player.floor < c.steps.player.cursor) = search rules in
    back_fewer c.args.player.now c.steps.player c.undo.new.self c.steps.counter c.args.count c.steps.invariant.at c.steps.invariant.few (search rules) c.undo.ensures.after_undo cannot

pub steps-preserved : goal.steps-preserved
steps-preserved g c =
    let can : c.steps.player.floor < c.steps.player.cursor = search rules in
    let more = back_more c.args.player.now c.steps.player c.undo.new.self c.steps.counter c.steps.invariant.at c.steps.invariant.few c.undo.ensures.after_undo can in
    record { at = more.0; few = more.1 }

pub returns : goal.returns
returns g c = back_all c.args.player.now c.steps.player c.steps.counter c.args.count c.steps.invariant.at (search rules) c.steps.invariant.few
