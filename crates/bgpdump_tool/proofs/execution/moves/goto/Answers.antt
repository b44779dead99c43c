use Rattle.std.proofs.Common.{rules, refl, arith, ◌<◌, ◌≤◌, true, false}
use Rattle.std.proofs.lemmas.Result.{err_from_is_err_and}
use Rattle.std.proofs.KnownBytes.{Keeps-refl, Keeps-trans}
use Rattle.bgpdump_tool.specs.declared.command.Command.TheVariants.{Goto}
use Rattle.bgpdump_tool.specs.declared.play.TheConstants.{LONGEST_SCRIPT}
use Rattle.bgpdump_tool.proofs.MoveLaws.{Reaches-none, Reaches-step}
use Rattle.bgpdump_tool.proofs.CarryLaws.{Goto-all, Goto-end, Goto-stops, Execution-moved, Execution-retreats}
use Rattle.bgpdump_tool.proofs.execution.moves.goto.Goals as goal

pub returns-then-from-at-clause-carries_out : goal.returns-then-from-at-clause-carries_out
returns-then-from-at-clause-carries_out g c = λ from left s stands.
    let below : c.args.position < c.args.session.now.player.cursor = search rules in
    rw c.replied.ensures (Execution-retreats c.args.position _ from left s _ c.back.new.player _ _ c.back.result below (search rules) stands c.back.ensures.player c.back.ensures.text)

pub steps-init : goal.steps-init
steps-init g c = record {
  reaches = λ from left s stands. Reaches-none c.args.position from left s _ stands (search rules);
  room = λ lost room. room;
  out = Keeps-refl (g.O.Output.written c.args.out.now);
  read = refl;
  wrote = refl;
}

pub step_forward-requires : goal.step_forward-requires
step_forward-requires g c = record { room = c.steps.invariant.room LONGEST_SCRIPT c.requires.room }

pub returns-in_err-step_forward-clause-carries_out : goal.returns-in_err-step_forward-clause-carries_out
returns-in_err-step_forward-clause-carries_out g c = λ from left s stands.
    let above : c.args.session.now.player.cursor ≤ c.args.position = search rules in
    let below : c.steps.session.player.cursor < c.args.position = search rules in
    let p = err_from_is_err_and c.from_residual.result c.from_residual.ensures.1 in
    rw (p.1, p.2) (Goto-stops c.args.position from left s _ _ _ _ _ c.in_err-step_forward.field-0.0 (omega (arith, above, stands.cursor)) stands below (c.steps.invariant.reaches from left s stands) c.in_err-step_forward.ensures.steps
    (Keeps-trans _ _ _ c.steps.invariant.out c.in_err-step_forward.ensures.out))

pub returns-in_err-step_forward-clause-room : goal.returns-in_err-step_forward-clause-room
returns-in_err-step_forward-clause-room g c = λ lost room. c.step_forward.ensures.room lost (c.steps.invariant.room lost room)

pub returns-then-branch-clause-carries_out : goal.returns-then-branch-clause-carries_out
returns-then-branch-clause-carries_out g c = λ from left s stands.
    let above : c.args.session.now.player.cursor ≤ c.args.position = search rules in
    let below : c.steps.session.player.cursor < c.args.position = search rules in
    let led = Goto-end c.args.position from left s _ _ _ c.in_ok-step_forward.field-0 (omega (arith, above, stands.cursor)) stands below (c.steps.invariant.reaches from left s stands) c.if-branch.true c.in_ok-step_forward.ensures.steps in
    rw c.replied-then-branch.ensures (Execution-moved (Goto c.args.position) from left s _ _ _ _ _ c.at-then-branch.result true c.write_position.result led c.at-then-branch.ensures.cursor (Keeps-trans _ _ _ c.steps.invariant.out c.in_ok-step_forward.ensures.out) c.write_position.ensures.text)

pub returns-then-branch-clause-room : goal.returns-then-branch-clause-room
returns-then-branch-clause-room g c = λ lost room. c.step_forward.ensures.room lost (c.steps.invariant.room lost room)

pub steps-smaller : goal.steps-smaller
steps-smaller g c =
    let room = c.steps.invariant.room LONGEST_SCRIPT c.requires.room in
    let room' = c.step_forward.ensures.room LONGEST_SCRIPT room in
    omega (arith, c.in_ok-step_forward.ensures.smaller c.if-branch.false, room.within, room.limit, room'.within, room'.limit)

pub steps-preserved : goal.steps-preserved
steps-preserved g c = record {
  reaches = λ from left s stands.
      let below : c.steps.session.player.cursor < c.args.position = search rules in
      Reaches-step c.args.position from left s _ _ _ c.in_ok-step_forward.field-0 stands below (c.steps.invariant.reaches from left s stands) c.if-branch.false c.in_ok-step_forward.ensures.steps;
  room = λ lost room. c.step_forward.ensures.room lost (c.steps.invariant.room lost room);
  out = Keeps-trans _ _ _ c.steps.invariant.out c.in_ok-step_forward.ensures.out;
  read = search rules;
  wrote = search rules;
}

pub returns-clause-carries_out : goal.returns-clause-carries_out
returns-clause-carries_out g c = λ from left s stands.
    let above : c.args.session.now.player.cursor ≤ c.args.position = search rules in
    rw c.replied-2.ensures (Execution-moved (Goto c.args.position) from left s _ _ _ _ _ c.at-2.result false c.write_position-2.result (Goto-all c.args.position from left s _ _ (omega (arith, above, stands.cursor)) (c.steps.invariant.reaches from left s stands) (search rules)) c.at-2.ensures.cursor c.steps.invariant.out c.write_position-2.ensures.text)
