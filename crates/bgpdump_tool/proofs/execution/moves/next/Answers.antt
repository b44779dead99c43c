use Rattle.std.proofs.Common.{rules, refl, false}
use Rattle.std.proofs.lemmas.Result.{err_from_is_err_and}
use Rattle.std.proofs.KnownBytes.{Keeps-refl, Keeps-trans}
use Rattle.bgpdump_tool.specs.declared.command.Command.TheVariants.{Next}
use Rattle.bgpdump_tool.specs.declared.play.TheConstants.{LONGEST_SCRIPT}
use Rattle.bgpdump_tool.proofs.MoveLaws.{Forth-none, Forth-step}
use Rattle.bgpdump_tool.proofs.CarryLaws.{Next-all, Next-end, Next-stops, Execution-moved}
use Rattle.bgpdump_tool.proofs.execution.moves.next.Goals as goal

pub steps-init : goal.steps-init
steps-init g c = record {
  forth = λ from left s stands. Forth-none from left s _ stands;
  room = λ lost room. room;
  out = Keeps-refl (g.O.Output.written c.args.out.now);
  read = refl;
  wrote = refl;
}

pub step_forward-requires : goal.step_forward-requires
step_forward-requires g c = record { room = c.steps.invariant.room LONGEST_SCRIPT c.requires.room }

pub returns-in_err-ended-clause-carries_out : goal.returns-in_err-ended-clause-carries_out
returns-in_err-ended-clause-carries_out g c = λ from left s stands.
    let p = err_from_is_err_and c.from_residual.result c.from_residual.ensures.1 in
    rw (p.1, p.2) (Next-stops c.args.count c.steps.counter from left s _ _ _ _ _ c.in_err-ended.field-0.0 stands (search rules) (c.steps.invariant.forth from left s stands) c.in_err-ended.ensures.steps
    (Keeps-trans _ _ _ c.steps.invariant.out c.in_err-ended.ensures.out))

pub returns-in_err-ended-clause-room : goal.returns-in_err-ended-clause-room
returns-in_err-ended-clause-room g c = λ lost room. c.step_forward.ensures.room lost (c.steps.invariant.room lost room)

pub returns-then-ended-clause-carries_out : goal.returns-then-ended-clause-carries_out
returns-then-ended-clause-carries_out g c = λ from left s stands.
    let led = Next-end c.args.count c.steps.counter from left s _ _ _ c.in_ok-ended.ended stands (search rules) (c.steps.invariant.forth from left s stands) c.if-ended.true c.in_ok-ended.ensures.steps in
    rw c.replied.ensures (Execution-moved (Next c.args.count) from left s _ _ _ _ _ c.at.result c.in_ok-ended.ended c.write_position.result led c.at.ensures.cursor (Keeps-trans _ _ _ c.steps.invariant.out c.in_ok-ended.ensures.out) c.write_position.ensures.text)

pub returns-then-ended-clause-room : goal.returns-then-ended-clause-room
returns-then-ended-clause-room g c = λ lost room. c.step_forward.ensures.room lost (c.steps.invariant.room lost room)

pub steps-preserved : goal.steps-preserved
steps-preserved g c = record {
  forth = λ from left s stands.
      Forth-step c.steps.counter from left s _ _ _ c.in_ok-ended.ended stands (c.steps.invariant.forth from left s stands) c.if-ended.false c.in_ok-ended.ensures.steps;
  room = λ lost room. c.step_forward.ensures.room lost (c.steps.invariant.room lost room);
  out = Keeps-trans _ _ _ c.steps.invariant.out c.in_ok-ended.ensures.out;
  read = search rules;
  wrote = search rules;
}

pub returns-clause-carries_out : goal.returns-clause-carries_out
returns-clause-carries_out g c = λ from left s stands.
    rw c.replied-2.ensures (Execution-moved (Next c.args.count) from left s _ _ _ _ _ c.at-2.result false c.write_position-2.result (Next-all c.args.count c.steps.counter from left s _ _ (search rules) (c.steps.invariant.forth from left s stands)) c.at-2.ensures.cursor c.steps.invariant.out c.write_position-2.ensures.text)
