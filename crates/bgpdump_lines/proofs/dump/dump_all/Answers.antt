use Rattle.std.proofs.Common.{rules, arith, ◌≡◌, Bool, false, Err, ap, refl, inl, inr}
use Rattle.std.proofs.lemmas.Result.{err_from_is_err_and}
use Rattle.mrt_wire.specs.declared.next.Next.{Next}
use Rattle.mrt_wire.specs.declared.next.Next.TheVariants.{Event, Bad, End}
use Rattle.mrt_wire.specs.Answered.{answer_results, is_nothing}
use Rattle.mrt_wire.specs.Results.{start_state}
use Rattle.mrt_wire.proofs.SoFarLaws.{Promises, told_by, HasAnswered-answer, goes_on_with_some}
use Rattle.bgpdump_lines.specs.declared.dump.TheConstants.{INPUT_LIMIT}
use Rattle.bgpdump_lines.specs.declared.fault.WriteFault.TheVariants.{Write}
use Rattle.bgpdump_lines.specs.WrittenSoFar.{WrittenSoFar}
use Rattle.bgpdump_lines.proofs.FlushingLaws.{AreFlushed-failed}
use Rattle.bgpdump_lines.proofs.RunLaws.{WrittenSoFar-start, WrittenSoFar-answer, WrittenSoFar-end, WrittenSoFar-kept, Stops-source, Stops-waiting, Stops-writing}
use Rattle.bgpdump_lines.proofs.dump.dump_all.Given.{Over}
use Rattle.bgpdump_lines.proofs.dump.dump_all.Goals as goal
use Rattle.bgpdump_lines.proofs.dump.dump_all.Goals.{After-flush_before_waiting}

-- an answer that isn't the end tells something
not_end : (next : Next) → (next ≡ End → ⊥) → is_nothing (answer_results next) ≡ false
not_end (Event event) other = refl
not_end (Bad fault) other = refl
not_end End other = absurd (other refl)

-- all that was found so far is written still
going : (g : Over) (c : After-flush_before_waiting g) → WrittenSoFar (start_state c.args.stamp INPUT_LIMIT) c.steps.source (g.I.Input.left c.args.input.now) (g.I.Input.left c.steps.input)
    (record { out = g.O.Output.written c.args.out.now; err = g.E.Output.written c.args.err.now })
    (record { out = g.O.Output.written c.flush_before_waiting.new.out; err = g.E.Output.written c.flush_before_waiting.new.err }) c.steps.reported
going g c =
    WrittenSoFar-kept (start_state c.args.stamp INPUT_LIMIT) c.steps.source _ _ _
    (record { out = g.O.Output.written c.steps.out; err = g.E.Output.written c.steps.err }) _ c.steps.reported
    c.steps.invariant.going c.flush_before_waiting.ensures.out c.flush_before_waiting.ensures.err

pub steps-init : goal.steps-init
steps-init g c = record {
  going = WrittenSoFar-start (start_state c.args.stamp INPUT_LIMIT) _ _ _ c.new-source.ensures refl (omega arith);
  read = refl;
  sound = c.requires.sound;
}

pub returns-in_err-flush_before_waiting-clause-ends : goal.returns-in_err-flush_before_waiting-clause-ends
returns-in_err-flush_before_waiting-clause-ends g c =
    let b = (goal.at.returns-in_err-flush_before_waiting-clause-ends g c).After-flush_before_waiting in
    let p = err_from_is_err_and c.from_residual.result c.from_residual.ensures.1 in
    rw (p.1, p.2) (inr (Write, refl, Stops-waiting (start_state c.args.stamp INPUT_LIMIT) c.steps.source _ _ _ _ c.steps.reported (going g b)))

pub returns-in_err-next-clause-ends : goal.returns-in_err-next-clause-ends
returns-in_err-next-clause-ends g c =
    let b = (goal.at.returns-in_err-next-clause-ends g c).After-flush_before_waiting in
    let p = err_from_is_err_and c.from_residual-in_err-next.result c.from_residual-in_err-next.ensures.1 in
    rw (p.1, p.2) (inl (
      c.in_err-next.field-0.0,
      refl,
      Stops-source (start_state c.args.stamp INPUT_LIMIT) c.steps.source c.next.new.self _ (g.I.Input.left c.steps.input) _ _ _ c.steps.reported _
          (going g b) c.in_err-next.ensures.next (λ e. (c.in_err-next.ensures.ended e).0) c.next.ensures.within,
    ))

pub returns-in-End-clause-ends : goal.returns-in-End-clause-ends
returns-in-End-clause-ends g c =
    let b = (goal.at.returns-in-End-clause-ends g c).After-flush_before_waiting in
    let promised : Promises c.steps.source c.next.new.self (g.I.Input.left c.steps.input) (g.I.Input.left c.next.new.input) c.in_ok-next.next =
    (c.in_ok-next.ensures.next, λ e. (ap told_by (c.in_ok-next.ensures.ended e).0, (c.in_ok-next.ensures.ended e).1, ap g.I.Input.left (c.in_ok-next.ensures.ended e).2)) in
    WrittenSoFar-end (start_state c.args.stamp INPUT_LIMIT) c.steps.source c.next.new.self _ (g.I.Input.left c.steps.input) _ _ _ c.steps.reported c.in_ok-next.next (going g b) promised (ap (λ n. is_nothing (answer_results n)) c.in-End.is) c.next.ensures.within

pub returns-in_err-reported-clause-ends : goal.returns-in_err-reported-clause-ends
returns-in_err-reported-clause-ends g c =
    let b = (goal.at.returns-in_err-reported-clause-ends g c).After-flush_before_waiting in
    let p = err_from_is_err_and c.from_residual-in_err-reported.result c.from_residual-in_err-reported.ensures.1 in
    let promised : Promises c.steps.source c.next.new.self (g.I.Input.left c.steps.input) (g.I.Input.left c.next.new.input) c.in_ok-next.next =
    (c.in_ok-next.ensures.next, λ e. (ap told_by (c.in_ok-next.ensures.ended e).0, (c.in_ok-next.ensures.ended e).1, ap g.I.Input.left (c.in_ok-next.ensures.ended e).2)) in
    rw (p.1, p.2) (inr (
      c.in_err-reported.field-0.0,
      refl,
      Stops-writing (start_state c.args.stamp INPUT_LIMIT) c.steps.source c.next.new.self _ (g.I.Input.left c.steps.input) _
          (record { out = g.O.Output.written c.args.out.now; err = g.E.Output.written c.args.err.now }) (record { out = g.O.Output.written c.flush_before_waiting.new.out; err = g.E.Output.written c.flush_before_waiting.new.err }) (record { out = g.O.Output.written c.write_lines_or_report.new.out; err = g.E.Output.written c.write_lines_or_report.new.err })
          c.steps.reported c.in_ok-next.next c.in_err-reported.field-0.0 (going g b) promised (not_end c.in_ok-next.next c.in_default.not-End) c.in_err-reported.ensures.found c.next.ensures.within,
    ))

pub steps-preserved : goal.steps-preserved
steps-preserved g c =
    let b = (goal.at.steps-preserved g c).After-flush_before_waiting in
    let promised : Promises c.steps.source c.next.new.self (g.I.Input.left c.steps.input) (g.I.Input.left c.next.new.input) c.in_ok-next.next =
    (c.in_ok-next.ensures.next, λ e. (ap told_by (c.in_ok-next.ensures.ended e).0, (c.in_ok-next.ensures.ended e).1, ap g.I.Input.left (c.in_ok-next.ensures.ended e).2)) in
    rw c.recycle.ensures record {
      going = WrittenSoFar-answer (start_state c.args.stamp INPUT_LIMIT) c.steps.source c.next.new.self _ (g.I.Input.left c.steps.input) _
          (record { out = g.O.Output.written c.args.out.now; err = g.E.Output.written c.args.err.now }) (record { out = g.O.Output.written c.flush_before_waiting.new.out; err = g.E.Output.written c.flush_before_waiting.new.err }) (record { out = g.O.Output.written c.write_lines_or_report.new.out; err = g.E.Output.written c.write_lines_or_report.new.err })
          c.steps.reported _ c.in_ok-next.next (going g b) promised c.in_ok-reported.ensures.found c.in_ok-reported.ensures.reported c.next.ensures.within;
      read = search (rules, c.in_ok-next.ensures.failed, c.steps.invariant.read);
      sound = search (rules, c.in_ok-reported.ensures.failed, c.in_ok-flush_before_waiting.ensures.failed, c.steps.invariant.sound);
    }

pub steps-smaller : goal.steps-smaller
steps-smaller g c =
    let b = (goal.at.steps-smaller g c).After-flush_before_waiting in
    let promised : Promises c.steps.source c.next.new.self (g.I.Input.left c.steps.input) (g.I.Input.left c.next.new.input) c.in_ok-next.next =
    (c.in_ok-next.ensures.next, λ e. (ap told_by (c.in_ok-next.ensures.ended e).0, (c.in_ok-next.ensures.ended e).1, ap g.I.Input.left (c.in_ok-next.ensures.ended e).2)) in
    let going = going g b in
    let some = goes_on_with_some (start_state c.args.stamp INPUT_LIMIT) c.steps.source c.next.new.self _ _ _ going.found c.in_ok-next.next going.so_far promised (not_end c.in_ok-next.next c.in_default.not-End) in
    let so_far = HasAnswered-answer (start_state c.args.stamp INPUT_LIMIT) c.steps.source c.next.new.self _ _ _ going.found c.in_ok-next.next going.so_far promised in
    omega (arith, some, so_far.limit, c.next.ensures.within, ap (λ source. source.offset) c.recycle.ensures)

pub returns-in_err-next-clause-flushed : goal.returns-in_err-next-clause-flushed
returns-in_err-next-clause-flushed g c = λ failed.
    let p = err_from_is_err_and c.from_residual-in_err-next.result c.from_residual-in_err-next.ensures.1 in
    AreFlushed-failed Bool (g.I.Input.buffered c.steps.input) (g.O.Output.pending c.flush_before_waiting.new.out) (g.E.Output.pending c.flush_before_waiting.new.err) c.in_err-next.field-0.0 (Err c.in_err-next.field-0.0) refl
    c.in_ok-flush_before_waiting.ensures.flushed c.in_err-next.ensures.buffered (rw (p.1, p.2) at failed)
