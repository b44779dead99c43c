use Rattle.std.proofs.Common.{rules, arith, ap, refl, Bool, Err, ◌≡◌, ◌∙◌, ◌<◌, true, is_ok}
use Rattle.std.proofs.lemmas.Result.{err_from_is_err_and}
use Rattle.rib_player.specs.Timeline.{end_of}
use Rattle.bgpdump_lines.specs.declared.outcome.Outcome.TheVariants as outcome
use Rattle.bgpdump_tool.specs.Execution.{run_state_from_devices}
use Rattle.bgpdump_lines.proofs.FlushingLaws.{AreFlushed-phase}
use Rattle.bgpdump_tool.proofs.StepLaws.{redo_off, after_ok, promised, step_over, step_found, step_bad, step_end, step_stops_reading, step_stops_playing, step_stops_reporting, step_stops_waiting}
use Rattle.bgpdump_tool.proofs.session.Session.step_forward.Goals as goal

pub returns-then-is_ok-clause-steps : goal.returns-then-is_ok-clause-steps
returns-then-is_ok-clause-steps g c = λ from left s stands.
    let on : c.args.self.now.player.cursor < end_of c.args.self.now.player = search rules in
    step_over from left _ s c.redo.new.self stands c.redo.ensures.after_redo on

pub returns-in_err-event-clause-steps : goal.returns-in_err-event-clause-steps
returns-in_err-event-clause-steps g c = λ from left s stands.
    let off : ¬ (c.args.self.now.player.cursor < end_of c.args.self.now.player) = search rules in
    let p = err_from_is_err_and c.from_residual-in_err-event.result c.from_residual-in_err-event.ensures.1 in
    rw (p.1, p.2) (step_stops_reading from left _ s c.redo.new.self c.next.new.self (g.I.Input.left c.next.new.input) (g.E.Output.written c.flush_before_record.new.err) c.args.self.now.reported c.in_err-event.field-0.0 stands c.flush_before_record.ensures.err off c.in_err-event.ensures.next (λ e. (c.in_err-event.ensures.ended e).0) c.next.ensures.within)

pub play-requires : goal.play-requires
play-requires g c =
    let off : ¬ (c.args.self.now.player.cursor < end_of c.args.self.now.player) = search rules in
    omega (arith, c.requires.room.cursor, c.requires.room.steps, c.requires.room.within, c.requires.room.limit, ap (λ t. t.cursor) (c.redo.ensures.after_redo ∙ redo_off c.args.self.now.player off))

pub returns-in_err-map_err-in-Event-clause-steps : goal.returns-in_err-map_err-in-Event-clause-steps
returns-in_err-map_err-in-Event-clause-steps g c = λ from left s stands.
    let off : ¬ (c.args.self.now.player.cursor < end_of c.args.self.now.player) = search rules in
    let p = err_from_is_err_and c.from_residual-in_err-map_err-in-Event.result c.from_residual-in_err-map_err-in-Event.ensures.1 in
    let told = promised g.I.Input.left _ c.next.new.self c.args.input.now c.next.new.input _ _ c.in-Event.is c.in_ok-event.ensures.next c.in_ok-event.ensures.ended in
    let memory : c.in_err-map_err-in-Event.field-0.0 ≡ outcome.Memory = search rules in
    rw (p.1, p.2, memory) (step_stops_playing from left _ s c.play.new.self c.next.new.self (g.I.Input.left c.next.new.input) (g.E.Output.written c.flush_before_record.new.err) c.in-Event.event stands c.flush_before_record.ensures.err off told c.next.ensures.within)

pub returns-in_err-write_report-in-Bad-clause-steps :
    goal.returns-in_err-write_report-in-Bad-clause-steps
returns-in_err-write_report-in-Bad-clause-steps g c = λ from left s stands.
    let off : ¬ (c.args.self.now.player.cursor < end_of c.args.self.now.player) = search rules in
    let p = err_from_is_err_and c.from_residual-in_err-write_report-in-Bad.result c.from_residual-in_err-write_report-in-Bad.ensures.1 in
    let told = promised g.I.Input.left _ c.next.new.self c.args.input.now c.next.new.input _ _ c.in-Bad.is c.in_ok-event.ensures.next c.in_ok-event.ensures.ended in
    rw (p.1, p.2) (step_stops_reporting from left _ s c.redo.new.self c.next.new.self (g.I.Input.left c.next.new.input) (g.E.Output.written c.flush_before_record.new.err) (g.E.Output.written c.write_report.new.err) c.in-Bad.fault c.in_err-write_report-in-Bad.field-0.0 stands c.flush_before_record.ensures.err off told c.next.ensures.within c.in_err-write_report-in-Bad.ensures.text)

pub returns-in_ok-map_err-in-Event-clause-steps : goal.returns-in_ok-map_err-in-Event-clause-steps
returns-in_ok-map_err-in-Event-clause-steps g c = λ from left s stands.
    let off : ¬ (c.args.self.now.player.cursor < end_of c.args.self.now.player) = search rules in
    let told = promised g.I.Input.left _ c.next.new.self c.args.input.now c.next.new.input _ _ c.in-Event.is c.in_ok-event.ensures.next c.in_ok-event.ensures.ended in
    let played : is_ok c.play.result ≡ true = search rules in
    rw (c.recycle.ensures, c.drop_unused_routes.ensures) (step_found from left _ s c.redo.new.self c.play.new.self c.next.new.self (g.I.Input.left c.next.new.input) (g.E.Output.written c.flush_before_record.new.err) c.in-Event.event stands c.flush_before_record.ensures.err c.redo.ensures.after_redo off (after_ok c.play.result played c.play.ensures.after_play) told c.next.ensures.within)

pub returns-in_ok-write_report-in-Bad-clause-steps :
    goal.returns-in_ok-write_report-in-Bad-clause-steps
returns-in_ok-write_report-in-Bad-clause-steps g c = λ from left s stands.
    let off : ¬ (c.args.self.now.player.cursor < end_of c.args.self.now.player) = search rules in
    let told = promised g.I.Input.left _ c.next.new.self c.args.input.now c.next.new.input _ _ c.in-Bad.is c.in_ok-event.ensures.next c.in_ok-event.ensures.ended in
    step_bad from left _ s c.redo.new.self c.next.new.self (g.I.Input.left c.next.new.input) (g.E.Output.written c.flush_before_record.new.err) (g.E.Output.written c.write_report.new.err) c.in-Bad.fault stands c.flush_before_record.ensures.err c.redo.ensures.after_redo off told c.next.ensures.within c.in_ok-write_report-in-Bad.ensures.text

pub returns-in-End-clause-steps : goal.returns-in-End-clause-steps
returns-in-End-clause-steps g c = λ from left s stands.
    let off : ¬ (c.args.self.now.player.cursor < end_of c.args.self.now.player) = search rules in
    let told = promised g.I.Input.left _ c.next.new.self c.args.input.now c.next.new.input _ _ c.in-End.is c.in_ok-event.ensures.next c.in_ok-event.ensures.ended in
    step_end from left _ s c.redo.new.self c.next.new.self (g.I.Input.left c.next.new.input) (g.E.Output.written c.flush_before_record.new.err) stands c.flush_before_record.ensures.err c.redo.ensures.after_redo off told c.next.ensures.within

pub returns-in_err-flush_before_record-clause-steps : goal.returns-in_err-flush_before_record-clause-steps
returns-in_err-flush_before_record-clause-steps g c = λ from left s stands.
    let off : ¬ (c.args.self.now.player.cursor < end_of c.args.self.now.player) = search rules in
    let p = err_from_is_err_and c.from_residual.result c.from_residual.ensures.1 in
    rw (p.1, p.2) (step_stops_waiting from left (run_state_from_devices g.I.Input.left g.E.Output.written c.args.self.now c.args.input.now c.args.err.now) s c.redo.new.self (g.E.Output.written c.flush_before_record.new.err) stands off c.flush_before_record.ensures.err)

pub returns-in_err-event-clause-flushed : goal.returns-in_err-event-clause-flushed
returns-in_err-event-clause-flushed g c = λ failed.
    let p = err_from_is_err_and c.from_residual-in_err-event.result c.from_residual-in_err-event.ensures.1 in
    AreFlushed-phase Bool c.args.self.now.source.phase (g.I.Input.buffered c.args.input.now) (g.O.Output.pending c.flush_before_record.new.out) (g.E.Output.pending c.flush_before_record.new.err) c.in_err-event.field-0.0 (Err c.in_err-event.field-0.0) refl
    c.in_ok-flush_before_record.ensures.flushed c.in_err-event.ensures.buffered (λ e. (c.in_err-event.ensures.ended e).0) (λ e. (c.in_err-event.ensures.spent e).0) (rw (p.1, p.2) at failed)
