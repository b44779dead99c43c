use Rattle.std.proofs.lemmas.Result.{err_from_is_err_and}
use Rattle.bgpdump_lines.proofs.WritingLaws.{Writes-report, PutsResults-lines, PutsResults-report}
use Rattle.bgpdump_lines.proofs.write.write_lines_or_report.Goals as goal

pub returns-in_err-write_event-in-Event-clause-found :
    goal.returns-in_err-write_event-in-Event-clause-found
returns-in_err-write_event-in-Event-clause-found g c =
    let p = err_from_is_err_and c.from_residual.result c.from_residual.ensures.1 in
    rw (c.in-Event.is, p.1, p.2) (PutsResults-lines _ _ (g.E.Output.written c.args.err.now) c.in-Event.event c.in_err-write_event-in-Event.field-0.0 c.in_err-write_event-in-Event.ensures.text)

pub returns-in_err-write_report-in-Bad-clause-found :
    goal.returns-in_err-write_report-in-Bad-clause-found
returns-in_err-write_report-in-Bad-clause-found g c =
    let p = err_from_is_err_and c.from_residual-in_err-write_report-in-Bad.result c.from_residual-in_err-write_report-in-Bad.ensures.1 in
    rw (c.in-Bad.is, p.1, p.2) (PutsResults-report (g.O.Output.written c.args.out.now) _ _ c.in-Bad.fault c.in_err-write_report-in-Bad.field-0.0 c.in_err-write_report-in-Bad.ensures.text)

pub returns-in_ok-write_report-in-Bad-clause-found :
    goal.returns-in_ok-write_report-in-Bad-clause-found
returns-in_ok-write_report-in-Bad-clause-found g c =
    rw c.in-Bad.is (Writes-report (g.O.Output.written c.args.out.now) _ _ c.in-Bad.fault c.in_ok-write_report-in-Bad.ensures.text)
