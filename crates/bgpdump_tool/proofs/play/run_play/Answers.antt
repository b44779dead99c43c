use Rattle.std.proofs.Common.{◌||◌}
use Rattle.bgpdump_lines.specs.KnownOctets.{ends_on_octets}
use Rattle.bgpdump_tool.specs.Course.{ScriptSawEnd, play_texts}
use Rattle.bgpdump_tool.proofs.PlayEndLaws.{PlayEnds-finished, PlayEnds-stopped, Writes-cut, IsTaken-finished, IsTaken-ended, length-ended, TakesWanted-finished, TakesWanted-stopped, HasBegun-finished, HasBegun-stopped}
use Rattle.bgpdump_tool.proofs.play.run_play.Goals as goal

pub returns-in-Ok-clause-text : goal.returns-in-Ok-clause-text
returns-in-Ok-clause-text g c = λ short.
    PlayEnds-finished c.args.stamp _ c.args.script.now _ _ _ _ (g.O.Output.failed c.finish_outputs-outcome.new.out || g.E.Output.failed c.finish_outputs-outcome.new.err) c.finish_outputs-outcome.result (rw c.new-session.ensures.source at c.in-Ok.ensures.plays) c.finish_outputs-outcome.ensures.outcome c.finish_outputs-outcome.ensures.out c.finish_outputs-outcome.ensures.err

pub returns-in-Ok-clause-taken : goal.returns-in-Ok-clause-taken
returns-in-Ok-clause-taken g c = λ short.
    IsTaken-finished c.args.stamp _ c.args.script.now _ _ _ (g.O.Output.failed c.finish_outputs-outcome.new.out || g.E.Output.failed c.finish_outputs-outcome.new.err) c.finish_outputs-outcome.result (rw c.new-session.ensures.source at c.in-Ok.ensures.plays) c.finish_outputs-outcome.ensures.outcome

pub returns-in-Err-clause-text : goal.returns-in-Err-clause-text
returns-in-Err-clause-text g c = λ short. PlayEnds-stopped c.args.stamp _ c.args.script.now _ _ _ c.in-Err.outcome (rw c.new-session.ensures.source at c.in-Err.ensures.plays)

pub returns-in-Err-clause-whole_records : goal.returns-in-Err-clause-whole_records
returns-in-Err-clause-whole_records g c = Writes-cut c.args.stamp _ c.args.script.now _ _ _ c.in-Err.outcome (rw c.new-session.ensures.source at c.in-Err.ensures.plays)

pub returns-in-Err-clause-taken : goal.returns-in-Err-clause-taken
returns-in-Err-clause-taken g c = λ short. IsTaken-ended c.args.stamp _ c.args.script.now _ _ _ c.in-Err.outcome (rw c.new-session.ensures.source at c.in-Err.ensures.plays)

pub returns-in-Err-clause-too_long : goal.returns-in-Err-clause-too_long
returns-in-Err-clause-too_long g c = length-ended c.args.stamp _ c.args.script.now _ _ _ c.in-Err.outcome (rw c.new-session.ensures.source at c.in-Err.ensures.plays)

pub returns-in-Ok-clause-wanted : goal.returns-in-Ok-clause-wanted
returns-in-Ok-clause-wanted g c =
    TakesWanted-finished c.args.stamp _ c.args.script.now _ _ _ (g.O.Output.failed c.finish_outputs-outcome.new.out || g.E.Output.failed c.finish_outputs-outcome.new.err) c.finish_outputs-outcome.result (rw c.new-session.ensures.source at c.in-Ok.ensures.plays) c.finish_outputs-outcome.ensures.outcome

pub returns-in-Err-clause-wanted : goal.returns-in-Err-clause-wanted
returns-in-Err-clause-wanted g c = TakesWanted-stopped c.args.stamp _ c.args.script.now _ _ _ c.in-Err.outcome (rw c.new-session.ensures.source at c.in-Err.ensures.plays)

pub returns-in-Ok-clause-began : goal.returns-in-Ok-clause-began
returns-in-Ok-clause-began g c = λ broken lines reading.
    HasBegun-finished c.args.stamp _ c.args.script.now _ _ _ _ (rw c.new-session.ensures.source at c.in-Ok.ensures.plays) c.finish_outputs-outcome.ensures.out c.finish_outputs-outcome.ensures.err lines reading

pub returns-in-Err-clause-began : goal.returns-in-Err-clause-began
returns-in-Err-clause-began g c = λ broken lines reading.
    HasBegun-stopped c.args.stamp _ c.args.script.now _ _ _ c.in-Err.outcome (rw c.new-session.ensures.source at c.in-Err.ensures.plays) lines reading

pub returns-in-Ok-clause-octets : goal.returns-in-Ok-clause-octets
returns-in-Ok-clause-octets g c short lines reading =
    let taken = returns-in-Ok-clause-taken g c short in
    ends_on_octets c.args.stamp _ (ScriptSawEnd c.args.stamp _ lines) (play_texts lines) _ _ _ _ taken.0 taken.1 (returns-in-Ok-clause-text g c short lines reading)

pub returns-in-Err-clause-octets : goal.returns-in-Err-clause-octets
returns-in-Err-clause-octets g c short lines reading =
    let taken = returns-in-Err-clause-taken g c short in
    ends_on_octets c.args.stamp _ (ScriptSawEnd c.args.stamp _ lines) (play_texts lines) _ _ _ _ taken.0 taken.1 (returns-in-Err-clause-text g c short lines reading)
