use Rattle.bgpdump_lines.specs.Run.{SawEnd, dump_texts}
use Rattle.bgpdump_lines.specs.KnownOctets.{ends_on_octets}
use Rattle.bgpdump_lines.proofs.EndLaws.{EndsWithTexts-read, EndsWithTexts-stopped, Writes-stopped, IsTaken-stopped, length-stopped}
use Rattle.bgpdump_lines.proofs.dump.run_dump.Goals as goal

pub returns-in-Ok-clause-text : goal.returns-in-Ok-clause-text
returns-in-Ok-clause-text g c =
    EndsWithTexts-read c.args.stamp _ _ _ (record { out = g.O.Output.written c.dump_all.new.out; err = g.E.Output.written c.dump_all.new.err }) _ _ c.in-Ok.reported _
    c.in-Ok.ensures.ends c.finish_outputs.ensures.outcome c.finish_outputs.ensures.out c.finish_outputs.ensures.err

pub returns-in-Err-clause-text : goal.returns-in-Err-clause-text
returns-in-Err-clause-text g c = EndsWithTexts-stopped c.args.stamp _ _ _ _ c.in-Err.outcome c.in-Err.ensures.ends

pub returns-in-Err-clause-whole_records : goal.returns-in-Err-clause-whole_records
returns-in-Err-clause-whole_records g c = Writes-stopped c.args.stamp _ _ _ _ c.in-Err.outcome c.in-Err.ensures.ends

pub returns-in-Err-clause-taken : goal.returns-in-Err-clause-taken
returns-in-Err-clause-taken g c = IsTaken-stopped c.args.stamp _ _ _ _ c.in-Err.outcome c.in-Err.ensures.ends

pub returns-in-Err-clause-too_long : goal.returns-in-Err-clause-too_long
returns-in-Err-clause-too_long g c = length-stopped c.args.stamp _ _ _ _ c.in-Err.outcome c.in-Err.ensures.ends

pub returns-in-Ok-clause-octets : goal.returns-in-Ok-clause-octets
returns-in-Ok-clause-octets g c =
    ends_on_octets c.args.stamp _ (SawEnd _) dump_texts _ _ _ _ _ c.in-Ok.ensures.ends.2.so_far.consumed (returns-in-Ok-clause-text g c)

pub returns-in-Err-clause-octets : goal.returns-in-Err-clause-octets
returns-in-Err-clause-octets g c =
    let taken = returns-in-Err-clause-taken g c in
    ends_on_octets c.args.stamp _ (SawEnd _) dump_texts _ _ _ _ taken.0 taken.1 (returns-in-Err-clause-text g c)
