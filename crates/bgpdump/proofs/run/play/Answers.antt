use Rattle.std.proofs.Common.{◌≡◌, ◌⊎◌, ◌∙◌, [], subst, sym}
use Rattle.std.specs.Io.Buffered.{writer_contents}
use Rattle.std.specs.Io.KnownBytes.{Consumes}
use Rattle.mrt_wire.specs.Results.{TakesFront}
use Rattle.bgpdump.specs.Endings.{left_of}
use Rattle.bgpdump_tool.specs.Course.{texts_before_input_fault, play_texts}
use Rattle.bgpdump_tool.specs.Run.{EndedByInputFault, all_results, outputs_of}
use Rattle.bgpdump_tool.specs.declared.Outcome.TheVariants.{ReadFault, WriteFault, Memory}
use Rattle.bgpdump.proofs.JoiningLaws.{IsTold, leaves_ended, leaves_untouched, leaves_written, lost_outcomes, of_input, told_by_input, told_unless_lost}
use Rattle.bgpdump.proofs.run.play.Goals as goal

pub returns-clause-text : goal.returns-clause-text
returns-clause-text g c short lines reads octets frames rest known splits =
    leaves_ended g.O.Write.contents g.E.Write.contents _ _ _ c.run_play-outcome.result c.close.result.outcome (play_texts lines (all_results c.args.stamp frames rest)) c.close.result.writers
    c.in-Ok.ensures.written
    (c.run_play-outcome.ensures.octets short lines reads octets frames rest (c.in-Ok.ensures.left ∙ known) splits)
    c.close.ensures.told c.close.ensures.kept

pub returns-clause-whole_records : goal.returns-clause-whole_records
returns-clause-whole_records g c lines reads by = of_input _ c.close.result.input c.run_play-outcome.new.input c.close.ensures.input (λ taken after frames rest took splits.
    leaves_written g.O.Write.contents g.E.Write.contents _ _ _ c.run_play-outcome.result c.close.result.outcome (texts_before_input_fault lines (all_results c.args.stamp frames [])) c.close.result.writers
    c.in-Ok.ensures.written by
    (λ input. c.run_play-outcome.ensures.whole_records input lines reads taken after frames rest (subst (λ old. TakesFront old (left_of g.R.Read.remaining c.run_play-outcome.new.input) taken after) (sym c.in-Ok.ensures.left) took) splits)
    c.close.ensures.told c.close.ensures.kept)

pub returns-clause-taken : goal.returns-clause-taken
returns-clause-taken g c short = of_input _ c.close.result.input c.run_play-outcome.new.input c.close.ensures.input
    ((c.run_play-outcome.ensures.taken short).0, subst (λ old. Consumes old (left_of g.R.Read.remaining c.run_play-outcome.new.input) (c.run_play-outcome.ensures.taken short).0) c.in-Ok.ensures.left (c.run_play-outcome.ensures.taken short).1)

pub returns-clause-too_long : goal.returns-clause-too_long
returns-clause-too_long g c long = of_input _ c.close.result.input c.run_play-outcome.new.input c.close.ensures.input (λ taken after took.
    c.run_play-outcome.ensures.too_long
    (sym (told_by_input c.run_play-outcome.result c.close.result.outcome c.close.result.writers c.close.ensures.told c.close.ensures.lost (subst EndedByInputFault (sym long) tt)) ∙ long)
    taken after (subst (λ old. TakesFront old (left_of g.R.Read.remaining c.run_play-outcome.new.input) taken after) (sym c.in-Ok.ensures.left) took))

pub returns-clause-read_fault : goal.returns-clause-read_fault
returns-clause-read_fault g c fault = of_input _ c.close.result.input c.run_play-outcome.new.input c.close.ensures.input
    (c.run_play-outcome.ensures.read_fault.0
    (sym (told_by_input c.run_play-outcome.result c.close.result.outcome c.close.result.writers c.close.ensures.told c.close.ensures.lost (subst EndedByInputFault (sym fault) tt)) ∙ fault))

pub returns-clause-script_too_long : goal.returns-clause-script_too_long
returns-clause-script_too_long g c long =
    subst (λ outcome. IsTold outcome c.close.result.outcome c.close.result.writers) (c.run_play-outcome.ensures.script_too_long.1 long) c.close.ensures.told

pub returns-clause-untouched : goal.returns-clause-untouched
returns-clause-untouched g c long =
    let untouched = c.run_play-outcome.ensures.untouched (c.run_play-outcome.ensures.script_too_long.1 long) in
    leaves_untouched g.O.Write.contents g.E.Write.contents _ _ _ c.close.result.writers
    c.in-Ok.ensures.written (λ i. outputs_of (λ output. writer_contents g.O.Write.contents output.output.writer) (λ output. writer_contents g.E.Write.contents output.output.writer) (untouched.1 i) (untouched.2 i)) c.close.ensures.kept

pub returns-clause-failed : goal.returns-clause-failed
returns-clause-failed g c = of_input _ c.close.result.input c.run_play-outcome.new.input c.close.ensures.input (λ failed.
    told_unless_lost c.run_play-outcome.result c.close.result.outcome ReadFault c.close.result.writers c.close.ensures.told (c.run_play-outcome.ensures.read_fault.1 failed))

pub returns-clause-lost : goal.returns-clause-lost
returns-clause-lost g c none = subst (λ told. (told ≡ WriteFault) ⊎ (told ≡ Memory)) (sym (c.close.ensures.lost none)) (lost_outcomes c.run_play-outcome.result)
