use Rattle.std.proofs.Common.{◌≡◌, ◌⊎◌, ◌∙◌, [], subst, sym}
use Rattle.std.specs.Io.KnownBytes.{Consumes}
use Rattle.mrt_wire.specs.Results.{TakesFront}
use Rattle.bgpdump_tool.specs.Run.{dump_texts, EndedByInputFault, all_results}
use Rattle.bgpdump_tool.specs.declared.Outcome.TheVariants.{ReadFault, WriteFault, Memory}
use Rattle.bgpdump.specs.Endings.{left_of}
use Rattle.bgpdump.proofs.JoiningLaws.{leaves_ended, leaves_written, lost_outcomes, of_input, told_by_input, told_unless_lost}
use Rattle.bgpdump.proofs.run.dump.Goals as goal

pub returns-clause-text : goal.returns-clause-text
returns-clause-text g c octets frames rest known splits =
    leaves_ended g.O.Write.contents g.E.Write.contents _ _ _ c.run_dump-outcome.result c.close.result.outcome (dump_texts (all_results c.args.stamp frames rest)) c.close.result.writers
    c.in-Ok.ensures.written
    (c.run_dump-outcome.ensures.octets octets frames rest (c.in-Ok.ensures.left ∙ known) splits)
    c.close.ensures.told c.close.ensures.kept

pub returns-clause-whole_records : goal.returns-clause-whole_records
returns-clause-whole_records g c by = of_input _ c.close.result.input c.run_dump-outcome.new.input c.close.ensures.input (λ taken after frames rest took splits.
    leaves_written g.O.Write.contents g.E.Write.contents _ _ _ c.run_dump-outcome.result c.close.result.outcome (dump_texts (all_results c.args.stamp frames [])) c.close.result.writers
    c.in-Ok.ensures.written by
    (λ input. c.run_dump-outcome.ensures.whole_records input taken after frames rest (subst (λ old. TakesFront old (left_of g.R.Read.remaining c.run_dump-outcome.new.input) taken after) (sym c.in-Ok.ensures.left) took) splits)
    c.close.ensures.told c.close.ensures.kept)

pub returns-clause-taken : goal.returns-clause-taken
returns-clause-taken g c = of_input _ c.close.result.input c.run_dump-outcome.new.input c.close.ensures.input
    (c.run_dump-outcome.ensures.taken.0, subst (λ old. Consumes old (left_of g.R.Read.remaining c.run_dump-outcome.new.input) c.run_dump-outcome.ensures.taken.0) c.in-Ok.ensures.left c.run_dump-outcome.ensures.taken.1)

pub returns-clause-too_long : goal.returns-clause-too_long
returns-clause-too_long g c long = of_input _ c.close.result.input c.run_dump-outcome.new.input c.close.ensures.input (λ taken after took.
    c.run_dump-outcome.ensures.too_long
    (sym (told_by_input c.run_dump-outcome.result c.close.result.outcome c.close.result.writers c.close.ensures.told c.close.ensures.lost (subst EndedByInputFault (sym long) tt)) ∙ long)
    taken after (subst (λ old. TakesFront old (left_of g.R.Read.remaining c.run_dump-outcome.new.input) taken after) (sym c.in-Ok.ensures.left) took))

pub returns-clause-read_fault : goal.returns-clause-read_fault
returns-clause-read_fault g c fault = of_input _ c.close.result.input c.run_dump-outcome.new.input c.close.ensures.input
    (c.run_dump-outcome.ensures.read_fault.0
    (sym (told_by_input c.run_dump-outcome.result c.close.result.outcome c.close.result.writers c.close.ensures.told c.close.ensures.lost (subst EndedByInputFault (sym fault) tt)) ∙ fault))

pub returns-clause-failed : goal.returns-clause-failed
returns-clause-failed g c = of_input _ c.close.result.input c.run_dump-outcome.new.input c.close.ensures.input (λ failed.
    told_unless_lost c.run_dump-outcome.result c.close.result.outcome ReadFault c.close.result.writers c.close.ensures.told (c.run_dump-outcome.ensures.read_fault.1 failed))

pub returns-clause-lost : goal.returns-clause-lost
returns-clause-lost g c none = subst (λ told. (told ≡ WriteFault) ⊎ (told ≡ Memory)) (sym (c.close.ensures.lost none)) (lost_outcomes c.run_dump-outcome.result)
