use Rattle.std.proofs.Common.{◌∙◌, ap}
use Rattle.bgpdump_tool.specs.Course.{play_texts}
use Rattle.bgpdump.proofs.JoiningLaws.{hold_texts}
use Rattle.bgpdump.proofs.in_memory.play_in_memory.Goals as goal

pub returns : goal.returns
returns g c short lines reads =
    hold_texts c.in_ok-noted.noted.devices c.play.result (λ noted. g.R.Read.remaining noted.reader) g.O.Write.contents g.E.Write.contents c.args.stamp (play_texts lines) c.args.octets.now
    (ap g.R.Read.remaining c.in_ok-noted.ensures.reader ∙ c.requires.reader) (ap g.O.Write.contents c.in_ok-noted.ensures.out ∙ c.requires.out) (ap g.E.Write.contents c.in_ok-noted.ensures.err ∙ c.requires.err)
    (c.play.ensures.text short lines reads)
