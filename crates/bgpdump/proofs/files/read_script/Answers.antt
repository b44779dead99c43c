use Rattle.std.proofs.Common.{◌∙◌, ap}
use Rattle.bgpdump.proofs.ScriptLaws.{script_read}
use Rattle.bgpdump.proofs.files.read_script.Goals as goal

pub returns-in-Ok : goal.returns-in-Ok
returns-in-Ok g c = record {
  octets = λ octets known. script_read (g.R.Read.remaining c.take-front.result.inner) c.take-front.result.limit 1048577 octets c.new-script.result.items c.read_to_end.new.buf.items
      (ap g.R.Read.remaining c.take-front.ensures.inner ∙ known) c.take-front.ensures.limit c.in-Ok.ensures.bytes c.new-script.ensures.items;
  fault = tt;
}
