use Rattle.octet_text.proofs.Writing.{written_row}
use Rattle.octet_text.proofs.buffer.write_first_octets_at.Goals as goal

pub returns : goal.returns
returns c = written_row c.args.text.now c.args.octets.now c.copy_octets_at.new.text c.args.at c.args.len c.requires.room c.requires.within c.copy_octets_at.ensures
