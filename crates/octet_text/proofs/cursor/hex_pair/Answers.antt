use Rattle.octet_text.proofs.DigitRows.{HEX_PAIRS_at}
use Rattle.octet_text.proofs.cursor.hex_pair.Goals as goal

pub returns : goal.returns
returns c = HEX_PAIRS_at c.args.number c.requires
