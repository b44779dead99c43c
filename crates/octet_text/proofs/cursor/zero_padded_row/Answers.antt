use Rattle.octet_text.proofs.DigitRows.{three_row_at}
use Rattle.octet_text.proofs.cursor.zero_padded_row.Goals as goal

pub returns : goal.returns
returns c = three_row_at c.args.number c.requires
