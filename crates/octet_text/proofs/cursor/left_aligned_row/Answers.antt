use Rattle.octet_text.proofs.DigitRows.{short_row_at}
use Rattle.octet_text.proofs.cursor.left_aligned_row.Goals as goal

pub returns : goal.returns
returns c = short_row_at c.args.number c.requires
