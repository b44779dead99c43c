use Rattle.std.proofs.Common.{arith}
use Rattle.octet_text.proofs.DigitRows.{decimal_thousands}
use Rattle.octet_text.proofs.Writing.{written_then}
use Rattle.octet_text.proofs.cursor.write_below_million.Goals as goal

pub returns-clause-written : goal.returns-clause-written
returns-clause-written c =
    let whole = decimal_thousands c.args.number (omega (arith, c.if-number-lt-THOUSAND.false)) (omega (arith, c.requires)) in
    rw whole (written_then _ _ _ _ _ _ _ _ c.write_below_thousand-thousands.ensures.written c.write_three_digits.ensures)
