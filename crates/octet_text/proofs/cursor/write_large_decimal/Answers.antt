use Rattle.std.proofs.Common.{◌/◌, arith}
use Rattle.std.proofs.lemmas.Fmt.{length-decimal-le}
use Rattle.octet_text.proofs.DigitRows.{decimal_millions}
use Rattle.octet_text.proofs.Writing.{written_then}
use Rattle.octet_text.proofs.cursor.write_large_decimal.Goals as goal

pub write_three_digits-requires : goal.write_three_digits-requires
write_three_digits-requires c =
    let few = length-decimal-le 4 (c.args.number / 1000000) (omega arith) (omega arith) (omega arith) in
    (omega arith, omega (arith, few, c.requires, c.write_below_million-millions.ensures.written.behind, c.write_below_million-millions.ensures.written.size, c.write_three_digits-thousands.ensures.size, c.write_three_digits-thousands.ensures.behind))

pub returns-clause-written : goal.returns-clause-written
returns-clause-written c =
    let whole = decimal_millions c.args.number (omega (arith, c.requires)) (omega arith) in
    rw whole (written_then _ _ _ _ _ _ _ _ (written_then _ _ _ _ _ _ _ _ c.write_below_million-millions.ensures.written c.write_three_digits-thousands.ensures) c.write_three_digits.ensures)

pub returns-clause-short : goal.returns-clause-short
returns-clause-short c =
    let few = length-decimal-le 4 (c.args.number / 1000000) (omega arith) (omega arith) (omega arith) in
    omega (arith, few, c.write_below_million-millions.ensures.written.behind, c.write_three_digits-thousands.ensures.behind, c.write_three_digits.ensures.behind)
