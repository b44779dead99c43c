use Rattle.std.proofs.Common.{◌≡◌, ◌+◌, ◌-◌, ◌≤◌, length, take, drop, ◌++◌, decimal, get_or, subst, ap, ◌∙◌, arith}
use Rattle.std.proofs.lemmas.Fmt.{length-decimal-le}
use Rattle.octet_text.specs.Written.{IsWritten}
use Rattle.octet_text.proofs.Writing.{filled_row, written_digits}
use Rattle.octet_text.proofs.cursor.write_below_thousand.Goals as goal

-- the digits are counted in their row
counted : (c : goal.After-from) → (length (decimal c.args.number) ≤ 3) × (c.from.result ≡ 48 + length (decimal c.args.number))
counted c =
    let short : length (decimal c.args.number) ≤ 3 = length-decimal-le 3 c.args.number (omega arith) (omega (arith, c.requires)) (omega (arith, c.requires)) in
    (short, c.from.ensures ∙ ap (λ r. get_or r 3 0) c.left_aligned_row-row.ensures ∙ (filled_row (decimal c.args.number) short).last)

pub returns-clause-written : goal.returns-clause-written
returns-clause-written c =
    let digits = decimal c.args.number in
    let behind : c.args.at + length digits ≡ c.args.at + c.from.result - 48 = omega (arith, (counted c).1) in
    let put = c.copy_octets_at.ensures ∙ ap (λ r. take c.args.at c.args.text.now ++ r ++ drop (c.args.at + length r) c.args.text.now) c.left_aligned_row-row.ensures in
    subst (λ k. IsWritten c.args.text.now c.args.at digits c.copy_octets_at.new.text k) behind
    (written_digits digits c.args.text.now c.copy_octets_at.new.text c.args.at (counted c).0 (omega (arith, c.requires)) put)

pub returns-clause-short : goal.returns-clause-short
returns-clause-short c = omega (arith, counted c)
