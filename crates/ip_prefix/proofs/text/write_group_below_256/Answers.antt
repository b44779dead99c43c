use Rattle.std.proofs.Common.{◌≡◌, ◌+◌, ◌%◌, [], ◌∷◌, get_or, sym, ap, subst, ◌∙◌, arith}
use Rattle.std.specs.Char.{digit_char}
use Rattle.std.specs.Prelude.{slice_set}
use Rattle.octet_text.specs.Written.{IsWritten}
use Rattle.ip_prefix.proofs.HexText.{hex_one, hex_pair_only}
use Rattle.octet_text.proofs.Writing.{written_octet}
use Rattle.ip_prefix.proofs.text.write_group_below_256.Goals as goal

pub returns-then-group-lt16-clause-written : goal.returns-then-group-lt16-clause-written
returns-then-group-lt16-clause-written c =
    let text = c.args.text.now in
    let at = c.args.at in
    let digit = get_or c.hex_pair.result 1 0 in
    let same : digit ≡ digit_char (c.args.group % 16) = ap (λ r. get_or r 1 0) c.hex_pair.ensures in
    let spelled = (λ i. same i ∷ []) ∙ sym (hex_one c.args.group c.if-group-lt16.true) in
    subst (λ t. IsWritten text at t (slice_set text at digit) (at + 1)) spelled (written_octet text at digit (omega (arith, c.requires.1)))

pub returns-clause-written : goal.returns-clause-written
returns-clause-written c =
    subst (λ t. IsWritten c.args.text.now c.args.at t c.write_hex_octet.new.text c.write_hex_octet.result) (sym (hex_pair_only c.args.group c.if-group-lt16.false c.requires.0))
    c.write_hex_octet.ensures.written
