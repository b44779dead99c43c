use Rattle.std.proofs.Common.{sym, subst, arith}
use Rattle.octet_text.specs.Written.{IsWritten}
use Rattle.ip_prefix.proofs.HexText.{hex_pair_last}
use Rattle.octet_text.proofs.Writing.{written_then}
use Rattle.ip_prefix.proofs.text.write_group.Goals as goal

pub returns-clause-written : goal.returns-clause-written
returns-clause-written c =
    subst (λ t. IsWritten c.args.text.now c.args.at t c.write_hex_octet.new.text c.write_hex_octet.result) (sym (hex_pair_last c.args.group c.if-group-lt256.false (omega arith)))
    (written_then _ _ _ _ _ _ _ _ c.write_group_below_256-low.ensures.written c.write_hex_octet.ensures.written)
