use Rattle.std.proofs.Common.{◌%◌, length, ap, ◌∙◌}
use Rattle.bgp_paths.proofs.Counting.{whole_numbers}
use Rattle.bgp_paths.proofs.numbers.fill_numbers.Goals as goal

pub returns-then-octets-size-ne0-clause-refused : goal.returns-then-octets-size-ne0-clause-refused
returns-then-octets-size-ne0-clause-refused c ns s =
    c.if-octets-size-ne0.true (ap (λ n. length c.args.octets.now % n) c.octets-size.ensures ∙ whole_numbers c.args.width ns c.args.octets.now s)
