-- The bits of the four octets are those of the number, and the shift loses none.
use Rattle.std.proofs.Common.{rules, ◌≡◌, ◌*◌, ◌%◌, ◌/◌, ◌^◌, arith}
use Rattle.ip_prefix.proofs.Highest.{bits_of_be}
use Rattle.ip_prefix.proofs.addr.Addr.v4.Goals as goal

pub returns : goal.returns
returns c =
    let back : c.from.result * 2 ^ 96 % 2 ^ 128 / 2 ^ 96 ≡ c.from_be_bytes.result = omega arith in
    rw (c.new.ensures, back, c.from_be_bytes.ensures, bits_of_be c.args.octets (search rules) (search rules))
