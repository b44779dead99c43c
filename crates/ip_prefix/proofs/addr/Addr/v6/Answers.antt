-- The bits of the sixteen octets are those of the number.
use Rattle.std.proofs.Common.{rules, ◌≡◌, ◌/◌, ◌∙◌, ap, length}
use Rattle.std.specs.Int.{w128, from_be_bytes}
use Rattle.ip_prefix.specs.declared.addr.Family.TheVariants.{V6}
use Rattle.ip_prefix.specs.Bits.{bits_of}
use Rattle.ip_prefix.proofs.Octets.{AllOctets-from, bits_of-from_be_bytes}
use Rattle.ip_prefix.proofs.addr.Addr.v6.Goals as goal

pub returns : goal.returns
returns c =
    let octets = c.args.octets in
    let read : c.from_be_bytes.result ≡ from_be_bytes w128 octets = c.from_be_bytes.ensures in
    let size : length octets ≡ 16 = search rules in
    let bits = ap (λ n. bits_of 128 (n / 1)) (c.new.ensures ∙ read) ∙ bits_of-from_be_bytes octets size (AllOctets-from octets (search rules)) in
    λ i. record { family = V6; bits = bits i }
