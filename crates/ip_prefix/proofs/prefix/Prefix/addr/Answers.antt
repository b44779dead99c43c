use Rattle.std.proofs.Common.{◌-◌, ◌/◌, ◌^◌, ◌∙◌, ap, sym, subst}
use Rattle.ip_prefix.specs.Bits.{highest_bits}
use Rattle.ip_prefix.specs.Network.{IsAddress, bit_count, least_address}
use Rattle.ip_prefix.specs.Kept.{length-bits_of}
use Rattle.ip_prefix.proofs.Masks.{IsAligned-masked, bits_of-least}
use Rattle.ip_prefix.proofs.prefix.Prefix.addr.Goals as goal

pub from_high_bits-requires : goal.from_high_bits-requires
from_high_bits-requires c = rw c.get.ensures (IsAligned-masked c.self.inside.family c.self.inside.number c.self.inside.len c.self.invariant)

pub returns-clause-value : goal.returns-clause-value
returns-clause-value c =
    let p = c.self.inside in
    c.from_high_bits.ensures
    ∙ (λ j. record { family = p.family; bits = highest_bits (bit_count p.family) (c.get.ensures j) })
    ∙ (λ i. record { family = p.family; bits = bits_of-least p.family p.number p.len c.self.invariant i }) ∙ ap least_address c.self.view_is

pub returns-clause-whole : goal.returns-clause-whole
returns-clause-whole c =
    let p = c.self.inside in
    subst IsAddress (sym c.from_high_bits.ensures) (length-bits_of (bit_count p.family) (c.get.result / 2 ^ (128 - bit_count p.family)))
