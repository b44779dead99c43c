-- The first bits are those of the number with zeros below them.
use Rattle.std.proofs.Common.{◌≡◌, ℕ, ◌-◌, ◌^◌, ◌/◌, ◌≤◌, length, take, ap, sym, subst, ◌∙◌, arith}
use Rattle.ip_prefix.specs.Kept.{highest_part, IsMasked, length-masked, bit_count_le}
use Rattle.ip_prefix.specs.declared.prefix.Prefix.TheInside.{Inside}
use Rattle.ip_prefix.specs.contracts.prefix.Prefix.{the_view}
use Rattle.ip_prefix.specs.Bits.{bits_of}
use Rattle.ip_prefix.specs.Network.{Network}
use Rattle.ip_prefix.proofs.Masks.{IsMasked-highest, first_bits}
use Rattle.ip_prefix.proofs.prefix.Prefix.shortened.Goals as goal

-- no more than the bits are no more than the length that is kept
within : (p : Inside) (n : Network) (len : ℕ) → the_view p ≡ n → len ≤ length n.bits → len ≤ p.len
within p n len view h = omega (arith, length-masked p.number p.len, ap (λ (k : Network). length k.bits) view)

pub keep_highest_bits-requires : goal.keep_highest_bits-requires
keep_highest_bits-requires c =
    let p = c.self.inside in
    omega (arith, within p c.args.self.now c.args.len c.self.view_is c.requires, c.self.invariant.1, bit_count_le p.family)

pub invariant_of-result : goal.invariant_of-result
invariant_of-result c =
    let p = c.self.inside in
    let len = c.args.len in
    let fits = within p c.args.self.now len c.self.view_is c.requires in
    subst (λ number. IsMasked p.family number len) (sym (c.new.ensures ∙ c.keep_highest_bits.ensures ∙ ap (highest_part len) c.get.ensures)) (IsMasked-highest p.family p.number len c.self.invariant.0 (omega (arith, fits, c.self.invariant.1)))

pub returns : goal.returns
returns c =
    let p = c.self.inside in
    let len = c.args.len in
    let fits : p.len ≤ 128 = omega (arith, c.self.invariant.1, bit_count_le p.family) in
    let bits =
    ap (λ number. bits_of len (number / 2 ^ (128 - len))) (c.new.ensures ∙ c.keep_highest_bits.ensures ∙ ap (highest_part len) c.get.ensures)
    ∙ first_bits p.len p.number len (within p c.args.self.now len c.self.view_is c.requires) fits
    ∙ ap (λ (n : Network). take len n.bits) c.self.view_is in
    λ i. record { family = (c.self.view_is i).family; bits = bits i }
