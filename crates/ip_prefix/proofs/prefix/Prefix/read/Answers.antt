-- The highest bits of the number are those of the octets behind the length.
use Rattle.std.proofs.Common.{◌≡◌, ℕ, List, ◌≤◌, ◌<◌, ◌+◌, ◌-◌, ◌*◌, ◌/◌, ◌^◌, ◌∷◌, ◌∙◌, length, take, get_or, ap, sym, subst, add-one, arith, length-take-le}
use Rattle.ip_prefix.specs.Network.{bit_count, SpellsNetwork}
use Rattle.ip_prefix.specs.Bits.{bits_of}
use Rattle.ip_prefix.specs.Kept.{IsMasked, bit_count_le}
use Rattle.ip_prefix.proofs.Masks.{IsMasked-highest}
use Rattle.octet_forms.proofs.Lists.{AllByRecursion-take}
use Rattle.ip_prefix.proofs.Octets.{IsOctet, AllOctets-from}
use Rattle.ip_prefix.proofs.Wires.{enough_octets, bits_read, spelled_by}
use Rattle.ip_prefix.proofs.prefix.Prefix.read.Goals as goal

pub returns-then-rest-size-clause-none : goal.returns-then-rest-size-clause-none
returns-then-rest-size-clause-none c = λ n rest b.
    omega (arith, enough_octets c.args.family n rest c.args.octets.now c.in_ok-len.field-0-0.now c.in_ok-len.rest.now b c.in_ok-len.ensures.cases.0)

pub invariant_of-result : goal.invariant_of-result
invariant_of-result c =
    let len = c.in_ok-len.field-0-0.now in
    let within : len ≤ bit_count c.args.family = omega (arith, c.width.ensures) in
    subst (λ number. IsMasked c.args.family number len) (sym (c.new.ensures ∙ c.keep_highest_bits-number.ensures)) (IsMasked-highest c.args.family c.number_with_high_octets.result len c.number_with_high_octets.ensures.fits within)

pub returns-clause-some : goal.returns-clause-some
returns-clause-some c =
    let family = c.args.family in
    let len = c.in_ok-len.field-0-0.now in
    let rest = c.in_ok-len.rest.now in
    let size = c.div_ceil-size.result in
    let body : List ℕ = take size rest in
    let whole : c.args.octets.now ≡ len ∷ rest = c.in_ok-len.ensures.cases.0 in
    let within : len ≤ bit_count family = omega (arith, c.width.ensures) in
    let enough : len ≤ 8 * size = omega arith in
    let least : 8 * size < len + 8 = omega arith in
    let size_le : size ≤ 16 = omega (arith, bit_count_le family) in
    let body_size : length body ≡ size = length-take-le size rest c.if-rest-size.false in
    let octets : (i : ℕ) → get_or c.args.octets.now i 0 < 256 = λ i. omega (arith, c.type_inv.octets i) in
    let each = AllByRecursion-take IsOctet size rest (AllOctets-from (len ∷ rest) (λ i. subst (λ l. get_or l i 0 < 256) whole (octets i))).1 in
    let number = c.number_with_high_octets.result in
    let held = ap (λ k. bits_of (8 * k) (number / 2 ^ (128 - 8 * k))) body_size ∙ c.number_with_high_octets.ensures.bits in
    let bits =
    ap (λ n. bits_of len (n / 2 ^ (128 - len))) (c.new.ensures ∙ c.keep_highest_bits-number.ensures)
    ∙ bits_read len number body (omega arith) (omega arith) held in
    let spelled = spelled_by family len body (bits_of len (c.new.result / 2 ^ (128 - len))) within each (omega arith) (omega arith) bits in
    let front : take (size + 1) c.args.octets.now ≡ len ∷ body = ap (take (size + 1)) whole ∙ ap (λ k. take k (len ∷ rest)) (add-one size) in
    (omega (arith, c.in_ok-len.ensures.cases.1), subst (SpellsNetwork family record { family = family; bits = bits_of len (c.new.result / 2 ^ (128 - len)) }) (sym front) spelled)
