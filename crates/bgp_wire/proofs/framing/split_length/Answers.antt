use Rattle.std.proofs.Common.{◌≡◌, ◌<◌, false, not, ◌∷◌, ◌++◌, get_or, ap, sym, subst, ◌∙◌, arith, ◌==◌}
use Rattle.bgp_wire.specs.Attribute.{is_extended, length_octets, length_limit}
use Rattle.bgp_wire.proofs.framing.split_length.Goals as goal

pub returns-then-flags-eq0-clause-some : goal.returns-then-flags-eq0-clause-some
returns-then-flags-eq0-clause-some c =
    let octets = c.args.octets.now in
    let rest = c.in_ok-len.rest.now in
    let n = c.from.result in
    let whole : octets ≡ n ∷ rest = c.in_ok-len.ensures.cases.0 ∙ ap (λ x. x ∷ rest) (sym c.from.ensures) in
    let plain : is_extended c.args.flags ≡ false = ap (λ b. not (b == 0)) c.if-flags-eq0.true in
    let fits : n < 256 = omega (arith, c.type_inv.octets 0, ap (λ l. get_or l 0 0) whole) in
    subst (λ extended. (n < length_limit extended) × (octets ≡ length_octets extended n ++ rest)) (sym plain) (fits, whole)
