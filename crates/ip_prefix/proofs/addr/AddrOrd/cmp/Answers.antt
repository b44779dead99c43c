use Rattle.std.proofs.Common.{◌≡◌, Equal, rules, nat_cmp, ap, ◌∙◌, Ordering}
use Rattle.std.specs.Ordering.{ordering_then}
use Rattle.ip_prefix.specs.Network.{family_cmp, address_cmp}
use Rattle.ip_prefix.proofs.Comparing.{address_cmp-kept}
use Rattle.ip_prefix.proofs.addr.AddrOrd.cmp.Goals as goal

pub returns : goal.returns
returns c =
    let families : Equal ≡ family_cmp c.self.inside.family c.other.inside.family = search rules in
    let fields = c.compare.ensures ∙ ap (λ (order : Ordering). ordering_then order (nat_cmp c.self.inside.number c.other.inside.number)) families ∙ address_cmp-kept c.self.inside c.other.inside c.self.invariant c.other.invariant in
    fields ∙ (λ i. address_cmp (c.self.view_is i) (c.other.view_is i))
