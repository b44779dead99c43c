use Rattle.std.proofs.Common.{◌≡◌, Equal, rules, nat_cmp, sym, ap, ◌∙◌, Ordering}
use Rattle.std.specs.Ordering.{ordering_then}
use Rattle.ip_prefix.specs.Network.{family_cmp, network_cmp}
use Rattle.ip_prefix.proofs.Comparing.{network_cmp-kept}
use Rattle.ip_prefix.proofs.prefix.PrefixOrd.cmp.Goals as goal
use Rattle.ip_prefix.proofs.prefix.PrefixOrd.cmp.Goals.{After-compare}

-- prefixes of one family compare as their numbers do, and then their lengths
by_fields : (c : After-compare) → ordering_then c.compare.result (nat_cmp c.self.inside.len c.other.inside.len) ≡ network_cmp c.args.self.now c.args.other.now
by_fields c =
    let families : Equal ≡ family_cmp c.self.inside.family c.other.inside.family = search rules in
    ap (λ (order : Ordering). ordering_then order (nat_cmp c.self.inside.len c.other.inside.len)) c.compare.ensures
    ∙ ap (λ (order : Ordering). ordering_then (ordering_then order (nat_cmp c.self.inside.number c.other.inside.number)) (nat_cmp c.self.inside.len c.other.inside.len)) families
    ∙ network_cmp-kept c.self.inside c.other.inside c.self.invariant c.other.invariant
    ∙ (λ i. network_cmp (c.self.view_is i) (c.other.view_is i))

pub returns-in-Less : goal.returns-in-Less
returns-in-Less c =
    ap (λ (order : Ordering). ordering_then order (nat_cmp c.self.inside.len c.other.inside.len)) (sym c.in-Less.is) ∙ by_fields (goal.at.returns-in-Less c).After-compare

pub returns-in-Equal : goal.returns-in-Equal
returns-in-Equal c =
    c.cmp-in-Equal.ensures ∙ ap (λ (order : Ordering). ordering_then order (nat_cmp c.self.inside.len c.other.inside.len)) (sym c.in-Equal.is) ∙ by_fields (goal.at.returns-in-Equal c).After-compare

pub returns-in-Greater : goal.returns-in-Greater
returns-in-Greater c =
    ap (λ (order : Ordering). ordering_then order (nat_cmp c.self.inside.len c.other.inside.len)) (sym c.in-Greater.is) ∙ by_fields (goal.at.returns-in-Greater c).After-compare
