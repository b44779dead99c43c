-- The address has the prefix's bits where its number, cleared below them, is the prefix's.
use Rattle.std.proofs.Common.{◌≡◌, ◌≤◌, ◌==◌, ◌∙◌, ap, sym, arith}
use Rattle.ip_prefix.specs.Network.{bit_count, begin_with, contains}
use Rattle.ip_prefix.specs.contracts.prefix.Prefix.{the_view}
use Rattle.ip_prefix.specs.Kept.{bit_count_le}
use Rattle.ip_prefix.proofs.Beginning.{family_same, contains_same, begin_with-highest}
use Rattle.ip_prefix.proofs.prefix.Prefix.contains.Goals as goal

pub returns-then-eq : goal.returns-then-eq
returns-then-eq c =
    let p = c.self.inside in
    let address = c.args.addr.now in
    let family : p.family ≡ address.family = family_same p.family c.family.result (sym c.eq.ensures ∙ c.if-eq.true) ∙ c.family.ensures.value in
    let within : p.len ≤ bit_count address.family = omega (arith, c.self.invariant.1, ap bit_count family) in
    (λ i. c.keep_highest_bits.ensures i == c.get.ensures i)
    ∙ begin_with-highest p.len (bit_count address.family) p.number c.number.result within (bit_count_le address.family) c.self.invariant.0 c.number.ensures.aligned.0 c.self.invariant.2
    ∙ ap (begin_with (the_view p).bits) (sym c.number.ensures.bits)
    ∙ sym (contains_same (the_view p) address family)
    ∙ ap (λ n. contains n address) c.self.view_is
