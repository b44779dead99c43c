-- The other prefix has the bits of this one where it is as long and its number, cleared below them, is this one's.
use Rattle.std.proofs.Common.{◌≡◌, ◌≤◌, ◌<◌, ◌==◌, ◌∙◌, length, ap, sym, arith, leb-true, leb-false}
use Rattle.ip_prefix.specs.Kept.{highest_part, length-masked, bit_count_le}
use Rattle.ip_prefix.specs.Turns.{covers}
use Rattle.ip_prefix.specs.contracts.prefix.Prefix.{the_view}
use Rattle.ip_prefix.proofs.Beginning.{family_same, covers_same, covers_other, begin_longer, begin_with-highest}
use Rattle.ip_prefix.proofs.prefix.Prefix.covers.Goals.{then-eq, else-eq}
use Rattle.ip_prefix.proofs.prefix.Prefix.covers.Goals as goal

pub returns-then-self-other : goal.returns-then-self-other
returns-then-self-other c =
    let p = c.self.inside in
    let q = c.other.inside in
    elim c.if-eq.branch [
      | then-eq w ↦
          let family : p.family ≡ q.family = family_same p.family q.family (sym c.eq.ensures ∙ w.if-eq.true) in
          let within : p.len ≤ q.len = leb-true p.len q.len (sym w.value-is ∙ c.if-self-other.true) in
          let q_len : q.len ≤ 128 = omega (arith, c.other.invariant.1, bit_count_le q.family) in
          (λ i. c.keep_highest_bits.ensures i == c.get-then-self-other.ensures i)
          ∙ ap (λ n. highest_part p.len n == p.number) c.get.ensures
          ∙ begin_with-highest p.len q.len p.number q.number within q_len c.self.invariant.0 c.other.invariant.0 c.self.invariant.2
          ∙ sym (covers_same (the_view p) (the_view q) family)
          ∙ (λ i. covers (c.self.view_is i) (c.other.view_is i))
      | else-eq w ↦ cc (w.if-eq.false, w.value-is, c.if-self-other.true)
    ]

pub returns-else-self-other : goal.returns-else-self-other
returns-else-self-other c =
    let p = c.self.inside in
    let q = c.other.inside in
    let views : covers (the_view p) (the_view q) ≡ covers c.args.self.now c.args.other.now = λ i. covers (c.self.view_is i) (c.other.view_is i) in
    elim c.if-eq.branch [
      | then-eq w ↦
          let family : p.family ≡ q.family = family_same p.family q.family (sym c.eq.ensures ∙ w.if-eq.true) in
          let longer : q.len < p.len = leb-false p.len q.len (sym w.value-is ∙ c.if-self-other.false) in
          let more : length (the_view q).bits < length (the_view p).bits = omega (arith, longer, length-masked p.number p.len, length-masked q.number q.len) in
          c.if-self-other.false ∙ sym (begin_longer (the_view p).bits (the_view q).bits more) ∙ sym (covers_same (the_view p) (the_view q) family) ∙ views
      | else-eq w ↦ c.if-self-other.false ∙ sym (covers_other (the_view p) (the_view q) (sym c.eq.ensures ∙ w.if-eq.false)) ∙ views
    ]
