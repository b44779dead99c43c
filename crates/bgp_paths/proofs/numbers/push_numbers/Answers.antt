use Rattle.std.proofs.Common.{◌+◌, length, ap, sym, subst, ◌∙◌, arith}
use Rattle.ip_prefix.specs.Sequences.{Begins, SpellsAll}
use Rattle.octet_forms.proofs.Sequences.{one_more}
use Rattle.bgp_paths.specs.Path.{SpellsAsn}
use Rattle.bgp_paths.proofs.Counting.{less_one, number_less}
use Rattle.bgp_paths.proofs.numbers.push_numbers.Goals as goal

pub loop-rest-preserved : goal.loop-rest-preserved
loop-rest-preserved c =
    let width = c.args.width in
    let rest = c.loop-rest.rest.now in
    let more = c.split_at.result.1.now in
    let octets = c.args.octets.now in
    let front : Begins (SpellsAsn width) c.number.result more rest =
    record { front = c.split_at.result.0.now; spelled = c.number.ensures; whole = c.split_at.ensures.by_index.0 } in
    let parted = ap (λ n. length more + n) (sym c.octets-size.ensures) ∙ c.split_at.ensures.back_len in
    record {
      size = c.octets-size.ensures;
      read = subst (λ numbers. Begins (SpellsAll (SpellsAsn width)) numbers more octets) (sym c.push_reserved.ensures.items)
          (one_more (SpellsAsn width) c.loop-rest.numbers.items c.number.result more rest octets c.loop-rest.invariant.read front);
      whole = less_one width (length rest) (length more) c.loop-rest.invariant.whole parted;
      room = omega (arith, c.loop-rest.invariant.room, number_less width (length rest) (length more) parted, ap length c.push_reserved.ensures.items, c.push_reserved.ensures.capacity);
      kept = c.push_reserved.ensures.capacity ∙ c.loop-rest.invariant.kept;
    }
