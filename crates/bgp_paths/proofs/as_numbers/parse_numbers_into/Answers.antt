use Rattle.std.proofs.Common.{◌≡◌, ◌+◌, ◌∷◌, [], ◌++◌, length, take, slice_set, ap, sym, subst, ◌∙◌, arith}
use Rattle.std.proofs.lemmas.Grind.{common_steps}
use Rattle.ip_prefix.specs.Sequences.{Begins, SpellsAll}
use Rattle.octet_forms.proofs.Sequences.{one_more}
use Rattle.bgp_paths.specs.Path.{SpellsAsn}
use Rattle.bgp_paths.proofs.Counting.{less_one, number_less}
use Rattle.bgp_paths.proofs.as_numbers.parse_numbers_into.Goals as goal

pub loop-rest-preserved : goal.loop-rest-preserved
loop-rest-preserved c =
    let width = c.args.width in
    let rest = c.loop-rest.rest.now in
    let more = c.split_at.result.1.now in
    let octets = c.args.octets.now in
    let count = c.loop-rest.count in
    let number = c.number.result in
    let front : Begins (SpellsAsn width) number more rest =
    record { front = c.split_at.result.0.now; spelled = c.number.ensures; whole = c.split_at.ensures.by_index.0 } in
    let parted = ap (λ n. length more + n) (sym c.octets-size.ensures) ∙ c.split_at.ensures.back_len in
    let less = number_less width (length rest) (length more) parted in
    let put : take (count + 1) (slice_set c.loop-rest.places count number) ≡ take count c.loop-rest.places ++ number ∷ [] = grind (arith, common_steps) in
    record {
      size = c.octets-size.ensures;
      read = subst (λ numbers. Begins (SpellsAll (SpellsAsn width)) numbers more octets) (sym put)
          (one_more (SpellsAsn width) (take count c.loop-rest.places) number more rest octets c.loop-rest.invariant.read front);
      whole = less_one width (length rest) (length more) c.loop-rest.invariant.whole parted;
      left = omega (arith, c.loop-rest.invariant.left, less);
      places = grind (arith, common_steps);
    }
