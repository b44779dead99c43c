use Rattle.std.proofs.Common.{◌≡◌, ◌<◌, ◌≤◌, ◌+◌, ◌-◌, take, length, Some, slice_get, false, sym, ap, subst, ◌∙◌, arith}
use Rattle.std.proofs.lemmas.Bool.{ltb-false}
use Rattle.std.proofs.lemmas.List.{length-take}
use Rattle.std.proofs.lemmas.Option.{slice_get-get_or}
use Rattle.rib_player.specs.Indices.{AreInverse, IsSwapRemoved}
use Rattle.rib_player.proofs.ChosenLaws.{told-within, turned, told-choice, told-place, in_front, inverse-left, swapped-front, replaced-swapped}
use Rattle.rib_player.proofs.sparse_set.SparseSet.remove.Goals as goal
use Rattle.rib_player.proofs.sparse_set.SparseSet.remove.Goals.{After-index-place, After-pop-2}

-- its place, which is none of those in front
at : (c : After-index-place) → slice_get c.set_member.new.self.places.items c.args.number ≡ Some c.index-place.result.now
at c = slice_get-get_or c.set_member.new.self.places.items c.args.number c.index-place.result.now
    (told-place c.set_member.new.self.count c.set_member.new.self.places.items c.args.number false c.set_member.ensures.here) ∙ ap Some (sym c.index-place.ensures)

behind : (c : After-index-place) → c.set_member.new.self.count ≤ c.index-place.result.now
behind c = ltb-false c.index-place.result.now c.set_member.new.self.count
    (told-choice c.set_member.new.self.count c.set_member.new.self.places.items c.args.number c.index-place.result.now false (at c) c.set_member.ensures.here)

within : (c : After-index-place) → c.index-place.result.now < length c.set_member.new.self.numbers.items
within c = told-within (turned c.set_member.new.self.inverse) c.args.number c.index-place.result.now (at c)

pub swap_numbers-requires-clause-one : goal.swap_numbers-requires-clause-one
swap_numbers-requires-clause-one c = omega (arith, within (goal.at.swap_numbers-requires-clause-one c).After-index-place, c.set_member.new.self.numbers.ok)

-- how many there are
len : (c : After-index-place) → length c.set_member.new.self.places.items ≡ c.len-end.result - 1 + 1
len c = omega (arith, within c, c.len-end.ensures, c.set_member.new.self.numbers.ok, c.set_member.new.self.inverse.even)

numbers_left : (c : After-pop-2) → c.pop.new.self.items ≡ take (c.len-end.result - 1) c.swap_numbers-2.new.places.items
numbers_left c = c.pop.ensures.rest ∙ ap (λ n. take n c.swap_numbers-2.new.places.items) (omega (arith, c.len-end.ensures, c.swap_numbers.ensures.numbers_len, c.swap_numbers-2.ensures.places_len))

places_left : (c : After-pop-2) → c.pop-2.new.self.items ≡ take (c.len-end.result - 1) c.swap_numbers-2.new.numbers.items
places_left c = c.pop-2.ensures.rest
    ∙ ap (λ n. take n c.swap_numbers-2.new.numbers.items) (omega (arith, c.len-end.ensures, c.swap_numbers.ensures.places_len, c.swap_numbers-2.ensures.numbers_len, c.set_member.new.self.numbers.ok, c.set_member.new.self.places.ok, c.set_member.new.self.inverse.even))

pub invariant_of-self : goal.invariant_of-self
invariant_of-self c =
    let b = (goal.at.invariant_of-self c).After-pop-2 in
    let a = (goal.at.invariant_of-self c).After-index-place in
    let m = c.set_member.new.self in
    let end = c.len-end.result - 1 in
    record {
      inverse = subst (λ ns. AreInverse ns c.pop-2.new.self.items) (sym (numbers_left b)) (subst (AreInverse (take end c.swap_numbers-2.new.places.items)) (sym (places_left b))
          (inverse-left m.inverse c.swap_numbers.ensures.inverse c.swap_numbers-2.ensures.inverse c.args.number c.index-place.result.now end (at a) (len a)
          (omega (arith, c.swap_numbers.ensures.places_len, m.places.ok, c.swap_numbers.new.places.ok)) (omega (arith, c.swap_numbers.ensures.places_len, c.swap_numbers-2.ensures.numbers_len, m.places.ok, c.swap_numbers-2.new.numbers.ok))
          c.swap_numbers.ensures.numbers c.swap_numbers-2.ensures.numbers));
      within = omega (arith, behind a, within a, c.pop.ensures.len, c.swap_numbers.ensures.numbers_len, c.swap_numbers-2.ensures.places_len, c.len-end.ensures, m.numbers.ok, c.pop.new.self.ok, ap length (numbers_left b), length-take end c.swap_numbers-2.new.places.items, c.swap_numbers-2.new.places.ok);
    }

pub returns : goal.returns
returns c =
    let b = (goal.at.returns c).After-pop-2 in
    let a = (goal.at.returns c).After-index-place in
    let m = c.set_member.new.self in
    let end = c.len-end.result - 1 in
    replaced-swapped c.set_member.ensures (subst (λ ps. IsSwapRemoved (in_front m.count m.places.items) (in_front m.count ps) c.args.number) (sym (places_left b))
    (swapped-front m.inverse c.swap_numbers.ensures.inverse c.swap_numbers-2.ensures.inverse c.args.number c.index-place.result.now end (at a) (len a)
    (omega (arith, c.swap_numbers.ensures.places_len, m.places.ok, c.swap_numbers.new.places.ok)) (omega (arith, c.swap_numbers.ensures.places_len, c.swap_numbers-2.ensures.numbers_len, m.places.ok, c.swap_numbers-2.new.numbers.ok))
    c.swap_numbers.ensures.numbers c.swap_numbers-2.ensures.numbers m.count (behind a)))
