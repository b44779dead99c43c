use Rattle.std.proofs.Common.{◌≡◌, ◌<◌, ◌+◌, ◌-◌, Some, slice_get, not, true, false, nat_lt, sym, ap, subst, ◌∙◌, arith, vec_len}
use Rattle.std.proofs.lemmas.Bool.{ltb-true, ltb-false}
use Rattle.std.proofs.lemmas.Option.{slice_get-get_or}
use Rattle.rib_player.specs.Indices.{IsSetAt}
use Rattle.rib_player.proofs.ChosenLaws.{told-within, turned, told-choice, told-place, in_front, replaced, front-more, front-less, first-more, last-less}
use Rattle.rib_player.proofs.sparse_set.SparseSet.set_membership.Goals as goal
use Rattle.rib_player.proofs.sparse_set.SparseSet.set_membership.Goals.{After-index-place}

-- its place
at : (c : After-index-place) → slice_get c.args.self.now.places.items c.args.number ≡ Some c.index-place.result.now
at c = slice_get-get_or c.args.self.now.places.items c.args.number c.index-place.result.now
    (told-place c.args.self.now.count c.args.self.now.places.items c.args.number (not c.args.is) c.requires) ∙ ap Some (sym c.index-place.ensures)

told : (c : After-index-place) → nat_lt c.index-place.result.now c.args.self.now.count ≡ not c.args.is
told c = told-choice c.args.self.now.count c.args.self.now.places.items c.args.number c.index-place.result.now (not c.args.is) (at c) c.requires

within : (c : After-index-place) → c.index-place.result.now < vec_len c.args.self.now.numbers
within c = omega (arith, told-within (turned c.args.self.now.inverse) c.args.number c.index-place.result.now (at c), c.args.self.now.numbers.ok)

pub swap_numbers-requires-clause-one : goal.swap_numbers-requires-clause-one
swap_numbers-requires-clause-one c = within (goal.at.swap_numbers-requires-clause-one c).After-index-place

pub swap_numbers-requires-clause-other : goal.swap_numbers-requires-clause-other
swap_numbers-requires-clause-other c =
    let a = (goal.at.swap_numbers-requires-clause-other c).After-index-place in
    let behind = ltb-false c.index-place.result.now c.args.self.now.count (told a ∙ ap not c.if-is.true) in
    omega (arith, within a, behind)

pub swap_numbers-requires-else-is-clause-one : goal.swap_numbers-requires-else-is-clause-one
swap_numbers-requires-else-is-clause-one c = within (goal.at.swap_numbers-requires-else-is-clause-one c).After-index-place

pub overflow_sub-self : goal.overflow_sub-self
overflow_sub-self c =
    let before = ltb-true c.index-place.result.now c.args.self.now.count (told (goal.at.overflow_sub-self c).After-index-place ∙ ap not c.if-is.false) in
    omega (arith, before)

pub invariant_of-self : goal.invariant_of-self
invariant_of-self c =
    let a = (goal.at.invariant_of-self c).After-index-place in
    let behind = ltb-false c.index-place.result.now c.args.self.now.count (told a ∙ ap not c.if-is.true) in
    record { inverse = c.swap_numbers.ensures.inverse; within = omega (arith, within a, behind, c.swap_numbers.ensures.numbers_len) }

pub returns-then-is : goal.returns-then-is
returns-then-is c =
    let a = (goal.at.returns-then-is c).After-index-place in
    let s = c.args.self.now in
    let place = c.index-place.result.now in
    let behind = ltb-false place s.count (told a ∙ ap not c.if-is.true) in
    subst (IsSetAt (in_front s.count s.places.items) (in_front (s.count + 1) c.swap_numbers.new.places.items) c.args.number) (sym c.if-is.true)
    (replaced s.inverse c.swap_numbers.ensures.inverse place s.count c.swap_numbers.ensures.numbers (omega (arith, c.swap_numbers.ensures.places_len, s.places.ok, c.swap_numbers.new.places.ok))
    c.args.number place (at a) s.count (s.count + 1) true (first-more place s.count) (front-more place s.count behind))

pub returns-else-is : goal.returns-else-is
returns-else-is c =
    let a = (goal.at.returns-else-is c).After-index-place in
    let s = c.args.self.now in
    let place = c.index-place.result.now in
    let before = ltb-true place s.count (told a ∙ ap not c.if-is.false) in
    let end : s.count - 1 + 1 ≡ s.count = omega (arith, before) in
    subst (IsSetAt (in_front s.count s.places.items) (in_front (s.count - 1) c.swap_numbers-else-is.new.places.items) c.args.number) (sym c.if-is.false)
    (subst (λ count. IsSetAt (in_front count s.places.items) (in_front (s.count - 1) c.swap_numbers-else-is.new.places.items) c.args.number false) end
    (replaced s.inverse c.swap_numbers-else-is.ensures.inverse place (s.count - 1) c.swap_numbers-else-is.ensures.numbers (omega (arith, c.swap_numbers-else-is.ensures.places_len, s.places.ok, c.swap_numbers-else-is.new.places.ok))
    c.args.number place (at a) (s.count - 1 + 1) (s.count - 1) false (last-less place (s.count - 1)) (front-less place (s.count - 1) (omega (arith, before, end)))))
