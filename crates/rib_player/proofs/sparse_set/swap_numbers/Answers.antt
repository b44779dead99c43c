use Rattle.std.proofs.Common.{◌≡◌, Some, slice_get, sym, ap, ◌∙◌, arith}
use Rattle.std.proofs.lemmas.Option.{slice_get-get_or}
use Rattle.rib_player.proofs.ChosenLaws.{told-within, inverse-exchanged, exchanged-at}
use Rattle.rib_player.proofs.sparse_set.swap_numbers.Goals as goal
use Rattle.rib_player.proofs.sparse_set.swap_numbers.Goals.{After-index-first, After-index-second}

-- what stands at the two places
first : (c : After-index-first) → slice_get c.args.numbers.now.items c.args.one ≡ Some c.index-first.result.now
first c =
    slice_get-get_or c.args.numbers.now.items c.args.one c.index-first.result.now (omega (arith, c.requires.one, c.args.numbers.now.ok)) ∙ ap Some (sym c.index-first.ensures)

second : (c : After-index-second) → slice_get c.args.numbers.now.items c.args.other ≡ Some c.index-second.result.now
second c =
    slice_get-get_or c.args.numbers.now.items c.args.other c.index-second.result.now (omega (arith, c.requires.other, c.args.numbers.now.ok)) ∙ ap Some (sym c.index-second.ensures)

pub index_mut-requires-3 : goal.index_mut-requires-3
index_mut-requires-3 c =
    omega (arith, told-within c.requires.inverse c.args.other c.index-second.result.now (second (goal.at.index_mut-requires-3 c).After-index-second), c.args.places.now.ok)

pub index_mut-requires-4 : goal.index_mut-requires-4
index_mut-requires-4 c =
    omega (arith, told-within c.requires.inverse c.args.one c.index-first.result.now (first (goal.at.index_mut-requires-4 c).After-index-first), c.args.places.now.ok)

pub returns-clause-inverse : goal.returns-clause-inverse
returns-clause-inverse c =
    let a = goal.at.returns-clause-inverse c in
    inverse-exchanged c.requires.inverse c.args.one c.args.other (first a.After-index-first) (second a.After-index-second)

pub returns-clause-numbers : goal.returns-clause-numbers
returns-clause-numbers c =
    let a = goal.at.returns-clause-numbers c in
    exchanged-at c.requires.inverse c.args.one c.args.other (first a.After-index-first) (second a.After-index-second)
