use Rattle.std.proofs.Common.{◌≡◌, false, take}
use Rattle.std.specs.List.{AllByRecursion}
use Rattle.std.specs.Ordering.{eq_by_cmp}
use Rattle.rib_player.specs.History.{pair_cmp}
use Rattle.rib_player.specs.Journal.{sides_of}
use Rattle.rib_player.proofs.steps.contains_pair.Given as goal

-- none of the entries so far is of the pair
abbrev pub invariant-entries : goal.invariant-entries
invariant-entries l = AllByRecursion (λ side. eq_by_cmp pair_cmp side.0 l.entry.pair ≡ false) (sides_of (take l.other-index l.entries))
