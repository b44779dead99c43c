-- How many pairs steps name.
use Rattle.std.proofs.Common.{◌≡◌, ◌+◌, length, cond, List, [], ◌∷◌, map, refl, sym, ap, ap₂, ◌∙◌, arith}
use Rattle.std.specs.List.{AllByRecursion, IsDistinct, sum_by}
use Rattle.std.specs.FinSet as set
use Rattle.std.specs.FinSet.{contains-from_list, len-empty, len-insert}
use Rattle.std.proofs.lemmas.List.Sums.{sum_by-cons}
use Rattle.std.proofs.lemmas.Map.Keys.{IsDistinct-head, IsDistinct-tail}
use Rattle.rib_player.specs.declared.pair.Pair.{Pair}
use Rattle.rib_player.specs.declared.entry.Step.{Step}
use Rattle.rib_player.specs.History.{pair_cmp}
use Rattle.rib_player.specs.Journal.{pairs_in, sides_by_step, step_sides}
use Rattle.rib_player.specs.Sides.{AreDistinct, entry_count}
use Rattle.rib_player.proofs.PairLaws.{pair_cmp_total}
use Rattle.rib_player.proofs.MarkLaws.{tied, none-any, length-pairs}

-- a list without a key twice has as many keys as elements
pub len-from_list : (pairs : List Pair) → IsDistinct tied pairs → set.len (set.from_list {R = pair_cmp} pairs) ≡ length pairs
len-from_list [] distinct = len-empty pair_cmp
len-from_list (pair ∷ pairs) distinct =
    len-insert pair_cmp_total (set.from_list pairs) pair
    ∙ ap (λ b. cond b (set.len (set.from_list {R = pair_cmp} pairs)) (set.len (set.from_list {R = pair_cmp} pairs) + 1))
    (contains-from_list pair_cmp_total pairs pair ∙ none-any pair pairs (IsDistinct-head tied pair pairs distinct))
    ∙ ap (λ n. n + 1) (len-from_list pairs (IsDistinct-tail tied pair pairs distinct))
    ∙ omega arith

-- the counts are those of the pairs that the steps name
pub named-total : (steps : List Step) → AllByRecursion AreDistinct (sides_by_step steps) → sum_by entry_count steps ≡ sum_by set.len (map (λ sides. set.from_list {R = pair_cmp} (pairs_in sides)) (sides_by_step steps))
named-total [] all = refl
named-total (step ∷ steps) all =
    sum_by-cons entry_count step steps
    ∙ ap₂ (λ m n. m + n) (sym (len-from_list (pairs_in (step_sides step)) all.0 ∙ length-pairs step.entries.items)) (named-total steps all.1)
    ∙ sym (sum_by-cons set.len (set.from_list (pairs_in (step_sides step))) (map (λ sides. set.from_list {R = pair_cmp} (pairs_in sides)) (sides_by_step steps)))
