use Rattle.std.proofs.Common.{rules, ◌≡◌, List, ap, sym, subst, ◌∙◌}
use Rattle.std.specs.List.{dedup}
use Rattle.std.specs.List.Sorted.{IsStrictlySortedBy}
use Rattle.std.proofs.lemmas.List.Sorted.{answers_always}
use Rattle.std.proofs.lemmas.Fn.{dedup_same}
use Rattle.std.proofs.lemmas.Map.Keys.{IsDistinct-from_sorted}
use Rattle.rib_player.specs.Entries.{Entry}
use Rattle.rib_player.specs.History.{pair_cmp}
use Rattle.rib_player.specs.Journal.{sides_of, pairs_in}
use Rattle.rib_player.specs.Changes.{found}
use Rattle.rib_player.proofs.OrderedLaws.{of_one_pair, found-dedup, found-sorted, ordered-dedup}
use Rattle.rib_player.proofs.steps.first_entry_per_pair.Given.{Over}
use Rattle.rib_player.proofs.steps.first_entry_per_pair.Goals as goal
use Rattle.rib_player.proofs.steps.first_entry_per_pair.Goals.{After-dedup_by_key}

-- of the sorted entries each pair's is kept once
kept : (g : Over) (c : After-dedup_by_key g) → c.dedup_by_key.new.self.items ≡ dedup of_one_pair c.sort_by_key.new.self.items
kept g c = dedup_same _ of_one_pair _ (λ x y b f x' y' told. search rules) _ _ c.dedup_by_key.ensures.filtered

pub returns-clause-distinct : goal.returns-clause-distinct
returns-clause-distinct g c =
    IsDistinct-from_sorted pair_cmp (pairs_in (sides_of c.dedup_by_key.new.self.items)) (subst (λ (entries : List Entry). IsStrictlySortedBy pair_cmp (pairs_in (sides_of entries))) (sym (kept g c))
    (ordered-dedup c.sort_by_key.new.self.items (c.in_ok-sort_by_key.ensures.sorted (λ entry. entry.pair) (answers_always _ _ _ (λ f a r g called. search rules)))))

pub returns-clause-found : goal.returns-clause-found
returns-clause-found g c = λ q.
    ap (λ (entries : List Entry). found (sides_of entries) q) (kept g c)
    ∙ found-dedup q c.sort_by_key.new.self.items
    ∙ found-sorted q c.args.entries.items c.sort_by_key.new.self.items (c.in_ok-sort_by_key.ensures.stable (λ entry. entry.pair) (answers_always _ _ _ (λ f a r g called. search rules)))
