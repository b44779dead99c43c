use Rattle.std.proofs.Common.{◌≡◌, ◌+◌, Some, ap, arith}
use Rattle.std.specs.Prelude.{unwrap_or}
use Rattle.std.specs.BTreeMap.Entry.{map_with_value}
use Rattle.rib_player.specs.Claims.{one_if}
use Rattle.rib_player.specs.KeyCounts.{count_in}
use Rattle.rib_player.proofs.FewCountLaws.{count-written, counted}
use Rattle.rib_player.proofs.key_counts.increment_in_map.Given.{Over}
use Rattle.rib_player.proofs.key_counts.increment_in_map.Goals as goal
use Rattle.rib_player.proofs.key_counts.increment_in_map.Goals.{After-or_insert-count}
use Rattle.std.proofs.Common.{◌∙◌}

-- the count that is found, or none
found : (g : Over) (c : After-or_insert-count g) → c.or_insert-count.result.now ≡ count_in g.K.Ord.cmp c.args.counts.now.entries c.args.key
found g c = c.or_insert-count.ensures.value ∙ ap (λ o. unwrap_or o 0) c.in_ok-counts.ensures.value

pub returns-clause-counted : goal.returns-clause-counted
returns-clause-counted g c = λ k.
    let b = (goal.at.returns-clause-counted g c).After-or_insert-count in
    let v = c.or_insert-count.result.now + 1 in
    let after = map_with_value c.in_ok-counts.field-0 v in
    grind (
      arith,
      counted g.met.K.Ord.total c.args.counts.now.entries after.entries c.args.key v (λ new old b. new ≡ old + one_if b) (ap (λ n. n + 1) (found g b)) (λ m. omega arith) k
          (count-written g.met.K.Ord.total c.args.counts.now.entries after.entries c.args.key k (Some v) ((c.in_ok-counts.ensures.update.0 v).0 k)),
    )
