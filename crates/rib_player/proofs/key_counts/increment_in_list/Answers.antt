use Rattle.std.proofs.Common.{◌≡◌, ◌+◌, [], ◌∷◌, ◌++◌, None, Some, ap, sym, subst, ◌∙◌, arith}
use Rattle.std.specs.Map.{lookup}
use Rattle.std.specs.BTreeMap as tree
use Rattle.std.specs.Prelude.{unwrap_or}
use Rattle.rib_player.specs.Claims.{one_if}
use Rattle.rib_player.specs.KeyCounts.{count_in, IsFirst}
use Rattle.rib_player.proofs.FewCountLaws.{found-count, found-written, appended, count-written, counted}
use Rattle.rib_player.proofs.key_counts.increment_in_list.Given.{Over}
use Rattle.rib_player.proofs.key_counts.increment_in_list.Goals as goal
use Rattle.rib_player.proofs.key_counts.increment_in_list.Goals.{After-index_mut}

first : (g : Over) (c : After-index_mut g) → IsFirst g.K.Ord.cmp c.args.key c.args.counts.now.items c.in-Some.place
first g c = subst (λ s. IsFirst g.K.Ord.cmp c.args.key s c.in-Some.place) c.deref.ensures.value c.in-Some.ensures.some

found : (g : Over) (c : After-index_mut g) → count_in g.K.Ord.cmp c.args.counts.now.items c.args.key ≡ c.index_mut.result.now.1
found g c = found-count g.met.K.Ord.total c.args.counts.now.items c.args.key c.in-Some.place c.index_mut.result.now (first g c) c.index_mut.ensures.value

pub overflow_add-index_mut : goal.overflow_add-index_mut
overflow_add-index_mut g c = omega (arith, c.requires, found g (goal.at.overflow_add-index_mut g c).After-index_mut)

pub returns-in-Some-clause-counted : goal.returns-in-Some-clause-counted
returns-in-Some-clause-counted g c = λ k.
    let b = (goal.at.returns-in-Some-clause-counted g c).After-index_mut in
    let v = c.index_mut.result.now.1 + 1 in
    counted g.met.K.Ord.total c.args.counts.now.items _ c.args.key v (λ new old b. new ≡ old + one_if b) (ap (λ n. n + 1) (sym (found g b))) (λ m. omega arith) k
    (found-written g.met.K.Ord.total c.args.counts.now.items c.args.key k c.in-Some.place c.index_mut.result.now v (first g b) c.index_mut.ensures.value)

pub returns-clause-counted : goal.returns-clause-counted
returns-clause-counted g c = λ k.
    let old = c.args.counts.now.items in
    let none : lookup (tree.is_at (g.K.Ord.cmp c.args.key)) old ≡ None = subst (λ s. lookup (tree.is_at (g.K.Ord.cmp c.args.key)) s ≡ None) c.deref.ensures.value c.in_default.ensures.none in
    let items : c.push_reserved.new.self.items ≡ old ++ (c.args.key, 1) ∷ [] = c.push_reserved.ensures.items ∙ ap (λ l. l ++ (c.args.key, 1) ∷ []) c.reserve_exact.ensures.items in
    counted g.met.K.Ord.total old c.push_reserved.new.self.items c.args.key 1 (λ new old b. new ≡ old + one_if b) (ap (λ o. unwrap_or o 0 + 1) (sym none)) (λ m. omega arith) k
    (count-written g.met.K.Ord.total old c.push_reserved.new.self.items c.args.key k (Some 1)
    (ap (lookup (tree.is_at (g.K.Ord.cmp k))) items ∙ appended g.met.K.Ord.total old c.args.key k 1 none))
