use Rattle.std.proofs.Common.{rules, ◌≡◌, ◌+◌, ◌-◌, ◌&&◌, ◌<◌, ◌≤◌, ℕ, Bool, true, false, not, ap, sym, subst, ◌∙◌, arith}
use Rattle.std.proofs.lemmas.Bool.Decides.{nat_tests}
use Rattle.std.proofs.lemmas.Fn.{filter_same}
use Rattle.std.specs.Prelude.{nat_lt}
use Rattle.std.specs.BTreeMap as tree
use Rattle.rib_player.specs.Claims.{one_if}
use Rattle.rib_player.specs.KeyCounts.{count_in, IsFirst}
use Rattle.rib_player.proofs.FewCountLaws.{found-count, found-written, left-out, counted}
use Rattle.rib_player.proofs.key_counts.try_decrement_in_list.Given.{Over}
use Rattle.rib_player.proofs.key_counts.try_decrement_in_list.Goals as goal
use Rattle.rib_player.proofs.key_counts.try_decrement_in_list.Goals.{After-index}

first : (g : Over) (c : After-index g) → IsFirst g.K.Ord.cmp c.args.key.now c.args.counts.now.items c.in-Some.place
first g c = subst (λ s. IsFirst g.K.Ord.cmp c.args.key.now s c.in-Some.place) c.deref.ensures.value c.in-Some.ensures.some

found : (g : Over) (c : After-index g) → count_in g.K.Ord.cmp c.args.counts.now.items c.args.key.now ≡ c.index.result.now.1
found g c = found-count g.met.K.Ord.total c.args.counts.now.items c.args.key.now c.in-Some.place c.index.result.now (first g c) c.index.ensures

above_none : (n m : ℕ) → n ≡ m → 1 < m → true ≡ nat_lt 0 n
above_none n m e h = grind (arith, nat_tests)

pub returns-then-count-gt1-clause-some : goal.returns-then-count-gt1-clause-some
returns-then-count-gt1-clause-some g c = above_none _ c.index.result.now.1 (found g (goal.at.returns-then-count-gt1-clause-some g c).After-index) c.if-count-gt1.true

pub returns-then-count-gt1-clause-counted : goal.returns-then-count-gt1-clause-counted
returns-then-count-gt1-clause-counted g c = λ k.
    let b = (goal.at.returns-then-count-gt1-clause-counted g c).After-index in
    let v = c.index.result.now.1 - 1 in
    counted g.met.K.Ord.total c.args.counts.now.items _ c.args.key.now v (λ new old b. new + one_if b ≡ old) (omega (arith, c.if-count-gt1.true, found g b)) (λ m. omega arith) k
    (found-written g.met.K.Ord.total c.args.counts.now.items c.args.key.now k c.in-Some.place c.index_mut.result.now v (first g b) c.index_mut.ensures.value)

pub returns-clause-some : goal.returns-clause-some
returns-clause-some g c = ap (nat_lt 0) (sym (found g (goal.at.returns-clause-some g c).After-index))

pub returns-clause-counted : goal.returns-clause-counted
returns-clause-counted g c = λ k.
    let b = (goal.at.returns-clause-counted g c).After-index in
    let old = c.args.counts.now.items in
    counted g.met.K.Ord.total old c.retain.new.self.items c.args.key.now 0 (λ new old b. new + one_if (nat_lt 0 c.index.result.now.1 && b) ≡ old)
    (at_most_one c.index.result.now.1 (omega (arith, c.if-count-gt1.false)) ∙ sym (found g b)) (none (nat_lt 0 c.index.result.now.1)) k
    (ap (λ l. count_in g.K.Ord.cmp l k) (filter_same _ (λ e. not (tree.is_at (g.K.Ord.cmp c.args.key.now) e.0)) _ (λ x b f' k. search rules) _ _ c.retain.ensures.filtered)
    ∙ left-out g.met.K.Ord.total old c.args.key.now k)
  where
    at_most_one : (n : ℕ) → n ≤ 1 → 0 + one_if (nat_lt 0 n && true) ≡ n
    at_most_one n h = grind (arith, nat_tests)

    none : (b : Bool) (m : ℕ) → m + one_if (b && false) ≡ m
    none b m = grind arith
