use Rattle.std.proofs.Common.{◌≡◌, ◌-◌, ◌<◌, suc, length, drop, arith, IfSome, ap, sym, subst, ◌∙◌}
use Rattle.std.specs.Cmp.{eq_by_cmp_equiv}
use Rattle.std.specs.Ordering.{eq_by_cmp}
use Rattle.mrt_events.specs.Event.{item_value}
use Rattle.mrt_events.proofs.PeerLaws.{peer_cmp_total}
use Rattle.rib_player.specs.declared.pair.Pair.{Pair}
use Rattle.rib_player.specs.History.{pair_cmp, pair_of, Effect, Set, Clear, effect_if, item_effect, later}
use Rattle.rib_player.specs.Journal.{sides_of}
use Rattle.rib_player.specs.Changes.{found, is_lost, effect_of, effect_of_changes, items_effect, HasRoute}
use Rattle.rib_player.proofs.ChangesLaws.{items_effect-more, lost-noted, shared-at}
use Rattle.rib_player.proofs.changes.Changes.note_items.Given.{Over}
use Rattle.rib_player.proofs.changes.Changes.note_items.Goals as goal
use Rattle.rib_player.proofs.changes.Changes.note_items.Goals.{After-index-items-rest, in-Some+in_ok-own-in-Some, in-None+in_ok-own-in-None}

-- what the item does too is noted
more : (g : Over) (c : After-index-items-rest g) (new : Pair → Effect)
    → ((q : Pair) → new q ≡ later (item_effect q (item_value c.index-items-rest.result)) (effect_of_changes c.items.self q))
    → (q : Pair) → new q ≡ later (items_effect q (drop (c.items.rest - 1) c.args.items.now)) (effect_of_changes c.args.self.now q)
more g c new step q =
    let items = c.args.items.now in
    let within : c.items.rest - 1 < length items = omega (arith, c.items.invariant.within, c.items-test.true) in
    let next : suc (c.items.rest - 1) ≡ c.items.rest = omega (arith, c.items-test.true) in
    items_effect-more q items (c.items.rest - 1) c.items.rest c.index-items-rest.result (effect_of_changes c.args.self.now q) (effect_of_changes c.items.self q) (new q)
    within next c.index-items-rest.is (c.items.invariant.noted_is q) (step q)

pub items-preserved-in-Continue-branch-3 : goal.items-preserved-in-Continue-branch-3
items-preserved-in-Continue-branch-3 g c =
    let b = (goal.at.items-preserved-in-Continue-branch-3 g c).After-index-items-rest in
    let item = c.index-items-rest.result in
    let shared = shared-at c.args.shared c.args.items.now (c.items.rest - 1) item (omega (arith, c.items.invariant.within, c.items-test.true)) c.index-items-rest.is c.requires in
    let own : c.match-shared.own.value ≡ c.in-Announce.route.value = elim c.match-shared.branch [
      | in-Some+in_ok-own-in-Some w ↦
          let has = subst (λ x. HasRoute w.in-Some.shared.now.value (item_value x)) c.in-Announce.is
          (subst (λ s. IfSome s (λ r. HasRoute r.now.value (item_value item))) w.in-Some.is shared) in
          ap (λ o. o.value) w.own-is ∙ w.in_ok-own-in-Some.ensures.cases ∙ sym has
      | in-None+in_ok-own-in-None w ↦ ap (λ o. o.value) w.own-is ∙ w.in_ok-own-in-None.ensures.value
    ] in
    record {
      within = omega arith;
      noted_is = more g b (effect_of_changes c.note_route.new.self) (λ q.
          c.in_ok-note_route-in-Announce.ensures q
          ∙ ap (λ r. later (effect_if (eq_by_cmp pair_cmp q (pair_of c.in-Announce.peer c.in-Announce.prefix)) (Set r)) (effect_of_changes c.items.self q)) own
          ∙ ap (λ x. later (item_effect q (item_value x)) (effect_of_changes c.items.self q)) (sym c.in-Announce.is));
    }

pub items-preserved-in-Continue-branch-4 : goal.items-preserved-in-Continue-branch-4
items-preserved-in-Continue-branch-4 g c =
    let b = (goal.at.items-preserved-in-Continue-branch-4 g c).After-index-items-rest in
    record {
      within = omega arith;
      noted_is = more g b (effect_of_changes c.note_route-in-Withdraw.new.self) (λ q.
          c.in_ok-note_route-in-Withdraw.ensures q
          ∙ ap (λ x. later (item_effect q (item_value x)) (effect_of_changes c.items.self q)) (sym c.in-Withdraw.is));
    }

-- the peer has no routes any more
pub items-preserved-then-new-ne-ESTABLISHED : goal.items-preserved-then-new-ne-ESTABLISHED
items-preserved-then-new-ne-ESTABLISHED g c =
    let b = (goal.at.items-preserved-then-new-ne-ESTABLISHED g c).After-index-items-rest in
    record {
      within = omega arith;
      noted_is = more g b (effect_of_changes (record c.items.self { lost = c.insert.new.self })) (λ q.
          let kept = found (sides_of c.items.self.entries.items) q in
          let lost = is_lost c.items.self.lost.keys q in
          let noted = ap (effect_of kept) (c.in_ok-insert-in-State.ensures.updates.0 q.peer)
          ∙ lost-noted kept _ lost
          ∙ ap (λ b. later (effect_if b Clear) (effect_of kept lost)) ((eq_by_cmp_equiv peer_cmp_total).symm c.in-State.peer q.peer) in
          grind (arith, noted, c.in-State.is));
    }

pub returns : goal.returns
returns g c =
    λ (q : Pair). c.items.invariant.noted_is q
    ∙ ap (λ n. later (items_effect q (drop n c.args.items.now)) (effect_of_changes c.args.self.now q)) {x = c.items.rest} {y = 0} (omega arith)
