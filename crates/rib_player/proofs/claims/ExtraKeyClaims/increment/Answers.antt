use Rattle.std.proofs.Common.{◌≡◌, ◌+◌, ◌<◌, Some, None, is_some, refl, sym, ap, subst, ◌∙◌, arith}
use Rattle.std.specs.BTreeMap as tree
use Rattle.std.specs.Box.{with_value}
use Rattle.std.specs.Option.{option_copied_mut}
use Rattle.std.proofs.lemmas.Result.{on_ok_weaker, on_err_weaker}
use Rattle.mrt_events.specs.Event.{peer_cmp}
use Rattle.prefix_store.specs.declared.store.TheConstants.{GREATEST_COUNT}
use Rattle.rib_player.specs.Claims.{one_if, count_of, count_of_peer}
use Rattle.rib_player.specs.Representation.{IsUpdatedAt}
use Rattle.rib_player.proofs.StoreLaws.{same_network}
use Rattle.rib_player.proofs.CountedLaws.{Peers, beyond-written}
use Rattle.rib_player.proofs.claims.ExtraKeyClaims.increment.Goals as goal
use Rattle.rib_player.proofs.claims.ExtraKeyClaims.increment.Goals.{After-increment}

found : (c : After-increment) → Some c.in-Some.counts.now ≡ tree.get peer_cmp c.args.self.now.peers c.args.pair.now.peer
found c = sym (ap option_copied_mut c.in-Some.is) ∙ c.get_mut.ensures.value

-- other counts stand for the peer
written : (c : After-increment) → IsUpdatedAt c.args.self.now.peers.entries (c.get_mut.follows.lender (with_value c.in-Some.counts.now c.increment.new.self)).entries c.args.pair.now.peer (Some (with_value c.in-Some.counts.now c.increment.new.self))
written c = record { each = ((c.get_mut.follows.holds (with_value c.in-Some.counts.now c.increment.new.self)).3 (ap is_some (sym (found c)))).0 }

pub increment-requires : goal.increment-requires
increment-requires c =
    subst (λ k. count_of k c.args.pair.now.prefix < GREATEST_COUNT) (sym c.deref_mut.ensures.value)
    (subst (λ w. count_of_peer w c.args.pair.now.prefix < GREATEST_COUNT) (sym (sym (ap option_copied_mut c.in-Some.is) ∙ c.get_mut.ensures.value)) c.requires)

pub increment-requires-2 : goal.increment-requires-2
increment-requires-2 c = omega (arith, c.new-counts.ensures c.args.pair.now.prefix)

pub returns-in-Some-clause-counted : goal.returns-in-Some-clause-counted
returns-in-Some-clause-counted c =
    let b = (goal.at.returns-in-Some-clause-counted c).After-increment in
    on_ok_weaker c.increment.result (λ increment.
    beyond-written c.args.pair.now (written b) (λ new old b. new ≡ old + one_if b) (λ n. increment n ∙ ap (λ k. count_of k n + one_if (same_network n c.args.pair.now.prefix)) c.deref_mut.ensures.value ∙ ap (λ w. count_of_peer w n + one_if (same_network n c.args.pair.now.prefix)) (found b)) (λ m. omega arith)) c.increment.ensures.counted

pub returns-in-Some-clause-refused : goal.returns-in-Some-clause-refused
returns-in-Some-clause-refused c =
    let b = (goal.at.returns-in-Some-clause-refused c).After-increment in
    on_err_weaker c.increment.result (λ same.
    beyond-written c.args.pair.now (written b) (λ new old b. new ≡ old) (λ n. same n ∙ ap (λ k. count_of k n) c.deref_mut.ensures.value ∙ ap (λ w. count_of_peer w n) (found b)) (λ m. refl)) c.increment.ensures.refused

pub returns-clause-counted : goal.returns-clause-counted
returns-clause-counted c =
    let none : None ≡ tree.get peer_cmp c.args.self.now.peers c.args.pair.now.peer = sym (ap option_copied_mut c.in_default.is) ∙ c.get_mut.ensures.value in
    beyond-written c.args.pair.now
    (subst (λ (m : Peers). IsUpdatedAt m.entries c.insert.new.self.entries c.args.pair.now.peer (Some c.in_ok-counts.counts)) c.get_mut.follows.holds-at-none (record { each = c.in_ok-insert.ensures.updates.0 }))
    (λ new old b. new ≡ old + one_if b)
    (λ n. ap (λ k. count_of k n) c.in_ok-counts.ensures.ok ∙ c.in_ok-increment.ensures.counted n ∙ ap (λ k. k + one_if (same_network n c.args.pair.now.prefix)) (c.new-counts.ensures n ∙ ap (λ w. count_of_peer w n) none)) (λ m. omega arith)
