use Rattle.std.proofs.Common.{◌≡◌, ◌+◌, ◌&&◌, Some, is_some, Bool, true, false, ℕ, sym, ap, ◌∙◌, arith}
use Rattle.std.specs.BTreeMap as tree
use Rattle.std.specs.Box.{with_value}
use Rattle.std.specs.Option.{option_copied_mut}
use Rattle.ip_prefix.specs.Network.{Network}
use Rattle.mrt_events.specs.Event.{peer_cmp}
use Rattle.rib_player.specs.Claims.{count_of, one_if, count_of_peer}
use Rattle.rib_player.specs.Representation.{IsUpdatedAt}
use Rattle.rib_player.proofs.StoreLaws.{same_network, written-twice}
use Rattle.rib_player.proofs.CountedLaws.{beyond-written}
use Rattle.rib_player.proofs.claims.ExtraKeyClaims.try_decrement.Goals as goal
use Rattle.rib_player.proofs.claims.ExtraKeyClaims.try_decrement.Goals.{After-try_decrement-taken}

found : (c : After-try_decrement-taken) → Some c.in-Some.counts.now ≡ tree.get peer_cmp c.args.self.now.peers c.args.pair.now.peer
found c = sym (ap option_copied_mut c.in-Some.is) ∙ c.get_mut.ensures.value

-- other counts stand for the peer
written : (c : After-try_decrement-taken) → IsUpdatedAt c.args.self.now.peers.entries (c.get_mut.follows.lender (with_value c.in-Some.counts.now c.try_decrement-taken.new.self)).entries c.args.pair.now.peer (Some (with_value c.in-Some.counts.now c.try_decrement-taken.new.self))
written c = record { each = ((c.get_mut.follows.holds (with_value c.in-Some.counts.now c.try_decrement-taken.new.self)).3 (ap is_some (sym (found c)))).0 }

try_decrement : (c : After-try_decrement-taken) (n : Network) → count_of c.try_decrement-taken.new.self n + one_if (c.try_decrement-taken.result && same_network n c.args.pair.now.prefix) ≡ count_of_peer (tree.get peer_cmp c.args.self.now.peers c.args.pair.now.peer) n
try_decrement c n = c.try_decrement-taken.ensures.counted n ∙ ap (λ k. count_of k n) c.deref_mut.ensures.value ∙ ap (λ w. count_of_peer w n) (found c)

none : (b : Bool) (m : ℕ) → m + one_if (b && false) ≡ m
none true m = omega arith
none false m = omega arith

pub returns-else-is_empty-clause-counted : goal.returns-else-is_empty-clause-counted
returns-else-is_empty-clause-counted c =
    let b = (goal.at.returns-else-is_empty-clause-counted c).After-try_decrement-taken in
    beyond-written c.args.pair.now (written b) (λ new old t. new + one_if (c.try_decrement-taken.result && t) ≡ old) (try_decrement b) (none c.try_decrement-taken.result)

-- no counts stand for the peer, where none are left
pub returns-then-is_empty-clause-counted : goal.returns-then-is_empty-clause-counted
returns-then-is_empty-clause-counted c =
    let b = (goal.at.returns-then-is_empty-clause-counted c).After-try_decrement-taken in
    beyond-written c.args.pair.now (written-twice (written b) (record { each = c.remove.ensures.updates.0 })) (λ new old t. new + one_if (c.try_decrement-taken.result && t) ≡ old)
    (λ n. ap (λ k. k + one_if (c.try_decrement-taken.result && same_network n c.args.pair.now.prefix)) (sym (c.is_empty.ensures c.if-is_empty.true n) ∙ ap (λ k. count_of k n) c.deref.ensures) ∙ try_decrement b n) (none c.try_decrement-taken.result)
