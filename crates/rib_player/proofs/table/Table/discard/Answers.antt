use Rattle.std.proofs.Common.{refl, Some, sym, ap, ◌∙◌, arith}
use Rattle.std.specs.Option.{option_copied_mut}
use Rattle.std.specs.FinSet as set
use Rattle.rib_player.specs.StoresByPeer.{stores_in}
use Rattle.rib_player.specs.Noted.{routed_marks}
use Rattle.rib_player.specs.Lent.{IsLent}
use Rattle.rib_player.proofs.StoreLaws.{IsStored, AreNoted, stored-lent, when_some, noted-other, noted-kept, key-has-store, contains-found, get-found, no_value, held-other, held-gone, keys-less, keys-gone, routes-kept, routes-gone}
use Rattle.rib_player.proofs.table.Table.discard.Given.{Over}
use Rattle.rib_player.proofs.table.Table.discard.Goals as goal
use Rattle.rib_player.proofs.table.Table.discard.Goals.{After-discard}

pub unreachable-requires : goal.unreachable-requires
unreachable-requires g c = key-has-store g.S.PrefixStore.keys (stores_in c.self.inside.stores) c.args.self.now.keys c.args.pair.now (ap (λ s. s.keys) c.self.view_is) c.requires.key (sym (ap option_copied_mut c.in_default.is) ∙ c.get_mut.ensures.value)

pub discard-requires-clause-key : goal.discard-requires-clause-key
discard-requires-clause-key g c =
    contains-found g.S.PrefixStore.keys (stores_in c.self.inside.stores) c.args.self.now.keys c.args.pair.now (Some c.in-Some.store.now) (sym (ap option_copied_mut c.in-Some.is) ∙ c.get_mut.ensures.value) (ap (λ s. s.keys) c.self.view_is) ∙ c.requires.key

pub discard-requires-clause-free : goal.discard-requires-clause-free
discard-requires-clause-free g c =
    no_value _ (get-found g.S.PrefixStore.routes (stores_in c.self.inside.stores) c.args.self.now.routes c.args.pair.now (Some c.in-Some.store.now) (sym (ap option_copied_mut c.in-Some.is) ∙ c.get_mut.ensures.value) (ap (λ s. s.routes) c.self.view_is) ∙ c.requires.free)

-- the peer's store was written
lent : (g : Over) (c : After-discard g) → IsLent c.self.inside.stores (c.get_mut.follows.lender c.discard.new.self) c.args.pair.now.peer c.discard.new.self
lent g c = when_some c.get_mut.result c.in-Some.store c.in-Some.is (c.get_mut.follows.holds c.discard.new.self)

there : (g : Over) (c : After-discard g) → IsStored (stores_in c.self.inside.stores) (stores_in (c.get_mut.follows.lender c.discard.new.self)) c.args.pair.now.peer c.in-Some.store.now c.discard.new.self
there g c =
    stored-lent c.self.inside.stores (c.get_mut.follows.lender c.discard.new.self) c.get_mut.result c.in-Some.store c.in-Some.is c.get_mut.ensures.value (c.get_mut.follows.holds c.discard.new.self)

noted : (g : Over) (c : After-discard g) → AreNoted g.S.PrefixStore.routes (stores_in (c.get_mut.follows.lender c.discard.new.self)) (routed_marks (c.get_mut.follows.lender c.discard.new.self))
noted g c =
    noted-kept g.S.PrefixStore.routes c.self.inside.stores (c.get_mut.follows.lender c.discard.new.self) (lent g c) (there g c).found c.discard.ensures.routes c.self.invariant.noted

pub invariant_of-self : goal.invariant_of-self
invariant_of-self g c =
    let a = (goal.at.invariant_of-self g c).After-discard in
    record {
      held = held-gone g.S.PrefixStore.keys g.S.PrefixStore.routes (there g a) c.remove.ensures.stores c.self.invariant.held;
      noted = noted-other g.S.PrefixStore.routes c.remove.ensures.stores c.remove.ensures.routed refl (noted g a);
    }

pub invariant_of-self-else-key_count-eq0 : goal.invariant_of-self-else-key_count-eq0
invariant_of-self-else-key_count-eq0 g c =
    let a = (goal.at.invariant_of-self-else-key_count-eq0 g c).After-discard in
    record {
      held = held-other g.S.PrefixStore.keys (there g a).written c.self.invariant.held (omega (arith, c.key_count.ensures.count, c.if-key_count-eq0.false));
      noted = noted g a;
    }

pub returns-then-key_count-eq0-clause-keys : goal.returns-then-key_count-eq0-clause-keys
returns-then-key_count-eq0-clause-keys g c =
    keys-gone g.S.PrefixStore.keys g.S.PrefixStore.routes (there g (goal.at.returns-then-key_count-eq0-clause-keys g c).After-discard) c.remove.ensures.stores c.args.pair.now.prefix (omega (arith, c.key_count.ensures.count, c.if-key_count-eq0.true)) c.discard.ensures.keys
    ∙ ap (λ s. set.remove s.keys c.args.pair.now) c.self.view_is

pub returns-then-key_count-eq0-clause-routes : goal.returns-then-key_count-eq0-clause-routes
returns-then-key_count-eq0-clause-routes g c =
    routes-gone g.S.PrefixStore.keys g.S.PrefixStore.routes (there g (goal.at.returns-then-key_count-eq0-clause-routes g c).After-discard) c.remove.ensures.stores (omega (arith, c.key_count.ensures.count, c.if-key_count-eq0.true)) c.key_count.ensures.among c.discard.ensures.routes
    ∙ ap (λ s. s.routes) c.self.view_is

pub returns-else-key_count-eq0-clause-keys : goal.returns-else-key_count-eq0-clause-keys
returns-else-key_count-eq0-clause-keys g c =
    keys-less g.S.PrefixStore.keys (there g (goal.at.returns-else-key_count-eq0-clause-keys g c).After-discard) c.args.pair.now.prefix c.discard.ensures.keys ∙ ap (λ s. set.remove s.keys c.args.pair.now) c.self.view_is

pub returns-else-key_count-eq0-clause-routes : goal.returns-else-key_count-eq0-clause-routes
returns-else-key_count-eq0-clause-routes g c =
    routes-kept g.S.PrefixStore.routes (there g (goal.at.returns-else-key_count-eq0-clause-routes g c).After-discard) c.discard.ensures.routes ∙ ap (λ s. s.routes) c.self.view_is
