use Rattle.std.proofs.Common.{◌≡◌, ◌+◌, ◌≤◌, nat_lt, Some, sym, ap, subst, ◌∙◌}
use Rattle.std.specs.Map.{lookup}
use Rattle.std.specs.Option.{option_copied_mut}
use Rattle.std.specs.FinMap as finite
use Rattle.rib_player.specs.Tables.{pointed_route}
use Rattle.rib_player.specs.StoresByPeer.{stores_in}
use Rattle.prefix_store.specs.Stored.{put}
use Rattle.rib_player.specs.Lent.{IsLent}
use Rattle.rib_player.proofs.NumberLaws.{held-there}
use Rattle.rib_player.proofs.NotedLaws.{len-put, some-before, noted-there}
use Rattle.rib_player.proofs.StoreLaws.{same_peer, IsStored, stored-lent, when_some, if_some, noted-after, count-noted, key-has-store, contains-found, get-found, held-kept, keys-kept, routes-put}
use Rattle.rib_player.proofs.table.Table.exchange.Given.{Over}
use Rattle.rib_player.proofs.table.Table.exchange.Goals as goal
use Rattle.rib_player.proofs.table.Table.exchange.Goals.{After-exchange, After-note_route_count}

pub unreachable-requires : goal.unreachable-requires
unreachable-requires g c = key-has-store g.S.PrefixStore.keys (stores_in c.self.inside.stores) c.args.self.now.keys c.args.pair.now (ap (λ s. s.keys) c.self.view_is) c.requires (sym (ap option_copied_mut c.in_default.is) ∙ c.get_mut.ensures.value)

pub exchange-requires : goal.exchange-requires
exchange-requires g c =
    contains-found g.S.PrefixStore.keys (stores_in c.self.inside.stores) c.args.self.now.keys c.args.pair.now (Some c.in-Some.store.now) (sym (ap option_copied_mut c.in-Some.is) ∙ c.get_mut.ensures.value) (ap (λ s. s.keys) c.self.view_is) ∙ c.requires

-- the peer's store was written
lent : (g : Over) (c : After-exchange g) → IsLent c.self.inside.stores (c.get_mut.follows.lender c.exchange.new.self) c.args.pair.now.peer c.exchange.new.self
lent g c = when_some c.get_mut.result c.in-Some.store c.in-Some.is (c.get_mut.follows.holds c.exchange.new.self)

there : (g : Over) (c : After-note_route_count g) → IsStored (stores_in c.self.inside.stores) (stores_in c.note_route_count.new.self) c.args.pair.now.peer c.in-Some.store.now c.exchange.new.self
there g c =
    subst (λ stores. IsStored (stores_in c.self.inside.stores) stores c.args.pair.now.peer c.in-Some.store.now c.exchange.new.self) (sym c.note_route_count.ensures.stores)
    (stored-lent c.self.inside.stores (c.get_mut.follows.lender c.exchange.new.self) c.get_mut.result c.in-Some.store c.in-Some.is c.get_mut.ensures.value (c.get_mut.follows.holds c.exchange.new.self))

-- the peer has this number
numbered : (g : Over) (c : After-exchange g) → lookup (same_peer c.args.pair.now.peer) c.self.inside.stores.order.entries ≡ Some c.get_mut.new.number
numbered g c = if_some c.get_mut.result c.in-Some.store c.in-Some.is c.get_mut.ensures.number

pub note_route_count-requires-clause-within : goal.note_route_count-requires-clause-within
note_route_count-requires-clause-within g c =
    let a = (goal.at.note_route_count-requires-clause-within g c).After-exchange in
    held-there (c.get_mut.follows.lender c.exchange.new.self).numbered c.args.pair.now.peer c.get_mut.new.number (ap (lookup (same_peer c.args.pair.now.peer)) (lent g a).order ∙ numbered g a)

pub note_route_count-requires-clause-noted : goal.note_route_count-requires-clause-noted
note_route_count-requires-clause-noted g c = λ more.
    let a = (goal.at.note_route_count-requires-clause-noted g c).After-exchange in
    noted-there g.S.PrefixStore.routes c.self.inside.stores (c.get_mut.follows.lender c.exchange.new.self) (lent g a) c.self.invariant.noted (numbered g a)
    (sym (ap option_copied_mut c.in-Some.is) ∙ c.get_mut.ensures.value)
    (some-before (g.S.PrefixStore.routes c.in-Some.store.now) (g.S.PrefixStore.routes c.exchange.new.self) c.route_count-count.result
    (subst (λ r. finite.len r ≤ finite.len (g.S.PrefixStore.routes c.in-Some.store.now) + 1) (sym c.exchange.ensures.routes) (len-put _ c.args.pair.now.prefix c.args.route.now))
    c.route_count-count.ensures more)

pub invariant_of-self : goal.invariant_of-self
invariant_of-self g c =
    let a = goal.at.invariant_of-self g c in
    record {
      held = held-kept g.S.PrefixStore.keys (there g a.After-note_route_count) c.exchange.ensures.keys c.self.invariant.held;
      noted = noted-after g.S.PrefixStore.routes c.self.inside.stores (c.get_mut.follows.lender c.exchange.new.self) c.note_route_count.new.self (lent g a.After-exchange) c.get_mut.new.number
          (nat_lt 0 c.route_count-count.result) (numbered g a.After-exchange) c.note_route_count.ensures.stores c.note_route_count.ensures.noted
          (count-noted g.S.PrefixStore.routes c.exchange.new.self c.route_count-count.result c.route_count-count.ensures) c.self.invariant.noted;
    }

pub returns-clause-keys : goal.returns-clause-keys
returns-clause-keys g c =
    keys-kept g.S.PrefixStore.keys (there g (goal.at.returns-clause-keys g c).After-note_route_count) c.exchange.ensures.keys ∙ ap (λ s. s.keys) c.self.view_is

pub returns-clause-routes : goal.returns-clause-routes
returns-clause-routes g c =
    routes-put g.S.PrefixStore.routes (there g (goal.at.returns-clause-routes g c).After-note_route_count) c.args.pair.now.prefix c.args.route.now c.exchange.ensures.routes
    ∙ ap (λ s. put s.routes c.args.pair.now (pointed_route c.args.route.now)) c.self.view_is

pub returns-clause-taken_out : goal.returns-clause-taken_out
returns-clause-taken_out g c =
    ap pointed_route c.exchange.ensures.taken_out
    ∙ get-found g.S.PrefixStore.routes (stores_in c.self.inside.stores) c.args.self.now.routes c.args.pair.now (Some c.in-Some.store.now) (there g (goal.at.returns-clause-taken_out g c).After-note_route_count).found (ap (λ s. s.routes) c.self.view_is)
