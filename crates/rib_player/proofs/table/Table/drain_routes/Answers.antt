use Rattle.std.proofs.Common.{◌≡◌, false, subst, Some, None, map, cond, sym, ap, ◌∙◌, arith}
use Rattle.std.specs.Map.{lookup}
use Rattle.std.specs.Option.{option_map, option_copied_mut}
use Rattle.std.specs.FinMap as finite
use Rattle.ip_prefix.specs.Network.{Network}
use Rattle.rib_player.specs.History.{pair_of}
use Rattle.rib_player.specs.Tables.{routes_in}
use Rattle.rib_player.specs.StoresByPeer.{stores_in}
use Rattle.rib_player.specs.Lookups.{value_of}
use Rattle.rib_player.specs.Lent.{IsLent}
use Rattle.rib_player.proofs.NumberLaws.{held-there}
use Rattle.rib_player.proofs.PeerLaws.{len-of_peer, values-of_peer, no_values, routes-taken, no_routes-taken}
use Rattle.rib_player.proofs.StoreLaws.{same_peer, IsStored, stored-lent, when_some, if_some, noted-after, none-noted, get-found, held-kept, keys-kept}
use Rattle.rib_player.proofs.table.Table.drain_routes.Given.{Over}
use Rattle.rib_player.proofs.table.Table.drain_routes.Goals as goal
use Rattle.rib_player.proofs.table.Table.drain_routes.Goals.{In-Some, In_default, After-drain_routes, After-set_routed}

-- the peer has the routes of its store
own : (g : Over) (c : In-Some g) (n : Network) → option_map value_of (finite.get (g.S.PrefixStore.routes c.in-Some.store.now) n) ≡ finite.get c.args.self.now.routes (pair_of c.args.peer.now n)
own g c n = get-found g.S.PrefixStore.routes (stores_in c.self.inside.stores) c.args.self.now.routes (pair_of c.args.peer.now n) (Some c.in-Some.store.now) (sym (ap option_copied_mut c.in-Some.is) ∙ c.get_mut.ensures.value) (ap (λ s. s.routes) c.self.view_is)

pub drain_routes-requires : goal.drain_routes-requires
drain_routes-requires g c =
    omega (arith, c.requires, len-of_peer (g.S.PrefixStore.routes c.in-Some.store.now) c.args.self.now.routes c.args.peer.now (own g (goal.at.drain_routes-requires g c).In-Some))

-- the peer's store was written
lent : (g : Over) (c : After-drain_routes g) → IsLent c.self.inside.stores (c.get_mut.follows.lender c.drain_routes.new.self) c.args.peer.now c.drain_routes.new.self
lent g c = when_some c.get_mut.result c.in-Some.store c.in-Some.is (c.get_mut.follows.holds c.drain_routes.new.self)

there : (g : Over) (c : After-set_routed g) → IsStored (stores_in c.self.inside.stores) (stores_in c.set_routed.new.self) c.args.peer.now c.in-Some.store.now c.drain_routes.new.self
there g c =
    subst (λ stores. IsStored (stores_in c.self.inside.stores) stores c.args.peer.now c.in-Some.store.now c.drain_routes.new.self) (sym c.set_routed.ensures.stores)
    (stored-lent c.self.inside.stores (c.get_mut.follows.lender c.drain_routes.new.self) c.get_mut.result c.in-Some.store c.in-Some.is c.get_mut.ensures.value (c.get_mut.follows.holds c.drain_routes.new.self))

-- the peer has this number
numbered : (g : Over) (c : After-drain_routes g) → lookup (same_peer c.args.peer.now) c.self.inside.stores.order.entries ≡ Some c.get_mut.new.number
numbered g c = if_some c.get_mut.result c.in-Some.store c.in-Some.is c.get_mut.ensures.number

pub set_routed-requires : goal.set_routed-requires
set_routed-requires g c =
    let a = (goal.at.set_routed-requires g c).After-drain_routes in
    held-there (c.get_mut.follows.lender c.drain_routes.new.self).numbered c.args.peer.now c.get_mut.new.number (ap (lookup (same_peer c.args.peer.now)) (lent g a).order ∙ numbered g a)

pub invariant_of-self-2 : goal.invariant_of-self-2
invariant_of-self-2 g c =
    let a = goal.at.invariant_of-self-2 g c in
    record {
      held = held-kept g.S.PrefixStore.keys (there g a.After-set_routed) c.drain_routes.ensures.keys c.self.invariant.held;
      noted = noted-after g.S.PrefixStore.routes c.self.inside.stores (c.get_mut.follows.lender c.drain_routes.new.self) c.set_routed.new.self (lent g a.After-drain_routes) c.get_mut.new.number
          false (numbered g a.After-drain_routes) c.set_routed.ensures.stores c.set_routed.ensures.noted
          (none-noted g.S.PrefixStore.routes c.drain_routes.new.self c.drain_routes.ensures.routes) c.self.invariant.noted;
    }

pub returns-clause-keys : goal.returns-clause-keys
returns-clause-keys g c =
    keys-kept g.S.PrefixStore.keys (there g (goal.at.returns-clause-keys g c).After-set_routed) c.drain_routes.ensures.keys ∙ ap (λ s. s.keys) c.self.view_is

pub returns-clause-routes : goal.returns-clause-routes
returns-clause-routes g c q =
    routes-taken g.S.PrefixStore.routes (there g (goal.at.returns-clause-routes g c).After-set_routed).written c.drain_routes.ensures.routes q ∙ ap (λ s. cond (same_peer q.peer c.args.peer.now) None (finite.get s.routes q)) c.self.view_is

pub returns-clause-taken : goal.returns-clause-taken
returns-clause-taken g c =
    ap (map value_of) c.drain_routes.ensures.taken ∙ values-of_peer (g.S.PrefixStore.routes c.in-Some.store.now) c.args.self.now.routes c.args.peer.now (own g (goal.at.returns-clause-taken g c).In-Some)

-- or none
none : (g : Over) (c : In_default g) (n : Network) → finite.get c.args.self.now.routes (pair_of c.args.peer.now n) ≡ None
none g c n = sym (get-found g.S.PrefixStore.routes (stores_in c.self.inside.stores) c.args.self.now.routes (pair_of c.args.peer.now n) None (sym (ap option_copied_mut c.in_default.is) ∙ c.get_mut.ensures.value) (ap (λ s. s.routes) c.self.view_is))

pub returns-in_default-clause-routes : goal.returns-in_default-clause-routes
returns-in_default-clause-routes g c q =
    ap (λ s. finite.get (routes_in g.S.PrefixStore.routes s) q) c.get_mut.follows.holds-at-none.stores ∙ ap (λ s. finite.get s.routes q) c.self.view_is
    ∙ no_routes-taken c.args.self.now.routes c.args.peer.now (none g (goal.at.returns-in_default-clause-routes g c).In_default) q

pub returns-in_default-clause-taken : goal.returns-in_default-clause-taken
returns-in_default-clause-taken g c =
    ap (map value_of) c.clear.ensures.items ∙ no_values c.args.self.now.routes c.args.peer.now (none g (goal.at.returns-in_default-clause-taken g c).In_default)
