use Rattle.std.proofs.Common.{◌≡◌, ◌+◌, ◌≤◌, arith, false, nat_lt, Some, None, not, sym, ap, subst, ◌∙◌}
use Rattle.std.specs.Map.{lookup}
use Rattle.std.specs.Option.{option_copied_mut}
use Rattle.std.specs.FinMap as finite
use Rattle.std.specs.FinSet as set
use Rattle.rib_player.specs.Tables.{pointed_route, keys_in, routes_in}
use Rattle.rib_player.specs.StoresByPeer.{stores_in}
use Rattle.rib_player.specs.Noted.{routed_marks}
use Rattle.rib_player.specs.Representation.{IsUpdatedAt}
use Rattle.prefix_store.specs.Stored.{put}
use Rattle.std.proofs.lemmas.Result.{on_ok_weaker, on_err_weaker, IfOk-weaker}
use Rattle.rib_player.specs.Lent.{IsLent}
use Rattle.rib_player.proofs.NumberLaws.{held-there}
use Rattle.rib_player.proofs.NotedLaws.{len-put, some-before, noted-there}
use Rattle.rib_player.proofs.HeldLaws.{inserted}
use Rattle.rib_player.proofs.StoreLaws.{same_peer, IsStored, stored-lent, when_some, if_some, noted-after, noted-other, none-noted, count-noted, contains-found, get-found, held-other, held-kept, held-more, keys-kept, keys-more, routes-kept, routes-put, keys-added, routes-added, some-insert, either}
use Rattle.rib_player.proofs.table.Table.put.Given.{Over}
use Rattle.rib_player.proofs.table.Table.put.Goals as goal
use Rattle.rib_player.proofs.table.Table.put.Goals.{After-put-made, After-note_route_count, In_ok-insert}

-- the peer's store was written
lent : (g : Over) (c : After-put-made g) → IsLent c.self.inside.stores (c.get_mut.follows.lender c.put-made.new.self) c.args.pair.now.peer c.put-made.new.self
lent g c = when_some c.get_mut.result c.in-Some.store c.in-Some.is (c.get_mut.follows.holds c.put-made.new.self)

there : (g : Over) (c : After-note_route_count g) → IsStored (stores_in c.self.inside.stores) (stores_in c.note_route_count.new.self) c.args.pair.now.peer c.in-Some.store.now c.put-made.new.self
there g c =
    subst (λ stores. IsStored (stores_in c.self.inside.stores) stores c.args.pair.now.peer c.in-Some.store.now c.put-made.new.self) (sym c.note_route_count.ensures.stores)
    (stored-lent c.self.inside.stores (c.get_mut.follows.lender c.put-made.new.self) c.get_mut.result c.in-Some.store c.in-Some.is c.get_mut.ensures.value (c.get_mut.follows.holds c.put-made.new.self))

-- the peer has this number
numbered : (g : Over) (c : After-put-made g) → lookup (same_peer c.args.pair.now.peer) c.self.inside.stores.order.entries ≡ Some c.get_mut.new.number
numbered g c = if_some c.get_mut.result c.in-Some.store c.in-Some.is c.get_mut.ensures.number

pub note_route_count-requires-clause-within : goal.note_route_count-requires-clause-within
note_route_count-requires-clause-within g c =
    let a = (goal.at.note_route_count-requires-clause-within g c).After-put-made in
    held-there (c.get_mut.follows.lender c.put-made.new.self).numbered c.args.pair.now.peer c.get_mut.new.number (ap (lookup (same_peer c.args.pair.now.peer)) (lent g a).order ∙ numbered g a)

pub note_route_count-requires-clause-noted : goal.note_route_count-requires-clause-noted
note_route_count-requires-clause-noted g c = λ more.
    let a = (goal.at.note_route_count-requires-clause-noted g c).After-put-made in
    noted-there g.S.PrefixStore.routes c.self.inside.stores (c.get_mut.follows.lender c.put-made.new.self) (lent g a) c.self.invariant.noted (numbered g a)
    (sym (ap option_copied_mut c.in-Some.is) ∙ c.get_mut.ensures.value)
    (some-before (g.S.PrefixStore.routes c.in-Some.store.now) (g.S.PrefixStore.routes c.put-made.new.self) c.route_count-count.result
    (either c.put-made.result
    (on_ok_weaker c.put-made.result (λ e. subst (λ r. finite.len r ≤ finite.len (g.S.PrefixStore.routes c.in-Some.store.now) + 1) (sym e) (len-put _ c.args.pair.now.prefix c.args.route.now)) c.put-made.ensures.routes)
    (on_err_weaker c.put-made.result (λ e. subst (λ r. finite.len r ≤ finite.len (g.S.PrefixStore.routes c.in-Some.store.now) + 1) (sym e) (omega arith)) c.put-made.ensures.held))
    c.route_count-count.ensures more)

pub invariant_of-self : goal.invariant_of-self
invariant_of-self g c =
    let a = goal.at.invariant_of-self g c in
    let there = there g a.After-note_route_count in
    record {
      held = either c.put-made.result
          (on_ok_weaker c.put-made.result (λ e. held-more g.S.PrefixStore.keys there c.args.pair.now.prefix e c.self.invariant.held) c.put-made.ensures.keys)
          (on_err_weaker c.put-made.result (λ e. held-kept g.S.PrefixStore.keys there e c.self.invariant.held) c.put-made.ensures.refused);
      noted = noted-after g.S.PrefixStore.routes c.self.inside.stores (c.get_mut.follows.lender c.put-made.new.self) c.note_route_count.new.self (lent g a.After-put-made) c.get_mut.new.number
          (nat_lt 0 c.route_count-count.result) (numbered g a.After-put-made) c.note_route_count.ensures.stores c.note_route_count.ensures.noted
          (count-noted g.S.PrefixStore.routes c.put-made.new.self c.route_count-count.result c.route_count-count.ensures) c.self.invariant.noted;
    }

pub returns-in-Some-clause-keys : goal.returns-in-Some-clause-keys
returns-in-Some-clause-keys g c =
    on_ok_weaker c.put-made.result (λ e. keys-more g.S.PrefixStore.keys (there g (goal.at.returns-in-Some-clause-keys g c).After-note_route_count) c.args.pair.now.prefix e ∙ ap (λ s. set.insert s.keys c.args.pair.now) c.self.view_is) c.put-made.ensures.keys

pub returns-in-Some-clause-made : goal.returns-in-Some-clause-made
returns-in-Some-clause-made g c =
    IfOk-weaker c.put-made.result _ _ (λ made e.
    e ∙ ap not (contains-found g.S.PrefixStore.keys (stores_in c.self.inside.stores) c.args.self.now.keys c.args.pair.now (Some c.in-Some.store.now) (there g (goal.at.returns-in-Some-clause-made g c).After-note_route_count).found (ap (λ s. s.keys) c.self.view_is))) c.put-made.ensures.made

pub returns-in-Some-clause-routes : goal.returns-in-Some-clause-routes
returns-in-Some-clause-routes g c =
    on_ok_weaker c.put-made.result (λ e.
    routes-put g.S.PrefixStore.routes (there g (goal.at.returns-in-Some-clause-routes g c).After-note_route_count) c.args.pair.now.prefix c.args.route.now e ∙ ap (λ s. put s.routes c.args.pair.now (pointed_route c.args.route.now)) c.self.view_is) c.put-made.ensures.routes

pub returns-in-Some-clause-taken_out : goal.returns-in-Some-clause-taken_out
returns-in-Some-clause-taken_out g c =
    on_ok_weaker c.put-made.result (λ e.
    ap pointed_route e ∙ get-found g.S.PrefixStore.routes (stores_in c.self.inside.stores) c.args.self.now.routes c.args.pair.now (Some c.in-Some.store.now) (there g (goal.at.returns-in-Some-clause-taken_out g c).After-note_route_count).found (ap (λ s. s.routes) c.self.view_is)) c.put-made.ensures.taken_out

pub returns-in-Some-clause-refused : goal.returns-in-Some-clause-refused
returns-in-Some-clause-refused g c =
    on_err_weaker c.put-made.result (λ e. keys-kept g.S.PrefixStore.keys (there g (goal.at.returns-in-Some-clause-refused g c).After-note_route_count) e ∙ ap (λ s. s.keys) c.self.view_is) c.put-made.ensures.refused

pub returns-in-Some-clause-held : goal.returns-in-Some-clause-held
returns-in-Some-clause-held g c =
    on_err_weaker c.put-made.result (λ e. routes-kept g.S.PrefixStore.routes (there g (goal.at.returns-in-Some-clause-held g c).After-note_route_count) e ∙ ap (λ s. s.routes) c.self.view_is) c.put-made.ensures.held

-- the peer had no store, and has one with this key
added : (g : Over) (c : In_ok-insert g) → IsUpdatedAt (stores_in c.self.inside.stores) (stores_in c.insert.new.self) c.args.pair.now.peer (Some c.ensure.new.self)
added g c = subst (λ stores. IsUpdatedAt stores (stores_in c.insert.new.self) c.args.pair.now.peer (Some c.ensure.new.self)) c.get_mut.follows.holds-at-none.stores c.in_ok-insert.ensures.added

one_key : (g : Over) (c : In_ok-insert g) → g.S.PrefixStore.keys c.ensure.new.self ≡ set.insert set.empty c.args.pair.now.prefix
one_key g c = c.in_ok-ensure.ensures.keys ∙ ap (λ keys. set.insert keys c.args.pair.now.prefix) c.new-store.ensures.keys

keys_then : (g : Over) (c : In_ok-insert g) → keys_in g.S.PrefixStore.keys (stores_in c.insert.new.self) ≡ set.insert (keys_in g.S.PrefixStore.keys (stores_in c.self.inside.stores)) c.args.pair.now
keys_then g c = keys-added (sym (ap option_copied_mut c.in_default.is) ∙ c.get_mut.ensures.value) (added g c) g.S.PrefixStore.keys c.args.pair.now.prefix (one_key g c)

routes_then : (g : Over) (c : In_ok-insert g) → routes_in g.S.PrefixStore.routes (stores_in c.insert.new.self) ≡ c.args.self.now.routes
routes_then g c = routes-added (sym (ap option_copied_mut c.in_default.is) ∙ c.get_mut.ensures.value) (added g c) g.S.PrefixStore.routes (c.ensure.ensures.routes ∙ c.new-store.ensures.routes) ∙ ap (λ s. s.routes) c.self.view_is

pub invariant_of-self-2 : goal.invariant_of-self-2
invariant_of-self-2 g c =
    let a = (goal.at.invariant_of-self-2 g c).In_ok-insert in
    record {
      held = held-other g.S.PrefixStore.keys (added g a) c.self.invariant.held (some-insert set.empty (g.S.PrefixStore.keys c.ensure.new.self) c.args.pair.now.prefix (one_key g a));
      noted = noted-other g.S.PrefixStore.routes (added g a)
          (subst (λ routed. IsUpdatedAt routed (routed_marks c.insert.new.self) c.args.pair.now.peer (Some false)) c.get_mut.follows.holds-at-none.routed c.in_ok-insert.ensures.noted)
          (none-noted g.S.PrefixStore.routes c.ensure.new.self (c.ensure.ensures.routes ∙ c.new-store.ensures.routes)) c.self.invariant.noted;
    }

pub exchange-requires : goal.exchange-requires
exchange-requires g c =
    inserted (keys_in g.S.PrefixStore.keys (stores_in c.self.inside.stores)) _ c.args.pair.now (keys_then g (goal.at.exchange-requires g c).In_ok-insert)

pub returns-clause-keys : goal.returns-clause-keys
returns-clause-keys g c =
    c.exchange.ensures.keys ∙ keys_then g (goal.at.returns-clause-keys g c).In_ok-insert ∙ ap (λ s. set.insert s.keys c.args.pair.now) c.self.view_is

pub returns-clause-made : goal.returns-clause-made
returns-clause-made g c =
    ap not (contains-found g.S.PrefixStore.keys (stores_in c.self.inside.stores) c.args.self.now.keys c.args.pair.now None (sym (ap option_copied_mut c.in_default.is) ∙ c.get_mut.ensures.value) (ap (λ s. s.keys) c.self.view_is))

pub returns-clause-routes : goal.returns-clause-routes
returns-clause-routes g c =
    c.exchange.ensures.routes ∙ ap (λ r. put r c.args.pair.now (pointed_route c.args.route.now)) (routes_then g (goal.at.returns-clause-routes g c).In_ok-insert)

pub returns-clause-taken_out : goal.returns-clause-taken_out
returns-clause-taken_out g c =
    c.exchange.ensures.taken_out ∙ ap (λ r. finite.get r c.args.pair.now) (routes_then g (goal.at.returns-clause-taken_out g c).In_ok-insert)
