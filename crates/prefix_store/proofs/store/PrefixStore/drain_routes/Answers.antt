use Rattle.std.proofs.Common.{◌≡◌, ◌++◌, ◌∷◌, [], map, Some, None, List, slice_get, length, vec_capacity, refl, sym, ap, ◌∙◌, arith, option_map}
use Rattle.std.specs.FinMap as finite
use Rattle.std.specs.FinMap.{len-entries}
use Rattle.prefix_store.specs.Lookups.{above}
use Rattle.prefix_store.proofs.AboveLaws.{above-none, none-above}
use Rattle.std.proofs.lemmas.Option.{same_Some}
use Rattle.std.proofs.lemmas.Grind.{common_steps}
use Rattle.prefix_store.proofs.TakenLaws.{IsTaken, taken, no_routes, values-empty, key-there, keyless, among-less}
use Rattle.prefix_store.proofs.store.PrefixStore.drain_routes.Given.{Over}
use Rattle.prefix_store.proofs.store.PrefixStore.drain_routes.Goals as goal
use Rattle.prefix_store.proofs.store.PrefixStore.drain_routes.Goals.{In-Some, In_default, in-Some-route, in_default-route}

pub routes-init : goal.routes-init
routes-init g c = record {
  keys = refl;
  taken = ap (λ (xs : List _). xs ++ finite.values (g.Self.PrefixStore.routes c.args.self.now)) c.clear.ensures.items;
  above = above-none (finite.entries (g.Self.PrefixStore.routes c.args.self.now));
  among = c.key_count.ensures.among;
  room = c.clear.ensures.capacity;
}

-- the first of those that are left
one : (g : Over) (c : In-Some g) → IsTaken (g.Self.PrefixStore.routes c.routes.self) (c.in-Some.next.0, c.in-Some.next.1.now)
one g c =
    let left = g.Self.PrefixStore.routes c.routes.self in
    taken left c.routes.last (c.in-Some.next.0, c.in-Some.next.1.now) c.routes.invariant.above
    (ap (λ low. slice_get (above low (finite.entries left)) 0) (sym c.as_ref.ensures.value) ∙ sym c.after.ensures ∙ ap (option_map (λ p. (p.0, p.1.now))) c.in-Some.is)

pub exchange-requires : goal.exchange-requires
exchange-requires g c =
    key-there (g.Self.PrefixStore.keys c.routes.self) (g.Self.PrefixStore.routes c.routes.self) c.in-Some.next.0 c.in-Some.next.1.now c.routes.invariant.among (one g (goal.at.exchange-requires g c).In-Some).there

pub push_reserved-requires : goal.push_reserved-requires
push_reserved-requires g c =
    let all = g.Self.PrefixStore.routes c.args.self.now in
    let first = one g (goal.at.push_reserved-requires g c).In-Some in
    let whole = ap length c.routes.invariant.taken in
    let more = ap length first.all in
    grind (arith, common_steps, len-entries all)

pub routes-smaller : goal.routes-smaller
routes-smaller g c =
    let first = one g (goal.at.routes-smaller g c).In-Some in
    omega (arith, len-entries (g.Self.PrefixStore.routes c.routes.self), len-entries (g.Self.PrefixStore.routes c.exchange.new.self), ap length first.all, ap (λ r. length (finite.entries r)) c.exchange.ensures.routes)

-- none is left
none : (g : Over) (c : In_default g) → finite.entries (g.Self.PrefixStore.routes c.routes.self) ≡ []
none g c =
    let left = g.Self.PrefixStore.routes c.routes.self in
    sym c.routes.invariant.above
    ∙ none-above (above c.routes.last (finite.entries left)) (ap (λ low. slice_get (above low (finite.entries left)) 0) (sym c.as_ref.ensures.value) ∙ sym c.after.ensures ∙ ap (option_map (λ p. (p.0, p.1.now))) c.in_default.is)

pub returns-clause-routes : goal.returns-clause-routes
returns-clause-routes g c = no_routes _ (none g (goal.at.returns-clause-routes g c).In_default)

pub returns-clause-taken : goal.returns-clause-taken
returns-clause-taken g c =
    let left = none g (goal.at.returns-clause-taken g c).In_default in grind (arith, common_steps)

-- without keys there are no routes
pub returns-then-key_count-eq0-clause-routes : goal.returns-then-key_count-eq0-clause-routes
returns-then-key_count-eq0-clause-routes g c = keyless (g.Self.PrefixStore.keys c.args.self.now) _ (omega (arith, c.key_count.ensures.count)) c.key_count.ensures.among

pub returns-then-key_count-eq0-clause-taken : goal.returns-then-key_count-eq0-clause-taken
returns-then-key_count-eq0-clause-taken g c =
    c.clear.ensures.items ∙ values-empty _ (keyless (g.Self.PrefixStore.keys c.args.self.now) _ (omega (arith, c.key_count.ensures.count)) c.key_count.ensures.among)

-- it goes behind those that were taken
pub routes-preserved : goal.routes-preserved
routes-preserved g c =
    let left = g.Self.PrefixStore.routes c.routes.self in
    let first = one g (goal.at.routes-preserved g c).In-Some in
    let taken_out = c.exchange.ensures.taken_out ∙ first.there in
    let among = among-less (g.Self.PrefixStore.keys c.routes.self) _ left _ c.in-Some.next.0 c.exchange.ensures.keys c.exchange.ensures.routes c.routes.invariant.among in
    let all = ap (map (λ e. e.1)) first.all ∙ ap (λ r. c.in-Some.next.1.now ∷ finite.values r) (sym c.exchange.ensures.routes) in
    elim c.match-route.branch [
      | in-Some-route w ↦ record {
        keys = c.exchange.ensures.keys ∙ c.routes.invariant.keys;
        taken = let same = same_Some w.in-Some-route.route c.in-Some.next.1.now (sym w.in-Some-route.is ∙ taken_out) in grind (arith, common_steps);
        above = rw c.exchange.ensures.routes first.rest;
        among = among;
        room = ap vec_capacity w.taken-is ∙ w.push_reserved.ensures.capacity ∙ c.routes.invariant.room;
      }
      | in_default-route w ↦
          let wrong : Some c.in-Some.next.1.now ≡ None = sym taken_out ∙ w.in_default-route.is in
          cc
    ]
