use Rattle.std.proofs.Common.{◌≡◌, ℕ, Option, Some, None, ◌∷◌, slice_get, refl, sym, ap, ◌∙◌, is_lt, option_map, option_copied}
use Rattle.std.specs.FinMap as finite
use Rattle.std.specs.Map.Iter.{deref_pair}
use Rattle.std.specs.declared.ops.Bound.TheVariants.{Excluded, Unbounded}
use Rattle.std.specs.BTreeMap.Range.{range_contains, entries_between}
use Rattle.std.proofs.Math.Bool.{and-true}
use Rattle.std.proofs.lemmas.Map.Iter.{rest_all}
use Rattle.mrt_events.specs.declared.peer.Peer.{Peer}
use Rattle.mrt_events.specs.Event.{peer_cmp}
use Rattle.prefix_store.specs.Stored.{saturated_count}
use Rattle.rib_player.specs.Tables.{PeerStores, peer_routes, routed_peers}
use Rattle.rib_player.specs.StoresByPeer.{stores_in, stores_of}
use Rattle.rib_player.specs.Lookups.{peers_above}
use Rattle.rib_player.specs.Representation.{routed_stores, peer_count}
use Rattle.rib_player.proofs.PeerLaws.{first_counted, routed-more, routed-none}
use Rattle.rib_player.proofs.NumberLaws.{sorted-stores_of, stores_of-filter, stores_of-some, stores_of-none}
use Rattle.rib_player.proofs.table.Table.peer_after.Given.{Over}
use Rattle.rib_player.proofs.table.Table.peer_after.Goals as goal
use Rattle.rib_player.proofs.table.Table.peer_after.Goals.{in-Some, in-None, In-Some-at}

-- the first of these stores that has a route, and how many it has
abbrev first : (g : Over) → PeerStores g.row.S.Denot → Option (Peer × ℕ)
first g stores = option_map (peer_count g.S.PrefixStore.routes) (slice_get (routed_stores g.S.PrefixStore.routes stores) 0)

pub numbers-init : goal.numbers-init
numbers-init g c =
    let held = c.self.inside.stores.held.items in
    let order = c.self.inside.stores.order.entries in
    let stores = stores_in c.self.inside.stores in
    let all = c.args.self.now.routes in
    let sorted = sorted-stores_of held order c.range-numbers.ensures.ordered in
    ap (λ es. first g (stores_of held es)) c.into_iter-peer-iterator.ensures.into_iter_gives ∙ elim c.match-peer.branch [
      | in-Some w ↦
          first_counted g.S.PrefixStore.routes (Some w.in-Some.peer.now) (range_contains peer_cmp (Excluded w.in-Some.peer.now) Unbounded) stores (stores_of held c.range-numbers.result) all (λ p. and-true (is_lt (peer_cmp w.in-Some.peer.now p)))
          sorted (ap (stores_of held) (c.range-numbers.ensures.between tt ∙ ap (λ b. entries_between peer_cmp b Unbounded order) w.low-is) ∙ stores_of-filter held (range_contains peer_cmp (Excluded w.in-Some.peer.now) Unbounded) order) (ap (λ s. s.routes) c.self.view_is)
          ∙ ap (λ low. option_map (λ p. (p, saturated_count (finite.len (peer_routes all p)))) (slice_get (peers_above (option_copied low) (routed_peers all)) 0)) (sym w.in-Some.is)
      | in-None w ↦
          first_counted g.S.PrefixStore.routes None (range_contains peer_cmp Unbounded Unbounded) stores (stores_of held c.range-numbers.result) all (λ p. refl)
          sorted (ap (stores_of held) (c.range-numbers.ensures.between tt ∙ ap (λ b. entries_between peer_cmp b Unbounded order) w.low-is) ∙ stores_of-filter held (range_contains peer_cmp Unbounded Unbounded) order) (ap (λ s. s.routes) c.self.view_is)
          ∙ ap (λ low. option_map (λ p. (p, saturated_count (finite.len (peer_routes all p)))) (slice_get (peers_above (option_copied low) (routed_peers all)) 0)) (sym w.in-None.is)
    ]

-- the stores that are left begin with this one
here : (g : Over) (c : In-Some-at g) → let held = c.self.inside.stores.held.items in
    stores_of held c.numbers.peer-iterator ≡ (c.in-Some-2.peer.now, c.in-Some-at.store.now) ∷ stores_of held c.next.new.self
here g c =
    let held = c.self.inside.stores.held.items in
    let there : slice_get held c.in-Some-2.number.now ≡ Some c.in-Some-at.store.now = sym c.at.ensures ∙ ap option_copied c.in-Some-at.is in
    ap (stores_of held) c.in-Some-2.ensures.steps
    ∙ stores_of-some held c.in-Some-2.peer.now c.in-Some-2.number.now c.next.new.self c.in-Some-at.store.now there

pub returns-then-count-gt0 : goal.returns-then-count-gt0
returns-then-count-gt0 g c =
    let routes = g.S.PrefixStore.routes in
    let rest = stores_of c.self.inside.stores.held.items c.next.new.self in
    ap (λ n. Some (c.in-Some-2.peer.now, n)) c.route_count-count.ensures
    ∙ sym (ap (first g) (here g (goal.at.returns-then-count-gt0 g c).In-Some-at)
    ∙ ap (λ s. option_map (peer_count routes) (slice_get s 0)) (routed-more routes c.in-Some-2.peer.now c.in-Some-at.store.now rest c.route_count-count.result c.route_count-count.ensures c.if-count-gt0.true))
    ∙ c.numbers.invariant

pub numbers-preserved-else-count-gt0 : goal.numbers-preserved-else-count-gt0
numbers-preserved-else-count-gt0 g c =
    let routes = g.S.PrefixStore.routes in
    let rest = stores_of c.self.inside.stores.held.items c.next.new.self in
    sym (ap (first g) (here g (goal.at.numbers-preserved-else-count-gt0 g c).In-Some-at)
    ∙ ap (λ s. option_map (peer_count routes) (slice_get s 0)) (routed-none routes c.in-Some-2.peer.now c.in-Some-at.store.now rest c.route_count-count.result c.route_count-count.ensures c.if-count-gt0.false))
    ∙ c.numbers.invariant

pub numbers-preserved : goal.numbers-preserved
numbers-preserved g c =
    let held = c.self.inside.stores.held.items in
    let none : slice_get held c.in-Some-2.number.now ≡ None = sym c.at.ensures ∙ ap option_copied c.in_default.is in
    sym (ap (first g) (ap (stores_of held) c.in-Some-2.ensures.steps ∙ stores_of-none held c.in-Some-2.peer.now c.in-Some-2.number.now c.next.new.self none))
    ∙ c.numbers.invariant

pub returns : goal.returns
returns g c =
    let none = rest_all deref_pair c.numbers.peer-iterator c.next.new.self c.next.result c.in-None-2.is c.next.ensures.steps in
    sym (ap (λ es. first g (stores_of c.self.inside.stores.held.items es)) none) ∙ c.numbers.invariant
