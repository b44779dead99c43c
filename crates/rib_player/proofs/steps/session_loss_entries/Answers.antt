use Rattle.std.proofs.Common.{◌≡◌, ◌<◌, ◌-◌, ◌∷◌, ◌++◌, [], List, map, take, length, Some, None, slice_get, vec_capacity, arith, refl, sym, ap, ap₂, subst, ◌∙◌, append_assoc, length-append, Bor, Global}
use Rattle.std.specs.declared.rc.Rc.{Rc}
use Rattle.std.specs.FinMap as finite
use Rattle.std.proofs.lemmas.List.{append-nil, map-append}
use Rattle.ip_prefix.specs.Network.{Network}
use Rattle.mrt_events.specs.declared.event.Route.{Route}
use Rattle.mrt_events.specs.declared.peer.Peer.{Peer}
use Rattle.prefix_store.specs.Lookups.{above, dereferenced}
use Rattle.prefix_store.proofs.AboveLaws.{above-none, above-front, none-left, keys-in_order, seen_last, seen_none}
use Rattle.rib_player.specs.Journal.{Side, sides_of}
use Rattle.rib_player.specs.Sides.{cleared_side}
use Rattle.rib_player.specs.Entries.{Entry}
use Rattle.rib_player.proofs.PeerLaws.{keys-of_peer, no_keys}
use Rattle.rib_player.proofs.steps.session_loss_entries.Given.{Over}
use Rattle.rib_player.proofs.steps.session_loss_entries.Goals as goal
use Rattle.rib_player.proofs.steps.session_loss_entries.Goals.{In-Some-last, In_default-last}

-- the sides of pairs of the peer that have these routes
abbrev cleared : {R : Type 0} → Peer → List (Network × R) → List Side
cleared peer es = map (λ e. cleared_side peer e.0) es

-- what is pointed to has no part in them
cleared-dereferenced : {R : Type 0} (peer : Peer) (found : List (Network × Bor R)) → cleared peer found ≡ cleared peer (dereferenced found)
cleared-dereferenced peer [] = refl
cleared-dereferenced peer (f ∷ found) = ap (λ ss. cleared_side peer f.0 ∷ ss) (cleared-dereferenced peer found)

cleared-keys : {R : Type 0} (peer : Peer) (es : List (Network × R)) → cleared peer es ≡ map (cleared_side peer) (map (λ (e : Network × R). e.0) es)
cleared-keys peer [] = refl
cleared-keys peer (e ∷ es) = ap (λ ss. cleared_side peer e.0 ∷ ss) (cleared-keys peer es)

pub routes-init : goal.routes-init
routes-init g c =
    let entries = finite.entries (g.S.PrefixStore.routes c.in-Some.store.now) in
    record {
      sides = ap (λ (es : List Entry). sides_of es ++ cleared c.args.peer.now (above None entries)) c.in_ok-entries.ensures.items
          ∙ ap (cleared c.args.peer.now) (above-none entries);
      room = omega (arith, c.in_ok-found.ensures.capacity, c.max.ensures);
    }

-- the routes that were found are others and then the last of them
last : (g : Over) (c : In-Some-last g) → (ys : List (Network × Rc Route Global)) × (dereferenced c.next_routes.new.found.items ≡ ys ++ (c.in-Some-last.end.now.0, c.in-Some-last.end.now.1.now) ∷ [])
last g c =
    seen_last (λ f. (f.0, f.1.now)) c.next_routes.new.found.items c.last.result c.in-Some-last.end
    (c.last.ensures.value ∙ ap (λ items. slice_get items (length items - 1)) c.deref.ensures.value) c.in-Some-last.is

-- they, and those above the last of them, are those that were left
next : (g : Over) (c : In-Some-last g) → let entries = finite.entries (g.S.PrefixStore.routes c.in-Some.store.now) in
    above c.routes.last entries ≡ dereferenced c.next_routes.new.found.items ++ above (Some c.in-Some-last.end.now.0) entries
next g c =
    let routes = g.S.PrefixStore.routes c.in-Some.store.now in
    above-front c.routes.last (finite.entries routes) (keys-in_order routes) (vec_capacity c.routes.found) (dereferenced c.next_routes.new.found.items) (c.in-Some-last.end.now.0, c.in-Some-last.end.now.1.now)
    (c.next_routes.ensures.found ∙ ap (λ low. take (vec_capacity c.routes.found) (above low (finite.entries routes))) c.as_ref.ensures.value) (last g c)

pub routes-smaller : goal.routes-smaller
routes-smaller g c =
    let b = (goal.at.routes-smaller g c).In-Some-last in
    let entries = finite.entries (g.S.PrefixStore.routes c.in-Some.store.now) in
    let found = dereferenced c.next_routes.new.found.items in
    let split = last g b in
    let some : 0 < length found = omega (arith, ap length split.1, length-append split.0 ((c.in-Some-last.end.now.0, c.in-Some-last.end.now.1.now) ∷ [])) in
    omega (arith, some, ap length (next g b), length-append found (above (Some c.in-Some-last.end.now.0) entries))

pub routes-preserved : goal.routes-preserved
routes-preserved g c =
    let b = (goal.at.routes-preserved g c).In-Some-last in
    let peer = c.args.peer.now in
    let entries = finite.entries (g.S.PrefixStore.routes c.in-Some.store.now) in
    let items = c.next_routes.new.found.items in
    let found = dereferenced items in
    let rest = above (Some c.in-Some-last.end.now.0) entries in
    let old = sides_of c.routes.entries.items in
    let taken_out : sides_of c.push_cleared_entries.new.entries.items ≡ old ++ cleared peer items =
    c.in_ok-push_cleared_entries.ensures ∙ ap₂ (λ (p : Peer) (fs : List (Network × Bor (Rc Route Global))). old ++ cleared p fs) c.in_ok-shared.ensures c.deref-in-routes.ensures.value in
    let sides : sides_of c.push_cleared_entries.new.entries.items ≡ old ++ cleared peer found = taken_out ∙ ap (λ ss. old ++ ss) (cleared-dereferenced peer items) in
    record {
      sides = ap (λ (ss : List Side). ss ++ cleared peer rest) sides
          ∙ append_assoc old (cleared peer found) (cleared peer rest)
          ∙ ap (λ ss. old ++ ss) (sym (map-append (λ (e : Network × Rc Route Global). cleared_side peer e.0) found rest) ∙ ap (cleared peer) (sym (next g b)))
          ∙ c.routes.invariant.sides;
      room = subst (λ n. 0 < n) (sym c.next_routes.ensures.room) c.routes.invariant.room;
    }

-- no route is left
over : (g : Over) (c : In_default-last g) → above c.routes.last (finite.entries (g.S.PrefixStore.routes c.in-Some.store.now)) ≡ []
over g c =
    let entries = finite.entries (g.S.PrefixStore.routes c.in-Some.store.now) in
    none-left (vec_capacity c.routes.found) (above c.routes.last entries) c.routes.invariant.room
    (seen_none (λ f. (f.0, f.1.now)) c.next_routes.new.found.items c.last.result
    (c.last.ensures.value ∙ ap (λ items. slice_get items (length items - 1)) c.deref.ensures.value) c.in_default-last.is
    ∙ c.next_routes.ensures.found ∙ ap (λ low. take (vec_capacity c.routes.found) (above low entries)) c.as_ref.ensures.value)

pub returns-in_default-last : goal.returns-in_default-last
returns-in_default-last g c =
    let peer = c.args.peer.now in
    let entries = finite.entries (g.S.PrefixStore.routes c.in-Some.store.now) in
    let sides = sides_of c.routes.entries.items in
    sym (append-nil sides) ∙ ap (λ es. sides ++ cleared peer es) (sym (over g (goal.at.returns-in_default-last g c).In_default-last))
    ∙ c.routes.invariant.sides ∙ cleared-keys peer entries
    ∙ ap (map (cleared_side peer)) (keys-of_peer (g.S.PrefixStore.routes c.in-Some.store.now) c.args.table.now.routes peer c.in-Some.ensures.routes)

-- a peer that has no store has no routes
pub returns-in_default : goal.returns-in_default
returns-in_default g c =
    ap sides_of c.new.ensures.items ∙ ap (map (cleared_side c.args.peer.now)) (no_keys c.args.table.now.routes c.args.peer.now c.in_default.ensures.absent)
