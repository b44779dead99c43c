use Rattle.std.proofs.Common.{◌≡◌, Some, None, is_some, slice_get, sym, ap, subst, ◌∙◌, arith, Global}
use Rattle.std.specs.Map.{lookup}
use Rattle.std.proofs.lemmas.List.{length-map}
use Rattle.std.specs.declared.rc.Rc.{Rc}
use Rattle.mrt_events.specs.declared.peer.Peer.{Peer}
use Rattle.rib_player.specs.Numbered.{peers_in}
use Rattle.rib_player.proofs.ListLaws.{IsSwapRemoved, swapped, swapped-map}
use Rattle.rib_player.proofs.RowLaws.{name-there, no-name}
use Rattle.rib_player.proofs.StoreLaws.{same_peer}
use Rattle.rib_player.proofs.NumberLaws.{held-there, named-there, numbered-along, moved-found, renumbered-moved, renumbered-gone, stores-remove, stores-absent}
use Rattle.rib_player.proofs.stores.Stores.remove.Given.{Over}
use Rattle.rib_player.proofs.stores.Stores.remove.Goals as goal
use Rattle.rib_player.proofs.stores.Stores.remove.Goals.{In-Some, After-swap_remove-2, After-peer, In_default-get}

pub returns-in_default : goal.returns-in_default
returns-in_default g c =
    let none = sym c.remove.ensures.value ∙ c.in_default.is in
    record {
      stores = stores-absent c.args.self.now.numbered none c.in_default.ensures.unchanged;
      routed = stores-absent (numbered-along c.args.self.now.numbered (sym c.args.self.now.each)) none c.in_default.ensures.unchanged;
    }

-- the peer has this number
found : (g : Over) (c : In-Some g) → lookup (same_peer c.args.peer.now) c.args.self.now.order.entries ≡ Some c.in-Some.number
found g c = sym c.remove.ensures.value ∙ c.in-Some.is

pub swap_remove-requires : goal.swap_remove-requires
swap_remove-requires g c =
    let s = c.args.self.now in
    omega (arith, held-there s.numbered c.args.peer.now c.in-Some.number (found g (goal.at.swap_remove-requires g c).In-Some), s.held.ok)

pub swap_remove-requires-2 : goal.swap_remove-requires-2
swap_remove-requires-2 g c =
    let s = c.args.self.now in
    omega (arith, named-there s.numbered c.args.peer.now c.in-Some.number (found g (goal.at.swap_remove-requires-2 g c).In-Some), length-map s.names.items (λ (shared : Rc Peer Global). shared.value), s.names.ok)

pub remove-requires-2 : goal.remove-requires-2
remove-requires-2 g c =
    let s = c.args.self.now in
    omega (arith, held-there s.numbered c.args.peer.now c.in-Some.number (found g (goal.at.remove-requires-2 g c).In-Some), s.each)

-- the last store and the last peer have its places
stores : (g : Over) (c : After-swap_remove-2 g) → IsSwapRemoved c.args.self.now.held.items c.swap_remove.new.self.items c.in-Some.number
stores g c =
    let held = c.args.self.now.held in
    let new = c.swap_remove.new.self in
    swapped held.items new.items held.len new.len c.in-Some.number c.swap_remove.result
    (omega (arith, held.ok)) (omega (arith, new.ok)) c.swap_remove.ensures.len c.swap_remove.ensures.by_index.0 c.swap_remove.ensures.by_index.1

peers : (g : Over) (c : After-swap_remove-2 g) → IsSwapRemoved (peers_in c.args.self.now.names.items) (peers_in c.swap_remove-2.new.self.items) c.in-Some.number
peers g c =
    let names = c.args.self.now.names in
    let new = c.swap_remove-2.new.self in
    swapped-map (λ (shared : Rc Peer Global). shared.value) names.items new.items c.in-Some.number
    (swapped names.items new.items names.len new.len c.in-Some.number c.swap_remove-2.result
    (omega (arith, names.ok)) (omega (arith, new.ok)) c.swap_remove-2.ensures.len c.swap_remove-2.ensures.by_index.0 c.swap_remove-2.ensures.by_index.1)

-- the peer that has its place now
moved : (g : Over) (c : After-peer g) → slice_get (peers_in c.swap_remove-2.new.self.items) c.in-Some.number ≡ Some c.peer.result.now
moved g c =
    subst (λ names. slice_get (peers_in names) c.in-Some.number ≡ Some c.in-Some-get.name.now.value) c.deref.ensures.value
    (name-there c.deref.result.now c.in-Some.number c.get.result c.in-Some-get.name c.in-Some-get.is c.get.ensures.lookup)
    ∙ ap Some (sym (c.peer.ensures ∙ c.deref-in-Some-get.ensures))

-- and none, where it was the last
none : (g : Over) (c : In_default-get g) → slice_get (peers_in c.swap_remove-2.new.self.items) c.in-Some.number ≡ None
none g c =
    subst (λ names. slice_get (peers_in names) c.in-Some.number ≡ None) c.deref.ensures.value (no-name c.deref.result.now c.in-Some.number c.get.result c.in_default-get.is c.get.ensures.lookup)

pub renumber-requires : goal.renumber-requires
renumber-requires g c =
    let a = goal.at.renumber-requires g c in
    ap is_some (moved-found c.args.self.now.numbered (found g a.In-Some) (peers g a.After-swap_remove-2) (record { each = c.remove.ensures.updates.0 }) c.peer.result.now (moved g a.After-peer))

pub invariant_of-self-in-Some-get-clause-numbered : goal.invariant_of-self-in-Some-get-clause-numbered
invariant_of-self-in-Some-get-clause-numbered g c =
    let a = goal.at.invariant_of-self-in-Some-get-clause-numbered g c in
    let is = found g a.In-Some in
    let last = peers g a.After-swap_remove-2 in
    (stores-remove c.args.self.now.numbered is (stores g a.After-swap_remove-2) last (renumbered-moved c.args.self.now.numbered is last (record { each = c.remove.ensures.updates.0 }) c.peer.result.now (moved g a.After-peer) c.renumber.ensures)).0

pub invariant_of-self-in_default-get-clause-numbered : goal.invariant_of-self-in_default-get-clause-numbered
invariant_of-self-in_default-get-clause-numbered g c =
    let a = goal.at.invariant_of-self-in_default-get-clause-numbered g c in
    let is = found g a.In-Some in
    let last = peers g a.After-swap_remove-2 in
    (stores-remove c.args.self.now.numbered is (stores g a.After-swap_remove-2) last (renumbered-gone c.args.self.now.numbered is last (record { each = c.remove.ensures.updates.0 }) (none g a.In_default-get))).0

pub returns-in-Some-get : goal.returns-in-Some-get
returns-in-Some-get g c =
    let a = goal.at.returns-in-Some-get g c in
    let s = c.args.self.now in
    let is = found g a.In-Some in
    let last = peers g a.After-swap_remove-2 in
    let new = renumbered-moved s.numbered is last (record { each = c.remove.ensures.updates.0 }) c.peer.result.now (moved g a.After-peer) c.renumber.ensures in
    record {
      stores = (stores-remove s.numbered is (stores g a.After-swap_remove-2) last new).1;
      routed = (stores-remove (numbered-along s.numbered (sym s.each)) is c.remove-2.ensures last new).1;
    }

pub returns-in_default-get : goal.returns-in_default-get
returns-in_default-get g c =
    let a = goal.at.returns-in_default-get g c in
    let s = c.args.self.now in
    let is = found g a.In-Some in
    let last = peers g a.After-swap_remove-2 in
    let new = renumbered-gone s.numbered is last (record { each = c.remove.ensures.updates.0 }) (none g a.In_default-get) in
    record {
      stores = (stores-remove s.numbered is (stores g a.After-swap_remove-2) last new).1;
      routed = (stores-remove (numbered-along s.numbered (sym s.each)) is c.remove-2.ensures last new).1;
    }
