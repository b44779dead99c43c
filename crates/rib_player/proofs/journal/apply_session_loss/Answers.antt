use Rattle.std.proofs.Common.{◌≡◌, ◌+◌, ◌<◌, ◌++◌, ◌∷◌, [], length, take, drop, get_or, arith, sym, ap, ap₂, subst, ◌∙◌, append_assoc}
use Rattle.std.proofs.lemmas.List.{nil_from_length, length-map, length-set, drop-set-lt, drop_more, take_more_set, take-append-drop}
use Rattle.std.specs.FinMap as finite
use Rattle.std.specs.FinMap.{len-entries}
use Rattle.rib_player.specs.Journal.{side_of}
use Rattle.rib_player.specs.Sides.{cleared_side}
use Rattle.rib_player.specs.Tables.{peer_routes}
use Rattle.rib_player.specs.Entries.{Entry}
use Rattle.rib_player.specs.Representation.{cleared_entries}
use Rattle.rib_player.proofs.LostLaws.{cleared-nil, AreTaken, taken-peer, routes-cleared}
use Rattle.rib_player.proofs.journal.apply_session_loss.Given.{Over}
use Rattle.rib_player.proofs.journal.apply_session_loss.Goals as goal
use Rattle.rib_player.proofs.journal.apply_session_loss.Goals.{In-None}

pub drain_routes-requires : goal.drain_routes-requires
drain_routes-requires g c =
    let own = peer_routes c.args.table.now.routes c.args.peer.now in
    omega (
      arith,
      ap length c.requires,
      length-map c.args.entries.now side_of,
      length-map (finite.keys own) (cleared_side c.args.peer.now),
      length-map (finite.entries own) (λ e. e.0),
      len-entries own,
      c.in_ok-routes.ensures.capacity,
    )

pub routes-preserved : goal.routes-preserved
routes-preserved g c =
    let i = c.routes.index in
    let entries = c.routes.entries in
    let entry : Entry = get_or entries i c.index-entries-index.result in
    let rest = c.next.new.self.rest.items in
    let left = c.in-Some.ensures.steps.0 in
    let within : i < length entries = omega (arith, c.routes.invariant.within, ap length left) in
    record {
      within = omega (arith, c.routes.invariant.within, ap length left, length-set entries i c.set_cleared.new.self);
      entries = ap₂ (λ front back. front ++ cleared_entries back rest) (take_more_set entries i c.set_cleared.new.self within) (drop-set-lt (i + 1) entries i c.set_cleared.new.self (omega arith))
          ∙ append_assoc (take i entries) (c.set_cleared.new.self ∷ []) (cleared_entries (drop (i + 1) entries) rest)
          ∙ ap (λ (e : Entry). take i entries ++ e ∷ cleared_entries (drop (i + 1) entries) rest) c.set_cleared.ensures
          ∙ ap₂ (λ es routes. take i entries ++ cleared_entries es routes) (sym (drop_more entries i c.index-entries-index.result within)) (sym left)
          ∙ c.routes.invariant.entries;
    }

-- the entries have the routes that were taken
cleared : (g : Over) (c : In-None g) → c.routes.entries ≡ cleared_entries c.args.entries.now c.drain_routes.new.taken.items
cleared g c =
    let i = c.routes.index in
    let entries = c.routes.entries in
    let none : c.routes.route-iterator.rest.items ≡ [] = nil_from_length _ (omega (arith, c.in-None.ensures.steps.0, c.routes.route-iterator.rest.ok)) in
    sym (take-append-drop i entries) ∙ ap (λ es. take i entries ++ es) (sym (cleared-nil (drop i entries)))
    ∙ ap (λ routes. take i entries ++ cleared_entries (drop i entries) routes) (sym none) ∙ c.routes.invariant.entries
    ∙ ap (cleared_entries c.args.entries.now) c.into_iter-route-iterator.ensures.into_iter_gives.0

then : (g : Over) (c : In-None g) → AreTaken c.args.table.now.routes c.args.entries.now c.routes.entries
then g c =
    subst (AreTaken c.args.table.now.routes c.args.entries.now) (sym (cleared g c))
    (taken-peer c.args.table.now.routes c.args.peer.now c.args.entries.now c.drain_routes.new.taken.items c.requires c.drain_routes.ensures.taken)

pub returns-clause-put : goal.returns-clause-put
returns-clause-put g c =
    let taken = then g (goal.at.returns-clause-put g c).In-None in
    record {
      routes = routes-cleared c.args.table.now.routes c.drain_routes.new.self.routes c.args.peer.now _ c.requires c.drain_routes.ensures.routes;
      sides = taken.sides;
      marks = taken.marks;
    }

pub returns-clause-unbrought : goal.returns-clause-unbrought
returns-clause-unbrought g c = (then g (goal.at.returns-clause-unbrought g c).In-None).unbrought
