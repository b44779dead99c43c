use Rattle.std.proofs.Common.{◌≡◌, ◌++◌, ◌&&◌, List, is_some, sym, ap, ◌∙◌}
use Rattle.std.specs.Ordering.{eq_by_cmp}
use Rattle.std.specs.FinMap as finite
use Rattle.std.proofs.lemmas.List.{map-append}
use Rattle.mrt_events.specs.Event.{peer_cmp}
use Rattle.rib_player.specs.Journal.{Side, side_of, sides_of}
use Rattle.rib_player.specs.Changes.{found, is_lost, or_no_route}
use Rattle.rib_player.proofs.LostLaws.{lost-absent, lost-named}
use Rattle.rib_player.proofs.ChangesLaws.{found-absent, lost-more, or_no_route-false}
use Rattle.rib_player.proofs.steps.all_entries_of_event.Goals as goal

pub peers-init : goal.peers-init
peers-init g c = λ q.
    ap (λ peers. or_no_route (found (sides_of c.args.changes.entries.items) q) (is_lost peers q && is_some (finite.get c.args.table.now.routes q)))
    c.into_iter-peer-iterator.ensures.into_iter_gives.0

pub peers-preserved : goal.peers-preserved
peers-preserved g c = λ q.
    let has = is_some (finite.get c.args.table.now.routes q) in
    let old = sides_of c.peers.entries.items in
    let lost = sides_of c.in_ok-absent.absent.items in
    let cleared = c.in_ok-absent.ensures in
    let routes = c.args.table.now.routes in
    let all : sides_of c.append.new.self.items ≡ old ++ lost =
    ap sides_of c.in_ok-append.ensures.items ∙ map-append side_of c.peers.entries.items c.in_ok-absent.absent.items in
    lost-more (eq_by_cmp peer_cmp q.peer c.in-Some.peer) (is_lost c.next.new.self q) has _ (found old q) (found (sides_of c.append.new.self.items) q)
    (ap (λ (ss : List Side). found ss q) all ∙ found-absent old lost (lost-absent routes c.in-Some.peer lost cleared) q ∙ ap (or_no_route (found old q)) (lost-named routes c.in-Some.peer lost cleared q))
    (ap (λ peers. or_no_route (found old q) (is_lost peers q && has)) (sym c.in-Some.ensures.steps) ∙ c.peers.invariant q)

pub returns : goal.returns
returns g c = λ q.
    let has = is_some (finite.get c.args.table.now.routes q) in
    or_no_route-false (found (sides_of c.peers.entries.items) q)
    ∙ ap (λ peers. or_no_route (found (sides_of c.peers.entries.items) q) (is_lost peers q && has)) (sym c.in-None.ensures.steps.0)
    ∙ c.peers.invariant q
