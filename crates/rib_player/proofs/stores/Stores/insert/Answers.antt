use Rattle.std.proofs.Common.{◌≡◌, false, sym, Some, ◌∷◌, ◌++◌, [], List, length, ap, ◌∙◌, arith, Global}
use Rattle.std.specs.declared.rc.Rc.{Rc}
use Rattle.std.proofs.lemmas.List.{map-append}
use Rattle.mrt_events.specs.declared.peer.Peer.{Peer}
use Rattle.rib_player.specs.Numbered.{peers_in, AreNumbered}
use Rattle.rib_player.specs.Representation.{IsUpdatedAt}
use Rattle.rib_player.specs.StoresByPeer.{stores_of, stores_in}
use Rattle.rib_player.proofs.NumberLaws.{no-number, numbered-along, numbered-added}
use Rattle.rib_player.proofs.stores.Stores.insert.Goals as goal
use Rattle.rib_player.proofs.stores.Stores.insert.Given.{Over}
use Rattle.rib_player.proofs.stores.Stores.insert.Goals.{After-push_reserved-2}

-- the peers, with one more
peers-more : (names : List (Rc Peer Global)) (name : Rc Peer Global) (peer : Peer) → name.value ≡ peer → peers_in (names ++ name ∷ []) ≡ peers_in names ++ peer ∷ []
peers-more names name peer is = map-append (λ (s : Rc Peer Global). s.value) names (name ∷ []) ∙ ap (λ p. peers_in names ++ p ∷ []) is

named : (g : Over) (c : After-push_reserved-2 g) → peers_in c.push_reserved-2.new.self.items ≡ peers_in c.args.self.now.names.items ++ c.args.peer ∷ []
named g c =
    ap peers_in (c.push_reserved-2.ensures.items ∙ ap (λ l. l ++ c.in_ok-name.name ∷ []) c.reserve-2.ensures.items)
    ∙ peers-more c.args.self.now.names.items c.in_ok-name.name c.args.peer (c.in_ok-name.ensures.ok ∙ c.new.ensures)

-- the stores and their numbers then
then : (g : Over) (c : After-push_reserved-2 g) → AreNumbered c.push_reserved.new.self.items (peers_in c.push_reserved-2.new.self.items) c.insert.new.self.entries
    × IsUpdatedAt (stores_in c.args.self.now) (stores_of c.push_reserved.new.self.items c.insert.new.self.entries) c.args.peer (Some c.args.store)
then g c =
    let s = c.args.self.now in
    numbered-added s.numbered (no-number s.numbered c.args.peer c.requires)
    (omega (arith, c.len-number.ensures, ap length c.reserve.ensures.items))
    (c.push_reserved.ensures.items ∙ ap (λ l. l ++ c.args.store ∷ []) c.reserve.ensures.items)
    (named g c)
    (record { each = c.in_ok-insert.ensures.updates.0 })

pub invariant_of-self-2-clause-numbered : goal.invariant_of-self-2-clause-numbered
invariant_of-self-2-clause-numbered g c = (then g (goal.at.invariant_of-self-2-clause-numbered g c).After-push_reserved-2).0

pub returns-clause-added : goal.returns-clause-added
returns-clause-added g c = (then g (goal.at.returns-clause-added g c).After-push_reserved-2).1

pub returns-clause-noted : goal.returns-clause-noted
returns-clause-noted g c =
    let s = c.args.self.now in
    let along = numbered-along s.numbered (sym s.each) in
    (numbered-added along (no-number s.numbered c.args.peer c.requires)
    (omega (arith, c.len-number.ensures, ap length c.reserve.ensures.items, s.each))
    (c.raise_bound.ensures ∙ ap (λ l. l ++ false ∷ []) c.reserve-3.ensures.kept)
    (named g (goal.at.returns-clause-noted g c).After-push_reserved-2)
    (record { each = c.in_ok-insert.ensures.updates.0 })).1
