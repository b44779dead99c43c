use Rattle.std.proofs.Common.{◌≡◌, Some, None, slice_get, sym, ap, subst, ◌∙◌, option_copied}
use Rattle.rib_player.specs.Numbered.{peers_in}
use Rattle.rib_player.proofs.ListLaws.{copied-at}
use Rattle.rib_player.proofs.NumberLaws.{stored, at-stores_of}
use Rattle.rib_player.proofs.RowLaws.{name-there, no-name}
use Rattle.rib_player.proofs.stores.Stores.peer_and_store_at.Given.{Over}
use Rattle.rib_player.proofs.stores.Stores.peer_and_store_at.Goals as goal
use Rattle.rib_player.proofs.stores.Stores.peer_and_store_at.Goals.{After-peer}

pub returns-in_err-name-clause-peer : goal.returns-in_err-name-clause-peer
returns-in_err-name-clause-peer g c peer found =
    let s = c.args.self.now in
    let none : slice_get (peers_in s.names.items) c.args.number ≡ None =
    subst (λ names. slice_get (peers_in names) c.args.number ≡ None) c.deref.ensures.value (no-name c.deref.result.now c.args.number c.get.result c.in_err-name.was c.get.ensures.lookup) in
    let lost : Some peer ≡ None = sym (s.numbered.there peer c.args.number found) ∙ none in
    cc

-- the peer that stands there
named : (g : Over) (c : After-peer g) → slice_get (peers_in c.args.self.now.names.items) c.args.number ≡ Some c.peer.result.now
named g c =
    subst (λ names. slice_get (peers_in names) c.args.number ≡ Some c.in_ok-name.name.now.value) c.deref.ensures.value
    (name-there c.deref.result.now c.args.number c.get.result c.in_ok-name.name c.in_ok-name.was c.get.ensures.lookup)
    ∙ ap Some (sym (c.peer.ensures ∙ c.deref-3.ensures))

pub returns-clause-store : goal.returns-clause-store
returns-clause-store g c =
    let s = c.args.self.now in
    let peer = c.peer.result.now in
    at-stores_of s.numbered peer ∙ ap (stored s.held.items) (s.numbered.back peer c.args.number (named g (goal.at.returns-clause-store g c).After-peer))
    ∙ sym (subst (λ held. option_copied c.get-2.result ≡ slice_get held c.args.number) c.deref-2.ensures.value (copied-at c.deref-2.result.now c.args.number c.get-2.result c.get-2.ensures.lookup))
    ∙ ap option_copied c.in_ok-store.was

pub returns-clause-peer : goal.returns-clause-peer
returns-clause-peer g c peer found = sym (named g (goal.at.returns-clause-peer g c).After-peer) ∙ c.args.self.now.numbered.there peer c.args.number found
