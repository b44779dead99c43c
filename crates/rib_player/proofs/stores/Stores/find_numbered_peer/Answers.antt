use Rattle.std.proofs.Common.{◌≡◌, Some, slice_get, sym, subst, ◌∙◌}
use Rattle.rib_player.specs.Numbered.{peers_in}
use Rattle.rib_player.proofs.RowLaws.{name-at}
use Rattle.rib_player.proofs.stores.Stores.find_numbered_peer.Goals as goal

pub returns : goal.returns
returns g c =
    let s = c.args.self.now in
    let number = c.in_ok-find_number_by_hint.field-0 in
    let named = s.numbered.there c.args.peer.now number (sym c.find_number_by_hint.ensures ∙ c.in_ok-find_number_by_hint.was) in
    name-at c.deref.result.now number c.args.peer.now c.get.result c.get.ensures.lookup
    (subst (λ names. slice_get (peers_in names) number ≡ Some c.args.peer.now) (sym c.deref.ensures.value) named)
