use Rattle.std.proofs.Common.{◌≡◌, Some, slice_get, sym, ap, subst, ◌∙◌}
use Rattle.rib_player.specs.Numbered.{peers_in}
use Rattle.rib_player.proofs.RowLaws.{name-there}
use Rattle.rib_player.proofs.stores.Stores.has_number.Goals as goal

pub returns-in-Some : goal.returns-in-Some
returns-in-Some g c same =
    let s = c.args.self.now in
    s.numbered.back c.args.peer.now c.args.number
    (subst (λ names. slice_get (peers_in names) c.args.number ≡ Some c.in-Some.name.now.value) c.deref.ensures.value (name-there c.deref.result.now c.args.number c.get.result c.in-Some.name c.in-Some.is c.get.ensures.lookup)
    ∙ ap Some (sym (c.peer.ensures ∙ c.deref-in-Some.ensures) ∙ c.same_peer.ensures.0 same))
