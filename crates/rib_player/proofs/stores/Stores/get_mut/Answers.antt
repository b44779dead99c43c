use Rattle.std.proofs.Common.{◌≡◌, Some, None, refl, sym, ap, ◌∙◌, arith}
use Rattle.std.specs.Map.{lookup}
use Rattle.std.specs.Option.{option_copied_mut, ghost_name_of}
use Rattle.std.proofs.lemmas.List.{length-set}
use Rattle.rib_player.proofs.StoreLaws.{same_peer, always, never, if_ever, if_none}
use Rattle.rib_player.proofs.NumberLaws.{found-store, held-there, lent-at, numbered-write, stores-write}
use Rattle.rib_player.proofs.stores.Stores.get_mut.Goals as goal
use Rattle.rib_player.proofs.stores.Stores.get_mut.Given.{Over}
use Rattle.rib_player.proofs.stores.Stores.get_mut.Goals.{In_ok-found}

pub returns-in_err-found : goal.returns-in_err-found
returns-in_err-found g c =
    let none = c.from_residual.ensures in (
      (sym (ap ghost_name_of none), λ w. never _ c.from_residual.result none, record { stores = refl; routed = refl }),
      record {
        writes_back = tt;
        value = ap option_copied_mut none ∙ found-store c.args.self.now.numbered c.args.peer.now None (sym c.in_err-found.was ∙ c.find_number_by_hint.ensures);
        number = if_none _ c.from_residual.result none;
      },
    )

-- the peer has this number
found : (g : Over) (c : In_ok-found g) → lookup (same_peer c.args.peer.now) c.args.self.now.order.entries ≡ Some c.in_ok-found.found
found g c = sym (sym c.in_ok-found.was ∙ c.find_number_by_hint.ensures)

pub invariant_of-self-lent : goal.invariant_of-self-lent
invariant_of-self-lent g c r =
    let s = c.args.self.now in
    (λ w. (numbered-write s.numbered c.in_ok-found.found w, (s.few, (s.each ∙ sym (length-set s.held.items c.in_ok-found.found w), tt))), (s.numbered, (s.few, (s.each, tt))))

pub returns : goal.returns
returns g c =
    let s = c.args.self.now in
    let number = c.in_ok-found.found in
    let is = found g (goal.at.returns g c).In_ok-found in
    let within = held-there s.numbered c.args.peer.now number is in (
      (refl, λ w. always c.get_mut.result (record { written = stores-write s.numbered is w; routed = refl; order = refl }), record { stores = refl; routed = refl }),
      record {
        writes_back = tt;
        value = lent-at s.held.items number c.get_mut.result within (c.get_mut.ensures.variant.1 (omega (arith, within, s.held.ok))) c.get_mut.ensures.value
            ∙ found-store s.numbered c.args.peer.now (Some number) (sym is);
        number = if_ever c.get_mut.result is;
      },
    )
