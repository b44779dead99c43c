use Rattle.std.proofs.Common.{Some, None, sym, ap, ◌∙◌, option_copied}
use Rattle.rib_player.proofs.NumberLaws.{found-store}
use Rattle.rib_player.proofs.stores.Stores.get.Goals as goal

pub returns-in_err-find_number_by_hint : goal.returns-in_err-find_number_by_hint
returns-in_err-find_number_by_hint g c =
    ap option_copied c.from_residual.ensures ∙ found-store c.args.self.now.numbered c.args.peer.now None (sym c.in_err-find_number_by_hint.was ∙ c.find_number_by_hint.ensures)

pub returns : goal.returns
returns g c =
    c.at.ensures ∙ found-store c.args.self.now.numbered c.args.peer.now (Some c.in_ok-find_number_by_hint.field-0) (sym c.in_ok-find_number_by_hint.was ∙ c.find_number_by_hint.ensures)
