use Rattle.std.proofs.Common.{sym, subst, option_map}
use Rattle.rib_player.specs.Lookups.{IsBest}
use Rattle.rib_player.proofs.PeerLaws.{best-of_peer}
use Rattle.rib_player.proofs.table.Table.longest.Goals as goal

pub returns-in_err-store : goal.returns-in_err-store
returns-in_err-store g c =
    subst (λ r. IsBest c.args.self.now.routes c.args.peer.now c.args.addr.now (option_map (λ found. (found.0, found.1.now.value)) r)) (sym c.from_residual.ensures)
    (λ n within. c.in_err-store.ensures.absent n)

pub returns : goal.returns
returns g c = best-of_peer (g.S.PrefixStore.routes c.in_ok-store.field-0.now) c.args.self.now.routes c.args.peer.now c.in_ok-store.ensures.routes c.args.addr.now c.longest.result c.longest.ensures
