use Rattle.std.proofs.Common.{ap, ◌∙◌, option_map, option_copied}
use Rattle.rib_player.proofs.PeerLaws.{first-above, none-above}
use Rattle.rib_player.proofs.table.Table.after.Goals as goal

pub returns-in_err-store : goal.returns-in_err-store
returns-in_err-store g c =
    ap (option_map (λ found. (found.0, found.1.now.value))) c.from_residual.ensures
    ∙ none-above c.args.self.now.routes c.args.peer.now c.in_err-store.ensures.absent (option_copied c.args.prefix)

pub returns : goal.returns
returns g c =
    first-above (g.S.PrefixStore.routes c.in_ok-store.field-0.now) c.args.self.now.routes c.args.peer.now c.in_ok-store.ensures.routes (option_copied c.args.prefix) c.after.result c.after.ensures
