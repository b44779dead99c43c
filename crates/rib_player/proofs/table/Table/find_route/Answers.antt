use Rattle.std.proofs.Common.{ap, sym, ◌∙◌, option_map}
use Rattle.rib_player.specs.Lookups.{value_of}
use Rattle.rib_player.proofs.StoreLaws.{route-copied}
use Rattle.rib_player.proofs.table.Table.find_route.Goals as goal

pub returns-in_err-find_store : goal.returns-in_err-find_store
returns-in_err-find_store g c = ap (option_map (λ route. route.now.value)) c.from_residual.ensures ∙ sym (c.in_err-find_store.ensures.absent c.args.prefix.now)

pub returns : goal.returns
returns g c = route-copied c.get.result ∙ ap (option_map value_of) c.get.ensures ∙ c.in_ok-find_store.ensures.routes c.args.prefix.now
