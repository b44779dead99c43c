use Rattle.std.proofs.Common.{vec_capacity, ap, ◌∙◌, option_copied}
use Rattle.rib_player.specs.Lookups.{pointed_routes}
use Rattle.rib_player.proofs.PeerLaws.{front-above, no_front-above}
use Rattle.rib_player.proofs.table.Table.next_routes.Goals as goal

pub returns-in-Some-clause-found : goal.returns-in-Some-clause-found
returns-in-Some-clause-found g c =
    front-above (g.S.PrefixStore.routes c.in-Some.store.now) c.args.self.now.routes c.args.peer.now c.in-Some.ensures.routes (option_copied c.args.prefix) (vec_capacity c.args.found.now) c.next_routes.new.found.items
    c.next_routes.ensures.found

pub returns-in-None-clause-found : goal.returns-in-None-clause-found
returns-in-None-clause-found g c =
    ap pointed_routes c.clear.ensures.items
    ∙ no_front-above c.args.self.now.routes c.args.peer.now c.in-None.ensures.absent (option_copied c.args.prefix) (vec_capacity c.args.found.now)
