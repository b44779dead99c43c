use Rattle.std.proofs.Common.{◌≡◌, false, ap, ◌∙◌}
use Rattle.rib_store.specs.Tree.{has_routes}
use Rattle.rib_store.proofs.MarkLaws.{unmarked_first}
use Rattle.rib_store.proofs.tree.Tree.+first.Goals as goal

pub returns-then-not-routed : goal.returns-then-not-routed
returns-then-not-routed g t c =
    let net = g.K.PackedPrefix.network in
    let mark : c.in-Rooted.routed ≡ false = cc in
    let off : has_routes c.args.self.now ≡ false = ap has_routes c.in-Rooted.is ∙ mark in
    unmarked_first net c.args.self.now c.requires off

pub returns-then-not-routed-2 : goal.returns-then-not-routed-2
returns-then-not-routed-2 g t c =
    let net = g.K.PackedPrefix.network in
    let mark : c.in-Forked.routed ≡ false = cc in
    let off : has_routes c.args.self.now ≡ false = ap has_routes c.in-Forked.is ∙ mark in
    unmarked_first net c.args.self.now c.requires off
