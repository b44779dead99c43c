use Rattle.std.proofs.Common.{◌≡◌, ◌++◌, false, map, sym, ap, ◌∙◌, append-nil}
use Rattle.rib_store.specs.Tree.{shape_of, has_routes}
use Rattle.rib_store.proofs.FillLaws.{unmarked-all}
use Rattle.rib_store.proofs.TakenLaws.{unmarked-without_routes}
use Rattle.rib_store.proofs.tree.Tree.+drain_routes.Goals as goal

pub returns-then-not-routed-clause-taken : goal.returns-then-not-routed-clause-taken
returns-then-not-routed-clause-taken g t c =
    let mark : c.in-Rooted.routed ≡ false = cc in
    let off : has_routes c.args.self.now ≡ false = ap has_routes c.in-Rooted.is ∙ mark in
    sym (append-nil c.args.taken.now.items)
    ∙ ap (λ found. c.args.taken.now.items ++ map (λ f. f.1) found) (sym (unmarked-all g.K.PackedPrefix.network c.args.self.now c.requires.marked off))

pub returns-then-not-routed-clause-shape : goal.returns-then-not-routed-clause-shape
returns-then-not-routed-clause-shape g t c =
    let mark : c.in-Rooted.routed ≡ false = cc in
    let off : has_routes c.args.self.now ≡ false = ap has_routes c.in-Rooted.is ∙ mark in
    sym (ap (shape_of g.K.PackedPrefix.network) c.in-Rooted.is) ∙ unmarked-without_routes g.K.PackedPrefix.network c.args.self.now c.requires.marked off

pub returns-then-not-routed-2-clause-taken : goal.returns-then-not-routed-2-clause-taken
returns-then-not-routed-2-clause-taken g t c =
    let mark : c.in-Forked.routed ≡ false = cc in
    let off : has_routes c.args.self.now ≡ false = ap has_routes c.in-Forked.is ∙ mark in
    sym (append-nil c.args.taken.now.items)
    ∙ ap (λ found. c.args.taken.now.items ++ map (λ f. f.1) found) (sym (unmarked-all g.K.PackedPrefix.network c.args.self.now c.requires.marked off))

pub returns-then-not-routed-2-clause-shape : goal.returns-then-not-routed-2-clause-shape
returns-then-not-routed-2-clause-shape g t c =
    let mark : c.in-Forked.routed ≡ false = cc in
    let off : has_routes c.args.self.now ≡ false = ap has_routes c.in-Forked.is ∙ mark in
    sym (ap (shape_of g.K.PackedPrefix.network) c.in-Forked.is) ∙ unmarked-without_routes g.K.PackedPrefix.network c.args.self.now c.requires.marked off
