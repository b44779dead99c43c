use Rattle.std.proofs.Common.{subst, sym, take}
use Rattle.rib_player.specs.Indices.{ContainsEachChosen}
use Rattle.rib_player.specs.SparseSet.{choices}
use Rattle.rib_player.proofs.ChosenLaws.{front-listed}
use Rattle.rib_player.proofs.sparse_set.SparseSet.numbers.Goals as goal

pub returns : goal.returns
returns c =
    let s = c.args.self.now in
    subst (λ ns. ContainsEachChosen (choices s) (take s.count ns)) (sym c.deref.ensures.value) (front-listed s.count s.inverse)
