use Rattle.std.proofs.Common.{◌∷◌, ◌++◌, [], sym, subst, arith}
use Rattle.rib_player.specs.Indices.{AreInverse}
use Rattle.rib_player.proofs.ChosenLaws.{inverse-more, front-added}
use Rattle.rib_player.proofs.sparse_set.SparseSet.raise_bound.Goals as goal

pub invariant_of-self : goal.invariant_of-self
invariant_of-self c =
    let s = c.args.self.now in
    let number = c.len-number.result in
    record {
      inverse = subst (λ ns. AreInverse ns c.push_reserved-2.new.self.items) (sym c.push_reserved.ensures.items) (subst (AreInverse (s.numbers.items ++ number ∷ [])) (sym c.push_reserved-2.ensures.items)
          (inverse-more s.inverse number (omega (arith, c.len-number.ensures, s.numbers.ok))));
      within = omega (arith, s.within, c.push_reserved.ensures.len);
    }

pub returns : goal.returns
returns c =
    let s = c.args.self.now in
    front-added s.count s.places.items c.push_reserved-2.new.self.items c.len-number.result c.push_reserved-2.ensures.items (omega (arith, s.within, c.len-number.ensures))
