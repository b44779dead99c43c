use Rattle.std.proofs.Common.{Some, refl, sym, subst, arith}
use Rattle.std.proofs.lemmas.Bool.{lt-ltb}
use Rattle.rib_player.specs.Representation.{IsUpdatedAt}
use Rattle.rib_player.specs.Noted.{routed_marks}
use Rattle.rib_player.proofs.NumberLaws.{numbered-along, stores-replaced}
use Rattle.rib_player.proofs.stores.Stores.note_route_count.Goals as goal

-- it was noted before
pub returns-then-count-gt1-clause-noted : goal.returns-then-count-gt1-clause-noted
returns-then-count-gt1-clause-noted g c peer found =
    let s = c.args.self.now in
    subst (λ has. IsUpdatedAt (routed_marks s) (routed_marks s) peer (Some has)) (sym (lt-ltb 0 c.args.count (omega (arith, c.if-count-gt1.true))))
    (stores-replaced (numbered-along s.numbered (sym s.each)) (record { here = c.requires.noted c.if-count-gt1.true; others = λ j other. refl; len = refl }) peer found)
