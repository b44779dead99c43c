use Rattle.std.proofs.Common.{ap, sym, ◌∙◌, is_eq, arith}
use Rattle.std.specs.BTreeMap as tree
use Rattle.rib_player.proofs.FewCountLaws.{none-further}
use Rattle.rib_player.proofs.key_counts.position_of_key.Goals as goal

pub counts-preserved : goal.counts-preserved
counts-preserved g c =
    none-further (tree.is_at (g.K.Ord.cmp c.args.key.now)) c.args.counts.now c.counts.place c.index-counts-place.result (omega arith) c.counts.invariant
    (ap is_eq (sym c.cmp.ensures) ∙ sym c.is_eq.ensures ∙ c.if-is_eq.false)
