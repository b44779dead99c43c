use Rattle.std.proofs.Common.{take, sym, subst}
use Rattle.rib_player.specs.Journal.{side_of, sides_of}
use Rattle.rib_player.specs.Sides.{AreDistinct}
use Rattle.rib_player.proofs.RowLaws.{distinct-none, distinct-apart, sides-more}
use Rattle.rib_player.proofs.steps.have_distinct_pairs.Goals as goal

pub entries-init : goal.entries-init
entries-init c = distinct-none

pub entries-preserved : goal.entries-preserved
entries-preserved c =
    let entries = c.args.entries.now in
    let entry = c.index-entries-index.result in
    subst AreDistinct (sym (sides-more entries c.entries.index entry c.index-entries-index.is c.entries-test.true))
    (distinct-apart (side_of entry) (sides_of (take c.entries.index entries)) (c.contains_pair.ensures c.if-contains_pair.false) c.entries.invariant)
