use Rattle.std.proofs.Common.{take}
use Rattle.std.specs.List.{AllByRecursion}
use Rattle.rib_player.specs.Journal.{sides_of}
use Rattle.rib_player.specs.Sides.{AreDistinct}
use Rattle.rib_player.proofs.RowLaws.{IsSeen}
use Rattle.rib_player.proofs.stores.Stores.have_distinct_stores.Given as goal

abbrev pub invariant-entries : goal.invariant-entries
invariant-entries g l = record {
  seen : AllByRecursion (IsSeen l.self.order.entries l.marks) (sides_of (take l.entry-index l.entries));
  distinct : AreDistinct (sides_of (take l.entry-index l.entries));
}
