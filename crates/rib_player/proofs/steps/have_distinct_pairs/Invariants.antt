use Rattle.std.proofs.Common.{take}
use Rattle.rib_player.specs.Journal.{sides_of}
use Rattle.rib_player.specs.Sides.{AreDistinct}
use Rattle.rib_player.proofs.steps.have_distinct_pairs.Given as goal

-- no two of the entries so far are of one pair
abbrev pub invariant-entries : goal.invariant-entries
invariant-entries l = AreDistinct (sides_of (take l.index l.entries))
