use Rattle.std.proofs.Common.{◌+◌, take}
use Rattle.rib_player.specs.Journal.{sides_of}
use Rattle.rib_player.specs.Sides.{AreDistinct}
use Rattle.rib_player.proofs.RowLaws.{AreNotBelow}
use Rattle.rib_player.proofs.steps.are_one_peer_descending.Given as goal

-- the entries so far are distinct, and none is below the last one
abbrev pub invariant-entries : goal.invariant-entries
invariant-entries l =
    let so_far = sides_of (take (l.entry-index + 1) l.entries) in
    AreDistinct so_far × AreNotBelow l.last.pair so_far
