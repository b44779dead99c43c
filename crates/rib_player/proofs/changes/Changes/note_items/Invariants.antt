use Rattle.std.proofs.Common.{◌≡◌, ◌≤◌, length, drop}
use Rattle.rib_player.specs.declared.pair.Pair.{Pair}
use Rattle.rib_player.specs.History.{later}
use Rattle.rib_player.specs.Changes.{effect_of_changes, items_effect}
use Rattle.rib_player.proofs.changes.Changes.note_items.Given as goal

-- what is noted is what the items behind the rest do, before what was noted at first
abbrev pub invariant-items : goal.invariant-items
invariant-items g l = record {
  within : l.rest ≤ length l.items;
  noted_is : (q : Pair) → effect_of_changes l.self q ≡ later (items_effect q (drop l.rest l.items)) (effect_of_changes l.fn.self q);
}

abbrev pub decreases-items : goal.decreases-items
decreases-items g l = l.rest
