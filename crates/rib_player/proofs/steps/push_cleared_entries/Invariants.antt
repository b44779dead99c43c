use Rattle.std.proofs.Common.{◌≡◌, ◌++◌, map, take}
use Rattle.rib_player.specs.Journal.{sides_of}
use Rattle.rib_player.specs.Sides.{cleared_side}
use Rattle.rib_player.proofs.steps.push_cleared_entries.Given as goal

-- the entries of the pairs so far stand behind those from before
abbrev pub invariant-routes : goal.invariant-routes
invariant-routes l = record {
  sides : sides_of l.entries.items ≡ sides_of l.fn.entries.items ++ map (λ f. cleared_side l.peer.value f.0) (take l.entry-index l.found);
}
