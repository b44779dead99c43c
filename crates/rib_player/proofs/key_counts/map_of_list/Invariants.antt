use Rattle.std.proofs.Common.{◌≡◌, ◌≤◌, drop, length}
use Rattle.std.specs.Map.{lookup}
use Rattle.std.specs.BTreeMap as tree
use Rattle.rib_player.specs.contracts.key_counts.map_of_list.{K-type}
use Rattle.rib_player.proofs.key_counts.map_of_list.Given as goal

abbrev pub invariant-counts : goal.invariant-counts
invariant-counts g l = record {
  within : l.rest ≤ length l.counts;
  made : (k : K-type g.row.K) → tree.get g.K.Ord.cmp l.made k ≡ lookup (tree.is_at (g.K.Ord.cmp k)) (drop l.rest l.counts);
}

abbrev pub decreases-counts : goal.decreases-counts
decreases-counts g l = l.rest
