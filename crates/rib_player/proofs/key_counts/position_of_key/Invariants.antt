use Rattle.std.proofs.Common.{◌≡◌, take, None}
use Rattle.std.specs.Map.{lookup}
use Rattle.std.specs.BTreeMap as tree
use Rattle.rib_player.proofs.key_counts.position_of_key.Given as goal

abbrev pub invariant-counts : goal.invariant-counts
invariant-counts g l = lookup (tree.is_at (g.K.Ord.cmp l.key)) (take l.place l.counts) ≡ None
