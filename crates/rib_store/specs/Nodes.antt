-- Private.
-- The nodes of a set of keys: its keys, and the prefixes at which it branches.
use Rattle.std.specs.Prelude.{◌≡◌, ℕ, ◌+◌, ◌⊎◌, Bool, true, false, not, ◌&&◌, ◌||◌}
use Rattle.std.specs.List.{list_any}
use Rattle.std.specs.FinSet as set
use Rattle.ip_prefix.specs.Network.{Address, Network, contains}
use Rattle.ip_prefix.specs.Turns.{covers, half}
use Rattle.prefix_store.specs.Stored.{Keys}

-- whether the prefix is a key of the set, or some key of its family begins with its bits
abbrev pub covers_some : Keys → Network → Bool
covers_some keys n = list_any (covers n) (set.items keys)

-- whether the prefix is no key, and some keys begin with its bits and a 0, and others with its bits
-- and a 1
abbrev pub is_branch_point : Keys → Network → Bool
is_branch_point keys n =
    not (set.contains keys n) && (covers_some keys (half n false) && covers_some keys (half n true))

-- whether a radix tree of the keys has a node at the prefix: it is a key, or a branch point, from
-- which some keys go on by a 0 and others by a 1
abbrev pub is_node : Keys → Network → Bool
is_node keys n = set.contains keys n || is_branch_point keys n

-- the set `nodes` has the prefixes of all nodes of a radix tree of `keys`, and no others: these
-- keys, and the branch points, from which some keys go on by a 0 and others by a 1
abbrev pub AreNodes : Keys → Keys → Type 0
AreNodes keys nodes = (n : Network) → set.contains nodes n ≡ is_node keys n

-- the set `nodes` has those nodes of a radix tree of `keys` whose prefixes contain the address, and
-- no others; nodes are the keys, and the branch points, from which some keys go on by a 0 and
-- others by a 1
abbrev pub AreNodesContaining : Keys → Address → Keys → Type 0
AreNodesContaining keys address nodes = (n : Network) → set.contains nodes n ≡ (is_node keys n && contains n address)

-- `count` is equal to `size`, or one more than it
abbrev pub IsOrOneMore : ℕ → ℕ → Type 0
IsOrOneMore size count = (count ≡ size) ⊎ (count ≡ size + 1)
