-- Private.
-- The trees of both families, as the children of a root above both, and the contents of their store.
use Rattle.std.specs.Prelude.{◌≡◌, ℕ, Option, [], ◌++◌, cond}
use Rattle.std.specs.FinMap as finite
use Rattle.std.specs.FinSet as set
use Rattle.std.specs.Ordering.{eq_by_cmp}
use Rattle.ip_prefix.specs.declared.addr.Family.{Family}
use Rattle.ip_prefix.specs.declared.addr.Family.TheVariants.{V4, V6}
use Rattle.ip_prefix.specs.Network.{Network, network_cmp}
use Rattle.prefix_store.specs.declared.packed.V4Prefix.{V4Prefix}
use Rattle.prefix_store.specs.Contents.{v4_network, v6_network, Contents}
use Rattle.prefix_store.specs.Stored.{saturated_count}
use Rattle.rib_store.specs.declared.tree.Tree.{Tree}
use Rattle.rib_store.specs.Tree.{Shape, shape_of, HasCorrectMarks, slots_of, AreSides, IsRadixTree}
use Rattle.rib_store.specs.Slots.{Slots, slot_at, keys_in, routes_in}

-- the shapes of the trees of both families
pub record Trees (R : Type 0) : Type 0 where
  pub v4 : Shape R
  pub v6 : Shape R

-- an IPv4 and an IPv6 tree as `Trees`: each by the prefixes, the slots and the children of its
-- nodes, however they lie in memory
abbrev pub trees_of : {R : Type 0} → Tree V4Prefix R → Tree Network R → Trees R
trees_of v4 v6 = record { v4 = shape_of v4_network v4; v6 = shape_of v6_network v6 }

-- the IPv4 or the IPv6 tree of `trees`, by the family
abbrev pub tree_of : {R : Type 0} → Family → Trees R → Shape R
tree_of V4 trees = trees.v4
tree_of V6 trees = trees.v6

-- the trees after `tree` replaces the tree of the family
abbrev pub with_tree : {R : Type 0} → Family → Shape R → Trees R → Trees R
with_tree V4 tree trees = record { v4 = tree; v6 = trees.v6 }
with_tree V6 tree trees = record { v4 = trees.v4; v6 = tree }

-- the keys of both trees, each with its route or `None`: the IPv4 keys first, and those of each
-- tree in pre-order, which in a radix tree is ascending
abbrev pub slots_in : {R : Type 0} → Trees R → Slots R
slots_in trees = slots_of trees.v4 ++ slots_of trees.v6

-- both are radix trees, and each has keys of its own family only: all IPv4 prefixes are on the left
-- and all IPv6 prefixes on the right of the empty way
pub record AreRadixTrees {R : Type 0} (trees : Trees R) : Type 0 where
  pub sides : AreSides [] trees.v4 trees.v6
  pub v4 : IsRadixTree trees.v4
  pub v6 : IsRadixTree trees.v6

-- the prefix has the slot `slot` in the list `new` (`None` if it is no key, `Some None` if it is a
-- key without a route), and every other prefix has the slot there that it has in `old`
abbrev pub ChangesAt : {R : Type 0} → Slots R → Network → Option (Option R) → Slots R → Type 0
ChangesAt old prefix slot new = (q : Network) → slot_at new q ≡ cond (eq_by_cmp network_cmp prefix q) slot (slot_at old q)

-- the keys and the routes of both trees
abbrev pub contents_of : {R : Type 0} → Trees R → Contents R
contents_of trees = record { keys = keys_in (slots_in trees); routes = routes_in (slots_in trees) }

-- the invariant of a `RadixStore`: both are radix trees of their families with correct marks, and
-- the counts are the numbers of their keys and routes, or GREATEST_COUNT if there are more
pub record IsConsistent {R : Type 0} (v4 : Tree V4Prefix R) (v6 : Tree Network R) (key_count route_count : ℕ) : Type 0 where
  pub planted : AreRadixTrees (trees_of v4 v6)
  pub v4_marks : HasCorrectMarks v4
  pub v6_marks : HasCorrectMarks v6
  pub keys : key_count ≡ saturated_count (set.len (contents_of (trees_of v4 v6)).keys)
  pub routes : route_count ≡ saturated_count (finite.len (contents_of (trees_of v4 v6)).routes)
