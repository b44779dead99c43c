-- Private.
-- What descents and walks in a tree return, and how many nodes they visit.
use Rattle.std.specs.Prelude.{ℕ, ◌+◌, ◌-◌, Option, Some, None, cond, List, [], ◌++◌, take, length, Bool, option_to_list}
use Rattle.std.specs.Ordering.{is_lt}
use Rattle.ip_prefix.specs.Network.{Network, network_cmp}
use Rattle.ip_prefix.specs.Turns.{way, turn_of}
use Rattle.rib_store.specs.Tree.{Shape, Empty, Rooted, select_by_turn, slot_of}

-- the prefix with its route, given its slot; `None` if it isn't a key, or has no route
abbrev pub routed_at : {R : Type 0} → Network → Option (Option R) → Option (Network × R)
routed_at prefix None = None
routed_at prefix (Some None) = None
routed_at prefix (Some (Some route)) = Some (prefix, route)

-- the first of the two options that isn't `None`, or `None` if both are
abbrev pub first_some : {A : Type 0} → Option A → Option A → Option A
first_some None other = other
first_some (Some x) other = Some x

-- the prefix and the route of the deepest node with a route that a descent along the way `key` (the
-- bit of a family, then those of a prefix) meets, the node at `key` included; `None` if none has a
-- route. In a radix tree, this is the longest prefix with a route that covers the key
abbrev pub deepest_route : {R : Type 0} → Shape R → List Bool → Option (Network × R)
deepest_route Empty key = None
deepest_route (Rooted prefix slot left right) key =
    select_by_turn (turn_of (way prefix) key) None (routed_at prefix (slot_of slot))
    (first_some (deepest_route left key) (routed_at prefix (slot_of slot)))
    (first_some (deepest_route right key) (routed_at prefix (slot_of slot)))

-- the number of nodes that a descent from the root along the way `key` visits; it ends with the
-- node at `key`, or the first off this way, both of which count, or where a child is empty
abbrev pub visit_count : {R : Type 0} → Shape R → List Bool → ℕ
visit_count Empty key = 0
visit_count (Rooted prefix slot left right) key =
    1 + select_by_turn (turn_of (way prefix) key) 0 0 (visit_count left key) (visit_count right key)

-- the first entry with a route in pre-order, a node before its left child and that before its right
-- child; `None` if there is no route. In a radix tree, this is the least prefix with a route
abbrev pub first : {R : Type 0} → Shape R → Option (Network × R)
first Empty = None
first (Rooted prefix slot left right) =
    first_some (routed_at prefix (slot_of slot)) (first_some (first left) (first right))

-- in a radix tree, the entry with the least prefix that is greater than `low` and has a route;
-- `None` if there is none. It is found by a descent, which relies on pre-order being the order of
-- prefixes
abbrev pub first_after : {R : Type 0} → Shape R → Network → Option (Network × R)
first_after Empty low = None
first_after (Rooted prefix slot left right) low =
    select_by_turn (turn_of (way prefix) (way low))
    (cond (is_lt (network_cmp low prefix))
    (first_some (routed_at prefix (slot_of slot)) (first_some (first left) (first right))) None)
    (first_some (first left) (first right))
    (first_some (first_after left low) (first right))
    (first_after right low)

-- all entries with a route in pre-order, a node before its left child and that before its right
-- child; in a radix tree, these are in ascending order
abbrev pub all_routes : {R : Type 0} → Shape R → List (Network × R)
all_routes Empty = []
all_routes (Rooted prefix slot left right) =
    option_to_list (routed_at prefix (slot_of slot)) ++ (all_routes left ++ all_routes right)

-- in a radix tree, all entries with a route whose prefix is greater than `low`, in ascending order.
-- They are found by a descent, which relies on pre-order being the order of prefixes
abbrev pub all_after : {R : Type 0} → Shape R → Network → List (Network × R)
all_after Empty low = []
all_after (Rooted prefix slot left right) low =
    select_by_turn (turn_of (way prefix) (way low))
    (cond (is_lt (network_cmp low prefix))
    (option_to_list (routed_at prefix (slot_of slot)) ++ (all_routes left ++ all_routes right)) [])
    (all_routes left ++ all_routes right)
    (all_after left low ++ all_routes right)
    (all_after right low)

-- the list `old`, followed by the first elements of `new`, until it has `room` elements or `new`
-- ends; `old` alone if it has as many already
abbrev pub filled : {A : Type 0} → ℕ → List A → List A → List A
filled room old new = old ++ take (room - length old) new

-- the number of nodes of the tree
abbrev pub node_count : {R : Type 0} → Shape R → ℕ
node_count Empty = 0
node_count (Rooted prefix slot left right) = node_count left + node_count right + 1
