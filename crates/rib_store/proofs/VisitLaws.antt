-- How many nodes a look-up meets: those that contain the address, or one more.
use Rattle.std.proofs.Common.{◌≡◌, ℕ, ◌+◌, ◌≤◌, Bool, true, false, ◌&&◌, ◌||◌, List, [], ◌∷◌, ◌⊎◌, inl, inr, length, refl, ap, sym, ◌∙◌, arith, Less, is_lt}
use Rattle.std.proofs.Math.Bool.{or-false}
use Rattle.std.specs.Prelude.{IfSome}
use Rattle.std.specs.List.{AllByRecursion}
use Rattle.std.specs.List.Sorted.{IsStrictlySortedBy}
use Rattle.std.specs.FinSet as set
use Rattle.std.specs.FinSet.{contains-from_list}
use Rattle.std.proofs.lemmas.Map.Keys.{IsDistinct-from_sorted}
use Rattle.ip_prefix.specs.declared.addr.Family.{Family}
use Rattle.ip_prefix.specs.declared.addr.Family.TheVariants.{V4, V6}
use Rattle.ip_prefix.specs.declared.turn.Turn.{Turn}
use Rattle.ip_prefix.specs.declared.turn.Turn.TheVariants.{Outside, Here, Left, Right}
use Rattle.ip_prefix.specs.Network.{Address, Network, begin_with, contains, network_cmp}
use Rattle.ip_prefix.specs.OrderLaws.{network_cmp_total}
use Rattle.ip_prefix.specs.Turns.{way, turn_of, side}
use Rattle.ip_prefix.proofs.Containing.{contains_parts}
use Rattle.ip_prefix.proofs.Turns.{here_only}
use Rattle.rib_store.specs.Tree.{Shape, Empty, Rooted, select_by_turn, root, RootIsOnSide, IsRadixTree}
use Rattle.prefix_store.specs.Stored.{Keys}
use Rattle.rib_store.specs.Slots.{keys_in}
use Rattle.rib_store.specs.Walks.{visit_count}
use Rattle.rib_store.specs.Store.{Trees, slots_in, tree_of, AreRadixTrees}
use Rattle.rib_store.specs.Nodes.{is_node, AreNodesContaining, IsOrOneMore}
use Rattle.prefix_store.proofs.AboveLaws.{is_less}
use Rattle.rib_store.proofs.WayLaws.{turn_through, node_first, begin_outside, begin_side, begin_in, turn_longer, length-way}
use Rattle.rib_store.proofs.SlotLaws.{len-from_list}
use Rattle.rib_store.proofs.WalkLaws.{cmp-ways, tied-ways}
use Rattle.rib_store.proofs.StoreLaws.{first_side, shaped-family}
use Rattle.rib_store.proofs.NodeLaws.{node_at}
use Rattle.rib_store.proofs.NodeSetLaws.{is_in, node-is, node_left, node_right}
use Rattle.rib_store.proofs.DeepestLaws.{host, contains-way}

-- the way to the root is at least as long
abbrev pub AtLeast : {R : Type 0} → ℕ → Shape R → Type 0
AtLeast n t = IfSome (root t) (λ b. n ≤ length b)

on_longer : {R : Type 0} (t : Shape R) (b : List Bool) (bit : Bool) → RootIsOnSide b bit t → AtLeast (length b + 1) t
on_longer Empty b bit on = tt
on_longer (Rooted prefix slot l r) b bit on = omega (arith, turn_longer b (way prefix) bit on)

-- each node that is met is longer than the one above it
visits_le : {R : Type 0} (t : Shape R) (n : ℕ) (key : List Bool) → IsRadixTree t → AtLeast n t → n ≤ length key → visit_count t key + n ≤ length key + 1
visits_le Empty n key shaped above within = omega arith
visits_le {R} (Rooted prefix slot l r) n key shaped above within =
    let longer = turn_longer (way prefix) key in
    elim (turn_of (way prefix) key) as (λ t. turn_of (way prefix) key ≡ t → 1 + select_by_turn t 0 0 (visit_count l key) (visit_count r key) + n ≤ length key + 1) [
      | Outside ↦ λ e. omega arith
      | Here ↦ λ e. omega arith
      | Left ↦ λ e. let below = visits_le l (length (way prefix) + 1) key shaped.2 (on_longer l (way prefix) false shaped.0.left) (omega (arith, longer false e)) in omega (arith, above)
      | Right ↦ λ e. let below = visits_le r (length (way prefix) + 1) key shaped.3 (on_longer r (way prefix) true shaped.0.right) (omega (arith, longer true e)) in omega (arith, above)
    ] refl

-- a tree of one family is left after as many nodes as the key has bits, and one
pub visit_count-most : {R : Type 0} (t : Shape R) (bit : Bool) (key : List Bool) → IsRadixTree t → RootIsOnSide [] bit t → 1 ≤ length key → visit_count t key ≤ length key
visit_count-most t bit key shaped on some = omega (arith, visits_le t 1 key shaped (on_longer t [] bit on) some)

-- ---- the nodes that are met

-- the nodes on the way to a key, whose ways it begins with
abbrev pub path_in : {R : Type 0} → Shape R → List Bool → List Network
path_in Empty key = []
path_in (Rooted prefix slot l r) key = select_by_turn (turn_of (way prefix) key) [] (prefix ∷ []) (prefix ∷ path_in l key) (prefix ∷ path_in r key)

-- one node more may be visited
pub visits_path : {R : Type 0} (t : Shape R) (key : List Bool) → (visit_count t key ≡ length (path_in t key)) ⊎ (visit_count t key ≡ length (path_in t key) + 1)
visits_path Empty key = inl refl
visits_path {R} (Rooted prefix slot l r) key = turns (turn_of (way prefix) key) (visits_path l key) (visits_path r key)
  where
    turns : (t : Turn) → (visit_count l key ≡ length (path_in l key)) ⊎ (visit_count l key ≡ length (path_in l key) + 1) → (visit_count r key ≡ length (path_in r key)) ⊎ (visit_count r key ≡ length (path_in r key) + 1)
        → (1 + select_by_turn t 0 0 (visit_count l key) (visit_count r key) ≡ length (select_by_turn t [] (prefix ∷ []) (prefix ∷ path_in l key) (prefix ∷ path_in r key)))
        ⊎ (1 + select_by_turn t 0 0 (visit_count l key) (visit_count r key) ≡ length (select_by_turn t [] (prefix ∷ []) (prefix ∷ path_in l key) (prefix ∷ path_in r key)) + 1)
    turns Outside e f = inr (omega arith)
    turns Here e f = inl (omega arith)
    turns Left (inl e) f = inl (omega arith)
    turns Left (inr e) f = inr (omega arith)
    turns Right e (inl f) = inl (omega arith)
    turns Right e (inr f) = inr (omega arith)

-- the nodes on the way, at the way of a query
abbrev on_path : {R : Type 0} → Shape R → List Bool → List Bool → Bool
on_path t key q = node_at t q && begin_with q key

-- by where the key lies and where the query lies
pub met : {R : Type 0} (t : Shape R) (key : List Bool) (q : Network) → IsRadixTree t → is_in (path_in t key) q ≡ on_path t key (way q)
met Empty key q shaped = refl
met (Rooted prefix slot l r) key q shaped =
    let head = tied-ways q prefix in
    let left = met l key q shaped.2 in
    let right = met r key q shaped.3 in
    let left_alone = node_left (way prefix) l shaped.0.left (way q) in
    let right_alone = node_right (way prefix) r shaped.0.right (way q) in
    let outside = begin_outside (way prefix) (way q) key in
    let on_left = begin_side (way prefix) (way q) key false in
    let on_right = begin_side (way prefix) (way q) key true in
    let here = here_only (way prefix) (way q) in
    let begun = begin_in (way q) key in
    elim (turn_of (way prefix) key) as (λ k. turn_of (way prefix) key ≡ k → is_in (select_by_turn k [] (prefix ∷ []) (prefix ∷ path_in l key) (prefix ∷ path_in r key)) q ≡ on_path (Rooted prefix slot l r) key (way q)) [
      | Outside ↦ λ e. grind arith
      | Here ↦ λ e. grind arith
      | Left ↦ λ e. grind arith
      | Right ↦ λ e. grind arith
    ] refl

-- ---- each is met once

path-on : {R : Type 0} (P : Network → Type 0) (from : List Bool) (bit : Bool) → ((n : Network) → turn_of from (way n) ≡ side bit → P n)
    → (t : Shape R) (key : List Bool) → IsRadixTree t → RootIsOnSide from bit t → AllByRecursion P (path_in t key)
path-on P from bit holds Empty key shaped on = tt
path-on P from bit holds (Rooted prefix slot l r) key shaped on =
    let deeper = λ (s : Bool) (n : Network) (h : turn_of (way prefix) (way n) ≡ side s). holds n (turn_through from (way prefix) (way n) bit s on h) in
    elim (turn_of (way prefix) key) as (λ k. AllByRecursion P (select_by_turn k [] (prefix ∷ []) (prefix ∷ path_in l key) (prefix ∷ path_in r key))) [
      | Outside ↦ tt
      | Here ↦ (holds prefix on, tt)
      | Left ↦ (holds prefix on, path-on P (way prefix) false (deeper false) l key shaped.2 shaped.0.left)
      | Right ↦ (holds prefix on, path-on P (way prefix) true (deeper true) r key shaped.3 shaped.0.right)
    ]

sorted-path : {R : Type 0} (t : Shape R) (key : List Bool) → IsRadixTree t → IsStrictlySortedBy network_cmp (path_in t key)
unfolding IsStrictlySortedBy
sorted-path Empty key shaped = tt
sorted-path (Rooted prefix slot l r) key shaped =
    let under = λ (s : Bool) (n : Network) (h : turn_of (way prefix) (way n) ≡ side s). is_less (network_cmp prefix n) (ap is_lt (cmp-ways prefix n) ∙ (node_first (way prefix) (way n) s h).0) in
    let IsLower = λ (y : Network). network_cmp prefix y ≡ Less in
    elim (turn_of (way prefix) key) as (λ k. IsStrictlySortedBy network_cmp (select_by_turn k [] (prefix ∷ []) (prefix ∷ path_in l key) (prefix ∷ path_in r key))) [
      | Outside ↦ tt
      | Here ↦ (tt, tt)
      | Left ↦ (path-on IsLower (way prefix) false (under false) l key shaped.2 shaped.0.left, sorted-path l key shaped.2)
      | Right ↦ (path-on IsLower (way prefix) true (under true) r key shaped.3 shaped.0.right, sorted-path r key shaped.3)
    ]

-- ---- in the tree of the address's family

-- the nodes that contain the address
abbrev pub met_nodes : {R : Type 0} → Trees R → Address → Keys
met_nodes f address = set.from_list (path_in (tree_of address.family f) (way (host address)))

len-met : {R : Type 0} (f : Trees R) → AreRadixTrees f → (address : Address) → set.len (met_nodes f address) ≡ length (path_in (tree_of address.family f) (way (host address)))
len-met f planted address =
    len-from_list (path_in (tree_of address.family f) (way (host address)))
    (IsDistinct-from_sorted network_cmp _ (sorted-path (tree_of address.family f) (way (host address)) (shaped-family f planted address.family)))

-- of both trees, the one of the family has the nodes of the family
in_family : {R : Type 0} (f : Trees R) → AreRadixTrees f → (q : Network) (family : Family) → q.family ≡ family → (node_at f.v4 (way q) || node_at f.v6 (way q)) ≡ node_at (tree_of family f) (way q)
in_family f planted q V4 e =
    ap (λ b. node_at f.v4 (way q) || b) (node_right [] f.v6 planted.sides.right (way q) ∙ ap (λ t. select_by_turn t false false false (node_at f.v6 (way q))) (first_side q V4 e))
    ∙ or-false (node_at f.v4 (way q))
in_family f planted q V6 e =
    ap (λ b. b || node_at f.v6 (way q)) (node_left [] f.v4 planted.sides.left (way q) ∙ ap (λ t. select_by_turn t false false (node_at f.v4 (way q)) false) (first_side q V6 e))

and_same : (a b c : Bool) → (c ≡ true → a ≡ b) → (a && c) ≡ (b && c)
and_same a b c same = grind arith

pub are_nodes_to : {R : Type 0} (f : Trees R) → AreRadixTrees f → (address : Address) → AreNodesContaining (keys_in (slots_in f)) address (met_nodes f address)
are_nodes_to f planted address n =
    contains-from_list network_cmp_total (path_in (tree_of address.family f) (way (host address))) n
    ∙ met (tree_of address.family f) (way (host address)) n (shaped-family f planted address.family)
    ∙ ap (λ b. node_at (tree_of address.family f) (way n) && b) (sym (contains-way n address))
    ∙ and_same (node_at (tree_of address.family f) (way n)) (is_node (keys_in (slots_in f)) n) (contains n address)
    (λ within. sym (in_family f planted n address.family (contains_parts n address within).0) ∙ node-is f planted n)

-- the counter shows as many, or one more
pub visit_count-met : {R : Type 0} (f : Trees R) → AreRadixTrees f → (address : Address) (old new : ℕ) → new ≡ old + visit_count (tree_of address.family f) (way (host address)) → IsOrOneMore (old + set.len (met_nodes f address)) new
visit_count-met f planted address old new e =
    let size = len-met f planted address in
    elim (visits_path (tree_of address.family f) (way (host address))) [ inl h ↦ inl (omega (arith, size, e, h)) | inr h ↦ inr (omega (arith, size, e, h)) ]

pub visit_count-few : {R : Type 0} (f : Trees R) → AreRadixTrees f → (address : Address) → visit_count (tree_of address.family f) (way (host address)) ≤ length address.bits + 1
visit_count-few f planted address = families address.family
  where
    some : 1 ≤ length (way (host address))
    some = omega (arith, length-way (host address))

    families : (family : Family) → visit_count (tree_of family f) (way (host address)) ≤ length address.bits + 1
    families V4 = omega (arith, length-way (host address), visit_count-most f.v4 false (way (host address)) planted.v4 planted.sides.left some)
    families V6 = omega (arith, length-way (host address), visit_count-most f.v6 true (way (host address)) planted.v6 planted.sides.right some)
