-- The nodes of two trees as a set: those of the keys, at most two a key.
use Rattle.std.proofs.Common.{◌≡◌, ℕ, ◌+◌, ◌*◌, ◌≤◌, Bool, true, false, not, ◌&&◌, ◌||◌, List, [], ◌∷◌, ◌++◌, length, map, Option, None, is_some, refl, sym, ap, ◌∙◌, arith, length-append, Less}
use Rattle.std.proofs.Math.Bool.{or-false}
use Rattle.std.specs.Prelude.{IsSome}
use Rattle.std.specs.List.{list_any, AllByRecursion}
use Rattle.std.specs.List.Sorted.{IsStrictlySortedBy}
use Rattle.std.specs.Map.{keys_of}
use Rattle.std.specs.Ordering.{eq_by_cmp, is_eq, is_lt}
use Rattle.std.specs.Cmp.{tied_itself}
use Rattle.std.specs.FinSet as set
use Rattle.std.specs.FinSet.{contains-from_list, contains-items}
use Rattle.std.proofs.lemmas.List.Folds.{list_any-append}
use Rattle.std.proofs.lemmas.Map.Keys.{IsDistinct-from_sorted}
use Rattle.ip_prefix.specs.declared.turn.Turn.{Turn}
use Rattle.ip_prefix.specs.declared.turn.Turn.TheVariants.{Outside}
use Rattle.ip_prefix.specs.Network.{Network, begin_with, network_cmp}
use Rattle.ip_prefix.specs.Turns.{covers, family_bit, half, way, turn_of, side}
use Rattle.ip_prefix.specs.OrderLaws.{network_cmp_total}
use Rattle.octet_forms.proofs.Booleans.{same_tests}
use Rattle.octet_forms.proofs.Lists.{AllByRecursion-append}
use Rattle.ip_prefix.proofs.Turns.{covers-way}
use Rattle.rib_store.specs.declared.tree.KeySlot.TheVariants.{NoKey, Vacant, Filled}
use Rattle.rib_store.specs.Tree.{Shape, Empty, Rooted, own, slots_of, slot_of, select_by_turn, same_way, root, AreSides, RootIsOnSide, IsRadixTree}
use Rattle.prefix_store.specs.Stored.{Keys}
use Rattle.rib_store.specs.Slots.{Slots, keys_in}
use Rattle.rib_store.specs.Walks.{node_count}
use Rattle.rib_store.specs.Store.{Trees, slots_in, AreRadixTrees}
use Rattle.rib_store.specs.Nodes.{is_node, AreNodes}
use Rattle.prefix_store.proofs.AboveLaws.{is_less}
use Rattle.rib_store.proofs.TreeLaws.{chosen_same, there_alone}
use Rattle.rib_store.proofs.WayLaws.{turn_through, first_turn, node_first, left_first}
use Rattle.prefix_store.proofs.StoredLaws.{same_prefix}
use Rattle.rib_store.proofs.SlotLaws.{len-from_list, len-keys_in}
use Rattle.rib_store.proofs.WalkLaws.{cmp-ways, tied-ways, keys_of-append, sorted-append}
use Rattle.rib_store.proofs.StoreLaws.{sorted-slots_in}
use Rattle.rib_store.proofs.NodeLaws.{node_at, any_key, by_turn, at_here, at_side, told, told_left, told_right}

-- whether the prefix is in the list
abbrev pub is_in : List Network → Network → Bool
is_in ns q = list_any (eq_by_cmp network_cmp q) ns

-- ---- tests of ways

same_turn : (q k : List Bool) → same_way k q ≡ at_here (turn_of q k)
same_turn [] [] = refl
same_turn [] (y ∷ k) = grind arith
same_turn (x ∷ q) [] = grind arith
same_turn (x ∷ q) (y ∷ k) = grind (arith, same_turn q k)

begin_turn : (q k : List Bool) (bit : Bool) → begin_with (q ++ bit ∷ []) k ≡ at_side bit (turn_of q k)
begin_turn [] [] bit = grind arith
begin_turn [] (y ∷ k) bit = grind arith
begin_turn (x ∷ q) [] bit = refl
begin_turn (x ∷ q) (y ∷ k) bit = grind (arith, begin_turn q k bit)

-- the test for a key, and that for one with a bit behind the prefix's
tied-turn : (q n : Network) → eq_by_cmp network_cmp q n ≡ by_turn at_here (way q) (way n)
tied-turn q n = tied-ways q n ∙ same_turn (way q) (way n)

way-half : (q : Network) (bit : Bool) → way (half q bit) ≡ way q ++ bit ∷ []
unfolding way
way-half q bit = refl

covers-turn : (q : Network) (bit : Bool) (n : Network) → covers (half q bit) n ≡ by_turn (at_side bit) (way q) (way n)
covers-turn q bit n = covers-way (half q bit) n ∙ ap (λ w. begin_with w (way n)) (way-half q bit) ∙ begin_turn (way q) (way n) bit

-- ---- tests of lists

itself : (n : Network) → eq_by_cmp network_cmp n n ≡ true
itself n = ap is_eq (tied_itself network_cmp_total n)

any_at : (p : Network → Bool) (x : Network) (ns : List Network) → p x ≡ true → is_in ns x ≡ true → list_any p ns ≡ true
any_at p x [] e h = cc
any_at p x (n ∷ ns) e h = let one = same_prefix x n in let later = any_at p x ns e in grind arith

any_within : (p : Network → Bool) (ns ms : List Network) → ((q : Network) → is_in ns q ≡ true → is_in ms q ≡ true) → list_any p ns ≡ true → list_any p ms ≡ true
any_within p [] ms h e = cc
any_within p (n ∷ ns) ms h e =
    elim (p n) as (λ b. p n ≡ b → list_any p ms ≡ true) [
      | true ↦ λ t. any_at p n ms t (h n (ap (λ b. b || is_in ns n) (itself n)))
      | false ↦ λ t. any_within p ns ms (λ q g. h q (grind arith)) (grind arith)
    ] refl

-- lists with the same members pass the same tests
any_same : (p : Network → Bool) (ns ms : List Network) → ((q : Network) → is_in ns q ≡ is_in ms q) → list_any p ns ≡ list_any p ms
any_same p ns ms h = same_tests (list_any p ns) (list_any p ms) (any_within p ns ms (λ q e. sym (h q) ∙ e)) (any_within p ms ns (λ q e. h q ∙ e))

firsts : {R : Type 0} (p : Network → Bool) (slots : Slots R) → list_any p (map (λ slot. slot.0) slots) ≡ list_any p (keys_of slots)
firsts p [] = refl
firsts p (slot ∷ slots) = ap (λ b. p slot.0 || b) (firsts p slots)

-- the keys of slots pass the tests that their list does
pub contains-keys_of : {R : Type 0} (slots : Slots R) (q : Network) → set.contains (keys_in slots) q ≡ is_in (keys_of slots) q
unfolding keys_in
contains-keys_of slots q = contains-from_list network_cmp_total (map (λ slot. slot.0) slots) q ∙ firsts (eq_by_cmp network_cmp q) slots

pub items-keys_of : {R : Type 0} (p : Network → Bool) (slots : Slots R) → list_any p (set.items (keys_in slots)) ≡ list_any p (keys_of slots)
items-keys_of p slots = any_same p (set.items (keys_in slots)) (keys_of slots) (λ q. sym (contains-items (keys_in slots) q) ∙ contains-keys_of slots q)

-- ---- the keys of a tree

any-own : {R : Type 0} (p : Network → Bool) (prefix : Network) (slot : Option (Option R)) (below : Slots R) → list_any p (keys_of (own prefix slot below)) ≡ ((is_some slot && p prefix) || list_any p (keys_of below))
any-own p prefix slot below = grind arith

any-append : {R : Type 0} (p : Network → Bool) (xs ys : Slots R) → list_any p (keys_of (xs ++ ys)) ≡ (list_any p (keys_of xs) || list_any p (keys_of ys))
any-append p xs ys = ap (list_any p) (keys_of-append xs ys) ∙ list_any-append p (keys_of xs) (keys_of ys)

any-keys : {R : Type 0} (p : Network → Bool) (test : List Bool → Bool) → ((n : Network) → p n ≡ test (way n)) → (t : Shape R) → list_any p (keys_of (slots_of t)) ≡ any_key test t
any-keys p test same Empty = refl
any-keys p test same (Rooted prefix slot l r) =
    any-own p prefix (slot_of slot) (slots_of l ++ slots_of r)
    ∙ (λ i. (is_some (slot_of slot) && same prefix i) || ((any-append p (slots_of l) (slots_of r) ∙ (λ j. any-keys p test same l j || any-keys p test same r j)) i))

-- ---- the nodes of a tree as a list

abbrev pub nodes_of : {R : Type 0} → Shape R → List Network
nodes_of Empty = []
nodes_of (Rooted prefix slot l r) = prefix ∷ (nodes_of l ++ nodes_of r)

length-nodes_of : {R : Type 0} (t : Shape R) → length (nodes_of t) ≡ node_count t
length-nodes_of Empty = refl
length-nodes_of (Rooted prefix slot l r) = omega (arith, length-nodes_of l, length-nodes_of r, length-append (nodes_of l) (nodes_of r))

-- a tree on a side has nodes there alone
pub node_left : {R : Type 0} (b : List Bool) (t : Shape R) → RootIsOnSide b false t → (q : List Bool) → node_at t q ≡ select_by_turn (turn_of b q) false false (node_at t q) false
node_left b Empty on q = chosen_same (turn_of b q) false
node_left b (Rooted prefix slot l r) on q = there_alone false b (way prefix) q false _ on (λ out. ap (λ t. select_by_turn t false true (node_at l q) (node_at r q)) out)

pub node_right : {R : Type 0} (b : List Bool) (t : Shape R) → RootIsOnSide b true t → (q : List Bool) → node_at t q ≡ select_by_turn (turn_of b q) false false false (node_at t q)
node_right b Empty on q = chosen_same (turn_of b q) false
node_right b (Rooted prefix slot l r) on q = there_alone false b (way prefix) q true _ on (λ out. ap (λ t. select_by_turn t false true (node_at l q) (node_at r q)) out)

gathered : (t : Turn) (x y : Bool) → (select_by_turn t false true false false || (select_by_turn t false false x false || select_by_turn t false false false y)) ≡ select_by_turn t false true x y
gathered t x y = grind arith

pub is_in-nodes_of : {R : Type 0} (t : Shape R) (q : Network) → IsRadixTree t → is_in (nodes_of t) q ≡ node_at t (way q)
is_in-nodes_of Empty q shaped = refl
is_in-nodes_of (Rooted prefix slot l r) q shaped =
    (λ i. tied-ways q prefix i || ((list_any-append (eq_by_cmp network_cmp q) (nodes_of l) (nodes_of r)
    ∙ (λ j. (is_in-nodes_of l q shaped.2 ∙ node_left (way prefix) l shaped.0.left (way q)) j || (is_in-nodes_of r q shaped.3 ∙ node_right (way prefix) r shaped.0.right (way q)) j)) i))
    ∙ gathered (turn_of (way prefix) (way q)) (node_at l (way q)) (node_at r (way q))

-- ---- each node stands once

nodes-on : {R : Type 0} (P : Network → Type 0) (from : List Bool) (bit : Bool) → ((n : Network) → turn_of from (way n) ≡ side bit → P n)
    → (t : Shape R) → IsRadixTree t → RootIsOnSide from bit t → AllByRecursion P (nodes_of t)
nodes-on P from bit holds Empty shaped on = tt
nodes-on P from bit holds (Rooted prefix slot l r) shaped on =
    let deeper = λ (s : Bool) (n : Network) (h : turn_of (way prefix) (way n) ≡ side s). holds n (turn_through from (way prefix) (way n) bit s on h) in
    (holds prefix on, AllByRecursion-append P (nodes_of l) (nodes_of r) (nodes-on P (way prefix) false (deeper false) l shaped.2 shaped.0.left) (nodes-on P (way prefix) true (deeper true) r shaped.3 shaped.0.right))

sorted-nodes : {R : Type 0} (from : List Bool) (l r : Shape R) → AreSides from l r → IsRadixTree l → IsRadixTree r → IsStrictlySortedBy network_cmp (nodes_of l) → IsStrictlySortedBy network_cmp (nodes_of r)
    → IsStrictlySortedBy network_cmp (nodes_of l ++ nodes_of r)
sorted-nodes from l r sides ls rs first second =
    sorted-append (nodes_of l) (nodes_of r) first second
    (nodes-on (λ x. AllByRecursion (λ y. network_cmp x y ≡ Less) (nodes_of r)) from false
    (λ x on. nodes-on (λ y. network_cmp x y ≡ Less) from true (λ y there. is_less (network_cmp x y) (ap is_lt (cmp-ways x y) ∙ (left_first from (way x) (way y) on there).0)) r rs sides.right)
    l ls sides.left)

sorted-nodes_of : {R : Type 0} (t : Shape R) → IsRadixTree t → IsStrictlySortedBy network_cmp (nodes_of t)
unfolding IsStrictlySortedBy
sorted-nodes_of Empty shaped = tt
sorted-nodes_of (Rooted prefix slot l r) shaped =
    let under = λ (s : Bool) (n : Network) (h : turn_of (way prefix) (way n) ≡ side s). is_less (network_cmp prefix n) (ap is_lt (cmp-ways prefix n) ∙ (node_first (way prefix) (way n) s h).0) in (
      AllByRecursion-append (λ y. network_cmp prefix y ≡ Less) (nodes_of l) (nodes_of r)
          (nodes-on (λ y. network_cmp prefix y ≡ Less) (way prefix) false (under false) l shaped.2 shaped.0.left)
          (nodes-on (λ y. network_cmp prefix y ≡ Less) (way prefix) true (under true) r shaped.3 shaped.0.right),
      sorted-nodes (way prefix) l r shaped.0 shaped.2 shaped.3 (sorted-nodes_of l shaped.2) (sorted-nodes_of r shaped.3),
    )

-- ---- both families

-- the nodes of both trees
abbrev pub all_nodes : {R : Type 0} → Trees R → Keys
all_nodes f = set.from_list (nodes_of f.v4 ++ nodes_of f.v6)

pub len-all_nodes : {R : Type 0} (f : Trees R) → AreRadixTrees f → set.len (all_nodes f) ≡ node_count f.v4 + node_count f.v6
len-all_nodes f planted =
    let sorted = sorted-nodes [] f.v4 f.v6 planted.sides planted.v4 planted.v6 (sorted-nodes_of f.v4 planted.v4) (sorted-nodes_of f.v6 planted.v6) in
    len-from_list (nodes_of f.v4 ++ nodes_of f.v6) (IsDistinct-from_sorted network_cmp _ sorted)
    ∙ omega (arith, length-append (nodes_of f.v4) (nodes_of f.v6), length-nodes_of f.v4, length-nodes_of f.v6)

-- some key of either tree passes
abbrev either_key : {R : Type 0} → (List Bool → Bool) → Trees R → Bool
either_key test f = any_key test f.v4 || any_key test f.v6

-- a node of either tree stands exactly where a key is, or where keys lie on both sides
told_both : {R : Type 0} (f : Trees R) → AreRadixTrees f → (q : List Bool) (bit : Bool) → turn_of [] q ≡ side bit
    → (node_at f.v4 q || node_at f.v6 q) ≡ (either_key (by_turn at_here q) f || (either_key (by_turn (at_side false) q) f && either_key (by_turn (at_side true) q) f))
told_both f planted q false e =
    let only = λ (w : Turn → Bool) (out : w Outside ≡ false). told_left [] None f.v4 f.v6 q w out planted.sides.right planted.v6 e in
    ap (λ b. node_at f.v4 q || b) (node_right [] f.v6 planted.sides.right q ∙ ap (λ t. select_by_turn t false false false (node_at f.v6 q)) e)
    ∙ or-false (node_at f.v4 q) ∙ told f.v4 q planted.v4
    ∙ sym (λ i. only at_here refl i || (only (at_side false) refl i && only (at_side true) refl i))
told_both f planted q true e =
    let only = λ (w : Turn → Bool) (out : w Outside ≡ false). told_right [] None f.v4 f.v6 q w out planted.sides.left planted.v4 e in
    ap (λ b. b || node_at f.v6 q) (node_left [] f.v4 planted.sides.left q ∙ ap (λ t. select_by_turn t false false (node_at f.v4 q) false) e)
    ∙ told f.v6 q planted.v6
    ∙ sym (λ i. only at_here refl i || (only (at_side false) refl i && only (at_side true) refl i))

either-keys : {R : Type 0} (p : Network → Bool) (test : List Bool → Bool) → ((n : Network) → p n ≡ test (way n)) → (f : Trees R) → list_any p (keys_of (slots_in f)) ≡ either_key test f
either-keys p test same f = any-append p (slots_of f.v4) (slots_of f.v6) ∙ (λ i. any-keys p test same f.v4 i || any-keys p test same f.v6 i)

-- a prefix that is a key needs no more
or_absent : (a b : Bool) → (a || b) ≡ (a || (not a && b))
or_absent true b = refl
or_absent false b = refl

-- by the words of the keys
is_node-keys : {R : Type 0} (f : Trees R) (q : Network)
    → is_node (keys_in (slots_in f)) q ≡ (either_key (by_turn at_here (way q)) f || (either_key (by_turn (at_side false) (way q)) f && either_key (by_turn (at_side true) (way q)) f))
is_node-keys f q =
    let here = contains-keys_of (slots_in f) q ∙ either-keys (eq_by_cmp network_cmp q) (by_turn at_here (way q)) (tied-turn q) f in
    let on = λ (bit : Bool). items-keys_of (covers (half q bit)) (slots_in f) ∙ either-keys (covers (half q bit)) (by_turn (at_side bit) (way q)) (covers-turn q bit) f in
    (λ i. here i || (not (here i) && (on false i && on true i)))
    ∙ sym (or_absent (either_key (by_turn at_here (way q)) f) (either_key (by_turn (at_side false) (way q)) f && either_key (by_turn (at_side true) (way q)) f))

some_side : (q : Network) → (bit : Bool) × (turn_of [] (way q) ≡ side bit)
some_side q = (family_bit q.family, first_turn q)

pub node-is : {R : Type 0} (f : Trees R) → AreRadixTrees f → (q : Network) → (node_at f.v4 (way q) || node_at f.v6 (way q)) ≡ is_node (keys_in (slots_in f)) q
node-is f planted q = let s = some_side q in told_both f planted (way q) s.0 s.1 ∙ sym (is_node-keys f q)

pub are_nodes : {R : Type 0} (f : Trees R) → AreRadixTrees f → AreNodes (keys_in (slots_in f)) (all_nodes f)
are_nodes f planted q =
    contains-from_list network_cmp_total (nodes_of f.v4 ++ nodes_of f.v6) q
    ∙ list_any-append (eq_by_cmp network_cmp q) (nodes_of f.v4) (nodes_of f.v6)
    ∙ (λ i. is_in-nodes_of f.v4 q planted.v4 i || is_in-nodes_of f.v6 q planted.v6 i)
    ∙ node-is f planted q

-- ---- at most two a key

-- one, where the tree isn't empty
abbrev filled : {R : Type 0} → Shape R → ℕ
filled Empty = 0
filled (Rooted prefix slot l r) = 1

filled-some : {R : Type 0} (t : Shape R) → IsSome (root t) → filled t ≡ 1
filled-some t e = grind arith

twice : {R : Type 0} (t : Shape R) → IsRadixTree t → node_count t + filled t ≤ 2 * length (slots_of t)
twice Empty shaped = omega arith
twice (Rooted prefix NoKey l r) shaped =
    omega (arith, twice l shaped.2, twice r shaped.3, filled-some l shaped.1.0, filled-some r shaped.1.1, length-append (slots_of l) (slots_of r))
twice (Rooted prefix Vacant l r) shaped = omega (arith, twice l shaped.2, twice r shaped.3, length-append (slots_of l) (slots_of r))
twice (Rooted prefix (Filled route) l r) shaped = omega (arith, twice l shaped.2, twice r shaped.3, length-append (slots_of l) (slots_of r))

pub len-keys_in-trees : {R : Type 0} (f : Trees R) → AreRadixTrees f → set.len (keys_in (slots_in f)) ≡ length (slots_of f.v4) + length (slots_of f.v6)
len-keys_in-trees f planted = len-keys_in (slots_in f) (IsDistinct-from_sorted network_cmp _ (sorted-slots_in f planted)) ∙ length-append (slots_of f.v4) (slots_of f.v6)

pub twice_both : {R : Type 0} (f : Trees R) → AreRadixTrees f → node_count f.v4 + node_count f.v6 ≤ 2 * set.len (keys_in (slots_in f))
twice_both f planted = omega (arith, twice f.v4 planted.v4, twice f.v6 planted.v6, len-keys_in-trees f planted)
