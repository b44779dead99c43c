-- What is found on the way to an address is the longest prefix with a route.
use Rattle.std.proofs.Common.{◌≡◌, ◌≤◌, Bool, true, false, Option, Some, None, is_some, List, ◌⊎◌, inl, inr, length, refl, ap, sym, ◌∙◌, arith}
use Rattle.std.specs.FinMap as finite
use Rattle.ip_prefix.specs.declared.turn.Turn.{Turn}
use Rattle.ip_prefix.specs.declared.turn.Turn.TheVariants.{Outside, Here, Left, Right}
use Rattle.ip_prefix.specs.Network.{Address, Network, begin_with, contains}
use Rattle.ip_prefix.specs.Turns.{way, turn_of, side}
use Rattle.ip_prefix.proofs.Containing.{contains_parts}
use Rattle.ip_prefix.proofs.Turns.{covers-way, here_only, here_from}
use Rattle.rib_store.specs.Tree.{Shape, Empty, Rooted, at, slot_of, select_by_turn, RootIsOnSide, IsRadixTree}
use Rattle.prefix_store.specs.Lookups.{IsLongestMatch, IsLongestMatchOf}
use Rattle.rib_store.specs.Slots.{route_of_slot, routes_in}
use Rattle.rib_store.specs.Walks.{first_some, routed_at, deepest_route}
use Rattle.rib_store.specs.Store.{Trees, slots_in, tree_of, AreRadixTrees}
use Rattle.rib_store.proofs.WayLaws.{beyond, begin_outside, begin_side, begin_in, turn_longer, length-way}
use Rattle.rib_store.proofs.SlotLaws.{get-routes_in}
use Rattle.rib_store.proofs.StoreLaws.{slot_at-tree_of, shaped-family}

-- the slot has the route, and the key begins with its way
abbrev pub Holds : {R : Type 0} → (List Bool → Option (Option R)) → List Bool → List Bool → R → Type 0
Holds slots key x route = (begin_with x key ≡ true) × (slots x ≡ Some (Some route))

-- of those slots whose ways the key's begins with, the deepest that has a route, or none
abbrev pub IsDeepest : {R : Type 0} → (List Bool → Option (Option R)) → List Bool → Option (Network × R) → Type 0
IsDeepest {R} slots key None = (x : List Bool) (route : R) → Holds slots key x route → ⊥
IsDeepest {R} slots key (Some found) = Holds slots key (way found.0) found.1 × ((x : List Bool) (route : R) → Holds slots key x route → length x ≤ length (way found.0))

none_some : {R : Type 0} (o : Option (Option R)) (route : R) → o ≡ None → o ≡ Some (Some route) → ⊥
none_some o route e f = cc

vacant_some : {R : Type 0} (o : Option (Option R)) (route : R) → o ≡ Some None → o ≡ Some (Some route) → ⊥
vacant_some o route e f = cc

-- a node on the way, over what is found below it on the key's side
on_way : {R : Type 0} (prefix : Network) (slot : Option (Option R)) (low : List Bool → Option (Option R)) (slots : List Bool → Option (Option R)) (key : List Bool) (s : Bool) (o : Option (Network × R))
    → turn_of (way prefix) key ≡ side s
    → ((x : List Bool) → turn_of (way prefix) x ≡ Here → slots x ≡ slot) → ((x : List Bool) → turn_of (way prefix) x ≡ side s → slots x ≡ low x)
    → ((x : List Bool) (route : R) → low x ≡ Some (Some route) → turn_of (way prefix) x ≡ side s)
    → ((x : List Bool) (route : R) → Holds slots key x route → (turn_of (way prefix) x ≡ Here) ⊎ (turn_of (way prefix) x ≡ side s))
    → IsDeepest low key o → IsDeepest slots key (first_some o (routed_at prefix slot))
on_way prefix slot low slots key s (Some found) there here below lies whence is =
    let side_is = lies (way found.0) found.1 is.0.1 in (
      (is.0.0, below (way found.0) side_is ∙ is.0.1),
      λ x route h. elim (whence x route h) [
        | inl at_node ↦ let longer = turn_longer (way prefix) (way found.0) s side_is in let same = ap length (here_only (way prefix) x at_node) in omega (arith, longer, same)
        | inr on ↦ is.1 x route (h.0, sym (below x on) ∙ h.1)
      ],
    )
on_way prefix None low slots key s None there here below lies whence is =
    λ x route h. elim (whence x route h) [ inl at_node ↦ absurd (none_some (slots x) route (here x at_node) h.1) | inr on ↦ is x route (h.0, sym (below x on) ∙ h.1) ]
on_way prefix (Some None) low slots key s None there here below lies whence is =
    λ x route h. elim (whence x route h) [ inl at_node ↦ absurd (vacant_some (slots x) route (here x at_node) h.1) | inr on ↦ is x route (h.0, sym (below x on) ∙ h.1) ]
on_way prefix (Some (Some found)) low slots key s None there here below lies whence is = (
  (begin_in (way prefix) key (λ e. grind arith), here (way prefix) (here_from (way prefix))),
  λ x route h. elim (whence x route h) [
    | inl at_node ↦ let same = ap length (here_only (way prefix) x at_node) in omega (arith, same)
    | inr on ↦ absurd (is x route (h.0, sym (below x on) ∙ h.1))
  ],
)

false_true : (b : Bool) → b ≡ false → b ≡ true → ⊥
false_true b e f = cc

-- the node is the key itself
at_way : {R : Type 0} (prefix : Network) (slot : Option (Option R)) (slots : List Bool → Option (Option R)) (key : List Bool)
    → begin_with (way prefix) key ≡ true → slots (way prefix) ≡ slot
    → ((x : List Bool) (route : R) → Holds slots key x route → x ≡ (way prefix)) → IsDeepest slots key (routed_at prefix slot)
at_way prefix None slots key there here only = λ x route h. none_some (slots x) route (ap slots (only x route h) ∙ here) h.1
at_way prefix (Some None) slots key there here only = λ x route h. vacant_some (slots x) route (ap slots (only x route h) ∙ here) h.1
at_way prefix (Some (Some found)) slots key there here only =
    ((there, here), λ x route h. let e = ap length (only x route h) in omega (arith, e))

-- what a tree on a side has lies there
lies : {R : Type 0} (b x : List Bool) (s : Bool) (t : Shape R) (route : R) → RootIsOnSide b s t → at t x ≡ Some (Some route) → turn_of b x ≡ side s
lies b x s Empty route on h = cc
lies b x s (Rooted prefix slot l r) route on h =
    elim (beyond b (way prefix) x s on) [
      | inl out ↦ absurd (none_some _ route (ap (λ t. select_by_turn t None (slot_of slot) (at l x) (at r x)) out) h)
      | inr there ↦ there
    ]

-- what is found on the way to a key is the deepest
pub deepest_is : {R : Type 0} (t : Shape R) (key : List Bool) → IsRadixTree t → IsDeepest (at t) key (deepest_route t key)
deepest_is {R} Empty key shaped = λ x route h. none_some {R = R} None route refl h.1
deepest_is {R} (Rooted prefix slot l r) key shaped =
    turns (turn_of (way prefix) key) refl (deepest_is l key shaped.2) (deepest_is r key shaped.3)
  where
    whole : Shape R
    whole = Rooted prefix slot l r

    -- by where a way lies that the key's begins with
    seen : (x : List Bool) (j : Turn) → turn_of (way prefix) x ≡ j → at whole x ≡ select_by_turn j None (slot_of slot) (at l x) (at r x)
    seen x j y = ap (λ t. select_by_turn t None (slot_of slot) (at l x) (at r x)) y

    away : (x : List Bool) (s : Bool) → turn_of (way prefix) x ≡ side s → (turn_of (way prefix) key ≡ side s → ⊥) → begin_with x key ≡ true → ⊥
    away x s y none b = false_true (begin_with x key) (begin_side (way prefix) x key s y none) b

    whence : (s : Bool) → turn_of (way prefix) key ≡ side s → (x : List Bool) (route : R) → Holds (at whole) key x route → (j : Turn) → turn_of (way prefix) x ≡ j
        → (turn_of (way prefix) x ≡ Here) ⊎ (turn_of (way prefix) x ≡ side s)
    whence s e x route h Outside y = absurd (none_some (at whole x) route (seen x Outside y) h.1)
    whence s e x route h Here y = inl y
    whence false e x route h Left y = inr y
    whence true e x route h Left y = absurd (away x false y (λ z. cc) h.0)
    whence false e x route h Right y = absurd (away x true y (λ z. cc) h.0)
    whence true e x route h Right y = inr y

    outside : turn_of (way prefix) key ≡ Outside → (x : List Bool) (route : R) → Holds (at whole) key x route → ⊥
    outside e x route h = let apart = begin_outside (way prefix) x key e in grind (arith, h.0, h.1)

    only : turn_of (way prefix) key ≡ Here → (x : List Bool) (route : R) → Holds (at whole) key x route → x ≡ way prefix
    only e x route h =
        let one = here_only (way prefix) x in
        let left = begin_side (way prefix) x key false in
        let right = begin_side (way prefix) x key true in
        grind (arith, h.0, h.1)

    turns : (k : Turn) → turn_of (way prefix) key ≡ k → IsDeepest (at l) key (deepest_route l key) → IsDeepest (at r) key (deepest_route r key)
        → IsDeepest (at whole) key (select_by_turn k None (routed_at prefix (slot_of slot)) (first_some (deepest_route l key) (routed_at prefix (slot_of slot))) (first_some (deepest_route r key) (routed_at prefix (slot_of slot))))
    turns Outside e f g = outside e
    turns Here e f g =
        at_way prefix (slot_of slot) (at whole) key (begin_in (way prefix) key (λ z. cc)) (seen (way prefix) Here (here_from (way prefix))) (only e)
    turns Left e f g =
        on_way prefix (slot_of slot) (at l) (at whole) key false (deepest_route l key) e (λ x. seen x Here) (λ x. seen x Left)
        (λ x route h. lies (way prefix) x false l route shaped.0.left h) (λ x route h. whence false e x route h (turn_of (way prefix) x) refl) f
    turns Right e f g =
        on_way prefix (slot_of slot) (at r) (at whole) key true (deepest_route r key) e (λ x. seen x Here) (λ x. seen x Right)
        (λ x route h. lies (way prefix) x true r route shaped.0.right h) (λ x route h. whence true e x route h (turn_of (way prefix) x) refl) g

-- ---- over all routes

-- the prefix of an address alone
abbrev pub host : Address → Network
host address = record { family = address.family; bits = address.bits }

-- a prefix contains the address whose way begins with its way
pub contains-way : (n : Network) (address : Address) → contains n address ≡ begin_with (way n) (way (host address))
contains-way n address = covers-way n (host address)

-- a route that is in a slot
in_slot : {R : Type 0} (slot : Option (Option R)) → is_some (route_of_slot slot) ≡ true → (route : R) × (slot ≡ Some (Some route))
in_slot None e = cc
in_slot (Some None) e = cc
in_slot (Some (Some route)) e = (route, refl)

no_route : {R : Type 0} (slot : Option (Option R)) → ((route : R) → slot ≡ Some (Some route) → ⊥) → route_of_slot slot ≡ None
no_route None none = refl
no_route (Some None) none = refl
no_route (Some (Some route)) none = absurd (none route refl)

-- the deepest is the longest that contains the address
longest_of : {R : Type 0} (slots : List Bool → Option (Option R)) (address : Address) (found : Option (Network × R)) → IsDeepest slots (way (host address)) found
    → IsLongestMatchOf (λ n. route_of_slot (slots (way n))) address found
longest_of slots address None is = λ n within. no_route (slots (way n)) (λ route e. is (way n) route (sym (contains-way n address) ∙ within, e))
longest_of slots address (Some found) is = (
  contains-way found.0 address ∙ is.0.0,
  ap route_of_slot is.0.1,
  λ n within some.
      let there = in_slot (slots (way n)) some in
      let shorter = is.1 (way n) there.0 (sym (contains-way n address) ∙ within, there.1) in
      omega (arith, shorter, length-way n, length-way found.0),
)

-- by what the prefixes that contain the address have
longest-same : {R : Type 0} (one other : Network → Option R) (address : Address) (found : Option (Network × R)) → ((n : Network) → contains n address ≡ true → one n ≡ other n)
    → IsLongestMatchOf one address found → IsLongestMatchOf other address found
longest-same one other address None same is = λ n within. sym (same n within) ∙ is n within
longest-same one other address (Some found) same is =
    (is.0, sym (same found.0 is.0) ∙ is.1, λ n within some. is.2 n within (ap is_some (same n within) ∙ some))

-- that is found in the tree of the address's family
pub longest-is : {R : Type 0} (f : Trees R) → AreRadixTrees f → (address : Address) → IsLongestMatch (routes_in (slots_in f)) address (deepest_route (tree_of address.family f) (way (host address)))
longest-is f planted address =
    longest-same (λ n. route_of_slot (at (tree_of address.family f) (way n))) (finite.get (routes_in (slots_in f))) address (deepest_route (tree_of address.family f) (way (host address)))
    (λ n within. sym (get-routes_in (slots_in f) n ∙ ap route_of_slot (slot_at-tree_of f planted n address.family (contains_parts n address within).0)))
    (longest_of (at (tree_of address.family f)) address (deepest_route (tree_of address.family f) (way (host address))) (deepest_is (tree_of address.family f) (way (host address)) (shaped-family f planted address.family)))
