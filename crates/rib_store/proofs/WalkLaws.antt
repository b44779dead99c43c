-- What a tree has from the left to the right: its keys in order, each found by its way, and its routes.
use Rattle.std.proofs.Common.{◌≡◌, Bool, true, false, cond, List, [], ◌∷◌, ◌++◌, Option, Some, None, slice_get, refl, sym, ap, subst, ◌∙◌, arith, option_map, Less}
use Rattle.std.specs.Prelude.{MatchOption}
use Rattle.std.specs.List.{AllByRecursion}
use Rattle.std.specs.List.Sorted.{IsStrictlySortedBy}
use Rattle.std.specs.Map.{keys_of}
use Rattle.std.specs.Ordering.{eq_by_cmp, is_eq, is_lt}
use Rattle.ip_prefix.specs.declared.turn.Turn.{Turn}
use Rattle.ip_prefix.specs.declared.turn.Turn.TheVariants.{Outside}
use Rattle.ip_prefix.specs.Network.{Network, bits_cmp, network_cmp}
use Rattle.ip_prefix.specs.Turns.{way, turn_of, side}
use Rattle.octet_forms.proofs.Lists.{AllByRecursion-append}
use Rattle.rib_store.specs.Tree.{Shape, Empty, Rooted, at, own, slots_of, slot_of, select_by_turn, same_way, AreSides, RootIsOnSide, IsRadixTree}
use Rattle.prefix_store.specs.Lookups.{is_above, above}
use Rattle.rib_store.specs.Slots.{Slots, slot_at, routed}
use Rattle.rib_store.specs.Walks.{first_some, first}
use Rattle.prefix_store.proofs.AboveLaws.{is_less}
use Rattle.rib_store.proofs.WayLaws.{turn_through, below, node_first, left_first}
use Rattle.rib_store.proofs.TreeLaws.{at_left, at_right}

-- ---- prefixes by their ways

same_bits_tie : (q k : List Bool) → is_eq (bits_cmp q k) ≡ same_way k q
same_bits_tie [] [] = refl
same_bits_tie [] (bit ∷ k) = grind arith
same_bits_tie (bit ∷ q) [] = grind arith
same_bits_tie (bit ∷ q) (other ∷ k) = grind (arith, same_bits_tie q k)

-- the order of prefixes is that of their ways
pub cmp-ways : (m n : Network) → network_cmp m n ≡ bits_cmp (way m) (way n)
unfolding way
cmp-ways m n = grind arith

-- prefixes tie where their ways are one
pub tied-ways : (q n : Network) → eq_by_cmp network_cmp q n ≡ same_way (way n) (way q)
tied-ways q n = ap is_eq (cmp-ways q n) ∙ same_bits_tie (way q) (way n)

-- ---- slots behind one another

pub keys_of-append : {X : Type 0} (xs ys : List (Network × X)) → keys_of (xs ++ ys) ≡ keys_of xs ++ keys_of ys
keys_of-append [] ys = refl
keys_of-append (x ∷ xs) ys = ap (λ l. x.0 ∷ l) (keys_of-append xs ys)

pub slot_at-append : {R : Type 0} (q : Network) (xs ys : Slots R) → slot_at (xs ++ ys) q ≡ first_some (slot_at xs q) (slot_at ys q)
slot_at-append q [] ys = refl
slot_at-append q (x ∷ xs) ys = grind (arith, slot_at-append q xs ys)

pub routed-append : {R : Type 0} (xs ys : Slots R) → routed (xs ++ ys) ≡ routed xs ++ routed ys
unfolding routed
routed-append [] ys = refl
routed-append ((prefix, None) ∷ xs) ys = routed-append xs ys
routed-append ((prefix, Some route) ∷ xs) ys = ap (λ l. (prefix, route) ∷ l) (routed-append xs ys)

-- the first of two lists behind one another
pub first-append : {A : Type 0} (xs ys : List A) → slice_get (xs ++ ys) 0 ≡ first_some (slice_get xs 0) (slice_get ys 0)
first-append [] ys = refl
first-append (x ∷ xs) ys = refl

-- the node's own slot, and those below it
slot_at-own : {R : Type 0} (q prefix : Network) (slot : Option (Option R)) (below : Slots R) → slot_at (own prefix slot below) q ≡ first_some (cond (eq_by_cmp network_cmp q prefix) slot None) (slot_at below q)
slot_at-own q prefix slot below = grind arith

-- ---- each key is found by its way

by_turn : {A : Type 0} (t : Turn) (slot x y : Option A) → first_some (cond (select_by_turn t false true false false) slot None) (first_some (select_by_turn t None None x None) (select_by_turn t None None None y)) ≡ select_by_turn t None slot x y
by_turn t slot x y = grind arith

pub slot_at-slots_of : {R : Type 0} (t : Shape R) → IsRadixTree t → (q : Network) → slot_at (slots_of t) q ≡ at t (way q)
slot_at-slots_of Empty shaped q = refl
slot_at-slots_of {R} (Rooted prefix slot l r) shaped q =
    slot_at-own q prefix (slot_of slot) (slots_of l ++ slots_of r)
    ∙ (λ i. first_some (cond (tied-ways q prefix i) (slot_of slot) None)
    ((slot_at-append q (slots_of l) (slots_of r)
    ∙ (λ j. first_some ((slot_at-slots_of l shaped.2 q ∙ at_left (way prefix) l shaped.0.left (way q)) j) ((slot_at-slots_of r shaped.3 q ∙ at_right (way prefix) r shaped.0.right (way q)) j))) i))
    ∙ by_turn (turn_of (way prefix) (way q)) (slot_of slot) (at l (way q)) (at r (way q))

-- ---- on which side the keys lie

pub AllKeys-own : {R : Type 0} (P : Network → Type 0) (prefix : Network) (slot : Option (Option R)) (below : Slots R) → P prefix → AllByRecursion P (keys_of below) → AllByRecursion P (keys_of (own prefix slot below))
AllKeys-own P prefix None below here all = all
AllKeys-own P prefix (Some slot) below here all = (here, all)

pub AllKeys-append : {R : Type 0} (P : Network → Type 0) (xs ys : Slots R) → AllByRecursion P (keys_of xs) → AllByRecursion P (keys_of ys) → AllByRecursion P (keys_of (xs ++ ys))
AllKeys-append P xs ys all more = subst (AllByRecursion P) (sym (keys_of-append xs ys)) (AllByRecursion-append P (keys_of xs) (keys_of ys) all more)

-- what holds of all that lies on a side holds of the keys of a tree there
pub all-on : {R : Type 0} (P : Network → Type 0) (from : List Bool) (bit : Bool) → ((n : Network) → turn_of from (way n) ≡ side bit → P n)
    → (t : Shape R) → IsRadixTree t → RootIsOnSide from bit t → AllByRecursion P (keys_of (slots_of t))
all-on P from bit holds Empty shaped on = tt
all-on P from bit holds (Rooted prefix slot l r) shaped on =
    let deeper = λ (s : Bool) (n : Network) (h : turn_of (way prefix) (way n) ≡ side s). holds n (turn_through from (way prefix) (way n) bit s on h) in
    AllKeys-own P prefix (slot_of slot) (slots_of l ++ slots_of r) (holds prefix on)
    (AllKeys-append P (slots_of l) (slots_of r) (all-on P (way prefix) false (deeper false) l shaped.2 shaped.0.left) (all-on P (way prefix) true (deeper true) r shaped.3 shaped.0.right))

-- ---- the keys are in order

pub sorted-append : (xs ys : List Network) → IsStrictlySortedBy network_cmp xs → IsStrictlySortedBy network_cmp ys → AllByRecursion (λ x. AllByRecursion (λ y. network_cmp x y ≡ Less) ys) xs
    → IsStrictlySortedBy network_cmp (xs ++ ys)
unfolding IsStrictlySortedBy
sorted-append [] ys first second less = second
sorted-append (x ∷ xs) ys first second less =
    (AllByRecursion-append (λ y. network_cmp x y ≡ Less) xs ys first.0 less.0, sorted-append xs ys first.1 second less.1)

sorted-own : {R : Type 0} (prefix : Network) (slot : Option (Option R)) (below : Slots R) → IsStrictlySortedBy network_cmp (keys_of below) → AllByRecursion (λ y. network_cmp prefix y ≡ Less) (keys_of below)
    → IsStrictlySortedBy network_cmp (keys_of (own prefix slot below))
unfolding IsStrictlySortedBy
sorted-own prefix None below sorted less = sorted
sorted-own prefix (Some slot) below sorted less = (less, sorted)

-- one side of a way after the other
pub sorted-sides : {R : Type 0} (from : List Bool) (l r : Shape R) → AreSides from l r → IsRadixTree l → IsRadixTree r → IsStrictlySortedBy network_cmp (keys_of (slots_of l)) → IsStrictlySortedBy network_cmp (keys_of (slots_of r))
    → IsStrictlySortedBy network_cmp (keys_of (slots_of l ++ slots_of r))
sorted-sides from l r sides ls rs first second =
    subst (IsStrictlySortedBy network_cmp) (sym (keys_of-append (slots_of l) (slots_of r)))
    (sorted-append (keys_of (slots_of l)) (keys_of (slots_of r)) first second
    (all-on (λ x. AllByRecursion (λ y. network_cmp x y ≡ Less) (keys_of (slots_of r))) from false
    (λ x on. all-on (λ y. network_cmp x y ≡ Less) from true (λ y there. is_less (network_cmp x y) (ap is_lt (cmp-ways x y) ∙ (left_first from (way x) (way y) on there).0)) r rs sides.right)
    l ls sides.left))

pub sorted-slots_of : {R : Type 0} (t : Shape R) → IsRadixTree t → IsStrictlySortedBy network_cmp (keys_of (slots_of t))
unfolding IsStrictlySortedBy
sorted-slots_of Empty shaped = tt
sorted-slots_of (Rooted prefix slot l r) shaped =
    let under = λ (s : Bool) (n : Network) (h : turn_of (way prefix) (way n) ≡ side s). is_less (network_cmp prefix n) (ap is_lt (cmp-ways prefix n) ∙ (node_first (way prefix) (way n) s h).0) in
    sorted-own prefix (slot_of slot) (slots_of l ++ slots_of r)
    (sorted-sides (way prefix) l r shaped.0 shaped.2 shaped.3 (sorted-slots_of l shaped.2) (sorted-slots_of r shaped.3))
    (AllKeys-append (λ y. network_cmp prefix y ≡ Less) (slots_of l) (slots_of r)
    (all-on (λ y. network_cmp prefix y ≡ Less) (way prefix) false (under false) l shaped.2 shaped.0.left)
    (all-on (λ y. network_cmp prefix y ≡ Less) (way prefix) true (under true) r shaped.3 shaped.0.right))

-- ---- the routes above a prefix

-- all keys are above
pub above-all : {R : Type 0} (low : Network) (slots : Slots R) → AllByRecursion (λ n. is_above (Some low) n ≡ true) (keys_of slots) → above (Some low) (routed slots) ≡ routed slots
unfolding routed
above-all low [] all = refl
above-all low ((prefix, None) ∷ slots) all = above-all low slots all.1
above-all low ((prefix, Some route) ∷ slots) all = (λ i. cond (all.0 i) ((prefix, route) ∷ above (Some low) (routed slots)) (above (Some low) (routed slots))) ∙ ap (λ l. (prefix, route) ∷ l) (above-all low slots all.1)

-- none is
pub above-no : {R : Type 0} (low : Network) (slots : Slots R) → AllByRecursion (λ n. is_above (Some low) n ≡ false) (keys_of slots) → above (Some low) (routed slots) ≡ []
unfolding routed
above-no low [] all = refl
above-no low ((prefix, None) ∷ slots) all = above-no low slots all.1
above-no low ((prefix, Some route) ∷ slots) all = (λ i. cond (all.0 i) ((prefix, route) ∷ above (Some low) (routed slots)) (above (Some low) (routed slots))) ∙ above-no low slots all.1

-- whether a prefix is above, by the ways
pub above-ways : (low n : Network) → is_above (Some low) n ≡ below (way low) (way n)
above-ways low n = ap is_lt (cmp-ways low n)

-- a way that a node has below it isn't outside
pub not_out : (b x : List Bool) (s : Bool) → turn_of b x ≡ side s → turn_of b x ≡ Outside → ⊥
not_out b x s e h = grind arith

-- ---- what a walk answers

pub found_is : {A B : Type 0} (view : A → B) (result : Option A) (wanted : Option B) → MatchOption result (wanted ≡ None) (λ found. wanted ≡ Some (view found)) → option_map view result ≡ wanted
found_is view None wanted is = sym is
found_is view (Some found) wanted is = sym is
