-- Lists filled as far as there is room, and the routes that walks down a tree append to them.
use Rattle.prefix_store.proofs.AboveLaws.{take-nil, none-above, above-none}
use Rattle.std.proofs.Common.{◌≡◌, ℕ, zero, suc, ◌+◌, ◌-◌, Bool, true, false, cond, List, [], ◌∷◌, ◌++◌, take, length, Option, Some, None, slice_get, Vec, Global, vec_capacity, Bor, refl, sym, ap, ap₂, ◌∙◌, arith, append_assoc, length-append, append-nil, length-take, option_to_list, is_lt}
use Rattle.ip_prefix.specs.Network.{Network, network_cmp}
use Rattle.prefix_store.specs.Lookups.{is_above, above, dereferenced}
use Rattle.ip_prefix.specs.declared.turn.Turn.{Turn}
use Rattle.ip_prefix.specs.Turns.{way, turn_of, side}
use Rattle.rib_store.specs.declared.tree.KeySlot.{KeySlot}
use Rattle.rib_store.specs.declared.tree.Tree.{Tree}
use Rattle.rib_store.specs.Tree.{shape_of, has_routes, HasCorrectMarks, Shape, Empty, Rooted, select_by_turn, own, slots_of, slot_of, RootIsOnSide, IsRadixTree}
use Rattle.rib_store.specs.Slots.{Slots, routed}
use Rattle.rib_store.specs.Walks.{first_some, routed_at, first, first_after, all_routes, all_after, filled}
use Rattle.rib_store.proofs.MarkLaws.{unmarked_first}
use Rattle.rib_store.proofs.WayLaws.{below, left_first, node_first, not_itself, as_node}
use Rattle.rib_store.proofs.WalkLaws.{first-append, routed-append, above-all, above-no, above-ways, not_out, all-on, AllKeys-own, AllKeys-append}
use Rattle.rib_store.specs.Store.{Trees, AreRadixTrees}
use Rattle.rib_store.proofs.StoreLaws.{first_side, entries_in, routed-entries}
use Rattle.ip_prefix.proofs.Turns.{here_only}
use Rattle.ip_prefix.specs.declared.turn.Turn.TheVariants.{Outside, Here, Left, Right}
use Rattle.ip_prefix.specs.declared.addr.Family.TheVariants.{V4, V6}
use Rattle.std.specs.List.{AllByRecursion}
use Rattle.std.specs.Map.{keys_of}
use Rattle.std.proofs.lemmas.List.Elements.{filter-append}

take-append : {A : Type 0} (n : ℕ) (xs ys : List A) → take n (xs ++ ys) ≡ take n xs ++ take (n - length xs) ys
take-append n [] ys =
    let whole : n ≡ n - 0 = omega arith in
    ap (λ k. take k ys) whole ∙ ap (λ s. s ++ take (n - 0) ys) (sym (take-nil n))
take-append zero (x ∷ xs) ys =
    let none : 0 ≡ 0 - length (x ∷ xs) = omega arith in
    ap (λ k. take k ys) none
take-append (suc n) (x ∷ xs) ys =
    let left : n - length xs ≡ suc n - length (x ∷ xs) = omega arith in
    ap (λ s. x ∷ s) (take-append n xs ys) ∙ ap (λ k. x ∷ (take n xs ++ take k ys)) left

-- nothing to append
pub filled-nil : {A : Type 0} (room : ℕ) (old : List A) → old ≡ filled room old []
filled-nil room old = sym (append-nil old) ∙ ap (λ s. old ++ s) (sym (take-nil (room - length old)))

-- no room
pub filled-full : {A : Type 0} (room : ℕ) (old new : List A) → length old ≡ room → old ≡ filled room old new
filled-full room old new e =
    let none : room - length old ≡ 0 = omega arith in
    sym (append-nil old) ∙ ap (λ n. old ++ take n new) (sym none)

-- one list after the other
pub filled-append : {A : Type 0} (room : ℕ) (old xs ys : List A) → filled room (filled room old xs) ys ≡ filled room old (xs ++ ys)
filled-append room old xs ys =
    append_assoc old (take (room - length old) xs) (take (room - length (filled room old xs)) ys)
    ∙ ap (λ s. old ++ s) (ap (λ n. take (room - length old) xs ++ take n ys) left ∙ sym (take-append (room - length old) xs ys))
  where
    left : room - length (old ++ take (room - length old) xs) ≡ (room - length old) - length xs
    left = omega (arith, length-append old (take (room - length old) xs), length-take (room - length old) xs)

pub filled-then : {A : Type 0} (room later : ℕ) (old mid new xs ys : List A) → later ≡ room → mid ≡ filled room old xs → new ≡ filled later mid ys → new ≡ filled room old (xs ++ ys)
filled-then room later old mid new xs ys same first then = then ∙ ap₂ (λ r m. filled r m ys) same first ∙ filled-append room old xs ys

-- into an empty one
pub filled-front : {A : Type 0} (room : ℕ) (new : List A) → filled room [] new ≡ take room new
filled-front room new = ap (λ n. take n new) (omega arith)

routed-own : {R : Type 0} (prefix : Network) (slot : Option (Option R)) (below : Slots R) → routed (own prefix slot below) ≡ option_to_list (routed_at prefix slot) ++ routed below
unfolding routed
routed-own prefix slot below = grind arith

pub all-routed : {R : Type 0} (t : Shape R) → all_routes t ≡ routed (slots_of t)
unfolding routed
all-routed Empty = refl
all-routed (Rooted prefix slot l r) =
    ap (λ s. option_to_list (routed_at prefix (slot_of slot)) ++ s) (ap₂ (λ x y. x ++ y) (all-routed l) (all-routed r) ∙ sym (routed-append (slots_of l) (slots_of r)))
    ∙ sym (routed-own prefix (slot_of slot) (slots_of l ++ slots_of r))

-- as many as the node has, and as its children have
pub count_rooted : {R : Type 0} (prefix : Network) (slot : KeySlot R) (l r : Shape R)
    → length (all_routes (Rooted prefix slot l r)) ≡ length (option_to_list (routed_at prefix (slot_of slot))) + (length (all_routes l) + length (all_routes r))
count_rooted prefix slot l r =
    length-append (option_to_list (routed_at prefix (slot_of slot))) (all_routes l ++ all_routes r)
    ∙ ap (λ n. length (option_to_list (routed_at prefix (slot_of slot))) + n) (length-append (all_routes l) (all_routes r))

-- ---- the first of them

first-list : {A : Type 0} (o : Option A) → o ≡ slice_get (option_to_list o) 0
first-list None = refl
first-list (Some x) = refl

-- the first of two walks behind one another
either-first : {A : Type 0} {x y : Option A} (xs ys : List A) → x ≡ slice_get xs 0 → y ≡ slice_get ys 0 → first_some x y ≡ slice_get (xs ++ ys) 0
either-first xs ys e f = ap₂ first_some e f ∙ sym (first-append xs ys)

first-all : {R : Type 0} (t : Shape R) → first t ≡ slice_get (all_routes t) 0
first-all Empty = refl
first-all (Rooted prefix slot l r) =
    either-first (option_to_list (routed_at prefix (slot_of slot))) (all_routes l ++ all_routes r) (first-list (routed_at prefix (slot_of slot))) (either-first (all_routes l) (all_routes r) (first-all l) (first-all r))

first_after-all : {R : Type 0} (t : Shape R) (low : Network) → first_after t low ≡ slice_get (all_after t low) 0
first_after-all Empty low = refl
first_after-all (Rooted prefix slot l r) low =
    let whole = first-all (Rooted prefix slot l r) in
    let here = either-first (all_routes l) (all_routes r) (first-all l) (first-all r) in
    let left = either-first (all_after l low) (all_routes r) (first_after-all l low) (first-all r) in
    let right = first_after-all r low in
    grind arith

-- a tree whose root isn't marked has none
pub unmarked-all : {K R : Type 0} (network : K → Network) (t : Tree K R) → HasCorrectMarks t → has_routes t ≡ false → all_routes (shape_of network t) ≡ []
unmarked-all network t marked e =
    none-above (all_routes (shape_of network t)) (sym (first-all (shape_of network t)) ∙ unmarked_first network t marked e)

-- those behind a prefix, by where it lies
pub first_after-turn : {R : Type 0} (prefix : Network) (slot : KeySlot R) (l r : Shape R) (low : Network) (t : Turn) → turn_of (way prefix) (way low) ≡ t
    → all_after (Rooted prefix slot l r) low ≡ select_by_turn t (cond (is_lt (network_cmp low prefix)) (all_routes (Rooted prefix slot l r)) []) (all_routes l ++ all_routes r) (all_after l low ++ all_routes r) (all_after r low)
first_after-turn prefix slot l r low t e =
    ap (λ k. select_by_turn k (cond (is_lt (network_cmp low prefix)) (all_routes (Rooted prefix slot l r)) []) (all_routes l ++ all_routes r) (all_after l low ++ all_routes r) (all_after r low)) e

above-append : {R : Type 0} (low : Network) (xs ys : Slots R) → above (Some low) (routed (xs ++ ys)) ≡ above (Some low) (routed xs) ++ above (Some low) (routed ys)
above-append low xs ys =
    ap (above (Some low)) (routed-append xs ys) ∙ filter-append (λ route. is_above (Some low) route.0) (routed xs) (routed ys)

-- the node itself isn't above
above-own : {R : Type 0} (low prefix : Network) (slot : Option (Option R)) (below : Slots R) → is_above (Some low) prefix ≡ false → above (Some low) (routed (own prefix slot below)) ≡ above (Some low) (routed below)
unfolding routed
above-own low prefix slot below e = grind arith

-- all routes of a tree on a side are above, where all that lies there is
all-above : {R : Type 0} (low : Network) (from : List Bool) (bit : Bool) (t : Shape R) → IsRadixTree t → RootIsOnSide from bit t → ((n : Network) → turn_of from (way n) ≡ side bit → below (way low) (way n) ≡ true) → all_routes t ≡ above (Some low) (routed (slots_of t))
all-above low from bit t shaped on holds =
    all-routed t ∙ sym (above-all low (slots_of t) (all-on (λ n. is_above (Some low) n ≡ true) from bit (λ n h. above-ways low n ∙ holds n h) t shaped on))

-- and none is, where none there is
none-above-side : {R : Type 0} (low : Network) (from : List Bool) (bit : Bool) (t : Shape R) → IsRadixTree t → RootIsOnSide from bit t → ((n : Network) → turn_of from (way n) ≡ side bit → below (way low) (way n) ≡ false) → [] ≡ above (Some low) (routed (slots_of t))
none-above-side low from bit t shaped on holds =
    sym (above-no low (slots_of t) (all-on (λ n. is_above (Some low) n ≡ false) from bit (λ n h. above-ways low n ∙ holds n h) t shaped on))

pub first_after-above : {R : Type 0} (t : Shape R) → IsRadixTree t → (low : Network) → all_after t low ≡ above (Some low) (routed (slots_of t))
unfolding routed
first_after-above Empty shaped low = refl
first_after-above {R} (Rooted prefix slot l r) shaped low = turns (turn_of (way prefix) (way low)) refl (first_after-above l shaped.2 low) (first_after-above r shaped.3 low)
  where
    whole : Shape R
    whole = Rooted prefix slot l r

    all_keys : (P : Network → Type 0) → P prefix → ((s : Bool) (n : Network) → turn_of (way prefix) (way n) ≡ side s → P n) → AllByRecursion P (keys_of (slots_of whole))
    all_keys P here holds =
        AllKeys-own P prefix (slot_of slot) (slots_of l ++ slots_of r) here
        (AllKeys-append P (slots_of l) (slots_of r) (all-on P (way prefix) false (holds false) l shaped.2 shaped.0.left) (all-on P (way prefix) true (holds true) r shaped.3 shaped.0.right))

    outside : (b : Bool) → is_lt (network_cmp low prefix) ≡ b → turn_of (way prefix) (way low) ≡ Outside → cond b (all_routes whole) [] ≡ above (Some low) (routed (slots_of whole))
    outside true e out =
        all-routed whole ∙ sym (above-all low (slots_of whole) (all_keys (λ n. is_above (Some low) n ≡ true) e
        (λ s n h. above-ways low n ∙ as_node (way prefix) (way low) (way n) out (not_out (way prefix) (way n) s h) ∙ sym (above-ways low prefix) ∙ e)))
    outside false e out =
        sym (above-no low (slots_of whole) (all_keys (λ n. is_above (Some low) n ≡ false) e
        (λ s n h. above-ways low n ∙ as_node (way prefix) (way low) (way n) out (not_out (way prefix) (way n) s h) ∙ sym (above-ways low prefix) ∙ e)))

    -- where the node isn't above, by what is on its sides
    sides : (xs ys : List (Network × R)) → is_above (Some low) prefix ≡ false → xs ≡ above (Some low) (routed (slots_of l)) → ys ≡ above (Some low) (routed (slots_of r)) → xs ++ ys ≡ above (Some low) (routed (slots_of whole))
    sides xs ys e f g = (λ i. f i ++ g i) ∙ sym (above-append low (slots_of l) (slots_of r)) ∙ sym (above-own low prefix (slot_of slot) (slots_of l ++ slots_of r) e)

    turns : (k : Turn) → turn_of (way prefix) (way low) ≡ k → all_after l low ≡ above (Some low) (routed (slots_of l)) → all_after r low ≡ above (Some low) (routed (slots_of r))
        → select_by_turn k (cond (is_lt (network_cmp low prefix)) (all_routes whole) []) (all_routes l ++ all_routes r) (all_after l low ++ all_routes r) (all_after r low) ≡ above (Some low) (routed (slots_of whole))
    turns Outside e f g = outside (is_lt (network_cmp low prefix)) refl e
    turns Here e f g =
        let same : way prefix ≡ way low = here_only (way prefix) (way low) e in
        let under = λ (s : Bool) (n : Network) (h : turn_of (way prefix) (way n) ≡ side s). ap (λ x. below x (way n)) (sym same) ∙ (node_first (way prefix) (way n) s h).0 in
        sides (all_routes l) (all_routes r) (above-ways low prefix ∙ ap (below (way low)) same ∙ not_itself (way low)) (all-above low (way prefix) false l shaped.2 shaped.0.left (under false)) (all-above low (way prefix) true r shaped.3 shaped.0.right (under true))
    turns Left e f g =
        sides (all_after l low) (all_routes r) (above-ways low prefix ∙ (node_first (way prefix) (way low) false e).1) f (all-above low (way prefix) true r shaped.3 shaped.0.right (λ n h. (left_first (way prefix) (way low) (way n) e h).0))
    turns Right e f g =
        sides [] (all_after r low) (above-ways low prefix ∙ (node_first (way prefix) (way low) true e).1)
        (none-above-side low (way prefix) false l shaped.2 shaped.0.left (λ n h. (left_first (way prefix) (way n) (way low) h e).1)) g

-- ---- those of both trees

pub all-trees : {R : Type 0} (trees : Trees R) → AreRadixTrees trees → all_routes trees.v4 ++ all_routes trees.v6 ≡ above None (entries_in trees)
all-trees f planted =
    (λ i. all-routed f.v4 i ++ all-routed f.v6 i)
    ∙ sym (routed-append (slots_of f.v4) (slots_of f.v6))
    ∙ routed-entries f planted
    ∙ sym (above-none (entries_in f))

-- above a prefix of IPv4 stand all of IPv6
pub above-v4 : {R : Type 0} (trees : Trees R) → AreRadixTrees trees → (low : Network) → low.family ≡ V4 → all_after trees.v4 low ++ all_routes trees.v6 ≡ above (Some low) (entries_in trees)
above-v4 f planted low e =
    (λ i. first_after-above f.v4 planted.v4 low i ++ all-above low [] true f.v6 planted.v6 planted.sides.right (λ n h. (left_first [] (way low) (way n) (first_side low V4 e) h).0) i)
    ∙ sym (above-append low (slots_of f.v4) (slots_of f.v6))
    ∙ ap (above (Some low)) (routed-entries f planted)

-- and above one of IPv6 none of IPv4
pub above-v6 : {R : Type 0} (trees : Trees R) → AreRadixTrees trees → (low : Network) → low.family ≡ V6 → all_after trees.v6 low ≡ above (Some low) (entries_in trees)
above-v6 f planted low e =
    (λ i. none-above-side low [] false f.v4 planted.v4 planted.sides.left (λ n h. (left_first [] (way n) (way low) h (first_side low V6 e)).1) i ++ first_after-above f.v6 planted.v6 low i)
    ∙ sym (above-append low (slots_of f.v4) (slots_of f.v6))
    ∙ ap (above (Some low)) (routed-entries f planted)

-- the first of these
pub after_none : {R : Type 0} (trees : Trees R) → AreRadixTrees trees → first_some (first trees.v4) (first trees.v6) ≡ slice_get (above None (entries_in trees)) 0
after_none f planted = either-first (all_routes f.v4) (all_routes f.v6) (first-all f.v4) (first-all f.v6) ∙ ap (λ routes. slice_get routes 0) (all-trees f planted)

pub after_v4 : {R : Type 0} (trees : Trees R) → AreRadixTrees trees → (low : Network) → low.family ≡ V4 → first_some (first_after trees.v4 low) (first trees.v6) ≡ slice_get (above (Some low) (entries_in trees)) 0
after_v4 f planted low e = either-first (all_after f.v4 low) (all_routes f.v6) (first_after-all f.v4 low) (first-all f.v6) ∙ ap (λ routes. slice_get routes 0) (above-v4 f planted low e)

pub after_v6 : {R : Type 0} (trees : Trees R) → AreRadixTrees trees → (low : Network) → low.family ≡ V6 → first_after trees.v6 low ≡ slice_get (above (Some low) (entries_in trees)) 0
after_v6 f planted low e = first_after-all f.v6 low ∙ ap (λ routes. slice_get routes 0) (above-v6 f planted low e)

-- a list that was cleared and then filled
pub filled_anew : {R : Type 0} (room : ℕ) (cleared new : Vec (Network × Bor R) Global) (xs : List (Network × R)) → vec_capacity cleared ≡ room → cleared.items ≡ []
    → dereferenced new.items ≡ filled (vec_capacity cleared) (dereferenced cleared.items) xs → dereferenced new.items ≡ take room xs
filled_anew room cleared new xs same none found = found ∙ ap₂ (λ r items. filled r (dereferenced items) xs) same none ∙ filled-front room xs

-- and with more
pub filled_twice : {R : Type 0} (room : ℕ) (cleared mid new : Vec (Network × Bor R) Global) (xs ys : List (Network × R)) → vec_capacity cleared ≡ room → cleared.items ≡ []
    → vec_capacity mid ≡ vec_capacity cleared → dereferenced mid.items ≡ filled (vec_capacity cleared) (dereferenced cleared.items) xs
    → dereferenced new.items ≡ filled (vec_capacity mid) (dereferenced mid.items) ys → dereferenced new.items ≡ take room (xs ++ ys)
filled_twice room cleared mid new xs ys same none still found more =
    filled_anew room cleared new (xs ++ ys) same none
    (filled-then (vec_capacity cleared) (vec_capacity mid) (dereferenced cleared.items) (dereferenced mid.items) (dereferenced new.items) xs ys still found more)
