-- Parts of trees: what stands at their ways, and on which side.
use Rattle.std.proofs.Common.{◌≡◌, ◌≢◌, Bool, true, false, cond, Option, Some, None, List, [], inl, inr, refl, ap, sym, subst, ◌∙◌, arith}
use Rattle.std.specs.Prelude.{IfSome, IsSome}
use Rattle.ip_prefix.specs.declared.turn.Turn.{Turn}
use Rattle.ip_prefix.specs.declared.turn.Turn.TheVariants.{Outside, Left, Right}
use Rattle.ip_prefix.specs.declared.addr.Family.{Family}
use Rattle.ip_prefix.specs.Network.{Network}
use Rattle.ip_prefix.specs.Turns.{way, turn_of, family_bit, side}
use Rattle.rib_store.specs.declared.tree.KeySlot.{KeySlot}
use Rattle.rib_store.specs.Tree.{Shape, Empty, Rooted, at, slot_of, select_by_turn, root, AreSides, IsOfFamily, IsOnFamilySide, RootIsOnSide, IsRooted, IsRadixTree, IsKeyOrFork}
use Rattle.rib_store.proofs.WayLaws.{beyond, turn_through, family_of}

pub chosen_same : {A : Type 0} (t : Turn) (x : A) → x ≡ select_by_turn t x x x x
chosen_same t x = grind arith

-- what a tree on a side of a way has, it has there alone
pub there_alone : {A : Type 0} (none : A) (b x q : List Bool) (bit : Bool) (found : A) → turn_of b x ≡ side bit → (turn_of x q ≡ Outside → found ≡ none)
    → found ≡ select_by_turn (turn_of b q) none none (cond bit none found) (cond bit found none)
there_alone none b x q bit found on away =
    elim (beyond b x q bit on) [
      | inl out ↦ let none_there = away out in grind arith
      | inr there ↦ grind arith
    ]

-- so its keys on the left
pub at_left : {R : Type 0} (b : List Bool) (t : Shape R) → RootIsOnSide b false t → (q : List Bool) → at t q ≡ select_by_turn (turn_of b q) None None (at t q) None
at_left b Empty on q = chosen_same (turn_of b q) None
at_left b (Rooted prefix slot l r) on q = there_alone None b (way prefix) q false _ on (λ out. ap (λ t. select_by_turn t None (slot_of slot) (at l q) (at r q)) out)

-- and on the right
pub at_right : {R : Type 0} (b : List Bool) (t : Shape R) → RootIsOnSide b true t → (q : List Bool) → at t q ≡ select_by_turn (turn_of b q) None None None (at t q)
at_right b Empty on q = chosen_same (turn_of b q) None
at_right b (Rooted prefix slot l r) on q = there_alone None b (way prefix) q true _ on (λ out. ap (λ t. select_by_turn t None (slot_of slot) (at l q) (at r q)) out)

-- what a tree has at a key is what it has on the side where the key lies, if it lies below the root
pub at_left_under : {R : Type 0} (prefix : Network) (slot : KeySlot R) (l r : Shape R) (q : List Bool) → IsRadixTree (Rooted prefix slot l r)
    → (turn_of (way prefix) q ≢ Outside → Left ≡ turn_of (way prefix) q) → at (Rooted prefix slot l r) q ≡ at l q
at_left_under prefix slot l r q shaped under =
    let there = at_left (way prefix) l shaped.0.left q in grind arith

pub at_right_under : {R : Type 0} (prefix : Network) (slot : KeySlot R) (l r : Shape R) (q : List Bool) → IsRadixTree (Rooted prefix slot l r)
    → (turn_of (way prefix) q ≢ Outside → Right ≡ turn_of (way prefix) q) → at (Rooted prefix slot l r) q ≡ at r q
at_right_under prefix slot l r q shaped under =
    let there = at_right (way prefix) r shaped.0.right q in grind arith

-- what lies below a node lies where the node does
pub on_below : {R : Type 0} (child : Shape R) (bits b : List Bool) (bit s : Bool) → turn_of bits b ≡ side bit → RootIsOnSide b s child → RootIsOnSide bits bit child
on_below Empty bits b bit s there on = tt
on_below (Rooted prefix slot l r) bits b bit s there on = turn_through bits b (way prefix) bit s there on

-- a tree that is a node holds what the node and its children do
pub at_rooted : {R : Type 0} (t : Shape R) (prefix : Network) (slot : Option (Option R)) (l r : Shape R) → IsRooted prefix slot l r t
    → (q : List Bool) → at t q ≡ select_by_turn (turn_of (way prefix) q) None slot (at l q) (at r q)
at_rooted Empty prefix slot l r is q = absurd is
at_rooted (Rooted prefix' slot' l' r') prefix slot l r is q =
    λ i. select_by_turn (turn_of (way (is.0 i)) q) None (is.3 i) (at (is.1 i) q) (at (is.2 i) q)

-- ---- by the root and what lies below it

abbrev pub ShapedParts : {R : Type 0} → Network → Option (Option R) → Shape R → Shape R → Type 0
ShapedParts prefix slot l r = AreSides (way prefix) l r × IsKeyOrFork slot l r × IsRadixTree l × IsRadixTree r

pub shaped_rooted : {R : Type 0} (t : Shape R) (prefix : Network) (slot : Option (Option R)) (l r : Shape R) → IsRooted prefix slot l r t
    → ShapedParts prefix slot l r → IsRadixTree t
shaped_rooted Empty prefix slot l r is h = absurd is
shaped_rooted {R} (Rooted prefix' slot' l' r') prefix slot l r is h =
    subst (λ (x : Network × Shape R × Shape R × Option (Option R)). ShapedParts x.0 x.3 x.1 x.2) (λ i. (sym is.0 i, sym is.1 i, sym is.2 i, sym is.3 i)) h

pub rooted_shaped : {R : Type 0} (t : Shape R) (prefix : Network) (slot : Option (Option R)) (l r : Shape R) → IsRooted prefix slot l r t
    → IsRadixTree t → ShapedParts prefix slot l r
rooted_shaped Empty prefix slot l r is h = absurd is
rooted_shaped {R} (Rooted prefix' slot' l' r') prefix slot l r is h =
    subst (λ (x : Network × Shape R × Shape R × Option (Option R)). ShapedParts x.0 x.3 x.1 x.2) (λ i. (is.0 i, is.1 i, is.2 i, is.3 i)) h

pub root_rooted : {R : Type 0} (t : Shape R) (prefix : Network) (slot : Option (Option R)) (l r : Shape R) → IsRooted prefix slot l r t → root t ≡ Some (way prefix)
root_rooted Empty prefix slot l r is = absurd is
root_rooted (Rooted prefix' slot' l' r') prefix slot l r is = ap (λ (n : Network). Some (way n)) is.0

pub some_is : {A : Type 0} (o : Option A) (x : A) → o ≡ Some x → IsSome o
some_is None x e = cc
some_is (Some y) x e = refl

-- a tree with a known root lies on a side
pub on_side : {R : Type 0} (t : Shape R) (b x : List Bool) (bit : Bool) → root t ≡ Some x → turn_of b x ≡ side bit → RootIsOnSide b bit t
on_side Empty b x bit e h = tt
on_side (Rooted prefix slot l r) b x bit e h = let same : way prefix ≡ x = cc in ap (turn_of b) same ∙ h

-- so does another with its root
pub on_same : {R : Type 0} (old new : Shape R) (from : List Bool) (bit : Bool) → root new ≡ root old → RootIsOnSide from bit old → RootIsOnSide from bit new
on_same old new from bit same on = subst (λ to. IfSome to (λ way. turn_of from way ≡ side bit)) (sym same) on

-- all nodes of a tree on a family's side are of the family
pub are_of : {R : Type 0} (family : Family) (tree : Shape R) → IsRadixTree tree → IsOnFamilySide family tree → IsOfFamily family tree
are_of family Empty shaped of = tt
are_of family (Rooted prefix slot l r) shaped of = (
  family_of prefix family of,
  are_of family l shaped.2 (on_below l [] (way prefix) (family_bit family) false of shaped.0.left),
  are_of family r shaped.3 (on_below r [] (way prefix) (family_bit family) true of shaped.0.right),
)
