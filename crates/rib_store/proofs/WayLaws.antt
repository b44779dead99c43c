-- Ways and their turns.
use Rattle.std.proofs.Common.{◌≡◌, ◌+◌, ◌<◌, Bool, true, false, not, List, [], ◌∷◌, ◌++◌, length, length-append, subst, ◌⊎◌, inl, inr, refl, sym, arith, is_lt}
use Rattle.ip_prefix.specs.declared.turn.Turn.TheVariants.{Outside, Here, Left, Right}
use Rattle.ip_prefix.specs.declared.addr.Family.{Family}
use Rattle.ip_prefix.specs.Network.{Network, begin_with, bits_cmp}
use Rattle.ip_prefix.specs.Turns.{family_bit, way, turn_of, shared, side}
use Rattle.ip_prefix.proofs.Turns.{here_from, here_only}
use Rattle.rib_store.specs.Tree.{same_way}

-- two ways are one where the turn says so
pub same_is : (a b : List Bool) → same_way a b ≡ true → a ≡ b
same_is a b e = here_only a b (grind arith)

-- ---- what a way begins with

-- what lies on a side of a way goes on by its bit
on_side : (b x : List Bool) (s : Bool) → turn_of b x ≡ side s → (rest : List Bool) × (x ≡ b ++ s ∷ rest)
on_side [] [] s e = absurd (grind arith)
on_side [] (y ∷ x) s e = (x, grind arith)
on_side (y ∷ b) [] s e = absurd (grind arith)
on_side (y ∷ b) (z ∷ x) s e = let o = on_side b x s (grind arith) in (o.0, grind arith)

-- so what holds of all that go on so holds of it
by_side : (P : List Bool → Type 0) (b x : List Bool) (s : Bool) → turn_of b x ≡ side s → ((rest : List Bool) → P (b ++ s ∷ rest)) → P x
by_side P b x s e all = let o = on_side b x s e in subst P (sym o.1) (all o.0)

-- what isn't outside of a way goes on from it
inside : (b x : List Bool) → (turn_of b x ≡ Outside → ⊥) → (rest : List Bool) × (x ≡ b ++ rest)
inside [] x h = (x, refl)
inside (y ∷ b) [] h = absurd (h refl)
inside (y ∷ b) (z ∷ x) h = let o = inside b x (λ e. h (grind arith)) in (o.0, grind arith)

by_inside : (P : List Bool → Type 0) (b x : List Bool) → (turn_of b x ≡ Outside → ⊥) → ((rest : List Bool) → P (b ++ rest)) → P x
by_inside P b x h all = let o = inside b x h in subst P (sym o.1) (all o.0)

-- ---- turns from one way and from another

-- what doesn't lie on a node's side is outside what lies there
pub beyond : (b x q : List Bool) (bit : Bool) → turn_of b x ≡ side bit → (turn_of x q ≡ Outside) ⊎ (turn_of b q ≡ side bit)
beyond b x q bit e = by_side (λ x. (turn_of x q ≡ Outside) ⊎ (turn_of b q ≡ side bit)) b x bit e (go b q bit)
  where
    go : (b q : List Bool) (bit : Bool) (rest : List Bool) → (turn_of (b ++ bit ∷ rest) q ≡ Outside) ⊎ (turn_of b q ≡ side bit)
    go [] [] bit rest = inl refl
    go [] (true ∷ q) true rest = inr refl
    go [] (true ∷ q) false rest = inl refl
    go [] (false ∷ q) true rest = inl refl
    go [] (false ∷ q) false rest = inr refl
    go (y ∷ b) [] bit rest = inl refl
    go (true ∷ b) (true ∷ q) bit rest = go b q bit rest
    go (true ∷ b) (false ∷ q) bit rest = inl refl
    go (false ∷ b) (true ∷ q) bit rest = inl refl
    go (false ∷ b) (false ∷ q) bit rest = go b q bit rest

-- what lies below a node on a side lies there with the node
pub turn_through : (a b c : List Bool) (s t : Bool) → turn_of a b ≡ side s → turn_of b c ≡ side t → turn_of a c ≡ side s
turn_through a b c s t e h = elim (beyond a b c s e) [ inl out ↦ grind arith | inr there ↦ there ]

-- two on one side share bits there
pub turn_shared : (a b c : List Bool) (s : Bool) → turn_of a b ≡ side s → turn_of a c ≡ side s → turn_of a (shared b c) ≡ side s
turn_shared a b c s e h =
    by_side (λ b. turn_of a (shared b c) ≡ side s) a b s e
    (λ x. by_side (λ c. turn_of a (shared (a ++ s ∷ x) c) ≡ side s) a c s h (λ y. go a s x y))
  where
    go : (a : List Bool) (s : Bool) (x y : List Bool) → turn_of a (shared (a ++ s ∷ x) (a ++ s ∷ y)) ≡ side s
    go [] s x y = grind arith
    go (bit ∷ a) s x y = grind (arith, go a s x y)

-- a key that begins with the bits shares all of them
pub shared_inside : (b k : List Bool) → (turn_of b k ≡ Outside → ⊥) → shared b k ≡ b
shared_inside b k h = by_inside (λ k. shared b k ≡ b) b k h (go b)
  where
    go : (b rest : List Bool) → shared b (b ++ rest) ≡ b
    go [] rest = refl
    go (bit ∷ b) rest = grind (arith, go b rest)

-- bits and a key outside of them part behind what they share
pub record Parts (b k : List Bool) : Type 0 where
  pub bit : Bool
  pub below : turn_of (shared b k) b ≡ side bit
  pub key : (turn_of (shared b k) k ≡ Here) ⊎ (turn_of (shared b k) k ≡ side (not bit))

pub parts : (b k : List Bool) → turn_of b k ≡ Outside → Parts b k
parts [] [] e = cc
parts [] (bit ∷ k) e = absurd (grind arith)
parts (bit ∷ b) [] e = record { bit = bit; below = grind arith; key = inl refl }
parts (true ∷ b) (true ∷ k) e = let p = parts b k e in record { bit = p.bit; below = p.below; key = p.key }
parts (true ∷ b) (false ∷ k) e = record { bit = true; below = refl; key = inr refl }
parts (false ∷ b) (true ∷ k) e = record { bit = false; below = refl; key = inr refl }
parts (false ∷ b) (false ∷ k) e = let p = parts b k e in record { bit = p.bit; below = p.below; key = p.key }

-- ---- seen from another way

pub outside_across : (b q k : List Bool) (s t : Bool) → turn_of b q ≡ side s → turn_of b k ≡ side t → s ≡ not t → turn_of q k ≡ Outside
outside_across b q k s t e h d = elim (beyond b q k s e) [ inl out ↦ out | inr there ↦ grind arith ]

pub outside_above : (b q : List Bool) (s : Bool) → turn_of b q ≡ side s → turn_of q b ≡ Outside
outside_above b q s e = elim (beyond b q b s e) [ inl out ↦ out | inr there ↦ let itself = here_from b in grind arith ]

-- what parts from the bits parts from all below them
pub outside_below : (q b k : List Bool) (s : Bool) → turn_of q b ≡ Outside → turn_of b q ≡ Outside → turn_of b k ≡ side s → turn_of q k ≡ Outside
outside_below q b k s e h there = by_side (λ k. turn_of q k ≡ Outside) b k s there (λ rest. go q b (s ∷ rest) e h)
  where
    go : (q b rest : List Bool) → turn_of q b ≡ Outside → turn_of b q ≡ Outside → turn_of q (b ++ rest) ≡ Outside
    go [] [] rest e h = cc
    go [] (y ∷ b) rest e h = grind arith
    go (x ∷ q) [] rest e h = grind arith
    go (x ∷ q) (y ∷ b) rest e h = grind (arith, go q b rest)

-- ---- ways that begin with others

-- what begins with the bits isn't begun by a key outside of them
pub begin_outside : (b q key : List Bool) → turn_of b key ≡ Outside → (turn_of b q ≡ Outside → ⊥) → begin_with q key ≡ false
begin_outside b q key e h = by_inside (λ q. begin_with q key ≡ false) b q h (go b key e)
  where
    go : (b key : List Bool) → turn_of b key ≡ Outside → (rest : List Bool) → begin_with (b ++ rest) key ≡ false
    go [] [] e rest = cc
    go [] (y ∷ key) e rest = grind arith
    go (x ∷ b) [] e rest = refl
    go (x ∷ b) (y ∷ key) e rest = let later : turn_of b key ≡ Outside → begin_with (b ++ rest) key ≡ false = λ out. go b key out rest in grind arith

-- nor is what lies on a side by a key that isn't there
pub begin_side : (b q key : List Bool) (s : Bool) → turn_of b q ≡ side s → (turn_of b key ≡ side s → ⊥) → begin_with q key ≡ false
begin_side b q key s e h = by_side (λ q. begin_with q key ≡ false) b q s e (go b key s h)
  where
    go : (b key : List Bool) (s : Bool) → (turn_of b key ≡ side s → ⊥) → (rest : List Bool) → begin_with (b ++ s ∷ rest) key ≡ false
    go [] [] s h rest = refl
    go [] (y ∷ key) s h rest = grind arith
    go (x ∷ b) [] s h rest = refl
    go (x ∷ b) (y ∷ key) s h rest = let later : (turn_of b key ≡ side s → ⊥) → begin_with (b ++ s ∷ rest) key ≡ false = λ away. go b key s away rest in grind arith

-- a key begins with the bits that it isn't outside of
pub begin_in : (b key : List Bool) → (turn_of b key ≡ Outside → ⊥) → begin_with b key ≡ true
begin_in b key h = by_inside (λ key. begin_with b key ≡ true) b key h (go b)
  where
    go : (b rest : List Bool) → begin_with b (b ++ rest) ≡ true
    go [] rest = refl
    go (bit ∷ b) rest = grind (arith, go b rest)

-- what lies on a side is longer
pub turn_longer : (b k : List Bool) (bit : Bool) → turn_of b k ≡ side bit → length b < length k
turn_longer b k bit e = by_side (λ k. length b < length k) b k bit e (λ rest. omega (arith, length-append b (bit ∷ rest)))

-- ---- the order

abbrev pub below : List Bool → List Bool → Bool
below x y = is_lt (bits_cmp x y)

pub not_itself : (x : List Bool) → below x x ≡ false
not_itself [] = refl
not_itself (bit ∷ x) = grind (arith, not_itself x)

-- a node is before what lies below it
pub node_first : (b x : List Bool) (s : Bool) → turn_of b x ≡ side s → (below b x ≡ true) × (below x b ≡ false)
node_first b x s e = by_side (λ x. (below b x ≡ true) × (below x b ≡ false)) b x s e (go b)
  where
    go : (b rest : List Bool) → (below b (b ++ s ∷ rest) ≡ true) × (below (b ++ s ∷ rest) b ≡ false)
    go [] rest = (refl, refl)
    go (bit ∷ b) rest = let later = go b rest in (grind arith, grind arith)

-- the left side is before the right one
pub left_first : (b x y : List Bool) → turn_of b x ≡ Left → turn_of b y ≡ Right → (below x y ≡ true) × (below y x ≡ false)
left_first b x y e f =
    by_side (λ x. (below x y ≡ true) × (below y x ≡ false)) b x false e
    (λ left. by_side (λ y. (below (b ++ false ∷ left) y ≡ true) × (below y (b ++ false ∷ left) ≡ false)) b y true f (go b left))
  where
    go : (b left right : List Bool) → (below (b ++ false ∷ left) (b ++ true ∷ right) ≡ true) × (below (b ++ true ∷ right) (b ++ false ∷ left) ≡ false)
    go [] left right = (refl, refl)
    go (bit ∷ b) left right = let later = go b left right in (grind arith, grind arith)

-- a key outside of a node stands to all below it as to the node
pub as_node : (b key x : List Bool) → turn_of b key ≡ Outside → (turn_of b x ≡ Outside → ⊥) → below key x ≡ below key b
as_node b key x e h = by_inside (λ x. below key x ≡ below key b) b x h (go b key e)
  where
    go : (b key : List Bool) → turn_of b key ≡ Outside → (rest : List Bool) → below key (b ++ rest) ≡ below key b
    go [] [] e rest = cc
    go [] (bit ∷ key) e rest = grind arith
    go (y ∷ b) [] e rest = refl
    go (y ∷ b) (bit ∷ key) e rest = let later : turn_of b key ≡ Outside → below key (b ++ rest) ≡ below key b = λ out. go b key out rest in grind arith

-- ---- the ways of prefixes

-- two of one family share what their ways share
pub way-shared : (m n : Network) → m.family ≡ n.family → way record { family = m.family; bits = shared m.bits n.bits } ≡ shared (way m) (way n)
unfolding way
way-shared m n e = grind arith

-- the first turn tells the family
pub family_of : (n : Network) (family : Family) → turn_of [] (way n) ≡ side (family_bit family) → n.family ≡ family
unfolding way
family_of n family e = grind arith

pub first_turn : (n : Network) → turn_of [] (way n) ≡ side (family_bit n.family)
unfolding way
first_turn n = grind arith

-- a way is as long as the prefix and one turn more
pub length-way : (n : Network) → length (way n) ≡ length n.bits + 1
unfolding way
length-way n = omega arith
