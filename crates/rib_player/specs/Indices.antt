-- Private.
-- Lists of numbers that are inverse to each other, and lists in which elements are set, swapped or removed.
use Rattle.std.specs.Prelude.{◌≡◌, ◌≢◌, ℕ, ◌+◌, ◌<◌, Bool, true, if◌then◌else◌, ◌==◌, List, Some, slice_get, length}
use Rattle.std.specs.List.{Contains}

-- if `xs` has `j` at the index `i`, then `ys` has `i` at the index `j`
abbrev pub PointsBack : List ℕ → List ℕ → Type 0
PointsBack xs ys = (i j : ℕ) → slice_get xs i ≡ Some j → slice_get ys j ≡ Some i

-- two lists of one length are inverse to each other as functions from indices to elements
pub record AreInverse (xs ys : List ℕ) : Type 0 where
  pub there : PointsBack xs ys
  pub back : PointsBack ys xs
  pub even : length xs ≡ length ys

-- the index of an element after those at the indices `one` and `other` were swapped, given its index before
abbrev pub swapped_index : ℕ → ℕ → ℕ → ℕ
swapped_index one other n = if n == one then other else (if n == other then one else n)

-- two lists agree but at the index `i`, at which the new one has `x`
pub record IsSetAt {X : Type 0} (old new : List X) (i : ℕ) (x : X) : Type 0 where
  pub here : slice_get new i ≡ Some x
  pub others : (j : ℕ) → j ≢ i → slice_get new j ≡ slice_get old j
  pub len : length new ≡ length old

-- the new list is the old one after the element at an index was removed and the last one took its place
pub record IsSwapRemoved {X : Type 0} (old new : List X) (i : ℕ) : Type 0 where
  pub len : length new + 1 ≡ length old
  pub last : i < length new → slice_get new i ≡ slice_get old (length new)
  pub others : (j : ℕ) → j ≢ i → j < length new → slice_get new j ≡ slice_get old j

-- `numbers` contains each index at which `choices` has `true`
abbrev pub ContainsEachChosen : List Bool → List ℕ → Type 0
ContainsEachChosen choices numbers = (n : ℕ) → slice_get choices n ≡ Some true → Contains numbers n
