-- Private.
-- A multiset of keys as contracts see it: the count of each key.
use Rattle.std.specs.Prelude.{◌≡◌, ℕ, ◌<◌, List, [], ◌∷◌, length, get_or, take, true, unwrap_or, None}
use Rattle.std.specs.declared.cmp.Ordering.{Ordering}
use Rattle.std.specs.Map.{lookup}
use Rattle.std.specs.BTreeMap as tree
use Rattle.rib_player.specs.declared.key_counts.KeyCounts.{KeyCounts}
use Rattle.rib_player.specs.declared.key_counts.KeyCounts.TheVariants as few

-- the count of a key in a list of keys with counts, of which the first with an equal key counts; 0 if there
-- is none
abbrev pub count_in : {K : Type 0} → (K → K → Ordering) → List (K × ℕ) → K → ℕ
count_in cmp entries key = unwrap_or (lookup (tree.is_at (cmp key)) entries) 0

-- the keys and their counts as a list
abbrev pub entries_of : {K : Type 0} → KeyCounts K → List (K × ℕ)
entries_of few.None = []
entries_of (few.One key count) = (key, count) ∷ []
entries_of (few.Few counts) = counts.items
entries_of (few.Many counts) = counts.entries

-- the count of a key, 0 if it isn't counted
abbrev pub count_at : {K : Type 0} → (K → K → Ordering) → KeyCounts K → K → ℕ
count_at cmp counts = count_in cmp (entries_of counts)

-- the first entry whose key is equal to this one is at this index
pub record IsFirst {K : Type 0} (cmp : K → K → Ordering) (key : K) (entries : List (K × ℕ)) (place : ℕ) : Type 0 where
  pub within : place < length entries
  pub first : lookup (tree.is_at (cmp key)) (take place entries) ≡ None
  pub ties : (default : K × ℕ) → tree.is_at (cmp key) (get_or entries place default).0 ≡ true
