-- Private.
-- A sparse set of numbers as contracts see it.
use Rattle.std.specs.Prelude.{◌<◌, Bool, nat_lt, List, map, vec_len, vec_capacity}
use Rattle.rib_player.specs.declared.sparse_set.SparseSet.{SparseSet}

-- for each number below the bound of a sparse set, in order, whether it is a member
abbrev pub choices : SparseSet → List Bool
choices c = map (λ place. nat_lt place c.count) c.places.items

-- there is capacity for one more number
pub record HasRoom (c : SparseSet) : Type 0 where
  pub numbers : vec_len c.numbers < vec_capacity c.numbers
  pub places : vec_len c.places < vec_capacity c.places
