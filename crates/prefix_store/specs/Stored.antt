-- The contents of a store: a set of prefixes, the keys, and a map of routes at some of them.
use Rattle.std.specs.Prelude.{◌≡◌, ℕ, min, false, Option, Some, None}
use Rattle.std.specs.declared.cmp.Ordering.{Ordering}
use Rattle.std.specs.FinMap.{FinMap, get, insert, remove}
use Rattle.std.specs.FinSet.{FinSet, contains}
use Rattle.ip_prefix.specs.Network.{network_cmp}
use Rattle.prefix_store.specs.declared.store.TheConstants.{GREATEST_COUNT}

-- a finite set of prefixes: the keys of a store, at each of which it has memory for a route
abbrev pub Keys : Type 0
Keys = FinSet network_cmp

-- a finite map from prefixes to values of R: the routes of a store, at most one at each prefix
abbrev pub Routes : Type 0 → Type 0
Routes R = FinMap network_cmp R

-- the map has values at elements of the set only, as the routes of a store at its keys
abbrev pub ContainsDomain : {K R : Type 0} {cmp : K → K → Ordering} → FinSet cmp → FinMap cmp R → Type 0
ContainsDomain {K} keys routes = (key : K) → contains keys key ≡ false → get routes key ≡ None

-- the map after `None` removes the key, or `Some new` sets its value to new; all other keys keep
-- their values
abbrev pub put : {K R : Type 0} {cmp : K → K → Ordering} → FinMap cmp R → K → Option R → FinMap cmp R
put values key None = remove values key
put values key (Some new) = insert values key new

-- what a method that counts `size` things returns: `size`, or GREATEST_COUNT (`u64::MAX`) if there
-- are more
abbrev pub saturated_count : ℕ → ℕ
saturated_count size = min size GREATEST_COUNT
