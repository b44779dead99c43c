-- What look-ups and walks of a store return.
use Rattle.std.specs.Prelude.{◌≡◌, ◌≤◌, Bool, true, List, map, Option, Some, None, length, is_some, filter}
use Rattle.std.specs.declared.cmp.Ordering.{Ordering}
use Rattle.std.specs.Borrow.{Bor}
use Rattle.std.specs.FinMap.{get}
use Rattle.std.specs.Ordering.{is_lt}
use Rattle.ip_prefix.specs.Network.{Network, contains, Address, network_cmp}
use Rattle.prefix_store.specs.Stored.{Routes}

-- the last argument is the longest match of the address, where `route` gives the route, if any, at
-- each prefix: `Some (n, r)` if the prefix n contains the address, has the route r, and no
-- prefix that is longer and has a route contains it; `None` if no prefix with a route contains it
abbrev pub IsLongestMatchOf : {R : Type 0} → (Network → Option R) → Address → Option (Network × R) → Type 0
IsLongestMatchOf route address None = (n : Network) → contains n address ≡ true → route n ≡ None
IsLongestMatchOf route address (Some found) =
    (contains found.0 address ≡ true)
    × (route found.0 ≡ Some found.1)
    × ((n : Network) → contains n address ≡ true → is_some (route n) ≡ true → length n.bits ≤ length found.0.bits)

-- the last argument is the longest match of the address in the map: `Some (n, r)` if n is the
-- longest of the prefixes that have a route in the map and contain the address, and r is its route;
-- `None` if there is no such prefix
abbrev pub IsLongestMatch : {R : Type 0} → Routes R → Address → Option (Network × R) → Type 0
IsLongestMatch routes = IsLongestMatchOf (get routes)

-- whether the key is greater than the bound, by the comparison cmp; true if the bound is `None`
abbrev pub is_above_bound : {K : Type 0} → (K → K → Ordering) → Option K → K → Bool
is_above_bound cmp None key = true
is_above_bound cmp (Some low) key = is_lt (cmp low key)

-- whether the prefix is greater than the bound, in the order of prefixes; true if the bound is
-- `None`
abbrev pub is_above : Option Network → Network → Bool
is_above = is_above_bound network_cmp

-- the entries of the list whose prefix is greater than the bound, in the order of the list; all if
-- the bound is `None`
abbrev pub above : {R : Type 0} → Option Network → List (Network × R) → List (Network × R)
above low routes = filter (λ route. is_above low route.0) routes

-- the entries with each reference to a route replaced by the route that it points to
abbrev pub dereferenced : {R : Type 0} → List (Network × Bor R) → List (Network × R)
dereferenced found = map (λ p. (p.0, p.1.now)) found
