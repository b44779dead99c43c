-- Private.
-- The AS numbers of a segment, wherever they are in memory.
use Rattle.std.specs.Prelude.{◌≡◌, ℕ, ◌≤◌, List, length, take}
use Rattle.bgp_paths.specs.declared.as_numbers.HeldNumbers.{HeldNumbers}
use Rattle.bgp_paths.specs.declared.as_numbers.HeldNumbers.TheVariants.{Few, Listed}
use Rattle.bgp_paths.specs.declared.as_numbers.TheConstants.{MOST_IN_PLACE}

-- the AS numbers of a segment, in order: the first `count` of the array, or all of the vector, whichever
-- holds them
abbrev pub held_numbers : HeldNumbers → List ℕ
held_numbers (Few count places) = take count places
held_numbers (Listed numbers) = numbers.items

-- AS numbers held in an array are at most 7, the array's length (`MOST_IN_PLACE`); of those in a vector this
-- holds always
abbrev pub FitsArray : HeldNumbers → Type 0
FitsArray (Few count places) = (count ≤ MOST_IN_PLACE) × (length places ≡ MOST_IN_PLACE)
FitsArray (Listed numbers) = Unit {0}
