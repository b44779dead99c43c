-- Private.
-- The slots of the table of routes, and the tags of slots.
use Rattle.std.specs.Prelude.{◌≡◌, ℕ, Bool, true, false, nat_lt, List, map}
use Rattle.known_routes.specs.declared.slot.Slot.{Slot}
use Rattle.known_routes.specs.declared.slot.Slot.TheVariants.{Free, Taken}

-- whether the slot has a route
abbrev pub is_taken : Slot → Bool
is_taken Free = false
is_taken (Taken hash route) = true

-- whether the tag is one of a slot with a route: every number but 0, which is the tag of a free
-- slot
abbrev pub is_tagged : ℕ → Bool
is_tagged tag = nat_lt 0 tag

-- the lists are equally long, and the slot at each index has a route exactly if the tag at this
-- index isn't 0, the tag of a free slot
abbrev pub AreTagged : List Slot → List ℕ → Type 0
AreTagged slots tags = map is_taken slots ≡ map is_tagged tags
