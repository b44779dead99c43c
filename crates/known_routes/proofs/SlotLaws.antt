-- How many of the places are taken, and their tags.
use Rattle.std.proofs.Common.{count_by, ◌≡◌, ℕ, ◌+◌, ◌<◌, Bool, true, false, cond, List, set, get_or, length, sym, ap, ap₂, ◌∙◌, arith}
use Rattle.std.proofs.lemmas.List.{length-map, map-set, get_or-map}
use Rattle.std.proofs.lemmas.List.Sums.{sum_by-set}
use Rattle.known_routes.specs.declared.slot.Slot.{Slot}
use Rattle.known_routes.specs.InternTable.{is_taken, is_tagged, AreTagged}

-- there are as many tags
pub tags-many : (slots : List Slot) (tags : List ℕ) → AreTagged slots tags → length tags ≡ length slots
tags-many slots tags tagged = sym (length-map tags is_tagged) ∙ ap length (sym tagged) ∙ length-map slots is_taken

-- a place changes with its tag
pub tagged-set : (slots : List Slot) (tags : List ℕ) (i : ℕ) (slot : Slot) (tag : ℕ) → AreTagged slots tags → is_taken slot ≡ is_tagged tag → AreTagged (set slots i slot) (set tags i tag)
tagged-set slots tags i slot tag tagged same = map-set is_taken slots i slot ∙ ap₂ (λ bs b. set bs i b) tagged same ∙ sym (map-set is_tagged tags i tag)

-- whether a route stands at a place, by its tag
pub taken_at : (slots : List Slot) (tags : List ℕ) (i : ℕ) (slot : Slot) (tag : ℕ) → i < length tags → AreTagged slots tags → is_taken (get_or slots i slot) ≡ is_tagged (get_or tags i tag)
taken_at slots tags i slot tag within tagged =
    sym (get_or-map is_taken slots i slot false (omega (arith, within, tags-many slots tags tagged)))
    ∙ ap (λ bs. get_or bs i false) tagged
    ∙ get_or-map is_tagged tags i tag false within

abbrev one : Bool → ℕ
one b = cond b 1 0

-- a place that was free is taken, one that was taken still is
pub taken-put : (slots : List Slot) (tags : List ℕ) (i : ℕ) (slot : Slot) (tag : ℕ) → i < length tags → AreTagged slots tags → is_taken slot ≡ true
    → count_by is_taken (set slots i slot) + one (is_tagged (get_or tags i tag)) ≡ count_by is_taken slots + 1
taken-put slots tags i slot tag within tagged takes =
    ap (λ b. count_by is_taken (set slots i slot) + one b) (sym (taken_at slots tags i slot tag within tagged))
    ∙ sum_by-set (λ x. one (is_taken x)) slots i slot slot (omega (arith, within, tags-many slots tags tagged))
    ∙ ap (λ b. count_by is_taken slots + one b) takes
