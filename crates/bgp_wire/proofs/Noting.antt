-- Noting one attribute more.
use Rattle.std.proofs.Common.{◌≡◌, inl, inr, ℕ, ◌<◌, Bool, true, false, if◌then◌else◌, ◌||◌, ◌&&◌, List, [], ◌∷◌, ◌++◌, length, Option, Some, None, get_or, set, refl, ap, sym, ◌∙◌, eq-eqb, arith, ◌==◌, is_some}
use Rattle.std.proofs.lemmas.Grind.{common_steps}
use Rattle.std.proofs.lemmas.Bool.Decides.{eqb_tells}
use Rattle.bgp_wire.specs.declared.framing.TheConstants.{KINDS}
use Rattle.bgp_wire.specs.Attribute.{Attribute, first_value, repeats}
use Rattle.bgp_wire.specs.PlainValues.{value_or, value_at, with_value, SeenFlags, AreTypesOf}
use Rattle.bgp_wire.specs.Content.{FirstValues, first_values}

-- ---- the first value of a type, with one attribute more

value_or-None : (new : Option (List ℕ)) → value_or None new ≡ new
value_or-None new = grind arith

chosen_first : (test : Bool) (value : List ℕ) (old new : Option (List ℕ)) → (if test then Some value else value_or old new) ≡ value_or (if test then Some value else old) new
chosen_first test value old new = grind arith

first_value-more : (wanted : ℕ) (list : List Attribute) (a : Attribute) → first_value wanted (list ++ a ∷ []) ≡ with_value a.kind a.value (first_values list) wanted
first_value-more wanted [] a = sym (value_or-None (value_at a.kind a.value wanted))
first_value-more wanted (x ∷ list) a =
    ap (λ more. if x.kind == wanted then Some x.value else more) (first_value-more wanted list a)
    ∙ chosen_first (x.kind == wanted) x.value (first_value wanted list) (value_at a.kind a.value wanted)

-- the first values of a list with one attribute more
pub first_values-more : (list : List Attribute) (a : Attribute) → first_values (list ++ a ∷ []) ≡ with_value a.kind a.value (first_values list)
first_values-more list a = λ i wanted. first_value-more wanted list a i

-- a later value of a type has no part in it
pub later_value : (kind : ℕ) (octets : List ℕ) (first : FirstValues) → is_some (first kind) ≡ true → with_value kind octets first ≡ first
later_value kind octets first some = λ i wanted. kept wanted i
  where
    held : (old new : Option (List ℕ)) → is_some old ≡ true → value_or old new ≡ old
    held old new e = grind arith

    kept : (wanted : ℕ) → with_value kind octets first wanted ≡ first wanted
    kept wanted =
        elim (eqb_tells kind wanted) as (λ _. with_value kind octets first wanted ≡ first wanted) [
          | inl h ↦ held (first wanted) (value_at kind octets wanted) (ap (λ k. is_some (first k)) (sym h.1) ∙ some)
          | inr h ↦ ap (λ test. value_or (first wanted) (if test then Some octets else None)) h.0
        ]

-- the first of its type is its value
pub first_of_type : (kind : ℕ) (octets : List ℕ) (first : FirstValues) → first kind ≡ None → with_value kind octets first kind ≡ Some octets
first_of_type kind octets first none =
    ap (λ old. value_or old (value_at kind octets kind)) none
    ∙ value_or-None (value_at kind octets kind)
    ∙ ap (λ test. if test then Some octets else None) (eq-eqb kind kind refl)

-- and stays so with more behind it
pub first_value-front : (wanted : ℕ) (front more : List Attribute) (octets : List ℕ) → first_value wanted front ≡ Some octets → first_value wanted (front ++ more) ≡ Some octets
first_value-front wanted [] more octets e = cc
first_value-front wanted (a ∷ front) more octets e = held (a.kind == wanted) (first_value-front wanted front more octets) e
  where
    held : (test : Bool) → (first_value wanted front ≡ Some octets → first_value wanted (front ++ more) ≡ Some octets)
        → (if test then Some a.value else first_value wanted front) ≡ Some octets → (if test then Some a.value else first_value wanted (front ++ more)) ≡ Some octets
    held test behind h = grind arith

-- ---- whether a type was seen, and whether it repeats

is_some-value_or : (old : Option (List ℕ)) (test : Bool) (octets : List ℕ) → is_some (value_or old (if test then Some octets else None)) ≡ (is_some old || test)
is_some-value_or old test octets = grind arith

seen-more : (wanted : ℕ) (list : List Attribute) (a : Attribute) → is_some (first_value wanted (list ++ a ∷ [])) ≡ (is_some (first_value wanted list) || (a.kind == wanted))
seen-more wanted list a = ap is_some (first_value-more wanted list a) ∙ is_some-value_or (first_value wanted list) (a.kind == wanted) a.value

no_first : (test : Bool) → (if test then false else false) ≡ (false || (test && false))
no_first test = grind arith

chosen_test : (test own : Bool) (first_before again_before : Bool) (first_after again_after : Bool) (value : List ℕ) (old : Option (List ℕ)) → first_before ≡ is_some old
    → first_after ≡ (first_before || own) → again_after ≡ (again_before || (own && first_before))
    → (if test then first_after else again_after) ≡ ((if test then first_before else again_before) || (own && is_some (if test then Some value else old)))
chosen_test test own fb ab fa aa value old e f g = grind arith

repeats-more : (wanted : ℕ) (list : List Attribute) (a : Attribute) → repeats wanted (list ++ a ∷ []) ≡ (repeats wanted list || ((a.kind == wanted) && is_some (first_value wanted list)))
repeats-more wanted [] a = no_first (a.kind == wanted)
repeats-more wanted (x ∷ list) a =
    chosen_test (x.kind == wanted) (a.kind == wanted) (is_some (first_value wanted list)) (repeats wanted list)
    (is_some (first_value wanted (list ++ a ∷ []))) (repeats wanted (list ++ a ∷ [])) x.value (first_value wanted list) refl
    (seen-more wanted list a) (repeats-more wanted list a)

-- the types with one attribute more, where each is told as before or by the new one
pub noted : (old new : SeenFlags) (list : List Attribute) (a : Attribute)
    → ((wanted : ℕ) → wanted < KINDS → get_or new.seen wanted false ≡ (get_or old.seen wanted false || (a.kind == wanted)))
    → ((wanted : ℕ) → wanted < KINDS → get_or new.again wanted false ≡ (get_or old.again wanted false || ((a.kind == wanted) && get_or old.seen wanted false)))
    → AreTypesOf old list → AreTypesOf new (list ++ a ∷ [])
noted old new list a each again h = record {
  each = λ wanted within. each wanted within ∙ ap (λ b. b || (a.kind == wanted)) (h.each wanted within) ∙ sym (seen-more wanted list a);
  repeated = λ wanted within. again wanted within ∙ (λ i. h.repeated wanted within i || ((a.kind == wanted) && h.each wanted within i)) ∙ sym (repeats-more wanted list a);
}

-- another type is told as before
pub other_seen : (kind wanted : ℕ) (seen : Bool) → (kind ≡ wanted → ⊥) → seen ≡ (seen || (kind == wanted))
other_seen kind wanted seen other = grind arith

pub other_again : (kind wanted : ℕ) (again seen : Bool) → (kind ≡ wanted → ⊥) → again ≡ (again || ((kind == wanted) && seen))
other_again kind wanted again seen other = grind arith

-- a mark at a place is that of its type
pub marked : (marks : List Bool) (kind wanted : ℕ) (seen : Bool) → kind < length marks → (kind ≡ wanted → seen ≡ true)
    → get_or (set marks kind true) wanted false ≡ (get_or marks wanted false || ((kind == wanted) && seen))
marked marks kind wanted seen within holds = grind (arith, common_steps)

-- one that was marked already stays so
pub marked_before : (marks : List Bool) (kind wanted : ℕ) → get_or marks kind false ≡ true → get_or marks wanted false ≡ (get_or marks wanted false || (kind == wanted))
marked_before marks kind wanted was = grind arith

-- and the first of a type isn't one again
pub not_again : (marks : List Bool) (kind wanted : ℕ) (again : Bool) → get_or marks kind false ≡ false → again ≡ (again || ((kind == wanted) && get_or marks wanted false))
not_again marks kind wanted again none = grind arith
