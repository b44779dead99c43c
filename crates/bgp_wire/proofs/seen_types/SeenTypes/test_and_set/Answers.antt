use Rattle.std.proofs.Common.{◌≡◌, ℕ, ◌<◌, Bool, true, false, List, [], ◌∷◌, ◌++◌, ◌||◌, length, get_or, set, ap, sym, subst, ◌∙◌, refl, arith, ◌==◌}
use Rattle.bgp_wire.specs.Attribute.{Attribute}
use Rattle.bgp_wire.specs.PlainValues.{SeenFlags, AreTypesOf}
use Rattle.bgp_wire.proofs.Noting.{noted, other_seen, other_again, marked, marked_before, not_again}
use Rattle.bgp_wire.proofs.seen_types.SeenTypes.test_and_set.Goals as goal
use Rattle.std.proofs.Math.Bool.{and-true}

-- the types that are kept so
abbrev kept_as : List Bool → List Bool → SeenFlags
kept_as seen again = record { seen = seen; again = again }

-- a first one of its type is seen
note_first : (seen again : List Bool) (list : List Attribute) (a : Attribute) → a.kind < length seen → get_or seen a.kind false ≡ false
    → AreTypesOf (kept_as seen again) list → AreTypesOf (kept_as (set seen a.kind true) again) (list ++ a ∷ [])
note_first seen again list a within none h =
    noted (kept_as seen again) (kept_as (set seen a.kind true) again) list a
    (λ wanted _. marked seen a.kind wanted true within (λ _. refl) ∙ ap (λ b. get_or seen wanted false || b) (and-true (a.kind == wanted)))
    (λ wanted _. not_again seen a.kind wanted (get_or again wanted false) none)
    h

-- a later one repeats
note_later : (seen again : List Bool) (list : List Attribute) (a : Attribute) → a.kind < length again → get_or seen a.kind false ≡ true
    → AreTypesOf (kept_as seen again) list → AreTypesOf (kept_as seen (set again a.kind true)) (list ++ a ∷ [])
note_later seen again list a within some h =
    noted (kept_as seen again) (kept_as seen (set again a.kind true)) list a
    (λ wanted _. marked_before seen a.kind wanted some)
    (λ wanted _. marked again a.kind wanted (get_or seen wanted false) within (λ e. ap (λ k. get_or seen k false) (sym e) ∙ some))
    h

pub returns-then-place-ge-KINDS-clause-noted : goal.returns-then-place-ge-KINDS-clause-noted
returns-then-place-ge-KINDS-clause-noted c list a e h =
    let old = c.args.self.now in
    let other : (wanted : ℕ) → wanted < 19 → a.kind ≡ wanted → ⊥ = λ wanted within same. omega (arith, c.if-place-ge-KINDS.true, c.from-place.ensures, e, within, same) in
    noted old old list a
    (λ wanted within. other_seen a.kind wanted (get_or old.seen wanted false) (other wanted within))
    (λ wanted within. other_again a.kind wanted (get_or old.again wanted false) (get_or old.seen wanted false) (other wanted within))
    h

pub returns-then-self-place-clause-noted : goal.returns-then-self-place-clause-noted
returns-then-self-place-clause-noted c list a e h =
    let seen = c.self.inside.seen in
    let again = c.self.inside.again in
    let place : c.from-place.result ≡ a.kind = c.from-place.ensures ∙ sym e in
    let within : a.kind < length again = omega (arith, c.if-place-ge-KINDS.false, place, c.self.invariant.1) in
    let some : get_or seen a.kind false ≡ true = ap (λ k. get_or seen k false) (sym place) ∙ c.if-self-place.true in
    subst (λ k. AreTypesOf (kept_as seen (set again k true)) (list ++ a ∷ [])) (sym place)
    (note_later seen again list a within some (subst (λ t. AreTypesOf t list) (sym c.self.view_is) h))

pub returns-clause-noted : goal.returns-clause-noted
returns-clause-noted c list a e h =
    let seen = c.self.inside.seen in
    let again = c.self.inside.again in
    let place : c.from-place.result ≡ a.kind = c.from-place.ensures ∙ sym e in
    let within : a.kind < length seen = omega (arith, c.if-place-ge-KINDS.false, place, c.self.invariant.0) in
    let none : get_or seen a.kind false ≡ false = ap (λ k. get_or seen k false) (sym place) ∙ c.if-self-place.false in
    subst (λ k. AreTypesOf (kept_as (set seen k true) again) (list ++ a ∷ [])) (sym place)
    (note_first seen again list a within none (subst (λ t. AreTypesOf t list) (sym c.self.view_is) h))
