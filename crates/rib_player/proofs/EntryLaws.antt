-- The entries of an event's step: those of pairs that have a route before the event or then.
use Rattle.std.proofs.Common.{◌≡◌, Bool, true, false, cond, ◌&&◌, ◌||◌, List, [], ◌∷◌, map, Option, Some, None, is_some, refl, sym, ap, subst, ◌∙◌, arith}
use Rattle.std.specs.List.{AllByRecursion, list_any, filter, IsDistinct}
use Rattle.std.specs.Ordering.{eq_by_cmp}
use Rattle.std.specs.Cmp.{eq_by_cmp_equiv}
use Rattle.std.specs.FinMap.{get}
use Rattle.std.specs.FinSet.{from_list, contains-from_list}
use Rattle.std.proofs.lemmas.Map.{NonePasses, lookup-none}
use Rattle.std.proofs.lemmas.Map.Entries.{lookup_head, none_past_head}
use Rattle.std.proofs.lemmas.Map.Keys.{IsDistinct-tail}
use Rattle.rib_player.specs.declared.pair.Pair.{Pair}
use Rattle.mrt_events.specs.declared.event.Route.{Route}
use Rattle.mrt_events.specs.declared.event.Event.{Event}
use Rattle.rib_player.specs.declared.changes.Changes.{Changes}
use Rattle.rib_player.specs.History.{pair_cmp, effect, route_after}
use Rattle.rib_player.specs.Tables.{Routes, table_after, is_named, named_pairs}
use Rattle.rib_player.specs.Entries.{Entry}
use Rattle.rib_player.specs.Journal.{Side, side_of, sides_of, pairs_in}
use Rattle.rib_player.specs.Sides.{sides_across, AreDistinct, IsStepFor}
use Rattle.rib_player.specs.Changes.{found, is_lost, effect_of, effect_of_changes, or_no_route}
use Rattle.rib_player.proofs.PairLaws.{pair_cmp_total, same_pair}
use Rattle.rib_player.proofs.TableLaws.{get-table_after, contains-named_pairs}
use Rattle.rib_player.proofs.StoreLaws.{same_pairs}

-- a side has a route, here or on the other side
abbrev pub has_route : (Pair → Option Route) → Side → Bool
has_route before side = is_some side.1 || is_some (before side.0)

-- the same of what is found for a pair, and of the route that it has before
abbrev shows : Option (Option Route) → Option Route → Bool
shows None before = false
shows (Some route) before = is_some route || is_some before

apart-filter : (test : Side → Bool) (pair : Pair) (sides : List Side) → AllByRecursion (λ q. eq_by_cmp pair_cmp pair q ≡ false) (pairs_in sides)
    → AllByRecursion (λ q. eq_by_cmp pair_cmp pair q ≡ false) (pairs_in (filter test sides))
apart-filter test pair [] apart = tt
apart-filter test pair (side ∷ sides) apart =
    let rest = apart-filter test pair sides apart.1 in
    elim (test side) as (λ b. AllByRecursion (λ q. eq_by_cmp pair_cmp pair q ≡ false) (pairs_in (cond b (side ∷ filter test sides) (filter test sides)))) [ true ↦ (apart.0, rest) | false ↦ rest ]

-- of sides of different pairs some may be left out
distinct-filter : (test : Side → Bool) (sides : List Side) → AreDistinct sides → AreDistinct (filter test sides)
unfolding IsDistinct
distinct-filter test [] distinct = distinct
distinct-filter test (side ∷ sides) distinct =
    let rest = distinct-filter test sides distinct.1 in
    elim (test side) as (λ b. AreDistinct (cond b (side ∷ filter test sides) (filter test sides))) [ true ↦ (apart-filter test side.0 sides distinct.0, rest) | false ↦ rest ]

-- the sides of the entries that stay
pub sides-filter : (test : Side → Bool) (entries : List Entry) → sides_of (filter (λ entry. test (side_of entry)) entries) ≡ filter test (sides_of entries)
sides-filter test [] = refl
sides-filter test (entry ∷ entries) = grind (arith, sides-filter test entries)

-- a pair without a side is not among those that stay
absent_sides : (test : Side → Bool) (q : Pair) (sides : List Side) → NonePasses (eq_by_cmp pair_cmp q) sides → list_any (eq_by_cmp pair_cmp q) (pairs_in (filter test sides)) ≡ false
absent_sides test q [] none = refl
absent_sides test q (side ∷ sides) none = grind (arith, absent_sides test q sides none.1, none.0)

-- a pair is among those that stay where its side shows a route, or it has one before
any_sides : (before : Pair → Option Route) (q : Pair) (sides : List Side) → AreDistinct sides
    → list_any (eq_by_cmp pair_cmp q) (pairs_in (filter (has_route before) sides)) ≡ shows (found sides q) (before q)
any_sides before q [] distinct = refl
any_sides before q (side ∷ sides) distinct =
    let one = same_pair q side.0 in
    let later = any_sides before q sides (IsDistinct-tail (eq_by_cmp pair_cmp) side.0 (pairs_in sides) distinct) in
    let absent = λ (e : eq_by_cmp pair_cmp q side.0 ≡ true). absent_sides (has_route before) q sides (none_past_head (eq_by_cmp_equiv pair_cmp_total) q side sides distinct e) in
    grind arith

-- sides that show what a function has are kept where it is read at their pairs, with a first one or not
sides_across-cond : (now : Pair → Option Route) (b : Bool) (side : Side) (sides : List Side) → now side.0 ≡ side.1 → map (λ (s : Side). (s.0, now s.0)) sides ≡ sides
    → map (λ (s : Side). (s.0, now s.0)) (cond b (side ∷ sides) sides) ≡ cond b (side ∷ sides) sides
sides_across-cond now b side sides first rest = grind arith

-- what is found behind the first side is found with it
found-behind : (side : Side) (sides : List Side) (q : Pair) (route : Option Route) → AreDistinct (side ∷ sides) → found sides q ≡ Some route → found (side ∷ sides) q ≡ Some route
found-behind side sides q route distinct there =
    let none = λ (e : eq_by_cmp pair_cmp q side.0 ≡ true). lookup-none (eq_by_cmp pair_cmp q) sides (none_past_head (eq_by_cmp_equiv pair_cmp_total) q side sides distinct e) in
    grind arith

-- where a function has what is found, it has what the sides show
sides_across-found : (now : Pair → Option Route) (test : Side → Bool) (sides : List Side) → AreDistinct sides
    → ((q : Pair) (route : Option Route) → found sides q ≡ Some route → now q ≡ route)
    → map (λ (s : Side). (s.0, now s.0)) (filter test sides) ≡ filter test sides
sides_across-found now test [] distinct has = refl
sides_across-found now test (side ∷ sides) distinct has =
    sides_across-cond now (test side) side (filter test sides)
    (has side.0 side.1 (lookup_head (eq_by_cmp pair_cmp side.0) side sides ((eq_by_cmp_equiv pair_cmp_total).refl side.0)))
    (sides_across-found now test sides (IsDistinct-tail (eq_by_cmp pair_cmp) side.0 (pairs_in sides) distinct)
    (λ q route there. has q route (found-behind side sides q route distinct there)))

-- what is kept for a pair, or lost with its peer, names it where its side then shows a route, or it has one before
named_pairs-shown : (kept : Option (Option Route)) (lost : Bool) (before : Option Route) → is_named before (effect_of kept lost) ≡ shows (or_no_route kept (lost && is_some before)) before
named_pairs-shown kept lost before = grind arith

-- and its side then has the route that it leaves
route_after-found : (kept : Option (Option Route)) (lost : Bool) (before route : Option Route) → or_no_route kept (lost && is_some before) ≡ Some route → route_after before (effect_of kept lost) ≡ route
route_after-found kept lost before route e = grind arith

-- those that stay of such sides are those of the event's step
pub IsStepFor-made : (routes : Routes) (event : Event) (changes : Changes) (sides kept : List Side)
    → ((q : Pair) → effect_of_changes changes q ≡ effect q event)
    → ((q : Pair) → found sides q ≡ or_no_route (found (sides_of changes.entries.items) q) (is_lost changes.lost.keys q && is_some (get routes q)))
    → AreDistinct sides
    → kept ≡ filter (has_route (get routes)) sides
    → IsStepFor routes event kept
IsStepFor-made routes event changes sides kept notes then distinct is =
    let noted = λ (q : Pair). found (sides_of changes.entries.items) q in
    record {
      distinct = subst AreDistinct (sym is) (distinct-filter (has_route (get routes)) sides distinct);
      after = is
          ∙ sym (sides_across-found (get (table_after routes event)) (has_route (get routes)) sides distinct (λ q route there.
          get-table_after routes event q
          ∙ ap (route_after (get routes q)) (sym (notes q))
          ∙ route_after-found (noted q) (is_lost changes.lost.keys q) (get routes q) route (sym (then q) ∙ there)))
          ∙ ap (sides_across (table_after routes event)) (sym is);
      names = same_pairs (from_list (pairs_in kept)) (named_pairs routes event) (λ q.
          contains-from_list pair_cmp_total (pairs_in kept) q
          ∙ ap (λ (ss : List Side). list_any (eq_by_cmp pair_cmp q) (pairs_in ss)) is
          ∙ any_sides (get routes) q sides distinct
          ∙ ap (λ k. shows k (get routes q)) (then q)
          ∙ sym (named_pairs-shown (noted q) (is_lost changes.lost.keys q) (get routes q))
          ∙ ap (is_named (get routes q)) (notes q)
          ∙ sym (contains-named_pairs routes event q));
    }
