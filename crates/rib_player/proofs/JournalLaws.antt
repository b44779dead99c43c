-- What a step's entries do to a table, and what crossing a step makes of a player.
use Rattle.std.proofs.Common.{◌≡◌, ℕ, zero, suc, ◌+◌, ◌<◌, false, cond, List, [], ◌∷◌, ◌++◌, length, get_or, take, drop, set, Option, refl, sym, ap, ◌∙◌, append_assoc, arith}
use Rattle.std.specs.List.{AllByRecursion, list_any}
use Rattle.std.specs.Ordering.{eq_by_cmp}
use Rattle.std.specs.Cmp.{eq_by_cmp_equiv}
use Rattle.std.specs.FinMap as finite
use Rattle.std.specs.FinSet as names
use Rattle.std.specs.FinSet.{contains-from_list}
use Rattle.std.proofs.lemmas.List.{drop-drop, drop_more, take_more_set, map-append}
use Rattle.std.proofs.lemmas.Map.Keys.{IsDistinct-head, IsDistinct-tail}
use Rattle.prefix_store.proofs.PutLaws.{get-put}
use Rattle.rib_player.specs.declared.pair.Pair.{Pair}
use Rattle.mrt_events.specs.declared.event.Route.{Route}
use Rattle.mrt_events.specs.declared.event.Event.{Event}
use Rattle.rib_player.specs.Entries.{Entry}
use Rattle.rib_player.specs.History.{pair_cmp, Effect, effect, route_after}
use Rattle.prefix_store.specs.Stored.{put}
use Rattle.rib_player.specs.Tables.{Routes, Pairs, table_after, is_named, pointed_route}
use Rattle.rib_player.specs.Journal.{Side, side_of, sides_of, pairs_in, routes_across}
use Rattle.rib_player.specs.Sides.{sides_across, AreDistinctKeys, IsStepFor}
use Rattle.rib_player.proofs.PairLaws.{pair_cmp_total, same_pair}
use Rattle.rib_player.proofs.TableLaws.{same_routes, get-table_after, contains-named_pairs}
use Rattle.octet_forms.proofs.Booleans.{cond-cond, cond_untested}

-- a put at another pair leaves the route
get-put_elsewhere : (routes : Routes) (pair q : Pair) (new : Option Route) → eq_by_cmp pair_cmp pair q ≡ false → finite.get (put routes pair new) q ≡ finite.get routes q
get-put_elsewhere routes pair q new apart =
    get-put pair_cmp_total routes pair new q
    ∙ ap (λ b. cond b new (finite.get routes q)) ((eq_by_cmp_equiv pair_cmp_total).symm q pair ∙ apart)

-- a put at another pair leaves the routes that crossing takes up
sides_across-put : (routes : Routes) (pair : Pair) (new : Option Route) (sides : List Side) → AllByRecursion (λ q. eq_by_cmp pair_cmp pair q ≡ false) (pairs_in sides)
    → sides_across (put routes pair new) sides ≡ sides_across routes sides
sides_across-put routes pair new [] apart = refl
sides_across-put routes pair new (side ∷ sides) apart =
    λ i. (side.0, get-put_elsewhere routes pair side.0 new apart.0 i) ∷ sides_across-put routes pair new sides apart.1 i

-- the entries that are left, by the first of them
pub rest_of_entries : (i : ℕ) (entries first : List Entry) (default : Entry) → i < length entries → drop i entries ≡ drop i first
    → drop i first ≡ get_or entries i default ∷ drop (i + 1) first
rest_of_entries i entries first default within same =
    let front : drop i first ≡ get_or entries i default ∷ drop (i + 1) entries = sym same ∙ drop_more entries i default within in
    front ∙ ap (λ es. get_or entries i default ∷ es) (sym (ap (drop 1) front) ∙ drop-drop 1 i first)

-- kept entries are still kept without the first
pub kept-tail : (keys : Pairs) (side : Side) (sides : List Side) → AreDistinctKeys keys (side ∷ sides) → AreDistinctKeys keys sides
kept-tail keys side sides kept = record {
  distinct = IsDistinct-tail (eq_by_cmp pair_cmp) side.0 (pairs_in sides) kept.distinct;
  among_keys = kept.among_keys.1;
}

-- crossing kept entries one by one
pub sides_across-tail : (keys : Pairs) (routes : Routes) (side : Side) (sides : List Side) → AreDistinctKeys keys (side ∷ sides)
    → sides_across (put routes side.0 side.1) sides ≡ sides_across routes sides
sides_across-tail keys routes side sides kept =
    sides_across-put routes side.0 side.1 sides (IsDistinct-head (eq_by_cmp pair_cmp) side.0 (pairs_in sides) kept.distinct)

-- one entry more is crossed
pub entries-more : (keys : Pairs) (routes routes' : Routes) (entries rest : List Entry) (i : ℕ) (entry entry' : Entry) (whole : List Side) → i < length entries
    → AreDistinctKeys keys (sides_of (entry ∷ rest)) → routes' ≡ put routes entry.pair (pointed_route entry.other) → side_of entry' ≡ (entry.pair, finite.get routes entry.pair)
    → sides_of (take i entries) ++ sides_across routes (sides_of (entry ∷ rest)) ≡ whole
    → sides_of (take (i + 1) (set entries i entry')) ++ sides_across routes' (sides_of rest) ≡ whole
entries-more keys routes routes' entries rest i entry entry' whole within kept put_there taken_out before =
    ap (λ es. sides_of es ++ sides_across routes' (sides_of rest)) (take_more_set entries i entry' within)
    ∙ ap (λ s. s ++ sides_across routes' (sides_of rest)) (map-append side_of (take i entries) (entry' ∷ []))
    ∙ append_assoc (sides_of (take i entries)) (side_of entry' ∷ []) (sides_across routes' (sides_of rest))
    ∙ ap (λ s. sides_of (take i entries) ++ (s ∷ sides_across routes' (sides_of rest))) taken_out
    ∙ ap (λ s. sides_of (take i entries) ++ ((entry.pair, finite.get routes entry.pair) ∷ s))
    (ap (λ r. sides_across r (sides_of rest)) put_there ∙ sides_across-tail keys routes (side_of entry) (sides_of rest) kept)
    ∙ before

-- crossing one side more
pub routes_across-push : (sides : List Side) (side : Side) (routes : Routes) → routes_across (sides ++ side ∷ []) routes ≡ put (routes_across sides routes) side.0 side.1
routes_across-push [] side routes = refl
routes_across-push (first ∷ sides) side routes = routes_across-push sides side (put routes first.0 first.1)

pub sides_across-push : (sides : List Side) (side : Side) (routes : Routes) → sides_across routes (sides ++ side ∷ []) ≡ sides_across routes sides ++ (side.0, finite.get routes side.0) ∷ []
sides_across-push sides side routes = map-append (λ (side : Side). (side.0, finite.get routes side.0)) sides (side ∷ [])

-- the first entries and the one behind them
pub take-through : {A : Type 0} (n : ℕ) (xs : List A) (x : A) (rest : List A) → drop n xs ≡ x ∷ rest → take (n + 1) xs ≡ take n xs ++ x ∷ []
take-through zero xs x rest e = ap (take 1) e
take-through (suc n) [] x rest e = cc
take-through (suc n) (y ∷ ys) x rest e =
    let one : suc n + 1 ≡ suc (n + 1) = omega arith in
    ap (λ k. take k (y ∷ ys)) one ∙ ap (λ l. y ∷ l) (take-through n ys x rest e)

-- the pairs of a crossed step are those of the step
pub pairs_in-sides_across : (routes : Routes) (sides : List Side) → pairs_in (sides_across routes sides) ≡ pairs_in sides
pairs_in-sides_across routes [] = refl
pairs_in-sides_across routes (side ∷ sides) = ap (λ pairs. side.0 ∷ pairs) (pairs_in-sides_across routes sides)

-- behind a step whose routes are those of a table, its pairs have that table's routes, and the others keep theirs
pub get-restored_crossed : (routes before : Routes) (sides : List Side) (q : Pair)
    → finite.get (routes_across (sides_across routes sides) before) q ≡ cond (list_any (eq_by_cmp pair_cmp q) (pairs_in sides)) (finite.get routes q) (finite.get before q)
get-restored_crossed routes before [] q = refl
get-restored_crossed routes before (side ∷ sides) q =
    get-restored_crossed routes (put before side.0 (finite.get routes side.0)) sides q
    ∙ ap (cond (list_any (eq_by_cmp pair_cmp q) (pairs_in sides)) (finite.get routes q)) (get-put pair_cmp_total before side.0 (finite.get routes side.0) q)
    ∙ cond-cond (eq_by_cmp pair_cmp q side.0) (list_any (eq_by_cmp pair_cmp q) (pairs_in sides)) (finite.get routes q) (finite.get routes side.0) (finite.get before q)
    (λ e. ap (finite.get routes) (sym (same_pair q side.0 e)))

-- a step leaves the routes of the pairs that it doesn't name
pub get-restored_elsewhere : (sides : List Side) (routes : Routes) (q : Pair) → list_any (eq_by_cmp pair_cmp q) (pairs_in sides) ≡ false
    → finite.get (routes_across sides routes) q ≡ finite.get routes q
get-restored_elsewhere [] routes q out = refl
get-restored_elsewhere (side ∷ sides) routes q out =
    let later = get-restored_elsewhere sides (put routes side.0 side.1) q in
    let there = get-put pair_cmp_total routes side.0 side.1 q in
    grind arith

-- a step that is crossed and crossed back gives back the table
pub routes_across-sides_across : (sides : List Side) (routes : Routes) → routes_across (sides_across routes sides) (routes_across sides routes) ≡ routes
routes_across-sides_across sides routes = same_routes _ routes (λ q.
    get-restored_crossed routes (routes_across sides routes) sides q
    ∙ cond_untested (list_any (eq_by_cmp pair_cmp q) (pairs_in sides)) (finite.get routes q) (finite.get (routes_across sides routes) q) (λ out. sym (get-restored_elsewhere sides routes q out)))

-- an event leaves the routes of the pairs that it doesn't name
pub unnamed-same : (before : Option Route) (does : Effect) → is_named before does ≡ false → before ≡ route_after before does
unnamed-same before does e = grind arith

-- the step of an event leads to the table that the event is applied to
pub routes_across-step : (routes : Routes) (event : Event) (sides : List Side) → IsStepFor routes event sides → routes_across sides routes ≡ table_after routes event
routes_across-step routes event sides step = same_routes _ _ (λ q.
    ap (λ s. finite.get (routes_across s routes) q) step.after
    ∙ get-restored_crossed (table_after routes event) routes sides q
    ∙ cond_untested (list_any (eq_by_cmp pair_cmp q) (pairs_in sides)) (finite.get (table_after routes event) q) (finite.get routes q) (λ out.
    get-table_after routes event q
    ∙ sym (unnamed-same (finite.get routes q) (effect q event)
    (sym (contains-named_pairs routes event q) ∙ ap (λ s. names.contains s q) (sym step.names) ∙ contains-from_list pair_cmp_total (pairs_in sides) q ∙ out))))
