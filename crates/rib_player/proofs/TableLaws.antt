-- What tables have at each pair: those of histories and of events, and the pairs that events name.
use Rattle.std.proofs.Common.{◌≡◌, Bool, false, cond, ◌&&◌, ◌||◌, List, [], ◌∷◌, map, Option, None, is_some, refl, sym, ap, ◌∙◌, arith}
use Rattle.std.specs.List.{flat_map, filter, list_any}
use Rattle.std.specs.Ordering.{eq_by_cmp}
use Rattle.std.specs.FinMap.{get, keys, get-empty, same_map, contains_key-keys}
use Rattle.std.specs.FinSet.{contains, contains-from_list}
use Rattle.std.proofs.lemmas.Bool.{or_parts}
use Rattle.std.proofs.lemmas.List.Folds.{list_any-append}
use Rattle.std.proofs.lemmas.Map.Views.{any-filter_same}
use Rattle.prefix_store.proofs.PutLaws.{get-put}
use Rattle.rib_player.specs.declared.pair.Pair.{Pair}
use Rattle.mrt_events.specs.declared.event.Route.{Route}
use Rattle.mrt_events.specs.Event.{ItemValue, Announced, Withdrawn, Changed}
use Rattle.mrt_events.specs.declared.event.Event.{Event}
use Rattle.rib_player.specs.History.{pair_cmp, Effect, item_effect, later, last_effect, effect, route_after, route}
use Rattle.rib_player.specs.Tables.{Routes, tabulation, pairs_announced_by, announced_pairs, table, candidate_pairs, table_after, is_named, named_pairs}
use Rattle.rib_player.proofs.PairLaws.{pair_cmp_total, pair_cmp-IsAntisymmetric, same_pair}
use Rattle.octet_forms.proofs.Booleans.{cond_or, cond_untested}

-- whether the pair is among these
abbrev among : Pair → List Pair → Bool
among q pairs = list_any (eq_by_cmp pair_cmp q) pairs

-- tables with the same route at each pair are one
pub same_routes : (a b : Routes) → ((q : Pair) → get a q ≡ get b q) → a ≡ b
same_routes a b same = same_map pair_cmp_total pair_cmp-IsAntisymmetric a b same

-- a tabulated function has its value at the listed pairs, and nothing elsewhere
pub get-tabulation : (f : Pair → Option Route) (pairs : List Pair) (q : Pair) → get (tabulation f pairs) q ≡ cond (list_any (eq_by_cmp pair_cmp q) pairs) (f q) None
get-tabulation f [] q = get-empty pair_cmp q
get-tabulation f (pair ∷ pairs) q =
    get-put pair_cmp_total (tabulation f pairs) pair (f pair) q
    ∙ cond_or (eq_by_cmp pair_cmp q pair) (among q pairs) (f pair) (f q) _ None (λ e. ap f (sym (same_pair q pair e))) (get-tabulation f pairs q)

-- an effect and then a later one are the later of the two
pub route_after-later : (before : Option Route) (first second : Effect) → route_after before (later first second) ≡ route_after (route_after before first) second
route_after-later before first second = grind arith

-- an item leaves no route where it announces none and there was none
unset_by_item : (q : Pair) (item : ItemValue) → among q (pairs_announced_by item) ≡ false → route_after None (item_effect q item) ≡ None
unset_by_item q (Announced peer network new) e = grind arith
unset_by_item q (Withdrawn peer network) e = grind arith
unset_by_item q (Changed peer old new) e = grind arith

-- so do several, where each of them does
unset_by_all : {A : Type 0} (q : Pair) (listed : A → List Pair) (does : A → Effect) → ((a : A) → among q (listed a) ≡ false → route_after None (does a) ≡ None)
    → (xs : List A) → among q (flat_map listed xs) ≡ false → route_after None (last_effect (map does xs)) ≡ None
unset_by_all q listed does each [] e = refl
unset_by_all q listed does each (x ∷ xs) e =
    let none = or_parts _ _ (sym (list_any-append (eq_by_cmp pair_cmp q) (listed x) (flat_map listed xs)) ∙ e) in
    route_after-later None (does x) (last_effect (map does xs))
    ∙ ap (λ r. route_after r (last_effect (map does xs))) (each x none.0)
    ∙ unset_by_all q listed does each xs none.1

-- an event leaves no route where it announces none and there was none
unset_by_event : (q : Pair) (event : Event) → among q (announced_pairs event) ≡ false → route_after None (effect q event) ≡ None
unset_by_event q event e = unset_by_all q pairs_announced_by (item_effect q) (unset_by_item q) event.items e

-- a history leaves no route where it announces none
unset_by_history : (q : Pair) (history : List Event) → among q (flat_map announced_pairs history) ≡ false → route q history ≡ None
unset_by_history q history e = unset_by_all q announced_pairs (effect q) (unset_by_event q) history e

-- the table of a history has the history's route at each pair
pub get-table : (history : List Event) (pair : Pair) → get (table history) pair ≡ route pair history
unfolding table
get-table history pair =
    get-tabulation (λ p. route p history) (flat_map announced_pairs history) pair
    ∙ cond_untested (among pair (flat_map announced_pairs history)) (route pair history) None (unset_by_history pair history)

-- what concerns a pair: it has a route, or the event announces one
among-candidate_pairs : (routes : Routes) (event : Event) (q : Pair) → among q (candidate_pairs routes event) ≡ (is_some (get routes q) || among q (announced_pairs event))
among-candidate_pairs routes event q =
    list_any-append (eq_by_cmp pair_cmp q) (keys routes) (announced_pairs event)
    ∙ ap (λ b. b || among q (announced_pairs event)) (sym (contains_key-keys routes q))

-- a pair that is not concerned has no route before the event and none after it
unconcerned : (before : Option Route) (does : Effect) (b : Bool) → (b ≡ false → route_after None does ≡ None) → (is_some before || b) ≡ false → route_after before does ≡ None
unconcerned before does b is e = grind arith

-- a table after an event has, at each pair, what the event's effect leaves
pub get-table_after : (routes : Routes) (event : Event) (pair : Pair) → get (table_after routes event) pair ≡ route_after (get routes pair) (effect pair event)
unfolding table_after
get-table_after routes event pair =
    get-tabulation (λ p. route_after (get routes p) (effect p event)) (candidate_pairs routes event) pair
    ∙ cond_untested (among pair (candidate_pairs routes event)) (route_after (get routes pair) (effect pair event)) None
    (λ e. unconcerned (get routes pair) (effect pair event) (among pair (announced_pairs event)) (unset_by_event pair event) (sym (among-candidate_pairs routes event pair) ∙ e))

-- a pair that an event names is concerned
named_concerned : (before : Option Route) (does : Effect) (b : Bool) → (b ≡ false → route_after None does ≡ None) → (is_named before does && (is_some before || b)) ≡ is_named before does
named_concerned before does b is = grind arith

-- an event names the pairs that it sets or clears and that have a route before it or after it
pub contains-named_pairs : (routes : Routes) (event : Event) (pair : Pair) → contains (named_pairs routes event) pair ≡ is_named (get routes pair) (effect pair event)
unfolding named_pairs
contains-named_pairs routes event pair =
    let test = λ (p : Pair). is_named (get routes p) (effect p event) in
    contains-from_list pair_cmp_total (filter test (candidate_pairs routes event)) pair
    ∙ any-filter_same (eq_by_cmp pair_cmp pair) test (test pair) (λ p e. ap test (sym (same_pair pair p e))) (candidate_pairs routes event)
    ∙ ap (λ b. test pair && b) (among-candidate_pairs routes event pair)
    ∙ named_concerned (get routes pair) (effect pair event) (among pair (announced_pairs event)) (unset_by_event pair event)
