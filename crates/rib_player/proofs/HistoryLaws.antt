-- Histories that go on by an event: the routes that they leave, and their tables.
use Rattle.std.proofs.Common.{◌≡◌, List, [], ◌∷◌, ◌++◌, map, Option, None, sym, ap, ◌∙◌}
use Rattle.rib_player.specs.declared.pair.Pair.{Pair}
use Rattle.mrt_events.specs.declared.event.Route.{Route}
use Rattle.mrt_events.specs.declared.event.Event.{Event}
use Rattle.rib_player.specs.History.{Effect, last_effect, effect, route_after, route}
use Rattle.rib_player.specs.Tables.{table, table_after}
use Rattle.rib_player.proofs.TableLaws.{same_routes, route_after-later, get-table, get-table_after}

-- effects and then one more are that one after the last of them
pub route_after-last_effect : {A : Type 0} (before : Option Route) (does : A → Effect) (xs : List A) (x : A)
    → route_after before (last_effect (map does (xs ++ x ∷ []))) ≡ route_after (route_after before (last_effect (map does xs))) (does x)
route_after-last_effect before does [] x = route_after-later before (does x) (last_effect [])
route_after-last_effect before does (y ∷ ys) x =
    route_after-later before (does y) (last_effect (map does (ys ++ x ∷ [])))
    ∙ route_after-last_effect (route_after before (does y)) does ys x
    ∙ ap (λ r. route_after r (does x)) (sym (route_after-later before (does y) (last_effect (map does ys))))

-- the route after one more event is what the event's effect makes of the route before it
pub route-append : (pair : Pair) (history : List Event) (event : Event) → route pair (history ++ event ∷ []) ≡ route_after (route pair history) (effect pair event)
route-append pair history event = route_after-last_effect None (effect pair) history event

-- the table after one more event is the event applied to the table before it
pub table-append : (history : List Event) (event : Event) → table (history ++ event ∷ []) ≡ table_after (table history) event
table-append history event =
    same_routes (table (history ++ event ∷ [])) (table_after (table history) event)
    (λ q. get-table (history ++ event ∷ []) q
    ∙ route-append q history event
    ∙ ap (λ r. route_after r (effect q event)) (sym (get-table history q))
    ∙ sym (get-table_after (table history) event q))
