-- A player's timeline, and what a step that is crossed, or put behind the cursor, makes of it.
use Rattle.std.proofs.Common.{◌≡◌, ℕ, suc, ◌+◌, ◌-◌, ◌<◌, ◌≤◌, List, [], ◌∷◌, ◌++◌, map, length, length-append, length-drop, take, drop, set, slice_index_or, reverse, arith, refl, sym, ap, ap₂, ◌∙◌, append_assoc}
use Rattle.std.specs.FinMap as finite
use Rattle.std.specs.FinSet as names
use Rattle.std.proofs.lemmas.List.{take-set, drop-set, take_more, take_more_set, drop_more, drop-set-lt, reverse-append, length-reverse, length-take-le, length_push, get_or_at, map-set, set-get_or, get_or-map, take_at, drop_all, length-map, take_all, take-map, map-append}
use Rattle.mrt_events.specs.declared.event.Event.{Event}
use Rattle.rib_player.specs.Tables.{Routes, Pairs, table_after, named_pairs}
use Rattle.rib_player.specs.Timeline.{current, after_play, after_undo, after_redo}
use Rattle.rib_player.specs.Journal.{Side, pairs_in, routes_across, tables_before, tables_after, tables_over, timeline_of}
use Rattle.rib_player.specs.Sides.{sides_at, sides_across, IsStepFor}
use Rattle.rib_player.proofs.BackAndForth.{after_undo-at, after_redo-at}
use Rattle.rib_player.proofs.JournalLaws.{pairs_in-sides_across, routes_across-sides_across, routes_across-step}

-- one table before each step
length-tables_before : (steps : List (List Side)) (routes : Routes) → length (tables_before steps routes) ≡ length steps
length-tables_before [] routes = refl
length-tables_before (sides ∷ steps) routes =
    length_push (tables_before steps (routes_across sides routes)) (routes_across sides routes)
    ∙ ap (λ n. n + 1) (length-tables_before steps (routes_across sides routes)) ∙ omega arith

-- the tables before the cursor
abbrev pub earlier : ℕ → List (List Side) → Routes → List Routes
earlier cursor steps routes = tables_before (reverse (take cursor steps)) routes

-- are as many as the cursor says
pub length-earlier : (cursor : ℕ) (steps : List (List Side)) (routes : Routes) → cursor ≤ length steps → length (earlier cursor steps routes) ≡ cursor
length-earlier cursor steps routes within =
    length-tables_before (reverse (take cursor steps)) routes ∙ length-reverse (take cursor steps) ∙ length-take-le cursor steps within

-- one table after each step
length-tables_after : (steps : List (List Side)) (routes : Routes) → length (tables_after steps routes) ≡ length steps
length-tables_after [] routes = refl
length-tables_after (sides ∷ steps) routes = ap suc (length-tables_after steps (routes_across sides routes))

-- a player has one table more than steps
pub length-tables : (cursor : ℕ) (steps : List (List Side)) (routes : Routes) → cursor ≤ length steps → length (tables_over cursor steps routes) ≡ length steps + 1
length-tables cursor steps routes within =
    length-append (earlier cursor steps routes) (routes ∷ tables_after (drop cursor steps) routes)
    ∙ omega (arith, length-earlier cursor steps routes within, length-tables_after (drop cursor steps) routes, length-drop cursor steps)

-- the table at the cursor
pub at-cursor : (cursor : ℕ) (steps : List (List Side)) (routes : Routes) → cursor ≤ length steps → slice_index_or (tables_over cursor steps routes) cursor finite.empty ≡ routes
at-cursor cursor steps routes within =
    get_or_at (earlier cursor steps routes) routes (tables_after (drop cursor steps) routes) finite.empty cursor (length-earlier cursor steps routes within)

pub current-timeline : (floor cursor : ℕ) (steps : List (List Side)) (routes : Routes) → cursor ≤ length steps → current (timeline_of floor cursor steps routes) ≡ routes
current-timeline floor cursor steps routes within =
    ap (λ n. slice_index_or (tables_over cursor steps routes) n finite.empty) {x = floor + cursor - floor} {y = cursor} (omega arith) ∙ at-cursor cursor steps routes within

-- the tables before one step more
earlier-more : (cursor : ℕ) (steps : List (List Side)) (routes : Routes) → cursor < length steps
    → earlier (cursor + 1) steps routes ≡ earlier cursor steps (routes_across (sides_at steps cursor) routes) ++ routes_across (sides_at steps cursor) routes ∷ []
earlier-more cursor steps routes within =
    ap (λ s. tables_before (reverse s) routes) (take_more steps cursor [] within)
    ∙ ap (λ s. tables_before s routes) (reverse-append (take cursor steps) (sides_at steps cursor ∷ []))

-- the tables before a step are those before it was written
earlier-set : (cursor : ℕ) (steps : List (List Side)) (sides : List Side) (routes : Routes) → earlier cursor (set steps cursor sides) routes ≡ earlier cursor steps routes
earlier-set cursor steps sides routes = ap (λ s. tables_before (reverse s) routes) (take-set steps cursor sides)

-- going back over the step before the cursor keeps all tables
pub tables-back : (cursor : ℕ) (steps : List (List Side)) (routes : Routes) → cursor < length steps
    → let sides = sides_at steps cursor in
    tables_over cursor (set steps cursor (sides_across routes sides)) (routes_across sides routes) ≡ tables_over (cursor + 1) steps routes
tables-back cursor steps routes within =
    let sides : List Side = sides_at steps cursor in
    let back : Routes = routes_across sides routes in
    let first : List Routes = earlier cursor steps back in
    let later : List (List Side) = drop (cursor + 1) steps in
    ap (λ t. t ++ back ∷ tables_after (drop cursor (set steps cursor (sides_across routes sides))) back) (earlier-set cursor steps (sides_across routes sides) back)
    ∙ ap (λ s. first ++ back ∷ tables_after s back) (drop-set steps cursor (sides_across routes sides) within)
    ∙ ap (λ r. first ++ back ∷ r ∷ tables_after later r) (routes_across-sides_across sides routes)
    ∙ sym (append_assoc first (back ∷ []) (routes ∷ tables_after later routes))
    ∙ ap (λ t. t ++ routes ∷ tables_after later routes) (sym (earlier-more cursor steps routes within))

-- going on over the step behind the cursor keeps all tables
pub tables-on : (cursor : ℕ) (steps : List (List Side)) (routes : Routes) → cursor < length steps
    → let sides = sides_at steps cursor in
    tables_over (cursor + 1) (set steps cursor (sides_across routes sides)) (routes_across sides routes) ≡ tables_over cursor steps routes
tables-on cursor steps routes within =
    let sides : List Side = sides_at steps cursor in
    let on : Routes = routes_across sides routes in
    let first : List Routes = earlier cursor steps routes in
    let later : List (List Side) = drop (cursor + 1) steps in
    ap (λ s. tables_before (reverse s) on ++ on ∷ tables_after (drop (cursor + 1) (set steps cursor (sides_across routes sides))) on) (take_more_set steps cursor (sides_across routes sides) within)
    ∙ ap (λ s. tables_before s on ++ on ∷ tables_after (drop (cursor + 1) (set steps cursor (sides_across routes sides))) on) (reverse-append (take cursor steps) (sides_across routes sides ∷ []))
    ∙ ap (λ s. (tables_before (reverse (take cursor steps)) (routes_across (sides_across routes sides) on) ++ routes_across (sides_across routes sides) on ∷ []) ++ on ∷ tables_after s on)
    (drop-set-lt (cursor + 1) steps cursor (sides_across routes sides) (omega arith))
    ∙ ap (λ r. (tables_before (reverse (take cursor steps)) r ++ r ∷ []) ++ on ∷ tables_after later on) (routes_across-sides_across sides routes)
    ∙ append_assoc first (routes ∷ []) (on ∷ tables_after later on)
    ∙ ap (λ s. first ++ routes ∷ tables_after s routes) (sym (drop_more steps cursor [] within))

-- crossing a step keeps the pairs that each step names
names-sides_across : (index : ℕ) (steps : List (List Side)) (routes : Routes) → index < length steps
    → let names_of : List Side → Pairs = λ sides. names.from_list (pairs_in sides) in
    map names_of (set steps index (sides_across routes (sides_at steps index))) ≡ map names_of steps
names-sides_across index steps routes within =
    let names_of : List Side → Pairs = λ sides. names.from_list (pairs_in sides) in
    map-set names_of steps index (sides_across routes (sides_at steps index))
    ∙ ap (set (map names_of steps) index) (ap names.from_list (pairs_in-sides_across routes (sides_at steps index)) ∙ sym (get_or-map names_of steps index [] (names_of []) within))
    ∙ set-get_or (map names_of steps) index (names_of [])

-- the cursor one step back
pub timeline-after_undo : (floor cursor : ℕ) (steps : List (List Side)) (routes : Routes) → 0 < cursor → cursor ≤ length steps
    → let index = cursor - 1 in
    timeline_of floor index (set steps index (sides_across routes (sides_at steps index))) (routes_across (sides_at steps index) routes) ≡ after_undo (timeline_of floor cursor steps routes)
timeline-after_undo floor cursor steps routes some within =
    let index : ℕ = cursor - 1 in
    let cursors : floor + index ≡ floor + cursor - 1 = omega arith in
    let tables = tables-back index steps routes (omega arith) ∙ ap (λ n. tables_over n steps routes) {x = index + 1} {y = cursor} (omega arith) in
    (λ i. record { floor = floor; cursor = cursors i; tables = tables i; steps = names-sides_across index steps routes (omega arith) i })
    ∙ sym (after_undo-at (timeline_of floor cursor steps routes) (omega arith))

-- the cursor one step on
pub timeline-after_redo : (floor cursor : ℕ) (steps : List (List Side)) (routes : Routes) → cursor < length steps
    → timeline_of floor (cursor + 1) (set steps cursor (sides_across routes (sides_at steps cursor))) (routes_across (sides_at steps cursor) routes) ≡ after_redo (timeline_of floor cursor steps routes)
timeline-after_redo floor cursor steps routes within =
    let names_of : List Side → Pairs = λ sides. names.from_list (pairs_in sides) in
    let cursors : floor + (cursor + 1) ≡ floor + cursor + 1 = omega arith in
    (λ i. record { floor = floor; cursor = cursors i; tables = tables-on cursor steps routes within i; steps = names-sides_across cursor steps routes within i })
    ∙ sym (after_redo-at (timeline_of floor cursor steps routes) (omega (arith, length-map steps names_of)))

-- a step that is put behind the cursor, in place of those ahead
abbrev pub added : ℕ → List (List Side) → List Side → List (List Side)
added cursor steps sides = take cursor steps ++ sides ∷ []

pub length-added : (cursor : ℕ) (steps : List (List Side)) (sides : List Side) → cursor ≤ length steps → length (added cursor steps sides) ≡ cursor + 1
length-added cursor steps sides within = length_push (take cursor steps) sides ∙ ap (λ n. n + 1) (length-take-le cursor steps within)

-- the tables up to the cursor
pub tables-behind : (cursor : ℕ) (steps : List (List Side)) (routes : Routes) → cursor ≤ length steps → take (cursor + 1) (tables_over cursor steps routes) ≡ earlier cursor steps routes ++ routes ∷ []
tables-behind cursor steps routes within =
    let first : List Routes = earlier cursor steps routes in
    ap (take (cursor + 1)) (sym (append_assoc first (routes ∷ []) (tables_after (drop cursor steps) routes)))
    ∙ take_at (first ++ routes ∷ []) (tables_after (drop cursor steps) routes) (cursor + 1) (length_push first routes ∙ ap (λ n. n + 1) (length-earlier cursor steps routes within))

-- the step that is put behind it and crossed makes one more
pub tables-added : (cursor : ℕ) (steps : List (List Side)) (sides : List Side) (routes : Routes) → cursor ≤ length steps
    → tables_over (cursor + 1) (added cursor steps (sides_across routes sides)) (routes_across sides routes) ≡ take (cursor + 1) (tables_over cursor steps routes) ++ routes_across sides routes ∷ []
tables-added cursor steps sides routes within =
    let next : Routes = routes_across sides routes in
    let crossing : List Side = sides_across routes sides in
    let long : length (added cursor steps crossing) ≤ cursor + 1 = omega (arith, length-added cursor steps crossing within) in
    ap (λ s. tables_before (reverse s) next ++ next ∷ tables_after (drop (cursor + 1) (added cursor steps crossing)) next) (take_all (cursor + 1) (added cursor steps crossing) long)
    ∙ ap (λ s. tables_before (reverse (added cursor steps crossing)) next ++ next ∷ tables_after s next) (drop_all (cursor + 1) (added cursor steps crossing) long)
    ∙ ap (λ s. tables_before s next ++ next ∷ []) (reverse-append (take cursor steps) (crossing ∷ []))
    ∙ ap (λ r. (tables_before (reverse (take cursor steps)) r ++ r ∷ []) ++ next ∷ []) (routes_across-sides_across sides routes)
    ∙ ap (λ b. b ++ next ∷ []) (sym (tables-behind cursor steps routes within))

-- so the event's step makes what its play does
pub timeline-after_play : (floor cursor : ℕ) (steps : List (List Side)) (sides : List Side) (routes : Routes) (event : Event) → cursor ≤ length steps → IsStepFor routes event sides
    → timeline_of floor (cursor + 1) (added cursor steps (sides_across routes sides)) (routes_across sides routes) ≡ after_play (timeline_of floor cursor steps routes) event
timeline-after_play floor cursor steps sides routes event within step =
    let names_of : List Side → Pairs = λ s. names.from_list (pairs_in s) in
    let here : routes ≡ current (timeline_of floor cursor steps routes) = sym (current-timeline floor cursor steps routes within) in
    let cursors : floor + (cursor + 1) ≡ floor + cursor + 1 = omega arith in
    let as_many : cursor ≡ floor + cursor - floor = omega arith in
    let tables = tables-added cursor steps sides routes within
    ∙ ap₂ (λ n r. take (n + 1) (tables_over cursor steps routes) ++ r ∷ []) as_many (routes_across-step routes event sides step ∙ ap (λ r. table_after r event) here) in
    let steps_then = map-append names_of (take cursor steps) (sides_across routes sides ∷ [])
    ∙ ap₂ (λ ss s. ss ++ s ∷ []) (sym (take-map names_of cursor steps) ∙ ap (λ n. take n (map names_of steps)) as_many)
    (ap names.from_list (pairs_in-sides_across routes sides) ∙ step.names ∙ ap (λ r. named_pairs r event) here) in
    λ i. record { floor = floor; cursor = cursors i; tables = tables i; steps = steps_then i }
