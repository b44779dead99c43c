-- Claims: a pair is wanted exactly where it is claimed, and what forgotten, dropped and played steps make of claims.
use Rattle.std.proofs.lemmas.Bool.Decides.{nat_tests}
use Rattle.std.proofs.Common.{◌≡◌, ℕ, zero, suc, ◌+◌, ◌-◌, ◌<◌, ◌≤◌, Bool, true, false, not, ◌||◌, ◌&&◌, List, [], ◌∷◌, ◌++◌, length, length-drop, take, drop, slice_index_or, Option, None, is_some, refl, sym, ap, subst, ◌∙◌, arith, take_all}
use Rattle.std.specs.List.{list_any}
use Rattle.std.specs.Prelude.{nat_lt}
use Rattle.std.specs.FinMap as finite
use Rattle.std.specs.FinSet as set
use Rattle.std.proofs.lemmas.Bool.{or_parts}
use Rattle.rib_player.specs.declared.pair.Pair.{Pair}
use Rattle.mrt_events.specs.declared.event.Event.{Event}
use Rattle.rib_player.specs.History.{Effect, effect, route_after}
use Rattle.rib_player.specs.Tables.{Routes, Pairs, table, table_after, is_named, named_pairs}
use Rattle.rib_player.specs.Timeline.{Timeline, end_of, undoable, table_at, current, after_play, without_first, needed_keys, IsWellFormed}
use Rattle.rib_player.specs.Calls.{StandsFor, tables_along, steps_along}
use Rattle.rib_player.specs.Claims.{is_routed, brings, clears, one_if, brought_along, claims_along, claims, without_last}
use Rattle.rib_player.proofs.TableLaws.{get-table_after, contains-named_pairs}
use Rattle.rib_player.proofs.HistoryLaws.{table-append}
use Rattle.rib_player.proofs.JournalLaws.{unnamed-same}
use Rattle.rib_player.proofs.KeyLaws.{contains-needed_keys, none_from}

-- ---- a pair is claimed exactly where it has a route at some of the positions

-- behind a table without the pair, some step brings it exactly where it has a route at some later position
brought-somewhere : (pair : Pair) (before : Routes) (tables : List Routes) → is_routed pair before ≡ false
    → nat_lt 0 (brought_along pair before tables) ≡ list_any (is_routed pair) tables
brought-somewhere pair before [] none = refl
brought-somewhere pair before (after ∷ tables) none = let later = brought-somewhere pair after tables in grind (arith, nat_tests)

pub claimed-somewhere : (pair : Pair) (tables : List Routes) → nat_lt 0 (claims_along pair tables) ≡ list_any (is_routed pair) tables
claimed-somewhere pair [] = refl
claimed-somewhere pair (first ∷ tables) = let later = brought-somewhere pair first tables in grind (arith, nat_tests)

-- a pair that isn't claimed has a route at none of them
none_at : (p : Routes → Bool) (tables : List Routes) (i : ℕ) → i < length tables → list_any p tables ≡ false → p (slice_index_or tables i finite.empty) ≡ false
none_at p [] i h e = absurd (omega arith)
none_at p (first ∷ tables) zero h e = (or_parts (p first) (list_any p tables) e).0
none_at p (first ∷ tables) (suc i) h e = none_at p tables i (omega arith) (or_parts (p first) (list_any p tables) e).1

pub unclaimed : (pair : Pair) (tables : List Routes) (i : ℕ) → i < length tables → claims_along pair tables ≡ 0 → finite.get (slice_index_or tables i finite.empty) pair ≡ None
unclaimed pair tables i h none =
    none_from (finite.get (slice_index_or tables i finite.empty) pair) (none_at (is_routed pair) tables i h (sym (claimed-somewhere pair tables) ∙ ap (nat_lt 0) none))

-- and the other way round
pub unclaimed-none : (pair : Pair) (tables : List Routes) → list_any (is_routed pair) tables ≡ false → claims_along pair tables ≡ 0
unclaimed-none pair tables none = let claimed = claimed-somewhere pair tables in grind (arith, nat_tests)

-- a pair is claimed at most once for each position
one-most : (b : Bool) → one_if b ≤ 1
one-most true = omega arith
one-most false = omega arith

few-brought : (pair : Pair) (before : Routes) (tables : List Routes) → brought_along pair before tables ≤ length tables
few-brought pair before [] = omega arith
few-brought pair before (after ∷ tables) = omega (arith, one-most (brings pair before after), few-brought pair after tables)

pub few-claims : (pair : Pair) (tables : List Routes) → claims_along pair tables ≤ length tables
few-claims pair [] = omega arith
few-claims pair (first ∷ tables) = omega (arith, one-most (is_routed pair first), few-brought pair first tables)

-- ---- it has one at some position exactly where it has one at a given position or a step names it

-- a step names the pair only where it has a route before it or behind it, and where it doesn't name it, it has one on both sides or on none
abbrev pub NamesFor : Pair → Routes → Pairs → Routes → Type 0
NamesFor pair before step after =
    (set.contains step pair ≡ false → is_routed pair before ≡ is_routed pair after)
    × (set.contains step pair ≡ true → (is_routed pair before || is_routed pair after) ≡ true)

-- each step does, between two tables
abbrev pub NameFor : Pair → List Routes → List Pairs → Type 0
NameFor pair [] steps = ⊥
NameFor pair (last ∷ []) [] = Unit {0}
NameFor pair (last ∷ []) (step ∷ steps) = ⊥
NameFor pair (before ∷ after ∷ tables) [] = ⊥
NameFor pair (before ∷ after ∷ tables) (step ∷ steps) = NamesFor pair before step after × NameFor pair (after ∷ tables) steps

-- some step names the pair
abbrev pub any_names : Pair → List Pairs → Bool
any_names pair steps = list_any (λ step. set.contains step pair) steps

at_start : (a b n x y : Bool) → (n ≡ false → a ≡ b) → (n ≡ true → (a || b) ≡ true) → (b || x) ≡ (b || y) → (a || (b || x)) ≡ (a || (n || y))
at_start a b n x y same some e = grind arith

on_the_way : (a b n x y h : Bool) → (n ≡ false → a ≡ b) → (n ≡ true → (a || b) ≡ true) → (b || x) ≡ (b || y) → (b || x) ≡ (h || y) → (a || (b || x)) ≡ (h || (n || y))
on_the_way a b n x y h same some e e' = grind arith

pub routed-somewhere : (pair : Pair) (tables : List Routes) (steps : List Pairs) → NameFor pair tables steps → (i : ℕ) → i < length tables
    → list_any (is_routed pair) tables ≡ (is_routed pair (slice_index_or tables i finite.empty) || any_names pair steps)
routed-somewhere pair [] steps names i h = absurd names
routed-somewhere pair (last ∷ []) [] names zero h = refl
routed-somewhere pair (last ∷ []) [] names (suc i) h = absurd (omega arith)
routed-somewhere pair (last ∷ []) (step ∷ steps) names i h = absurd names
routed-somewhere pair (before ∷ after ∷ tables) [] names i h = absurd names
routed-somewhere pair (before ∷ after ∷ tables) (step ∷ steps) names zero h =
    at_start (is_routed pair before) (is_routed pair after) (set.contains step pair) (list_any (is_routed pair) tables) (any_names pair steps) names.0.0 names.0.1
    (routed-somewhere pair (after ∷ tables) steps names.1 0 (omega arith))
routed-somewhere pair (before ∷ after ∷ tables) (step ∷ steps) names (suc i) h =
    on_the_way (is_routed pair before) (is_routed pair after) (set.contains step pair) (list_any (is_routed pair) tables) (any_names pair steps)
    (is_routed pair (slice_index_or (after ∷ tables) i finite.empty)) names.0.0 names.0.1
    (routed-somewhere pair (after ∷ tables) steps names.1 0 (omega arith))
    (routed-somewhere pair (after ∷ tables) steps names.1 i (omega arith))

-- so a pair is wanted exactly where it is claimed
pub needed_keys-claimed : (t : Timeline) (pair : Pair) → NameFor pair t.tables t.steps → t.cursor - t.floor < length t.tables → set.contains (needed_keys t) pair ≡ nat_lt 0 (claims t pair)
needed_keys-claimed t pair names within =
    contains-needed_keys t pair
    ∙ sym (routed-somewhere pair t.tables t.steps names (t.cursor - t.floor) within)
    ∙ sym (claimed-somewhere pair t.tables)

-- ---- along a history

named-somewhere : (before : Option _) (does : Effect) → is_named before does ≡ true → (is_some before || is_some (route_after before does)) ≡ true
named-somewhere before does e = grind arith

-- what an event names fits the table before it and that behind it
pub table-names : (pair : Pair) (routes : Routes) (event : Event) → NamesFor pair routes (named_pairs routes event) (table_after routes event)
table-names pair routes event =
    let before = finite.get routes pair in
    let does = effect pair event in
    let said = contains-named_pairs routes event pair in
    let after : finite.get (table_after routes event) pair ≡ route_after before does = get-table_after routes event pair in (
      (λ e. ap is_some (unnamed-same before does (sym said ∙ e) ∙ sym after)),
      (λ e. ap (λ r. is_some before || is_some r) after ∙ named-somewhere before does (sym said ∙ e)),
    )

event-names : (pair : Pair) (past : List Event) (event : Event) → NamesFor pair (table past) (named_pairs (table past) event) (table (past ++ event ∷ []))
event-names pair past event = subst (NamesFor pair (table past) (named_pairs (table past) event)) (sym (table-append past event)) (table-names pair (table past) event)

names-along : (pair : Pair) (past events : List Event) → NameFor pair (tables_along past events) (steps_along past events)
names-along pair past [] = tt
names-along pair past (event ∷ []) = (event-names pair past event, tt)
names-along pair past (event ∷ next ∷ events) = (event-names pair past event, names-along pair (past ++ event ∷ []) (next ∷ events))

length-tables_along : (past events : List Event) → length (tables_along past events) ≡ suc (length events)
length-tables_along past [] = refl
length-tables_along past (event ∷ events) = ap suc (length-tables_along (past ++ event ∷ []) events)

-- a player that stands for a history wants the pairs that it claims
pub StandsFor-claimed : (t : Timeline) (history : List Event) (pair : Pair) → StandsFor t history → set.contains (needed_keys t) pair ≡ nat_lt 0 (claims t pair)
StandsFor-claimed t history pair stands =
    let past = take t.floor history in
    let events = drop t.floor history in
    let names = subst (λ ss. NameFor pair t.tables ss) (sym stands.steps) (subst (λ ts. NameFor pair ts (steps_along past events)) (sym stands.tables) (names-along pair past events)) in
    let positions : length t.tables ≡ suc (length events) = ap length stands.tables ∙ length-tables_along past events in
    needed_keys-claimed t pair names (omega (arith, positions, length-drop t.floor history, stands.floor, stands.cursor))

-- ---- what calls make of claims

one_less : (a b : Bool) (n : ℕ) → one_if a + (one_if (not a && b) + n) ≡ one_if b + n + one_if (a && not b)
one_less a b n = grind arith

-- the first position is forgotten: one claim less where its step clears the pair
pub first-forgotten : (pair : Pair) (tables : List Routes) → 1 < length tables
    → claims_along pair tables ≡ claims_along pair (drop 1 tables) + one_if (clears pair (slice_index_or tables 0 finite.empty) (slice_index_or tables 1 finite.empty))
first-forgotten pair [] h = absurd (omega arith)
first-forgotten pair (last ∷ []) h = absurd (omega arith)
first-forgotten pair (before ∷ after ∷ tables) h = one_less (is_routed pair before) (is_routed pair after) (brought_along pair after tables)

-- the last position is dropped: one claim less where its step brings the pair
last-dropped : (pair : Pair) (before : Routes) (tables : List Routes) (n : ℕ) → length tables ≡ suc n
    → brought_along pair before tables
    ≡ brought_along pair before (take n tables)
    + one_if (brings pair (slice_index_or (before ∷ tables) n finite.empty) (slice_index_or (before ∷ tables) (suc n) finite.empty))
last-dropped pair before [] n h = absurd (omega arith)
last-dropped pair before (last ∷ []) zero h = omega arith
last-dropped pair before (last ∷ []) (suc n) h = absurd (omega arith)
last-dropped pair before (next ∷ after ∷ tables) zero h = absurd (omega arith)
last-dropped pair before (next ∷ after ∷ tables) (suc n) h = omega (arith, last-dropped pair next (after ∷ tables) n (omega arith))

pub last-claims : (pair : Pair) (tables : List Routes) (n : ℕ) → length tables ≡ suc (suc n)
    → claims_along pair tables
    ≡ claims_along pair (take (suc n) tables)
    + one_if (brings pair (slice_index_or tables n finite.empty) (slice_index_or tables (suc n) finite.empty))
last-claims pair [] n h = absurd (omega arith)
last-claims pair (last ∷ []) n h = absurd (omega arith)
last-claims pair (before ∷ after ∷ tables) n h = omega (arith, last-dropped pair before (after ∷ tables) n (omega arith))

-- a position more at the end: one claim more where its step brings the pair
brought-played : (pair : Pair) (before : Routes) (tables : List Routes) (new : Routes) (n : ℕ) → length tables ≡ n
    → brought_along pair before (tables ++ new ∷ []) ≡ brought_along pair before tables + one_if (brings pair (slice_index_or (before ∷ tables) n finite.empty) new)
brought-played pair before [] new zero h = omega arith
brought-played pair before [] new (suc n) h = absurd (omega arith)
brought-played pair before (after ∷ tables) new zero h = absurd (omega arith)
brought-played pair before (after ∷ tables) new (suc n) h = omega (arith, brought-played pair after tables new n (omega arith))

pub last-played : (pair : Pair) (tables : List Routes) (new : Routes) (n : ℕ) → length tables ≡ suc n
    → claims_along pair (tables ++ new ∷ []) ≡ claims_along pair tables + one_if (brings pair (slice_index_or tables n finite.empty) new)
last-played pair [] new n h = absurd (omega arith)
last-played pair (first ∷ tables) new n h = omega (arith, brought-played pair first tables new n (omega arith))

-- so of a player: a step that is forgotten gives up a claim to each pair that it clears
pub claims-forgotten : (t : Timeline) (pair : Pair) → IsWellFormed t → 0 < length t.steps
    → claims t pair ≡ claims (without_first 1 t) pair + one_if (clears pair (table_at t t.floor) (table_at t (t.floor + 1)))
claims-forgotten t pair formed some =
    let at = λ (n : ℕ). slice_index_or t.tables n finite.empty in
    let rest = claims (without_first 1 t) pair in
    first-forgotten pair t.tables (omega (arith, formed.tables))
    ∙ ap (λ n. rest + one_if (clears pair (at n) (at 1))) {x = 0} {y = t.floor - t.floor} (omega arith)
    ∙ ap (λ n. rest + one_if (clears pair (table_at t t.floor) (at n))) {x = 1} {y = t.floor + 1 - t.floor} (omega arith)

-- one that is dropped gives up a claim to each pair that it brings
pub claims-dropped : (t : Timeline) (pair : Pair) → IsWellFormed t → 0 < length t.steps
    → claims t pair ≡ claims (without_last t) pair + one_if (brings pair (table_at t (end_of t - 1)) (table_at t (end_of t)))
claims-dropped t pair formed some =
    let at = λ (n : ℕ). slice_index_or t.tables n finite.empty in
    let n = length t.tables - 2 in
    last-claims pair t.tables n (omega (arith, formed.tables))
    ∙ ap (λ m. claims_along pair (take m t.tables) + one_if (brings pair (at n) (at (suc n)))) {x = suc n} {y = length t.tables - 1} (omega (arith, formed.tables))
    ∙ ap (λ m. claims (without_last t) pair + one_if (brings pair (at m) (at (suc n)))) {x = n} {y = end_of t - 1 - t.floor} (omega (arith, formed.tables))
    ∙ ap (λ m. claims (without_last t) pair + one_if (brings pair (table_at t (end_of t - 1)) (at m))) {x = suc n} {y = end_of t - t.floor} (omega (arith, formed.tables))

-- one that is played at the end adds a claim to each pair that it brings
pub claims-played : (t : Timeline) (event : Event) (pair : Pair) → IsWellFormed t → t.cursor ≡ end_of t
    → claims (after_play t event) pair ≡ claims t pair + one_if (brings pair (current t) (table_after (current t) event))
claims-played t event pair formed last =
    let new = table_after (current t) event in
    let whole : take (undoable t + 1) t.tables ≡ t.tables = take_all (undoable t + 1) t.tables (omega (arith, formed.tables, last)) in
    ap (λ ts. claims_along pair (ts ++ new ∷ [])) whole
    ∙ last-played pair t.tables new (t.cursor - t.floor) (omega (arith, formed.tables, last))
