-- Players that stand for histories: what they have at each position, and which history they stand for after calls.
use Rattle.std.proofs.Common.{◌≡◌, ℕ, ◌+◌, ◌-◌, ◌≤◌, List, [], ◌∷◌, ◌++◌, option_map, length, take, drop, slice_get, slice_index_or, nat_lt, refl, sym, ap, ap₂, ◌∙◌, append_assoc, length-drop, length-take-le, add-one, add-sub_of_le, arith, take-add}
use Rattle.std.proofs.lemmas.Bool.{cond_both, ltb-true}
use Rattle.std.proofs.lemmas.List.{length_push, drop-drop}
use Rattle.std.specs.FinMap as finite
use Rattle.rib_player.specs.declared.pair.Pair.{Pair}
use Rattle.mrt_events.specs.declared.event.Event.{Event}
use Rattle.rib_player.specs.History.{route}
use Rattle.rib_player.specs.Tables.{table, table_after, named_pairs}
use Rattle.rib_player.specs.Timeline.{Timeline, end_of, undoable, table_at, current, after_play, fresh, after_undo, after_redo, without_first, forgotten_count, after_forget}
use Rattle.rib_player.specs.Calls.{StandsFor, Call, Play, PlayRefused, Undo, Redo, Forget, Look, tables_along, steps_along, after_call, after_calls, history_after, history_after_calls}
use Rattle.rib_player.proofs.TableLaws.{get-table}
use Rattle.rib_player.proofs.HistoryLaws.{table-append}
use Rattle.rib_player.proofs.AlongHistory.{length-steps_along, tables_along-append, steps_along-append, take-tables_along, take-steps_along, drop-tables_along, drop-steps_along, at-tables_along, at-steps_along}
use Rattle.octet_forms.proofs.Lists.{take_in_parts, slice_get-drop, take_below_pushed, drop_below_pushed}

-- the table at a position is that of the events before it
pub StandsFor-table : (t : Timeline) (history : List Event) → StandsFor t history → (i : ℕ) → t.floor ≤ i → i ≤ length history → table_at t i ≡ table (take i history)
StandsFor-table t history stands i from to =
    ap (λ ts. slice_index_or ts (i - t.floor) finite.empty) stands.tables
    ∙ at-tables_along (i - t.floor) (take t.floor history) (drop t.floor history) finite.empty (omega (arith, length-drop t.floor history))
    ∙ ap table (take_in_parts t.floor i history from)

-- the table at the cursor is that of the events before it
pub StandsFor-current : (t : Timeline) (history : List Event) → StandsFor t history → current t ≡ table (take t.cursor history)
StandsFor-current t history stands = StandsFor-table t history stands t.cursor stands.floor stands.cursor

-- so a pair has the route of the last event before the cursor that does anything there
pub StandsFor-routes : (t : Timeline) (history : List Event) → StandsFor t history → (pair : Pair) → finite.get (current t) pair ≡ route pair (take t.cursor history)
StandsFor-routes t history stands pair = ap (λ routes. finite.get routes pair) (StandsFor-current t history stands) ∙ get-table (take t.cursor history) pair

-- the step at a position is what the event there names
pub StandsFor-step : (t : Timeline) (history : List Event) → StandsFor t history → (i : ℕ) → t.floor ≤ i → slice_get t.steps (i - t.floor) ≡ option_map (named_pairs (table (take i history))) (slice_get history i)
StandsFor-step t history stands i from =
    ap (λ ss. slice_get ss (i - t.floor)) stands.steps
    ∙ at-steps_along (i - t.floor) (take t.floor history) (drop t.floor history)
    ∙ ap₂ (λ h e. option_map (named_pairs (table h)) e) (take_in_parts t.floor i history from) (slice_get-drop t.floor (i - t.floor) i history (add-sub_of_le from))

-- the highest position is the history's length
pub StandsFor-end : (t : Timeline) (history : List Event) → StandsFor t history → end_of t ≡ length history
StandsFor-end t history stands =
    let steps = ap length stands.steps ∙ length-steps_along (take t.floor history) (drop t.floor history) in
    omega (arith, steps, length-drop t.floor history, stands.floor, stands.cursor)

-- the tables up to a position and that of one event more
tables-after_play : (low high : ℕ) (history : List Event) (event : Event) → low ≤ high → high ≤ length history
    → take (high - low + 1) (tables_along (take low history) (drop low history)) ++ table_after (table (take high history)) event ∷ []
    ≡ tables_along (take low (take high history ++ event ∷ [])) (drop low (take high history ++ event ∷ []))
tables-after_play low high history event h k =
    let past = take low history in
    let kept = take (high - low) (drop low history) in
    ap₂ (λ ts r. ts ++ r ∷ [])
    (ap (λ n. take n (tables_along past (drop low history))) (add-one (high - low)) ∙ take-tables_along (high - low) past (drop low history) (omega (arith, length-drop low history)))
    (sym (table-append (take high history) event)
    ∙ ap (λ hs. table (hs ++ event ∷ [])) (sym (take_in_parts low high history h))
    ∙ ap table (append_assoc past kept (event ∷ [])))
    ∙ sym (tables_along-append past kept event)
    ∙ ap₂ tables_along (sym (take_below_pushed low high history event h k)) (sym (drop_below_pushed low high history event h k))

-- the steps up to a position and that of one event more
steps-after_play : (low high : ℕ) (history : List Event) (event : Event) → low ≤ high → high ≤ length history
    → take (high - low) (steps_along (take low history) (drop low history)) ++ named_pairs (table (take high history)) event ∷ []
    ≡ steps_along (take low (take high history ++ event ∷ [])) (drop low (take high history ++ event ∷ []))
steps-after_play low high history event h k =
    let past = take low history in
    let kept = take (high - low) (drop low history) in
    ap₂ (λ ss n. ss ++ n ∷ [])
    (take-steps_along (high - low) past (drop low history))
    (ap (λ hs. named_pairs (table hs) event) (sym (take_in_parts low high history h)))
    ∙ sym (steps_along-append past kept event)
    ∙ ap₂ steps_along (sym (take_below_pushed low high history event h k)) (sym (drop_below_pushed low high history event h k))

-- a play leaves the history up to the cursor and then the event
pub StandsFor-after_play : (t : Timeline) (history : List Event) (event : Event) → StandsFor t history → StandsFor (after_play t event) (take t.cursor history ++ event ∷ [])
StandsFor-after_play t history event stands =
    let now = StandsFor-current t history stands in
    record {
      floor = omega (arith, stands.floor);
      cursor = omega (arith, length_push (take t.cursor history) event, length-take-le t.cursor history stands.cursor);
      tables = ap₂ (λ ts r. take (undoable t + 1) ts ++ table_after r event ∷ []) stands.tables now ∙ tables-after_play t.floor t.cursor history event stands.floor stands.cursor;
      steps = ap₂ (λ ss r. take (undoable t) ss ++ named_pairs r event ∷ []) stands.steps now ∙ steps-after_play t.floor t.cursor history event stands.floor stands.cursor;
    }

-- an undo keeps the history
pub StandsFor-after_undo : (t : Timeline) (history : List Event) → StandsFor t history → StandsFor (after_undo t) history
StandsFor-after_undo t history stands =
    cond_both (nat_lt t.floor t.cursor) (record t { cursor = t.cursor - 1 }) t (λ p. StandsFor p history)
    (λ e. record { floor = omega (arith, ltb-true t.floor t.cursor e); cursor = omega (arith, stands.cursor); tables = stands.tables; steps = stands.steps })
    (λ e. stands)

-- a redo keeps the history
pub StandsFor-after_redo : (t : Timeline) (history : List Event) → StandsFor t history → StandsFor (after_redo t) history
StandsFor-after_redo t history stands =
    cond_both (nat_lt t.cursor (end_of t)) (record t { cursor = t.cursor + 1 }) t (λ p. StandsFor p history)
    (λ e. record { floor = omega (arith, stands.floor); cursor = omega (arith, ltb-true t.cursor (end_of t) e, StandsFor-end t history stands); tables = stands.tables; steps = stands.steps })
    (λ e. stands)

-- without the first steps a player stands for the same history, where the cursor is behind them
pub StandsFor-without_first : (t : Timeline) (history : List Event) (count : ℕ) → count ≤ undoable t → StandsFor t history → StandsFor (without_first count t) history
StandsFor-without_first t history count within stands =
    let taken : take t.floor history ++ take count (drop t.floor history) ≡ take (t.floor + count) history = sym (take-add t.floor count history) in
    let rest : drop count (drop t.floor history) ≡ drop (t.floor + count) history = drop-drop count t.floor history in
    record {
      floor = omega (arith, stands.floor);
      cursor = stands.cursor;
      tables = ap (drop count) stands.tables ∙ drop-tables_along count (take t.floor history) (drop t.floor history) (omega (arith, length-drop t.floor history, stands.floor, stands.cursor))
          ∙ ap₂ tables_along taken rest;
      steps = ap (drop count) stands.steps ∙ drop-steps_along count (take t.floor history) (drop t.floor history) ∙ ap₂ steps_along taken rest;
    }

-- so forgetting keeps the history
pub StandsFor-after_forget : (t : Timeline) (history : List Event) (keep : ℕ) → StandsFor t history → StandsFor (after_forget t keep) history
StandsFor-after_forget t history keep stands = StandsFor-without_first t history (forgotten_count t keep) (omega arith) stands

-- after a call, a player stands for the history that the call leaves
pub StandsFor-after_call : (t : Timeline) (history : List Event) (call : Call) → StandsFor t history → StandsFor (after_call t call) (history_after t.cursor history call)
StandsFor-after_call t history (Play event) stands = StandsFor-after_play t history event stands
StandsFor-after_call t history (PlayRefused event) stands = stands
StandsFor-after_call t history Undo stands = StandsFor-after_undo t history stands
StandsFor-after_call t history Redo stands = StandsFor-after_redo t history stands
StandsFor-after_call t history (Forget keep) stands = StandsFor-after_forget t history keep stands
StandsFor-after_call t history Look stands = stands

-- and so it does after several
pub StandsFor-after_calls : (t : Timeline) (history : List Event) (calls : List Call) → StandsFor t history → StandsFor (after_calls t calls) (history_after_calls t history calls)
StandsFor-after_calls t history [] stands = stands
StandsFor-after_calls t history (call ∷ calls) stands =
    StandsFor-after_calls (after_call t call) (history_after t.cursor history call) calls (StandsFor-after_call t history call stands)

-- no events leave no routes
table-nil : table [] ≡ finite.empty
unfolding table
table-nil = refl

-- a new player stands for no events
pub StandsFor-fresh : StandsFor fresh []
StandsFor-fresh = record { floor = omega arith; cursor = omega arith; tables = ap (λ r. r ∷ []) (sym table-nil); steps = refl }
