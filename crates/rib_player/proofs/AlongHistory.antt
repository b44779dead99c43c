-- The tables and the steps along a history: how many they are, which one is where, and those of a shorter or a longer history.
use Rattle.std.proofs.Common.{◌≡◌, ℕ, zero, suc, ◌≤◌, List, [], ◌∷◌, ◌++◌, Some, option_map, length, take, drop, slice_get, slice_index_or, refl, sym, ap, ◌∙◌, append_assoc, append-nil, arith}
use Rattle.mrt_events.specs.declared.event.Event.{Event}
use Rattle.rib_player.specs.Tables.{Routes, table, named_pairs}
use Rattle.rib_player.specs.Calls.{tables_along, steps_along}

-- there are as many steps as events
pub length-steps_along : (past events : List Event) → length (steps_along past events) ≡ length events
length-steps_along past [] = refl
length-steps_along past (event ∷ events) = ap suc (length-steps_along (past ++ event ∷ []) events)

-- one more event adds the table of all events
pub tables_along-append : (past events : List Event) (event : Event) → tables_along past (events ++ event ∷ []) ≡ tables_along past events ++ table (past ++ (events ++ event ∷ [])) ∷ []
tables_along-append past [] event = refl
tables_along-append past (first ∷ events) event =
    ap (λ ts. table past ∷ ts)
    (tables_along-append (past ++ first ∷ []) events event
    ∙ ap (λ h. tables_along (past ++ first ∷ []) events ++ table h ∷ []) (append_assoc past (first ∷ []) (events ++ event ∷ [])))

-- one more event adds the pairs that it names
pub steps_along-append : (past events : List Event) (event : Event) → steps_along past (events ++ event ∷ []) ≡ steps_along past events ++ named_pairs (table (past ++ events)) event ∷ []
steps_along-append past [] event = ap (λ h. named_pairs (table h) event ∷ []) (sym (append-nil past))
steps_along-append past (first ∷ events) event =
    ap (λ ss. named_pairs (table past) first ∷ ss)
    (steps_along-append (past ++ first ∷ []) events event
    ∙ ap (λ h. steps_along (past ++ first ∷ []) events ++ named_pairs (table h) event ∷ []) (append_assoc past (first ∷ []) events))

-- the first tables are those of the first events
pub take-tables_along : (k : ℕ) (past events : List Event) → k ≤ length events → take (suc k) (tables_along past events) ≡ tables_along past (take k events)
take-tables_along zero past [] h = refl
take-tables_along zero past (event ∷ events) h = refl
take-tables_along (suc k) past [] h = absurd (omega arith)
take-tables_along (suc k) past (event ∷ events) h = ap (λ ts. table past ∷ ts) (take-tables_along k (past ++ event ∷ []) events (omega arith))

-- the first steps are those of the first events
pub take-steps_along : (k : ℕ) (past events : List Event) → take k (steps_along past events) ≡ steps_along past (take k events)
take-steps_along zero past events = refl
take-steps_along (suc k) past [] = refl
take-steps_along (suc k) past (event ∷ events) = ap (λ ss. named_pairs (table past) event ∷ ss) (take-steps_along k (past ++ event ∷ []) events)

-- the tables behind the first events are those of the others, with these in the past
pub drop-tables_along : (k : ℕ) (past events : List Event) → k ≤ length events → drop k (tables_along past events) ≡ tables_along (past ++ take k events) (drop k events)
drop-tables_along zero past events h = ap (λ before. tables_along before events) (sym (append-nil past))
drop-tables_along (suc k) past [] h = absurd (omega arith)
drop-tables_along (suc k) past (event ∷ events) h =
    drop-tables_along k (past ++ event ∷ []) events (omega arith)
    ∙ ap (λ before. tables_along before (drop k events)) (append_assoc past (event ∷ []) (take k events))

-- and so with the steps
pub drop-steps_along : (k : ℕ) (past events : List Event) → drop k (steps_along past events) ≡ steps_along (past ++ take k events) (drop k events)
drop-steps_along zero past events = ap (λ before. steps_along before events) (sym (append-nil past))
drop-steps_along (suc k) past [] = refl
drop-steps_along (suc k) past (event ∷ events) =
    drop-steps_along k (past ++ event ∷ []) events
    ∙ ap (λ before. steps_along before (drop k events)) (append_assoc past (event ∷ []) (take k events))

-- the table behind k events is that of the past and these
pub at-tables_along : (k : ℕ) (past events : List Event) (other : Routes) → k ≤ length events → slice_index_or (tables_along past events) k other ≡ table (past ++ take k events)
at-tables_along zero past [] other h = ap table (sym (append-nil past))
at-tables_along zero past (event ∷ events) other h = ap table (sym (append-nil past))
at-tables_along (suc k) past [] other h = absurd (omega arith)
at-tables_along (suc k) past (event ∷ events) other h =
    at-tables_along k (past ++ event ∷ []) events other (omega arith)
    ∙ ap table (append_assoc past (event ∷ []) (take k events))

-- the step behind k events is what the next one names, where there is one
pub at-steps_along : (k : ℕ) (past events : List Event) → slice_get (steps_along past events) k ≡ option_map (named_pairs (table (past ++ take k events))) (slice_get events k)
at-steps_along k past [] = refl
at-steps_along zero past (event ∷ events) = ap (λ h. Some (named_pairs (table h) event)) (sym (append-nil past))
at-steps_along (suc k) past (event ∷ events) =
    at-steps_along k (past ++ event ∷ []) events
    ∙ ap (λ h. option_map (named_pairs (table h)) (slice_get events k)) (append_assoc past (event ∷ []) (take k events))
