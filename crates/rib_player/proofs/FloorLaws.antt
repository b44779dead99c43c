-- What forgetting steps makes of a player's timeline.
use Rattle.std.proofs.Common.{◌≡◌, ℕ, ◌+◌, ◌-◌, ◌≤◌, min, slice_index_or, ap, ◌∙◌, arith, get_or-drop, drop-drop}
use Rattle.std.specs.FinMap as finite
use Rattle.rib_player.specs.Timeline.{Timeline, table_at, current, without_first, forgotten_count, after_forget}

-- the table at a position that is left stays
pub table_at-without_first : (t : Timeline) (count i : ℕ) → t.floor + count ≤ i → table_at (without_first count t) i ≡ table_at t i
table_at-without_first t count i from =
    get_or-drop count t.tables (i - (t.floor + count)) finite.empty
    ∙ ap (λ n. slice_index_or t.tables n finite.empty) {y = i - t.floor} (omega arith)

pub table_at-after_forget : (t : Timeline) (keep i : ℕ) → t.floor + forgotten_count t keep ≤ i → table_at (after_forget t keep) i ≡ table_at t i
table_at-after_forget t keep i from = table_at-without_first t (forgotten_count t keep) i from

-- so that at the cursor does
pub current-after_forget : (t : Timeline) (keep : ℕ) → t.floor ≤ t.cursor → current (after_forget t keep) ≡ current t
current-after_forget t keep h = table_at-after_forget t keep t.cursor (omega arith)

pub without_first-none : (t : Timeline) → without_first 0 t ≡ t
without_first-none t = let same : t.floor + 0 ≡ t.floor = omega arith in λ i. record { floor = same i; cursor = t.cursor; tables = t.tables; steps = t.steps }

pub without_first-more : (t : Timeline) (count more : ℕ) → without_first more (without_first count t) ≡ without_first (count + more) t
without_first-more t count more =
    let floors : t.floor + count + more ≡ t.floor + (count + more) = omega arith in
    λ i. record { floor = floors i; cursor = t.cursor; tables = drop-drop more count t.tables i; steps = drop-drop more count t.steps i }

-- nothing is forgotten where no step is too many
pub after_forget-none : (t : Timeline) (keep : ℕ) → forgotten_count t keep ≡ 0 → after_forget t keep ≡ t
after_forget-none t keep e = ap (λ n. without_first n t) e ∙ without_first-none t

-- twice is once, to the smaller number
pub after_forget-twice : (t : Timeline) (keep less : ℕ) → t.floor ≤ t.cursor → after_forget (after_forget t keep) less ≡ after_forget t (min keep less)
after_forget-twice t keep less h =
    without_first-more t (forgotten_count t keep) (forgotten_count (after_forget t keep) less)
    ∙ ap (λ n. without_first n t) {y = forgotten_count t (min keep less)} (omega arith)
