-- What forgetting the first step makes of a player.
use Rattle.std.proofs.Common.{◌≡◌, ℕ, suc, ◌+◌, List, [], ◌∷◌, ◌++◌, take, drop, reverse, refl, sym, ap, ◌∙◌, append_assoc, arith}
use Rattle.std.proofs.lemmas.List.{reverse-append}
use Rattle.rib_player.specs.Tables.{Routes}
use Rattle.rib_player.specs.Timeline.{without_first}
use Rattle.rib_player.specs.Journal.{Side, routes_across, tables_before, tables_after, tables_over, timeline_of}

-- the tables but for the first are those of the other steps
tables_before-first : (first : List Side) (back : List (List Side)) (routes : Routes) (rest : List Routes) → drop 1 (tables_before (back ++ first ∷ []) routes ++ rest) ≡ tables_before back routes ++ rest
tables_before-first first [] routes rest = refl
tables_before-first first (sides ∷ back) routes rest =
    let before : Routes = routes_across sides routes in
    ap (drop 1) (append_assoc (tables_before (back ++ first ∷ []) before) (before ∷ []) rest)
    ∙ tables_before-first first back before (before ∷ rest)
    ∙ sym (append_assoc (tables_before back before) (before ∷ []) rest)

pub tables-forgotten : (n : ℕ) (first : List Side) (steps : List (List Side)) (routes : Routes) → drop 1 (tables_over (suc n) (first ∷ steps) routes) ≡ tables_over n steps routes
tables-forgotten n first steps routes =
    ap (λ back. drop 1 (tables_before back routes ++ routes ∷ tables_after (drop n steps) routes)) (reverse-append (first ∷ []) (take n steps))
    ∙ tables_before-first first (reverse (take n steps)) routes (routes ∷ tables_after (drop n steps) routes)

-- so the player is that without its first step
pub timeline-forgotten : (floor n : ℕ) (first : List Side) (steps : List (List Side)) (routes : Routes)
    → timeline_of (floor + 1) n steps routes ≡ without_first 1 (timeline_of floor (suc n) (first ∷ steps) routes)
timeline-forgotten floor n first steps routes =
    let cursors : floor + 1 + n ≡ floor + suc n = omega arith in
    let tables = sym (tables-forgotten n first steps routes) in
    λ i. record { floor = floor + 1; cursor = cursors i; tables = tables i; steps = (timeline_of floor n steps routes).steps }
