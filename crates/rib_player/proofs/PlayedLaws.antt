-- What calls make of what a player keeps.
use Rattle.std.proofs.Common.{◌≡◌, ℕ, suc, ◌+◌, ◌<◌, ◌≤◌, Bool, true, false, not, ◌||◌, ◌&&◌, length, length-append, set, take, drop, slice_index_or, [], ◌∷◌, ◌++◌, List, None, map, is_some, refl, sym, ap, ap₂, subst, ◌∙◌, arith}
use Rattle.std.specs.Prelude.{nat_lt}
use Rattle.std.specs.List.{AllByRecursion, IsDistinct, list_any}
use Rattle.std.specs.Ordering.{eq_by_cmp}
use Rattle.std.specs.FinMap as finite
use Rattle.std.specs.FinMap.{get-empty}
use Rattle.std.specs.FinSet as names
use Rattle.std.specs.FinSet.{contains-empty, contains-from_list}
use Rattle.std.proofs.lemmas.List.{length-map, map-append, take-map, take-take, take_at, get_or_at}
use Rattle.std.proofs.Math.Bool.{or-true}
use Rattle.mrt_events.specs.declared.event.Event.{Event}
use Rattle.rib_player.specs.declared.pair.Pair.{Pair}
use Rattle.rib_player.specs.declared.entry.Step.{Step}
use Rattle.rib_player.specs.declared.entry.JournalEnd.TheVariants.{First, Last}
use Rattle.rib_player.specs.History.{pair_cmp}
use Rattle.rib_player.specs.Tables.{Routes, Pairs, table_after, named_pairs, Contents}
use Rattle.rib_player.specs.Timeline.{Timeline, after_play, needed_keys, IsWellFormed}
use Rattle.rib_player.specs.Claims.{is_routed, one_if, brings, claims_along, held_claims, OnlyKeysHaveExtraClaims}
use Rattle.rib_player.specs.Journal.{Side, pairs_in, step_sides, sides_by_step, tables_over, timeline_of, routes_across}
use Rattle.rib_player.specs.Sides.{sides_at, sides_across, AreDistinctKeys, AreDistinct, IsStepFor, Mark, marks_by_step, step_marks, marks_across, any_releases_claim_of, IsMarkOf, AreMarksOf, AreMarksOfSteps}
use Rattle.rib_player.specs.JournalState.{IsConsistentJournal, IsStepSwapped, AreClaimed, CanDrop}
use Rattle.octet_forms.proofs.Lists.{AllByRecursion-get_or, AllByRecursion-set, AllByRecursion-push, AllByRecursion-take}
use Rattle.rib_player.proofs.PairLaws.{pair_cmp_total}
use Rattle.rib_player.proofs.StoreLaws.{same_pairs}
use Rattle.rib_player.proofs.JournalLaws.{pairs_in-sides_across, routes_across-step}
use Rattle.rib_player.proofs.CursorLaws.{earlier, tables-behind, tables-added, tables-back, tables-on, length-earlier, length-tables, at-cursor, timeline-after_play, added}
use Rattle.rib_player.proofs.ForgetLaws.{tables-forgotten}
use Rattle.rib_player.proofs.KeyLaws.{any-take, none_from, needed_keys-kept}
use Rattle.rib_player.proofs.MarkLaws.{tied, tied_itself, pairs_marked, gives-between, named-routed, marked-length, marked-take, marked-last, marked-push, marked-first, step-names}
use Rattle.rib_player.proofs.HeldLaws.{held-key, some-key, one_true}
use Rattle.rib_player.proofs.ClaimLaws.{NameFor, needed_keys-claimed, claimed-somewhere, few-claims, first-forgotten, last-claims, last-played, unclaimed, unclaimed-none, table-names}

-- ---- the keys are the wanted pairs

-- what marks are right says which pairs steps name
names-marked : (q : Pair) (tables : List Routes) (steps : List Step) → AreMarksOfSteps tables (marks_by_step steps) → NameFor q tables (map (λ (sides : List Side). names.from_list (pairs_in sides)) (sides_by_step steps))
names-marked q [] steps all = absurd all
names-marked q (last ∷ []) [] all = tt
names-marked q (last ∷ []) (step ∷ steps) all = absurd all
names-marked q (before ∷ after ∷ tables) [] all = absurd all
names-marked q (before ∷ after ∷ tables) (step ∷ steps) all = (
  (
    (λ out. all.0.unnamed q (sym (step-names step q) ∙ out)),
    (λ there. named-routed before after (step_marks step) q all.0.right (sym (step-names step q) ∙ there)),
  ),
  names-marked q (after ∷ tables) steps all.1,
)

-- a player's steps, and the claims that it holds
module _ {table : Contents} {beyond : Pair → ℕ} {cursor : ℕ} {steps : List Step} (played : IsConsistentJournal table beyond cursor steps) where
  -- its tables
  abbrev pub tables-played : List Routes
  tables-played = tables_over cursor (sides_by_step steps) table.routes

  pub within-played : cursor ≤ length (sides_by_step steps)
  within-played = omega (arith, played.within, length-map steps step_sides)

  as-many-played : length tables-played ≡ length (sides_by_step steps) + 1
  as-many-played = length-tables cursor (sides_by_step steps) table.routes within-played

  pub played-needed_keys : (floor : ℕ) → table.keys ≡ needed_keys (timeline_of floor cursor (sides_by_step steps) table.routes)
  played-needed_keys floor =
      let t : Timeline = timeline_of floor cursor (sides_by_step steps) table.routes in
      same_pairs table.keys (needed_keys t) (λ q.
      held-key table.keys beyond q played.held ∙ ap (nat_lt 0) (played.claimed q)
      ∙ sym (needed_keys-claimed t q (names-marked q tables-played steps played.marked) (omega (arith, within-played, as-many-played))))

  -- no more claims than positions are counted
  pub played-few : (q : Pair) → beyond q ≤ length steps + 1
  played-few q = omega (arith, played.claimed q, few-claims q tables-played, as-many-played, length-map steps step_sides)

  -- so its steps can be crossed
  pub played-kept : (index : ℕ) → index < length steps → AreDistinctKeys table.keys (sides_at (sides_by_step steps) index)
  played-kept index within =
      AllByRecursion-get_or (AreDistinctKeys table.keys) (sides_by_step steps) index [] (omega (arith, within, length-map steps step_sides))
      (needed_keys-kept table.keys (timeline_of 0 cursor (sides_by_step steps) table.routes) (sides_by_step steps) (played-needed_keys 0) refl played.distinct)

  pub well_formed-played : (floor : ℕ) → IsWellFormed (timeline_of floor cursor (sides_by_step steps) table.routes)
  well_formed-played floor =
      let as_many : length (timeline_of floor cursor (sides_by_step steps) table.routes).steps ≡ length (sides_by_step steps) = length-map (sides_by_step steps) (λ (sides : List Side). names.from_list (pairs_in sides)) in
      record { floor = omega arith; cursor = omega (arith, within-played, as_many); tables = as-many-played ∙ omega (arith, as_many) }

  -- what is not claimed has no route
  unclaimed-played : (q : Pair) → claims_along q tables-played ≡ 0 → finite.get table.routes q ≡ None
  unclaimed-played q none =
      ap (λ r. finite.get r q) (sym (at-cursor cursor (sides_by_step steps) table.routes within-played))
      ∙ unclaimed q tables-played cursor (omega (arith, within-played, as-many-played)) none

  pub played-among : (q : Pair) → names.contains table.keys q ≡ false → finite.get table.routes q ≡ None
  played-among q out = unclaimed-played q (sym (played.claimed q) ∙ ap₂ (λ b n. one_if b + n) out (played.held q out))

-- ---- a new player

pub played-new : (table : Contents) (beyond : Pair → ℕ) (steps : List Step) → table ≡ record { keys = names.empty; routes = finite.empty } → ((q : Pair) → beyond q ≡ 0) → steps ≡ [] → IsConsistentJournal table beyond 0 steps
played-new table beyond steps e none f =
    subst (λ t. IsConsistentJournal t beyond 0 steps) (sym e) (subst (IsConsistentJournal (record { keys = names.empty; routes = finite.empty }) beyond 0) (sym f) (record {
      within = omega arith;
      distinct = tt;
      marked = tt;
      held = λ q out. none q;
      claimed = λ q. ap₂ (λ b n. one_if b + n) (contains-empty pair_cmp q) (none q) ∙ sym (ap (λ r. one_if (is_some r) + 0) (get-empty pair_cmp q));
    }))

-- ---- a step that is crossed

distinct-crossed : (steps : List (List Side)) (index : ℕ) (routes : Routes) → index < length steps → AllByRecursion AreDistinct steps → AllByRecursion AreDistinct (set steps index (sides_across routes (sides_at steps index)))
distinct-crossed steps index routes within all =
    AllByRecursion-set AreDistinct steps index (sides_across routes (sides_at steps index))
    (subst (IsDistinct (eq_by_cmp pair_cmp)) (sym (pairs_in-sides_across routes (sides_at steps index))) (AllByRecursion-get_or AreDistinct steps index [] within all)) all

module _ {table table' : Contents} {beyond : Pair → ℕ} {cursor index : ℕ} {steps steps' : List Step} (played : IsConsistentJournal table beyond cursor steps) (crossed : IsStepSwapped table table' steps steps' index) where
  -- the player elsewhere on the same tables
  crossed-played : (cursor' : ℕ) → index < length steps → cursor' ≤ length steps
      → tables_over cursor' (set (sides_by_step steps) index (sides_across table.routes (sides_at (sides_by_step steps) index))) (routes_across (sides_at (sides_by_step steps) index) table.routes) ≡ tables-played played
      → IsConsistentJournal table' beyond cursor' steps'
  crossed-played cursor' there within same =
      let tables : tables_over cursor' (sides_by_step steps') table'.routes ≡ tables-played played = ap₂ (tables_over cursor') crossed.sides crossed.routes ∙ same in
      record {
        within = omega (arith, within, ap length crossed.marks, length-map steps step_marks, length-map steps' step_marks);
        distinct = subst (AllByRecursion AreDistinct) (sym crossed.sides) (distinct-crossed (sides_by_step steps) index table.routes (omega (arith, there, length-map steps step_sides)) played.distinct);
        marked = subst (λ ts. AreMarksOfSteps ts (marks_by_step steps')) (sym tables) (subst (AreMarksOfSteps (tables-played played)) (sym crossed.marks) played.marked);
        held = subst (λ k. OnlyKeysHaveExtraClaims k beyond) (sym crossed.keys) played.held;
        claimed = λ q. ap (λ k. held_claims k beyond q) crossed.keys ∙ played.claimed q ∙ ap (claims_along q) (sym tables);
      }

  -- there are as many steps
  pub length-crossed : length steps' ≡ length steps
  length-crossed = omega (arith, ap length crossed.marks, length-map steps step_marks, length-map steps' step_marks)

  -- the step before the cursor was crossed
  pub undone-played : index + 1 ≡ cursor → IsConsistentJournal table' beyond index steps'
  undone-played last =
      let within = within-played played in
      crossed-played index (omega (arith, last, played.within)) (omega (arith, last, played.within))
      (tables-back index (sides_by_step steps) table.routes (omega (arith, last, within)) ∙ ap (λ n. tables_over n (sides_by_step steps) table.routes) last)

  -- that behind it was
  pub redone-played : index ≡ cursor → cursor < length steps → IsConsistentJournal table' beyond (cursor + 1) steps'
  redone-played here ahead =
      crossed-played (cursor + 1) (omega (arith, here, ahead)) (omega (arith, ahead))
      (ap (λ n. tables_over (cursor + 1) (set (sides_by_step steps) n (sides_across table.routes (sides_at (sides_by_step steps) n))) (routes_across (sides_at (sides_by_step steps) n) table.routes)) here
      ∙ tables-on cursor (sides_by_step steps) table.routes (omega (arith, ahead, length-map steps step_sides)))

-- ---- a step that is forgotten

module _ {n : ℕ} {first : Step} {steps : List Step} {table : Contents} {beyond : Pair → ℕ} (played : IsConsistentJournal table beyond (suc n) (first ∷ steps)) where
  -- the tables without that before it
  rest : drop 1 (tables-played played) ≡ tables_over n (sides_by_step steps) table.routes
  rest = tables-forgotten n (step_sides first) (sides_by_step steps) table.routes

  -- what is claimed besides the claims that go with it
  forgotten : (q : Pair) → held_claims table.keys beyond q ≡ claims_along q (tables_over n (sides_by_step steps) table.routes) + one_if (any_releases_claim_of First (step_marks first) q)
  forgotten q =
      let tables = tables-played played in
      played.claimed q ∙ first-forgotten q tables (omega (arith, marked-length tables (marks_by_step (first ∷ steps)) played.marked))
      ∙ ap₂ (λ ts b. claims_along q ts + one_if b) rest
      (sym (gives-between First (slice_index_or tables 0 finite.empty) (slice_index_or tables 1 finite.empty) (step_marks first) q (marked-first tables (step_marks first) (marks_by_step steps) played.marked).0))

  -- the pairs that it clears are keys
  pub forgotten-keys : (q : Pair) → any_releases_claim_of First (step_marks first) q ≡ true → names.contains table.keys q ≡ true
  forgotten-keys q gives = some-key table.keys beyond q played.held (omega (arith, forgotten q, one_true _ gives))

  -- and have no route where nothing is claimed beyond them
  pub forgotten-free : (q : Pair) → any_releases_claim_of First (step_marks first) q ≡ true → beyond q ≡ 0 → finite.get table.routes q ≡ None
  forgotten-free q gives none =
      let within : n ≤ length (sides_by_step steps) = omega (arith, played.within, length-map steps step_sides) in
      let key = one_true _ (forgotten-keys q gives) in
      ap (λ r. finite.get r q) (sym (at-cursor n (sides_by_step steps) table.routes within))
      ∙ unclaimed q (tables_over n (sides_by_step steps) table.routes) n (omega (arith, within, length-tables n (sides_by_step steps) table.routes within))
      (omega (arith, forgotten q, one_true _ gives, key, none))

  -- the player without it
  pub forgotten-played : (table' : Contents) (beyond' : Pair → ℕ) → table'.routes ≡ table.routes → OnlyKeysHaveExtraClaims table'.keys beyond'
      → ((q : Pair) → held_claims table'.keys beyond' q + one_if (any_releases_claim_of First (step_marks first) q) ≡ held_claims table.keys beyond q) → IsConsistentJournal table' beyond' n steps
  forgotten-played table' beyond' same held less = record {
    within = omega (arith, played.within);
    distinct = played.distinct.1;
    marked = subst (λ ts. AreMarksOfSteps ts (marks_by_step steps)) (rest ∙ ap (tables_over n (sides_by_step steps)) (sym same))
        (marked-first (tables-played played) (step_marks first) (marks_by_step steps) played.marked).1;
    held = held;
    claimed = λ q. omega (arith, less q, forgotten q, ap (λ r. claims_along q (tables_over n (sides_by_step steps) r)) same);
  }

-- ---- a step that is dropped

-- what is claimed besides the claims that go with the last step
dropped : (steps : List (List Mark)) (gone : List Mark) (held : Pair → ℕ) (tables : List Routes) (new : Pair → ℕ) (q : Pair) → AreClaimed (steps ++ gone ∷ []) held tables new
    → held q ≡ claims_along q (take (length steps + 1) tables) + new q + one_if (any_releases_claim_of Last gone q)
dropped steps gone held tables new q are =
    let n = length steps in
    let long : length tables ≡ suc (suc n) = marked-length tables (steps ++ gone ∷ []) are.marked ∙ omega (arith, length-append steps (gone ∷ [])) in
    omega (
      arith,
      are.claimed q,
      last-claims q tables n long,
      ap (λ m. claims_along q (take m tables)) {x = suc n} {y = n + 1} (omega arith),
      ap one_if (gives-between Last (slice_index_or tables n finite.empty) (slice_index_or tables (suc n) finite.empty) gone q (marked-last tables steps gone are.marked)),
    )

-- the claims without it
pub claimed-dropped : (steps : List (List Mark)) (gone : List Mark) (held held' : Pair → ℕ) (tables : List Routes) (new : Pair → ℕ) → AreClaimed (steps ++ gone ∷ []) held tables new
    → ((q : Pair) → held' q + one_if (any_releases_claim_of Last gone q) ≡ held q) → AreClaimed steps held' (take (length steps + 1) tables) new
claimed-dropped steps gone held held' tables new are less =
    let n = length steps in record {
      marked = subst (AreMarksOfSteps (take (n + 1) tables)) (take_at steps (gone ∷ []) n refl)
          (subst (λ m. AreMarksOfSteps (take m tables) (take n (steps ++ gone ∷ []))) {x = suc n} {y = n + 1} (omega arith) (marked-take n tables (steps ++ gone ∷ []) are.marked));
      claimed = λ q. omega (arith, less q, dropped steps gone held tables new q are);
    }

-- fewer positions have no more claims than none
none-before : (q : Pair) (n : ℕ) (tables : List Routes) → claims_along q tables ≡ 0 → claims_along q (take n tables) ≡ 0
none-before q n tables none =
    unclaimed-none q (take n tables) (any-take (is_routed q) n tables (sym (claimed-somewhere q tables) ∙ ap (nat_lt 0) none))

-- the pairs that it brings are keys
pub dropped-keys : (steps : List (List Mark)) (gone : List Mark) (keys : Pairs) (beyond : Pair → ℕ) (cursor : ℕ) (routes : Routes) → OnlyKeysHaveExtraClaims keys beyond
    → CanDrop (steps ++ gone ∷ []) cursor (held_claims keys beyond) routes → (q : Pair) → any_releases_claim_of Last gone q ≡ true → names.contains keys q ≡ true
dropped-keys steps gone keys beyond cursor routes held can q gives =
    some-key keys beyond q held (omega (arith, dropped steps gone (held_claims keys beyond) can.tables can.new q can.are, one_true _ gives))

-- and have no route where nothing is claimed beyond them
pub dropped-free : (steps : List (List Mark)) (gone : List Mark) (keys : Pairs) (beyond : Pair → ℕ) (cursor : ℕ) (routes : Routes) → OnlyKeysHaveExtraClaims keys beyond → cursor ≤ length steps
    → CanDrop (steps ++ gone ∷ []) cursor (held_claims keys beyond) routes → (q : Pair) → any_releases_claim_of Last gone q ≡ true → beyond q ≡ 0 → finite.get routes q ≡ None
dropped-free steps gone keys beyond cursor routes held within can q gives none =
    let n = length steps in
    let all = dropped steps gone (held_claims keys beyond) can.tables can.new q can.are in
    let key = one_true _ (dropped-keys steps gone keys beyond cursor routes held can q gives) in
    let left : claims_along q (take (n + 1) can.tables) ≡ 0 = omega (arith, all, one_true _ gives, key, none) in
    let fewer : claims_along q (take (cursor + 1) can.tables) ≡ 0 =
    ap (claims_along q) (sym (take-take (cursor + 1) (n + 1) can.tables (omega (arith, within)))) ∙ none-before q (cursor + 1) (take (n + 1) can.tables) left in
    can.free q (omega (arith, fewer, all, one_true _ gives, key, none))

-- so the next can be dropped
pub can-dropped : (steps : List (List Mark)) (gone : List Mark) (held held' : Pair → ℕ) (cursor : ℕ) (routes routes' : Routes) → cursor ≤ length steps → routes' ≡ routes
    → ((q : Pair) → held' q + one_if (any_releases_claim_of Last gone q) ≡ held q) → CanDrop (steps ++ gone ∷ []) cursor held routes → CanDrop steps cursor held' routes'
can-dropped steps gone held held' cursor routes routes' within same less can = record {
  tables = take (length steps + 1) can.tables;
  new = can.new;
  are = claimed-dropped steps gone held held' can.tables can.new can.are less;
  free = λ q none. ap (λ r. finite.get r q) same
      ∙ can.free q (ap (λ ts. claims_along q ts + can.new q) (sym (take-take (cursor + 1) (length steps + 1) can.tables (omega (arith, within)))) ∙ none);
}

-- ---- a step that is played

pairs_marked-across : (routes : Routes) (sides : List Side) → pairs_marked (marks_across routes sides) ≡ pairs_in sides
pairs_marked-across routes [] = refl
pairs_marked-across routes (side ∷ sides) = ap (λ ps. side.0 ∷ ps) (pairs_marked-across routes sides)

-- the marks of sides that a table has, each of whose pairs has a route in one of two tables
all-marks : (before after : Routes) (sides : List Side) → ((q : Pair) → list_any (tied q) (pairs_in sides) ≡ true → (is_routed q before || is_routed q after) ≡ true)
    → AllByRecursion (IsMarkOf before after) (marks_across before (sides_across after sides))
all-marks before after [] some = tt
all-marks before after (side ∷ sides) some = (
  record { mark_before = refl; mark_after = refl; some = some side.0 (ap (λ b. b || list_any (tied side.0) (pairs_in sides)) (tied_itself side.0)) },
  all-marks before after sides (λ q there. some q (ap (λ b. tied q side.0 || b) there ∙ or-true (tied q side.0))),
)

some-marked : (before after : Routes) (sides : List Side) → AllByRecursion (IsMarkOf before after) (marks_across before sides)
    → AllByRecursion (λ (side : Side). (is_some (finite.get before side.0) || is_some side.1) ≡ true) sides
some-marked before after [] all = tt
some-marked before after (side ∷ sides) all = (all.0.some, some-marked before after sides all.1)

-- a pair among an event's sides is one that it names
among-named : (routes : Routes) (event : Event) (sides : List Side) (q : Pair) → IsStepFor routes event sides → names.contains (named_pairs routes event) q ≡ list_any (tied q) (pairs_in sides)
among-named routes event sides q step = ap (λ s. names.contains s q) (sym step.names) ∙ contains-from_list pair_cmp_total (pairs_in sides) q

-- the marks of an event's step are right
step-marked : (routes : Routes) (event : Event) (sides : List Side) → IsStepFor routes event sides → AreMarksOf routes (table_after routes event) (marks_across routes sides)
step-marked routes event sides step = record {
  right = subst (λ s. AllByRecursion (IsMarkOf routes (table_after routes event)) (marks_across routes s)) (sym step.after)
      (all-marks routes (table_after routes event) sides (λ q there. (table-names q routes event).1 (among-named routes event sides q step ∙ there)));
  unnamed = λ q out. (table-names q routes event).0 (among-named routes event sides q step ∙ ap (list_any (tied q)) (sym (pairs_marked-across routes sides)) ∙ out);
}

pub step-named : (routes : Routes) (event : Event) (sides : List Side) → IsStepFor routes event sides → AllByRecursion (λ (side : Side). (is_some (finite.get routes side.0) || is_some side.1) ≡ true) sides
step-named routes event sides step = some-marked routes (table_after routes event) sides (step-marked routes event sides step).right

-- an event's step that is put
module _ {table : Contents} {beyond : Pair → ℕ} {cursor : ℕ} {steps : List Step} {event : Event} {sides : List Side} (played : IsConsistentJournal table beyond cursor steps) (step : IsStepFor table.routes event sides) where
  abbrev next : Routes
  next = table_after table.routes event

  -- the tables up to the cursor
  abbrev behind : List Routes
  behind = take (cursor + 1) (tables-played played)

  behind-is : behind ≡ earlier cursor (sides_by_step steps) table.routes ++ table.routes ∷ []
  behind-is = tables-behind cursor (sides_by_step steps) table.routes (within-played played)

  behind-long : length behind ≡ suc cursor
  behind-long = ap length behind-is ∙ omega (arith, length-append (earlier cursor (sides_by_step steps) table.routes) (table.routes ∷ []), length-earlier cursor (sides_by_step steps) table.routes (within-played played))

  behind-last : slice_index_or behind cursor finite.empty ≡ table.routes
  behind-last = ap (λ ts. slice_index_or ts cursor finite.empty) behind-is
      ∙ get_or_at (earlier cursor (sides_by_step steps) table.routes) table.routes [] finite.empty cursor (length-earlier cursor (sides_by_step steps) table.routes (within-played played))

  right : (marks : List Mark) → marks ≡ marks_across table.routes sides → AreMarksOf table.routes next marks
  right marks is = subst (AreMarksOf table.routes next) (sym is) (step-marked table.routes event sides step)

  -- the claims once it is put, and the steps ahead are still there
  pub can-play : (table' : Contents) (beyond' : Pair → ℕ) (marks : List Mark) → table'.routes ≡ routes_across sides table.routes → marks ≡ marks_across table.routes sides
      → ((q : Pair) → held_claims table'.keys beyond' q ≡ held_claims table.keys beyond q + one_if (any_releases_claim_of Last marks q)) → CanDrop (marks_by_step steps) cursor (held_claims table'.keys beyond') table'.routes
  can-play table' beyond' marks after is more = record {
    tables = tables-played played;
    new = λ q. one_if (any_releases_claim_of Last marks q);
    are = record { marked = played.marked; claimed = λ q. more q ∙ ap (λ n. n + one_if (any_releases_claim_of Last marks q)) (played.claimed q) };
    free = λ q none.
        let here : finite.get table.routes q ≡ None =
        ap (λ r. finite.get r q) (sym behind-last) ∙ unclaimed q behind cursor (omega (arith, behind-long)) (omega (arith, none)) in
        ap (λ r. finite.get r q) (after ∙ routes_across-step table.routes event sides step)
        ∙ none_from (finite.get next q)
        (sym (ap (λ r. not (is_some r) && is_routed q next) here) ∙ sym (gives-between Last table.routes next marks q (right marks is))
        ∙ no_claim (any_releases_claim_of Last marks q) (omega (arith, none)));
  }
    where
      no_claim : (b : Bool) → one_if b ≡ 0 → b ≡ false
      no_claim true e = absurd (omega (arith, e))
      no_claim false e = refl

  -- once the steps ahead are dropped, it stands behind the cursor
  module _ (table' : Contents) (beyond' : Pair → ℕ) (steps' : List Step) (new : Step) (left : steps' ≡ take cursor steps) (after : table'.routes ≡ routes_across sides table.routes) (crossing : step_sides new ≡ sides_across table.routes sides) where
    steps-play : sides_by_step (steps' ++ new ∷ []) ≡ added cursor (sides_by_step steps) (sides_across table.routes sides)
    steps-play = map-append step_sides steps' (new ∷ []) ∙ ap₂ (λ a b. a ++ b ∷ []) (ap sides_by_step left ∙ sym (take-map step_sides cursor steps)) crossing

    pub after_play-on : (floor : ℕ) → timeline_of floor (cursor + 1) (sides_by_step (steps' ++ new ∷ [])) table'.routes ≡ after_play (timeline_of floor cursor (sides_by_step steps) table.routes) event
    after_play-on floor =
        ap₂ (timeline_of floor (cursor + 1)) steps-play after ∙ timeline-after_play floor cursor (sides_by_step steps) sides table.routes event (within-played played) step

    pub played-on : step_marks new ≡ marks_across table.routes sides → OnlyKeysHaveExtraClaims table'.keys beyond'
        → AreClaimed (marks_by_step steps') (held_claims table'.keys beyond') (take (cursor + 1) (tables-played played)) (λ q. one_if (any_releases_claim_of Last (step_marks new) q)) → IsConsistentJournal table' beyond' (cursor + 1) (steps' ++ new ∷ [])
    played-on is held are =
        let tables : tables_over (cursor + 1) (sides_by_step (steps' ++ new ∷ [])) table'.routes ≡ behind ++ next ∷ [] =
        ap₂ (tables_over (cursor + 1)) steps-play after ∙ tables-added cursor (sides_by_step steps) sides table.routes (within-played played)
        ∙ ap (λ r. behind ++ r ∷ []) (routes_across-step table.routes event sides step) in
        let marks : marks_by_step (steps' ++ new ∷ []) ≡ marks_by_step steps' ++ step_marks new ∷ [] = map-append step_marks steps' (new ∷ []) in
        let count : length (marks_by_step steps') ≡ cursor = omega (arith, marked-length behind (marks_by_step steps') are.marked, behind-long) in
        record {
          within = omega (arith, length-map steps' step_marks, count, length-append steps' (new ∷ []));
          distinct = subst (AllByRecursion AreDistinct) (sym (map-append step_sides steps' (new ∷ [])))
              (AllByRecursion-push AreDistinct (sides_by_step steps') (step_sides new)
              (subst (AllByRecursion AreDistinct) (take-map step_sides cursor steps ∙ ap sides_by_step (sym left)) (AllByRecursion-take AreDistinct cursor (sides_by_step steps) played.distinct))
              (subst (IsDistinct (eq_by_cmp pair_cmp)) (sym (ap pairs_in crossing ∙ pairs_in-sides_across table.routes sides)) step.distinct));
          marked = subst (λ ts. AreMarksOfSteps ts (marks_by_step (steps' ++ new ∷ []))) (sym tables) (subst (AreMarksOfSteps (behind ++ next ∷ [])) (sym marks)
              (marked-push behind (marks_by_step steps') next (step_marks new) are.marked
              (subst (λ r. AreMarksOf r next (step_marks new)) (sym (ap (λ n. slice_index_or behind n finite.empty) count ∙ behind-last)) (right (step_marks new) is))));
          held = held;
          claimed = λ q. are.claimed q
              ∙ ap (λ b. claims_along q behind + one_if b) (gives-between Last table.routes next (step_marks new) q (right (step_marks new) is) ∙ ap (λ r. brings q r next) (sym behind-last))
              ∙ sym (last-played q behind next cursor behind-long)
              ∙ ap (claims_along q) (sym tables);
        }
