-- Private.
-- What table, claims, cursor and steps of a player keep true between calls.
use Rattle.std.specs.Prelude.{◌≡◌, ℕ, ◌+◌, ◌≤◌, List, take, set, length, None}
use Rattle.std.specs.List.{AllByRecursion}
use Rattle.std.specs.FinMap.{get}
use Rattle.rib_player.specs.declared.pair.Pair.{Pair}
use Rattle.rib_player.specs.declared.entry.Step.{Step}
use Rattle.rib_player.specs.Tables.{Routes, Contents}
use Rattle.rib_player.specs.Claims.{claims_along, held_claims, OnlyKeysHaveExtraClaims}
use Rattle.rib_player.specs.Entries.{Entry}
use Rattle.rib_player.specs.Journal.{tables_over, routes_across, sides_of, sides_by_step}
use Rattle.rib_player.specs.Sides.{sides_at, sides_across, AreDistinct, Mark, marks_of, marks_by_step, marks_across, AreMarksOfSteps}

-- a table, the claims beyond its keys, a cursor and steps fit together: the cursor is within the steps; each
-- step names a pair once, and marks it as the tables before and after the step have it; and each pair has as
-- many claims as the tables at all kept positions make
pub record IsConsistentJournal (table : Contents) (beyond : Pair → ℕ) (cursor : ℕ) (steps : List Step) : Type 0 where
  pub within : cursor ≤ length steps
  pub distinct : AllByRecursion AreDistinct (sides_by_step steps)
  pub marked : AreMarksOfSteps (tables_over cursor (sides_by_step steps) table.routes) (marks_by_step steps)
  pub held : OnlyKeysHaveExtraClaims table.keys beyond
  pub claimed : (q : Pair) → held_claims table.keys beyond q ≡ claims_along q (tables_over cursor (sides_by_step steps) table.routes)

-- a table and steps were changed from old to new by undoing or redoing the step at an index: table and step
-- exchanged the routes at its pairs, and the other steps are unchanged
pub record IsStepSwapped (old new : Contents) (steps steps' : List Step) (index : ℕ) : Type 0 where
  pub keys : new.keys ≡ old.keys
  pub routes : new.routes ≡ routes_across (sides_at (sides_by_step steps) index) old.routes
  pub sides : sides_by_step steps' ≡ set (sides_by_step steps) index (sides_across old.routes (sides_at (sides_by_step steps) index))
  pub marks : marks_by_step steps' ≡ marks_by_step steps

-- a table and the entries of a new step were changed from old to new by applying the step: they exchanged the
-- routes at its pairs, and each entry is marked as its pair has a route before and after the step
pub record AreApplied (old new : Contents) (entries entries' : List Entry) : Type 0 where
  pub routes : new.routes ≡ routes_across (sides_of entries) old.routes
  pub sides : sides_of entries' ≡ sides_across old.routes (sides_of entries)
  pub marks : marks_of entries' ≡ marks_across old.routes (sides_of entries)

-- the marks of steps fit the tables around them, and the claims that are held are those that these tables
-- make, plus new ones, of a step that isn't among the steps yet
pub record AreClaimed (steps : List (List Mark)) (held : Pair → ℕ) (tables : List Routes) (new : Pair → ℕ) : Type 0 where
  pub marked : AreMarksOfSteps tables steps
  pub claimed : (q : Pair) → held q ≡ claims_along q tables + new q

-- if the marks of `steps` and the claims `held` are right for some tables and some claims of a new step
-- (`AreClaimed`), then those of `steps'` and `held'` are right for the first `cursor + 1` of these tables and
-- that step: the steps after the cursor were dropped with their claims
abbrev pub ClaimsStayRightWithoutSteps : ℕ → List Step → (Pair → ℕ) → List Step → (Pair → ℕ) → Type 0
ClaimsStayRightWithoutSteps cursor steps held steps' held' =
    (tables : List Routes) (new : Pair → ℕ) → AreClaimed (marks_by_step steps) held tables new → AreClaimed (marks_by_step steps') held' (take (cursor + 1) tables) new

-- the steps after the cursor can be dropped: the held claims fit the steps, and a pair that has no claim
-- without these steps has no route
pub record CanDrop (steps : List (List Mark)) (cursor : ℕ) (held : Pair → ℕ) (routes : Routes) : Type 0 where
  pub tables : List Routes
  pub new : Pair → ℕ
  pub are : AreClaimed steps held tables new
  pub free : (q : Pair) → claims_along q (take (cursor + 1) tables) + new q ≡ 0 → get routes q ≡ None
