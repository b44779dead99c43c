use Rattle.std.proofs.Common.{◌≡◌, ℕ, ◌+◌, List, length, take, arith, ap, sym, subst, ◌∙◌}
use Rattle.std.specs.Vec.{with_items}
use Rattle.std.proofs.lemmas.List.{with_items_is, length_push, length-take-le}
use Rattle.rib_player.specs.declared.pair.Pair.{Pair}
use Rattle.rib_player.specs.Entries.{Entry}
use Rattle.rib_player.specs.declared.entry.Step.{Step}
use Rattle.rib_player.specs.declared.entry.JournalEnd.TheVariants.{Last}
use Rattle.rib_player.specs.Timeline.{after_play}
use Rattle.rib_player.specs.Claims.{one_if, claims_beyond, held_claims}
use Rattle.rib_player.specs.Journal.{sides_of, sides_by_step, timeline_of}
use Rattle.rib_player.specs.Sides.{IsStepFor, marks_of, marks_by_step, step_marks, any_releases_claim_of}
use Rattle.rib_player.specs.JournalState.{IsConsistentJournal, AreClaimed, CanDrop}
use Rattle.rib_player.proofs.PlayedLaws.{tables-played, played-few, played-among, step-named, can-play, after_play-on, played-on}
use Rattle.rib_player.proofs.player.Player.play_without_cleanup.Given.{Over}
use Rattle.rib_player.proofs.player.Player.play_without_cleanup.Goals as goal
use Rattle.rib_player.proofs.player.Player.play_without_cleanup.Goals.{After-as_mut_slice, In_ok-apply_entries, After-push_back_reserved}

-- ---- before the entries are put

step : (g : Over) (c : After-as_mut_slice g) → IsStepFor c.self.inside.table.routes c.args.event.now (sides_of c.as_mut_slice.result.now)
step g c = subst (λ es. IsStepFor c.self.inside.table.routes c.args.event.now (sides_of es)) (sym c.as_mut_slice.ensures.value) c.in_ok-entries.ensures.step

pub apply_entries-requires-clause-distinct : goal.apply_entries-requires-clause-distinct
apply_entries-requires-clause-distinct g c = (step g (goal.at.apply_entries-requires-clause-distinct g c).After-as_mut_slice).distinct

pub apply_entries-requires-clause-among : goal.apply_entries-requires-clause-among
apply_entries-requires-clause-among g c = played-among c.self.invariant.played

-- there is a claim for each position at most, and of those fewer than a count has room for
pub apply_entries-requires-clause-few : goal.apply_entries-requires-clause-few
apply_entries-requires-clause-few g c = λ q.
    let steps = c.self.inside.journal.steps in
    omega (arith, played-few c.self.invariant.played q, steps.ok.0, steps.small)

pub apply_entries-requires-clause-named : goal.apply_entries-requires-clause-named
apply_entries-requires-clause-named g c =
    step-named c.self.inside.table.routes c.args.event.now (sides_of c.as_mut_slice.result.now) (step g (goal.at.apply_entries-requires-clause-named g c).After-as_mut_slice)

-- ---- once they are put

stepped : (g : Over) (c : In_ok-apply_entries g) → IsStepFor c.self.inside.table.routes c.args.event.now (sides_of c.as_mut_slice.result.now)
stepped g c = subst (λ es. IsStepFor c.self.inside.table.routes c.args.event.now (sides_of es)) (sym c.as_mut_slice.ensures.value) c.in_ok-entries.ensures.step

can : (g : Over) (c : In_ok-apply_entries g) → CanDrop (marks_by_step c.self.inside.journal.steps.items) c.self.inside.journal.cursor (held_claims c.apply_entries.new.table.keys (claims_beyond c.apply_entries.new.claims)) c.apply_entries.new.table.routes
can g c =
    can-play c.self.invariant.played (stepped g c) c.apply_entries.new.table (claims_beyond c.apply_entries.new.claims) (marks_of c.apply_entries.new.entries)
    c.in_ok-apply_entries.ensures.put.routes c.in_ok-apply_entries.ensures.put.marks c.in_ok-apply_entries.ensures.claimed

pub drop_steps_ahead-requires-clause-claimed : goal.drop_steps_ahead-requires-clause-claimed
drop_steps_ahead-requires-clause-claimed g c =
    let held = held_claims c.apply_entries.new.table.keys (claims_beyond c.apply_entries.new.claims) in
    subst (λ ss. CanDrop (marks_by_step ss) c.self.inside.journal.cursor held c.apply_entries.new.table.routes) (sym c.in_ok-reserve_step.ensures.steps)
    (can g (goal.at.drop_steps_ahead-requires-clause-claimed g c).In_ok-apply_entries)

-- ---- once the steps ahead are dropped

-- the event's step
abbrev new : (g : Over) (c : After-push_back_reserved g) → Step
new g c = record { entries = with_items c.in_ok-entries.entries c.apply_entries.new.entries }

all_entries_of_event : (g : Over) (c : After-push_back_reserved g) → (new g c).entries.items ≡ c.apply_entries.new.entries
all_entries_of_event g c = with_items_is c.in_ok-entries.entries c.apply_entries.new.entries (c.apply_entries.auto.entries ∙ c.as_mut_slice.ensures.len)

-- the steps before the cursor are left
left : (g : Over) (c : After-push_back_reserved g) → c.drop_steps_ahead.new.steps.items ≡ take c.self.inside.journal.cursor c.self.inside.journal.steps.items
left g c = c.drop_steps_ahead.ensures.steps ∙ ap (take c.self.inside.journal.cursor) c.in_ok-reserve_step.ensures.steps

step_then : (g : Over) (c : After-push_back_reserved g) → IsStepFor c.self.inside.table.routes c.args.event.now (sides_of c.as_mut_slice.result.now)
step_then g c = subst (λ es. IsStepFor c.self.inside.table.routes c.args.event.now (sides_of es)) (sym c.as_mut_slice.ensures.value) c.in_ok-entries.ensures.step

-- with the claims that they and the event's step make
claimed_then : (g : Over) (c : After-push_back_reserved g)
    → AreClaimed (marks_by_step c.drop_steps_ahead.new.steps.items) (held_claims c.drop_steps_ahead.new.table.keys (claims_beyond c.drop_steps_ahead.new.claims))
    (take (c.self.inside.journal.cursor + 1) (tables-played c.self.invariant.played))
    (λ q. one_if (any_releases_claim_of Last (step_marks (new g c)) q))
claimed_then g c =
    let journal = c.self.inside.journal in
    let tables = tables-played c.self.invariant.played in
    let now = held_claims c.drop_steps_ahead.new.table.keys (claims_beyond c.drop_steps_ahead.new.claims) in
    let before = held_claims c.apply_entries.new.table.keys (claims_beyond c.apply_entries.new.claims) in
    let marks = marks_by_step c.drop_steps_ahead.new.steps.items in
    let one : List Entry → Pair → ℕ = λ es q. one_if (any_releases_claim_of Last (marks_of es) q) in
    subst (λ es. AreClaimed marks now (take (journal.cursor + 1) tables) (one es)) (sym (all_entries_of_event g c))
    (c.drop_steps_ahead.ensures.claimed tables (one c.apply_entries.new.entries)
    (subst (λ ss. AreClaimed (marks_by_step ss) before tables (one c.apply_entries.new.entries)) (sym c.in_ok-reserve_step.ensures.steps)
    (record {
      marked = c.self.invariant.played.marked;
      claimed = λ q. c.in_ok-apply_entries.ensures.claimed q ∙ ap (λ n. n + one_if (any_releases_claim_of Last (marks_of c.apply_entries.new.entries) q)) (c.self.invariant.played.claimed q);
    })))

-- the event's step stands behind the cursor
then : (g : Over) (c : After-push_back_reserved g) (floor : ℕ)
    → timeline_of floor (c.self.inside.journal.cursor + 1) (sides_by_step c.push_back_reserved.new.self.items) c.drop_steps_ahead.new.table.routes
    ≡ after_play (timeline_of floor c.self.inside.journal.cursor (sides_by_step c.self.inside.journal.steps.items) c.self.inside.table.routes) c.args.event.now
then g c floor =
    ap (λ items. timeline_of floor (c.self.inside.journal.cursor + 1) (sides_by_step items) c.drop_steps_ahead.new.table.routes) c.push_back_reserved.ensures.items
    ∙ after_play-on c.self.invariant.played (step_then g c) c.drop_steps_ahead.new.table (claims_beyond c.drop_steps_ahead.new.claims) c.drop_steps_ahead.new.steps.items (new g c) (left g c)
    (c.drop_steps_ahead.ensures.routes ∙ c.in_ok-apply_entries.ensures.put.routes) (ap sides_of (all_entries_of_event g c) ∙ c.in_ok-apply_entries.ensures.put.sides) floor

pub invariant_of-self-2 : goal.invariant_of-self-2
invariant_of-self-2 g c =
    let b = (goal.at.invariant_of-self-2 g c).After-push_back_reserved in
    record {
      played = subst (IsConsistentJournal c.drop_steps_ahead.new.table (claims_beyond c.drop_steps_ahead.new.claims) (c.self.inside.journal.cursor + 1)) (sym c.push_back_reserved.ensures.items)
          (played-on c.self.invariant.played (step_then g b) c.drop_steps_ahead.new.table (claims_beyond c.drop_steps_ahead.new.claims) c.drop_steps_ahead.new.steps.items (new g b) (left g b)
          (c.drop_steps_ahead.ensures.routes ∙ c.in_ok-apply_entries.ensures.put.routes) (ap sides_of (all_entries_of_event g b) ∙ c.in_ok-apply_entries.ensures.put.sides)
          (ap marks_of (all_entries_of_event g b) ∙ c.in_ok-apply_entries.ensures.put.marks) c.drop_steps_ahead.ensures.held (claimed_then g b));
      saturated_count = omega (
        arith,
        c.requires,
        ap (λ t. t.cursor) c.self.view_is,
        ap length c.push_back_reserved.ensures.items,
        length_push c.drop_steps_ahead.new.steps.items (new g b),
        ap length (left g b),
        length-take-le c.self.inside.journal.cursor c.self.inside.journal.steps.items c.self.invariant.played.within,
      );
    }

pub returns-clause-after_play : goal.returns-clause-after_play
returns-clause-after_play g c =
    let b = (goal.at.returns-clause-after_play g c).After-push_back_reserved in
    then g b c.self.inside.journal.floor ∙ ap (λ t. after_play t c.args.event.now) c.self.view_is
