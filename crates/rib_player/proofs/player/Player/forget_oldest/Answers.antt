use Rattle.std.proofs.Common.{◌≡◌, suc, ◌+◌, ◌-◌, ◌++◌, ◌∷◌, true, None, length, ap, ap₂, sym, subst, ◌∙◌, arith, option_to_list}
use Rattle.std.specs.FinMap as finite
use Rattle.std.specs.FinSet as names
use Rattle.rib_player.specs.declared.pair.Pair.{Pair}
use Rattle.rib_player.specs.declared.entry.JournalEnd.TheVariants.{First}
use Rattle.rib_player.specs.Claims.{one_if, claims_beyond, held_claims}
use Rattle.rib_player.specs.JournalState.{IsConsistentJournal}
use Rattle.rib_player.specs.Timeline.{without_first}
use Rattle.rib_player.specs.Journal.{step_sides, sides_by_step, timeline_of}
use Rattle.rib_player.specs.Sides.{marks_of, any_releases_claim_of}
use Rattle.rib_player.proofs.ForgetLaws.{timeline-forgotten}
use Rattle.rib_player.proofs.PlayedLaws.{forgotten-keys, forgotten-free, forgotten-played}
use Rattle.rib_player.proofs.player.Player.forget_oldest.Given.{Over}
use Rattle.rib_player.proofs.player.Player.forget_oldest.Goals as goal
use Rattle.rib_player.proofs.player.Player.forget_oldest.Goals.{After-deref}

-- the step that is forgotten stands first
split : (g : Over) (c : After-deref g) → c.self.inside.journal.steps.items ≡ c.in-Some.step ∷ c.pop_front.new.self.items
split g c = c.pop_front.ensures.items ∙ ap (λ r. option_to_list r ++ c.pop_front.new.self.items) c.in-Some.is

-- and before the cursor
before : (g : Over) (c : After-deref g) → c.self.inside.journal.cursor ≡ suc (c.self.inside.journal.cursor - 1)
before g c = omega (arith, c.requires, ap (λ t. t.floor) c.self.view_is, ap (λ t. t.cursor) c.self.view_is)

played : (g : Over) (c : After-deref g)
    → IsConsistentJournal c.self.inside.table (claims_beyond c.self.inside.claims) (suc (c.self.inside.journal.cursor - 1)) (c.in-Some.step ∷ c.pop_front.new.self.items)
played g c =
    subst (λ n. IsConsistentJournal c.self.inside.table (claims_beyond c.self.inside.claims) n (c.in-Some.step ∷ c.pop_front.new.self.items)) (before g c)
    (subst (IsConsistentJournal c.self.inside.table (claims_beyond c.self.inside.claims) c.self.inside.journal.cursor) (split g c) c.self.invariant.played)

pub release_claims-requires-clause-keys : goal.release_claims-requires-clause-keys
release_claims-requires-clause-keys g c =
    subst (λ es. (q : Pair) → any_releases_claim_of First (marks_of es) q ≡ true → names.contains c.self.inside.table.keys q ≡ true) (sym c.deref.ensures.value)
    (forgotten-keys (played g (goal.at.release_claims-requires-clause-keys g c).After-deref))

pub release_claims-requires-clause-free : goal.release_claims-requires-clause-free
release_claims-requires-clause-free g c =
    subst (λ es. (q : Pair) → any_releases_claim_of First (marks_of es) q ≡ true → claims_beyond c.self.inside.claims q ≡ 0 → finite.get c.self.inside.table.routes q ≡ None) (sym c.deref.ensures.value)
    (forgotten-free (played g (goal.at.release_claims-requires-clause-free g c).After-deref))

pub invariant_of-self : goal.invariant_of-self
invariant_of-self g c =
    let b = (goal.at.invariant_of-self g c).After-deref in
    record {
      played = forgotten-played (played g b) c.release_claims.new.table (claims_beyond c.release_claims.new.claims) c.release_claims.ensures.routes c.release_claims.ensures.held
          (λ q. ap (λ es. held_claims c.release_claims.new.table.keys (claims_beyond c.release_claims.new.claims) q + one_if (any_releases_claim_of First (marks_of es) q)) (sym c.deref.ensures.value) ∙ c.release_claims.ensures.claimed q);
      saturated_count = omega (arith, c.self.invariant.saturated_count, ap length (split g b));
    }

pub returns-in-Some : goal.returns-in-Some
returns-in-Some g c =
    let b = (goal.at.returns-in-Some g c).After-deref in
    let journal = c.self.inside.journal in
    ap (timeline_of (journal.floor + 1) (journal.cursor - 1) (sides_by_step c.pop_front.new.self.items)) c.release_claims.ensures.routes
    ∙ timeline-forgotten journal.floor (journal.cursor - 1) (step_sides c.in-Some.step) (sides_by_step c.pop_front.new.self.items) c.self.inside.table.routes
    ∙ ap₂ (λ n steps. without_first 1 (timeline_of journal.floor n (sides_by_step steps) c.self.inside.table.routes)) (sym (before g b)) (sym (split g b))
    ∙ ap (without_first 1) c.self.view_is
