use Rattle.std.proofs.Common.{◌≡◌, ◌+◌, ◌≤◌, List, [], ◌∷◌, ◌++◌, length, take, arith, refl, sym, ap, subst, ◌∙◌, option_to_list}
use Rattle.std.specs.List.{AllByRecursion, IsDistinct}
use Rattle.std.proofs.lemmas.List.{take-append-le, take_all, take-take, length_push, length-map, map-append}
use Rattle.rib_player.specs.Claims.{claims_beyond, held_claims}
use Rattle.rib_player.specs.Journal.{Side, sides_of, pairs_in, sides_by_step, step_sides}
use Rattle.rib_player.specs.Sides.{AreDistinct, marks_of, marks_by_step, step_marks}
use Rattle.rib_player.specs.JournalState.{AreClaimed, CanDrop}
use Rattle.rib_player.proofs.MarkLaws.{tied, all-front, all-last, marked-length}
use Rattle.rib_player.proofs.PlayedLaws.{dropped-keys, dropped-free, can-dropped, claimed-dropped}
use Rattle.rib_player.proofs.journal.drop_steps_ahead.Given.{Over}
use Rattle.rib_player.proofs.journal.drop_steps_ahead.Goals as goal
use Rattle.rib_player.proofs.journal.drop_steps_ahead.Goals.{After-deref}

-- the step that goes stands last
split : (g : Over) (c : After-deref g) → c.steps.steps.items ≡ c.pop_back.new.self.items ++ c.in-Some.step ∷ []
split g c = c.pop_back.ensures.items ∙ ap (λ r. c.pop_back.new.self.items ++ option_to_list r) c.in-Some.is

marks-split : (g : Over) (c : After-deref g) → marks_by_step c.steps.steps.items ≡ marks_by_step c.pop_back.new.self.items ++ marks_of c.deref.result.now ∷ []
marks-split g c =
    ap marks_by_step (split g c) ∙ map-append step_marks c.pop_back.new.self.items (c.in-Some.step ∷ [])
    ∙ ap (λ es. marks_by_step c.pop_back.new.self.items ++ marks_of es ∷ []) (sym c.deref.ensures.value)

left : (g : Over) (c : After-deref g) → c.args.cursor ≤ length c.pop_back.new.self.items
left g c = omega (arith, ap length (split g c), length_push c.pop_back.new.self.items c.in-Some.step, c.len.ensures)

all-distinct : (g : Over) (c : After-deref g) → AllByRecursion AreDistinct (sides_by_step c.pop_back.new.self.items ++ step_sides c.in-Some.step ∷ [])
all-distinct g c = subst (AllByRecursion AreDistinct) (ap sides_by_step (split g c) ∙ map-append step_sides c.pop_back.new.self.items (c.in-Some.step ∷ [])) c.steps.invariant.distinct

can : (g : Over) (c : After-deref g)
    → CanDrop (marks_by_step c.pop_back.new.self.items ++ marks_of c.deref.result.now ∷ []) c.args.cursor (held_claims c.steps.table.keys (claims_beyond c.steps.claims)) c.steps.table.routes
can g c = subst (λ ms. CanDrop ms c.args.cursor (held_claims c.steps.table.keys (claims_beyond c.steps.claims)) c.steps.table.routes) (marks-split g c) c.steps.invariant.can

pub release_claims-requires-clause-distinct : goal.release_claims-requires-clause-distinct
release_claims-requires-clause-distinct g c =
    let b = (goal.at.release_claims-requires-clause-distinct g c).After-deref in
    subst (λ es. IsDistinct tied (pairs_in (sides_of es))) (sym c.deref.ensures.value)
    (all-last (λ (sides : List Side). IsDistinct tied (pairs_in sides)) (sides_by_step c.pop_back.new.self.items) (step_sides c.in-Some.step) (all-distinct g b))

pub release_claims-requires-clause-keys : goal.release_claims-requires-clause-keys
release_claims-requires-clause-keys g c =
    let b = (goal.at.release_claims-requires-clause-keys g c).After-deref in
    dropped-keys (marks_by_step c.pop_back.new.self.items) (marks_of c.deref.result.now) c.steps.table.keys (claims_beyond c.steps.claims) c.args.cursor c.steps.table.routes c.steps.invariant.held (can g b)

pub release_claims-requires-clause-free : goal.release_claims-requires-clause-free
release_claims-requires-clause-free g c =
    let b = (goal.at.release_claims-requires-clause-free g c).After-deref in
    dropped-free (marks_by_step c.pop_back.new.self.items) (marks_of c.deref.result.now) c.steps.table.keys (claims_beyond c.steps.claims) c.args.cursor c.steps.table.routes c.steps.invariant.held
    (omega (arith, left g b, length-map c.pop_back.new.self.items step_marks)) (can g b)

pub steps-init : goal.steps-init
steps-init g c = record {
  within = c.requires.within;
  distinct = c.requires.distinct;
  held = c.requires.held;
  can = c.requires.claimed;
  claimed = λ tables new are.
      subst (λ ts. AreClaimed (marks_by_step c.args.steps.now.items) (held_claims c.args.table.now.keys (claims_beyond c.args.claims.now)) ts new)
      (sym (take_all (length c.args.steps.now.items + 1) tables (omega (arith, marked-length tables (marks_by_step c.args.steps.now.items) are.marked, length-map c.args.steps.now.items step_marks)))) are;
  routes = refl;
  steps = refl;
  capacity = refl;
}

pub steps-preserved-in-Some : goal.steps-preserved-in-Some
steps-preserved-in-Some g c =
    let b = (goal.at.steps-preserved-in-Some g c).After-deref in
    let steps = c.pop_back.new.self.items in
    let marks = marks_by_step steps in
    let gone = marks_of c.deref.result.now in
    let count = held_claims c.steps.table.keys (claims_beyond c.steps.claims) in
    let now = held_claims c.release_claims.new.table.keys (claims_beyond c.release_claims.new.claims) in
    let many : length marks ≡ length steps = length-map steps step_marks in
    record {
      within = left g b;
      distinct = all-front (λ (sides : List Side). IsDistinct tied (pairs_in sides)) (sides_by_step steps) (step_sides c.in-Some.step) (all-distinct g b);
      held = c.release_claims.ensures.held;
      can = can-dropped marks gone count now c.args.cursor c.steps.table.routes c.release_claims.new.table.routes (omega (arith, left g b, many)) c.release_claims.ensures.routes c.release_claims.ensures.claimed (can g b);
      claimed = λ tables new are.
          let before = take (length c.steps.steps.items + 1) tables in
          let after = claimed-dropped marks gone count now before new
          (subst (λ ms. AreClaimed ms count before new) (marks-split g b) (c.steps.invariant.claimed tables new are)) c.release_claims.ensures.claimed in
          subst (λ ts. AreClaimed marks now ts new)
          (ap (λ n. take (n + 1) before) many ∙ take-take (length steps + 1) (length c.steps.steps.items + 1) tables (omega (arith, ap length (split g b), length_push steps c.in-Some.step))) after;
      routes = c.release_claims.ensures.routes ∙ c.steps.invariant.routes;
      steps = sym (ap (take c.args.cursor) (split g b) ∙ take-append-le c.args.cursor steps (c.in-Some.step ∷ []) (left g b)) ∙ c.steps.invariant.steps;
      capacity = c.pop_back.ensures.capacity ∙ c.steps.invariant.capacity;
    }

pub returns-clause-claimed : goal.returns-clause-claimed
returns-clause-claimed g c = λ tables new are.
    subst (λ n. AreClaimed (marks_by_step c.steps.steps.items) (held_claims c.steps.table.keys (claims_beyond c.steps.claims)) (take (n + 1) tables) new)
    {x = length c.steps.steps.items} {y = c.args.cursor} (omega (arith, c.steps-test.false, c.len.ensures, c.steps.invariant.within))
    (c.steps.invariant.claimed tables new are)
