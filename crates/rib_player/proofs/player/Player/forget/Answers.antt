use Rattle.std.proofs.Common.{◌≡◌, ap, ◌∙◌, arith}
use Rattle.rib_player.specs.Timeline.{Timeline, without_first, forgotten_count}
use Rattle.rib_player.proofs.FloorLaws.{without_first-more}
use Rattle.rib_player.proofs.player.Player.forget.Given.{Over}
use Rattle.rib_player.proofs.player.Player.forget.Goals as goal
use Rattle.std.proofs.lemmas.Grind.{common_steps}
use Rattle.rib_player.proofs.player.Player.forget.Goals.{After-saturating_sub-count}

-- so many are too many
count : (g : Over) (c : After-saturating_sub-count g) → c.saturating_sub-count.result ≡ forgotten_count c.args.self.now c.args.keep
count g c = omega (arith, c.saturating_sub-count.ensures, ap (λ (t : Timeline). t.floor) c.self.view_is, ap (λ (t : Timeline). t.cursor) c.self.view_is)

pub forget_oldest-requires : goal.forget_oldest-requires
forget_oldest-requires g c =
    let b = (goal.at.forget_oldest-requires g c).After-saturating_sub-count in
    omega (arith, c.steps-test.true, count g b, ap (λ (t : Timeline). t.floor) c.steps.invariant, ap (λ (t : Timeline). t.cursor) c.steps.invariant)

pub steps-preserved : goal.steps-preserved
steps-preserved g c = c.forget_oldest.ensures ∙ ap (without_first 1) c.steps.invariant ∙ without_first-more c.args.self.now c.steps.counter 1

pub returns-clause-after_forget : goal.returns-clause-after_forget
returns-clause-after_forget g c =
    let b = (goal.at.returns-clause-after_forget g c).After-saturating_sub-count in
    c.self-2.view_is ∙ c.steps.invariant ∙ ap (λ n. without_first n c.args.self.now) {x = c.steps.counter} {y = forgotten_count c.args.self.now c.args.keep} (omega (arith, c.steps-test.false, c.steps.auto.counter-end, count g b))

pub returns-clause-forgotten : goal.returns-clause-forgotten
returns-clause-forgotten g c = count g (goal.at.returns-clause-forgotten g c).After-saturating_sub-count

pub steps-init : goal.steps-init
steps-init g c = grind (arith, common_steps)
