use Rattle.std.proofs.Common.{ap, ◌∙◌, arith, sum_by, take_all}
use Rattle.std.specs.FinSet as set
use Rattle.std.proofs.lemmas.List.Sums.{sum_by_more}
use Rattle.prefix_store.specs.Stored.{saturated_count}
use Rattle.rib_player.specs.Sides.{entry_count}
use Rattle.rib_player.proofs.CountLaws.{named-total}
use Rattle.rib_player.proofs.player.Player.named.Goals as goal

pub steps-preserved : goal.steps-preserved
steps-preserved g c =
    let steps = c.self.inside.journal.steps.items in
    omega (
      arith,
      c.saturating_add-total.ensures,
      c.steps.invariant,
      c.len.ensures,
      sum_by_more entry_count steps c.steps.index c.index.result.now (omega (arith, c.steps-test.true, c.len-index-end.ensures)),
      ap entry_count c.index.ensures,
    )

pub returns : goal.returns
returns g c =
    let steps = c.self.inside.journal.steps.items in
    c.steps.invariant ∙ ap (λ ss. saturated_count (sum_by entry_count ss)) (take_all c.steps.index steps (omega (arith, c.steps-test.false, c.len-index-end.ensures)))
    ∙ ap saturated_count (named-total steps c.self.invariant.played.distinct ∙ ap (λ t. sum_by set.len t.steps) c.self.view_is)
