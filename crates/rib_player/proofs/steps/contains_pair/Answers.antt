use Rattle.std.proofs.Common.{◌≡◌, true, false, take, sym, ap, subst, ◌∙◌}
use Rattle.std.specs.List.{AllByRecursion}
use Rattle.std.specs.Ordering.{eq_by_cmp}
use Rattle.rib_player.specs.History.{pair_cmp}
use Rattle.rib_player.specs.Journal.{side_of, sides_of}
use Rattle.rib_player.proofs.RowLaws.{not-tied, all-apart, sides-more}
use Rattle.rib_player.proofs.steps.contains_pair.Goals as goal
use Rattle.rib_player.proofs.steps.contains_pair.Goals.{Joined-else-same_prefix, else-same_prefix-via-then-same_prefix+else-same_peer, else-same_prefix-via-else-same_prefix}

-- the prefixes differ, or the peers
differ : (c : Joined-else-same_prefix) → c.other-item.result.pair ≡ c.args.entry.now.pair → ⊥
differ c same =
    elim c.else-same_prefix.branch [
      | else-same_prefix-via-then-same_prefix+else-same_peer w ↦
          let lost : true ≡ false = sym (w.same_peer.ensures.1 (w.peer.ensures ∙ ap (λ p. p.peer) same ∙ sym w.peer-then-same_prefix.ensures)) ∙ w.if-same_peer.false in cc
      | else-same_prefix-via-else-same_prefix w ↦
          let lost : true ≡ false = sym (c.same_prefix.ensures.1 (c.prefix.ensures ∙ ap (λ p. p.prefix) same ∙ sym c.prefix-in-entries.ensures)) ∙ w.if-same_prefix.false in cc
    ]

pub entries-preserved : goal.entries-preserved
entries-preserved c =
    let entries = c.args.entries.now in
    let other = c.other-item.result in
    let pair = c.args.entry.now.pair in
    let so_far = sides_of (take c.entries.other-index entries) in
    subst (AllByRecursion (λ e. eq_by_cmp pair_cmp e.0 pair ≡ false)) (sym (sides-more entries c.entries.other-index other c.other-item.is c.entries-test.true))
    (all-apart pair (side_of other) so_far
    (not-tied other.pair pair (differ c)) c.entries.invariant)
