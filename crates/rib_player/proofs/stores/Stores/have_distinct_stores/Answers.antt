use Rattle.std.proofs.Common.{◌≡◌, Some, take, sym, ap, subst, ◌∙◌, take_all}
use Rattle.std.specs.List.{AllByRecursion}
use Rattle.std.specs.Map.{lookup}
use Rattle.rib_player.specs.Journal.{side_of, sides_of}
use Rattle.rib_player.specs.Sides.{AreDistinct}
use Rattle.rib_player.proofs.StoreLaws.{same_peer}
use Rattle.rib_player.proofs.RowLaws.{IsSeen, distinct-none, distinct-more, seen-more, sides-more}
use Rattle.rib_player.proofs.stores.Stores.have_distinct_stores.Goals as goal

pub entries-init : goal.entries-init
entries-init g c = record { seen = tt; distinct = distinct-none }

pub returns : goal.returns
returns g c = λ all.
    subst (λ es. AreDistinct (sides_of es)) (take_all c.entries.entry-index c.args.entries.now c.entries-test.false) c.entries.invariant.distinct

pub entries-preserved : goal.entries-preserved
entries-preserved g c =
    let order = c.args.self.now.order.entries in
    let entries = c.args.entries.now in
    let entry = c.entry-item.result in
    let number = c.in-Some.number in
    let so_far = sides_of (take c.entries.entry-index entries) in
    let is : lookup (same_peer entry.pair.peer) order ≡ Some number =
    ap (λ p. lookup (same_peer p) order) (sym (c.peer.ensures ∙ c.deref-in-entries.ensures ∙ c.shared_peer-peer.ensures)) ∙ sym c.find_number_by_hint.ensures ∙ c.in-Some.is in
    let more = sides-more entries c.entries.entry-index entry c.entry-item.is c.entries-test.true in
    record {
      seen = subst (AllByRecursion (IsSeen order c.newly_seen.new.self)) (sym more)
          (seen-more order c.entries.marks c.newly_seen.new.self (side_of entry) number is (c.in_ok-newly_seen.ensures.marked c.if-not-newly_seen.false)
          (λ n was. c.in_ok-newly_seen.ensures.others n c.if-not-newly_seen.false was) so_far c.entries.invariant.seen);
      distinct = subst AreDistinct (sym more)
          (distinct-more order c.entries.marks c.newly_seen.new.self (side_of entry) number is (c.in_ok-newly_seen.ensures.new c.if-not-newly_seen.false)
          so_far c.entries.invariant.seen c.entries.invariant.distinct);
    }
