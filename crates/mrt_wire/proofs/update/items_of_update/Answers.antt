use Rattle.std.proofs.Common.{arith, ap, not, nat_eq, length, ◌∙◌}
use Rattle.std.proofs.lemmas.Grind.{common_steps}
use Rattle.mrt_wire.proofs.SharedLaws.{mp_alike, one_route, shared_ranges}
use Rattle.mrt_wire.proofs.update.items_of_update.Goals as goal

pub with_shared_ranges-requires : goal.with_shared_ranges-requires
with_shared_ranges-requires c =
    shared_ranges c.add_withdrawals-2.new.items.items c.add_announcements.new.items.items c.add_announcements-2.new.items.items _ _
    c.len-start.result c.len-middle.result c.len-end.result
    (omega (arith, c.len-start.ensures, c.add_withdrawals-2.new.items.ok))
    (omega (arith, c.len-middle.ensures, c.add_announcements.new.items.ok))
    (omega (arith, c.len-end.ensures, c.add_announcements-2.new.items.ok))
    c.in_ok-add_announcements.ensures.added c.in_ok-add_announcements-2.ensures.added
    (one_route _ _ _) (one_route _ _ _)

pub returns : goal.returns
returns c =
    let p = c.take_items-items.new.self.parts in
    let last = mp_alike c.args.peer.now c.args.seconds p.attrs c.add_announcements.new.attrs p.mp_hop p.mp_announced
    (λ some. c.in_ok-add_announcements.ensures.kept (ap not (c.is_empty-keep_attrs.ensures ∙ ap (λ l. nat_eq (length l) 0) c.as_slice.ensures ∙ some))) in
    grind (arith, common_steps)
