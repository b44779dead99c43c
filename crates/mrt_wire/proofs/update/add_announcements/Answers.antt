use Rattle.std.proofs.Common.{ap, subst, ◌∙◌, take_all}
use Rattle.mrt_events.specs.Event.{Announced}
use Rattle.mrt_wire.specs.Items.{announcements}
use Rattle.mrt_wire.specs.Decoding.{AddsItems}
use Rattle.mrt_wire.proofs.TellingLaws.{one_more_prefix}
use Rattle.mrt_wire.proofs.update.add_announcements.Goals as goal

pub loop-prefix-preserved : goal.loop-prefix-preserved
loop-prefix-preserved c =
    let peer = c.args.announcement.peer.now in
    one_more_prefix (λ prefix. Announced peer prefix c.in_ok-route.route.value) c.args.items.now.items c.loop-prefix.items.items c.push.new.self.items _ c.as_slice-prefix-items.result.now c.loop-prefix.prefix-index
    c.prefix-item.result c.loop-prefix.invariant c.in_ok-push.ensures.items (ap (Announced peer c.prefix-item.result) c.in_ok-shared.ensures.cases) c.prefix-item.is c.loop-prefix-test.true

pub returns-clause-added : goal.returns-clause-added
returns-clause-added c =
    let peer = c.args.announcement.peer.now in
    let old = c.args.items.now.items in
    let new = c.loop-prefix.items.items in
    let all = take_all c.loop-prefix.prefix-index c.as_slice-prefix-items.result.now c.loop-prefix-test.false ∙ c.as_slice-prefix-items.ensures in
    subst (λ route. AddsItems old new (announcements peer route c.args.announcement.prefixes.now)) c.in_ok-route.ensures.made
    (subst (λ l. AddsItems old new (announcements peer c.in_ok-route.route.value l)) all c.loop-prefix.invariant)
