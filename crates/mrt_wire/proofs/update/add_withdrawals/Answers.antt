use Rattle.std.proofs.Common.{refl}
use Rattle.mrt_events.specs.Event.{Withdrawn}
use Rattle.mrt_wire.proofs.TellingLaws.{one_more_prefix}
use Rattle.mrt_wire.proofs.update.add_withdrawals.Goals as goal

pub loop-prefix-preserved : goal.loop-prefix-preserved
loop-prefix-preserved c =
    one_more_prefix (Withdrawn c.args.peer.now) c.args.items.now.items c.loop-prefix.items.items c.push.new.self.items _ c.as_slice-prefix-items.result.now c.loop-prefix.prefix-index
    c.prefix-item.result c.loop-prefix.invariant c.in_ok-push.ensures.items refl c.prefix-item.is c.loop-prefix-test.true
