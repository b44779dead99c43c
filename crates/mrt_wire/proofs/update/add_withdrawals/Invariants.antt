use Rattle.std.proofs.Common.{map, take}
use Rattle.mrt_events.specs.Event.{Withdrawn}
use Rattle.mrt_wire.specs.Decoding.{AddsItems}
use Rattle.mrt_wire.proofs.update.add_withdrawals.Given as goal

-- the prefixes so far were added
abbrev pub invariant-loop-prefix : goal.invariant-loop-prefix
invariant-loop-prefix l = AddsItems l.fn.items.items l.items.items (map (Withdrawn l.peer) (take l.prefix-index l.prefix-items))
