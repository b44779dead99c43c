-- The order of peers, and the values of items: what contracts see of an event's items.
use Rattle.std.specs.declared.cmp.Ordering.{Ordering}
use Rattle.std.specs.Ordering.{nat_cmp, on, then_cmp}
use Rattle.ip_prefix.specs.Network.{address_cmp, Network}
use Rattle.mrt_events.specs.declared.peer.Peer.{Peer}
use Rattle.std.specs.Prelude.{ℕ}
use Rattle.mrt_events.specs.declared.event.Route.{Route}
use Rattle.mrt_events.specs.declared.event.Item.{Item}
use Rattle.mrt_events.specs.declared.event.Item.TheVariants as item

-- ---- the order of peers

-- compares two peers, first by address and then by AS number
abbrev pub peer_cmp : Peer → Peer → Ordering
peer_cmp = then_cmp (on (λ p. p.addr) address_cmp) (on (λ p. p.asn) nat_cmp)

-- ---- the values of items

-- one item of an event as plain data: a peer announced a route to a prefix or withdrew it, or the session with it
-- changed its state. It has the route itself, not a handle to it
pub data ItemValue : Type 0 where
  -- from now on the peer has this route to the prefix
  Announced : Peer → Network → Route → ItemValue
  -- from now on the peer has no route to the prefix
  Withdrawn : Peer → Network → ItemValue
  -- the session with the peer went from the first state to the second, by their numbers (RFC 6396, section 4.4.1)
  Changed : Peer → ℕ → ℕ → ItemValue

-- the item as plain data: with the route itself where the item has a handle to it, and all else as the item has it
abbrev pub item_value : Item → ItemValue
item_value (item.Announce peer network route) = Announced peer network route.value
item_value (item.Withdraw peer network) = Withdrawn peer network
item_value (item.State peer old new) = Changed peer old new
