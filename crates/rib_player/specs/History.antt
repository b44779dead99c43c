-- What events do to the routes of pairs of a peer and a prefix, and the route that a history of events leaves
-- at a pair.
use Rattle.std.specs.Prelude.{ℕ, Bool, true, false, ◌&&◌, not, ◌==◌, List, [], ◌∷◌, map, Option, Some, None}
use Rattle.std.specs.declared.cmp.Ordering.{Ordering}
use Rattle.std.specs.Ordering.{on, then_cmp, eq_by_cmp}
use Rattle.ip_prefix.specs.Network.{Network, network_cmp}
use Rattle.mrt_events.specs.declared.peer.Peer.{Peer}
use Rattle.mrt_events.specs.declared.event.TheConstants.{ESTABLISHED}
use Rattle.rib_player.specs.declared.pair.Pair.{Pair}
use Rattle.mrt_events.specs.declared.event.Route.{Route}
use Rattle.mrt_events.specs.Event.{peer_cmp, ItemValue, Announced, Withdrawn, Changed}
use Rattle.mrt_events.specs.declared.event.Event.{Event}

-- the order of pairs: by peer, then by prefix
abbrev pub pair_cmp : Pair → Pair → Ordering
pair_cmp = then_cmp (on (λ p. p.peer) peer_cmp) (on (λ p. p.prefix) network_cmp)

-- the pair of a peer and a prefix
abbrev pub pair_of : Peer → Network → Pair
pair_of peer network = record { peer = peer; prefix = network }

-- what an item or an event does to the route at one pair
pub data Effect : Type 0 where
  -- the route, or its absence, stays
  Keep : Effect
  -- the pair has no route afterwards
  Clear : Effect
  -- the pair has this route afterwards
  Set : Route → Effect

-- the effect if the condition is true, else `Keep`
abbrev pub effect_if : Bool → Effect → Effect
effect_if true effect = effect
effect_if false effect = Keep

-- whether a change of session state, given its old and its new number, leaves Established (RFC 6396, section
-- 4.4.1)
abbrev pub is_loss : ℕ → ℕ → Bool
is_loss old new = (old == ESTABLISHED) && not (new == ESTABLISHED)

-- what one item does to the route at a pair: an announcement sets it at its own pair, a withdrawal clears it
-- there, and the loss of a session clears it at each pair of the peer
abbrev pub item_effect : Pair → ItemValue → Effect
item_effect pair (Announced peer network route) = effect_if (eq_by_cmp pair_cmp pair (pair_of peer network)) (Set route)
item_effect pair (Withdrawn peer network) = effect_if (eq_by_cmp pair_cmp pair (pair_of peer network)) Clear
item_effect pair (Changed peer old new) = effect_if (eq_by_cmp peer_cmp pair.peer peer && is_loss old new) Clear

-- two effects one after the other as one: the second, or the first if the second is `Keep`
abbrev pub later : Effect → Effect → Effect
later first Keep = first
later first other = other

-- a list of effects one after the other as one: the last that isn't `Keep`, or `Keep` if there is none
abbrev pub last_effect : List Effect → Effect
last_effect [] = Keep
last_effect (effect ∷ effects) = later effect (last_effect effects)

-- what an event does to the route at a pair: the last of its items that sets or clears it decides; `Keep` if
-- none does
abbrev pub effect : Pair → Event → Effect
effect pair event = last_effect (map (item_effect pair) event.items)

-- the route at a pair after an effect, given the route before it
abbrev pub route_after : Option Route → Effect → Option Route
route_after route Keep = route
route_after route Clear = None
route_after route (Set new) = Some new

-- the route at a pair after a history that began without routes: the last event that sets or clears it
-- decides; `None` if none does
abbrev pub route : Pair → List Event → Option Route
route pair history = route_after None (last_effect (map (effect pair) history))
