-- Private.
-- How many claims a pair has: one if it has a route at the floor, and one for each kept step that brings it,
-- which are those before which it has no route and after which it has one.
use Rattle.std.specs.Prelude.{◌≡◌, ℕ, ◌+◌, List, ◌++◌, length, refl, ◌-◌, ◌*◌, Bool, true, false, ◌&&◌, not, [], ◌∷◌, Option, is_some, take, replicate}
use Rattle.std.specs.Coded.{Coded, code_by, coded×, coded_ℕ, coded_list}
use Rattle.mrt_events.specs.Codes.{route_as_pair}
use Rattle.rib_player.specs.Representation.{coded_pair}
use Rattle.rib_player.specs.Tables.{Routes, Pairs, table_after, Contents}
use Rattle.rib_player.specs.Timeline.{Timeline, end_of, current, table_at}
use Rattle.std.specs.Option.{option_map_or}
use Rattle.std.specs.declared.boxed.Box.{Box}
use Rattle.std.specs.declared.alloc.Global.{Global}
use Rattle.std.specs.Ordering.{nat_cmp}
use Rattle.ip_prefix.specs.declared.addr.Family.{Family}
use Rattle.ip_prefix.specs.declared.addr.Family.TheVariants.{V4, V6}
use Rattle.ip_prefix.specs.declared.addr.TheConstants.{V4_BITS, V6_BITS}
use Rattle.ip_prefix.specs.Bits.{number_of}
use Rattle.ip_prefix.specs.Network.{Network, network_cmp}
use Rattle.mrt_events.specs.declared.event.Event.{Event}
use Rattle.mrt_events.specs.Event.{peer_cmp}
use Rattle.rib_player.specs.declared.claims.ExtraKeyClaims.{ExtraKeyClaims}
use Rattle.rib_player.specs.declared.claims.ExtraKeyClaimsOfPeer.{ExtraKeyClaimsOfPeer}
use Rattle.rib_player.specs.declared.claims.TheConstants.{ADDRESSES}
use Rattle.rib_player.specs.KeyCounts.{count_at}
use Rattle.rib_player.specs.declared.pair.Pair.{Pair}
use Rattle.std.specs.FinMap as finite
use Rattle.std.specs.FinSet as set
use Rattle.std.specs.BTreeMap as tree

-- ---- a player as plain data

-- a one-to-one encoding (`Coded`) of timelines as tuples of floor, cursor, tables and steps
abbrev pub coded_timeline : Coded Timeline
coded_timeline =
    code_by (ℕ × (ℕ × (List Routes × List Pairs)))
    (coded× coded_ℕ (coded× coded_ℕ (coded× (coded_list (finite.code coded_pair route_as_pair)) (coded_list (set.code coded_pair)))))
    (λ t. (t.floor, (t.cursor, (t.tables, t.steps)))) (λ p. record { floor = p.0; cursor = p.1.0; tables = p.1.1.0; steps = p.1.1.1 }) (λ _. refl)

-- ---- how many claims a pair has in a timeline; it is a key of the table exactly if it has one

-- 1 for true, 0 for false
abbrev pub one_if : Bool → ℕ
one_if true = 1
one_if false = 0

-- whether a pair has a route in a table
abbrev pub is_routed : Pair → Routes → Bool
is_routed pair routes = is_some (finite.get routes pair)

-- whether a step brings a pair, given the tables before and after it: the pair has no route before the step,
-- and one after it
abbrev pub brings : Pair → Routes → Routes → Bool
brings pair before after = not (is_routed pair before) && is_routed pair after

-- whether a step clears a pair, given the tables before and after it: the pair has a route before the step,
-- and none after it
abbrev pub clears : Pair → Routes → Routes → Bool
clears pair before after = is_routed pair before && not (is_routed pair after)

-- how many steps bring a pair, which has no route before and one after such a step, given `before`, the table
-- before the first step, and the table after each step, in order
abbrev pub brought_along : Pair → Routes → List Routes → ℕ
brought_along pair before [] = 0
brought_along pair before (after ∷ tables) = one_if (brings pair before after) + brought_along pair after tables

-- how many claims (reasons to keep it as a key) a pair has, given the tables at consecutive positions: one if
-- it has a route in the first, and one for each two neighbouring tables of which only the second has one; 0
-- without tables
abbrev pub claims_along : Pair → List Routes → ℕ
claims_along pair [] = 0
claims_along pair (first ∷ tables) = one_if (is_routed pair first) + brought_along pair first tables

-- how many claims a pair has in a player: one if it has a route at the floor, and one for each kept step
-- before which it has no route and after which it has one. The pair is a key of the table exactly if it has
-- some
abbrev pub claims : Timeline → Pair → ℕ
claims t pair = claims_along pair t.tables

-- whether the first kept step of a player clears a pair, which has a route at the floor and none at the next
-- position; without steps, whether it has a route at the floor
abbrev pub first_clears : Timeline → Pair → Bool
first_clears t pair = clears pair (table_at t t.floor) (table_at t (t.floor + 1))

-- whether the last step of a player, applied or not, brings a pair, which has no route before the step and
-- one after it; false without steps
abbrev pub last_brings : Timeline → Pair → Bool
last_brings t pair = brings pair (table_at t (end_of t - 1)) (table_at t (end_of t))

-- whether an event, played at the cursor, brings a pair: the pair has no route in the table there, and one
-- after the event
abbrev pub event_brings : Timeline → Event → Pair → Bool
event_brings t event pair = brings pair (current t) (table_after (current t) event)

-- player `t` without its last step and its last table; its floor and its cursor stay
abbrev pub without_last : Timeline → Timeline
without_last t = record t {
  tables = take (length t.tables - 1) t.tables;
  steps = take (length t.steps - 1) t.steps;
}

-- an IPv4 prefix as a number: its length times 2^32, plus its address, which is its bits filled up with zeros
abbrev pub v4_prefix_number : Network → ℕ
v4_prefix_number n = length n.bits * ADDRESSES + number_of (take V4_BITS (n.bits ++ replicate (V6_BITS - length n.bits) false))

-- one of two values, by family: the first for IPv4, the second for IPv6
abbrev pub by_family : {A : Type 0} → Family → A → A → A
by_family V4 a b = a
by_family V6 a b = b

-- the count of the prefix `n` in the counts of one peer, which are apart for IPv4 prefixes, by their numbers
-- (`v4_prefix_number`), and for IPv6 prefixes; 0 if it isn't counted
abbrev pub count_of : ExtraKeyClaimsOfPeer → Network → ℕ
count_of counts n = by_family n.family (count_at nat_cmp counts.v4 (v4_prefix_number n)) (count_at network_cmp counts.v6 n)

-- the count of a prefix in the counts of a peer; 0 if it isn't counted, or the peer has no counts (`None`)
abbrev pub count_of_peer : Option (Box ExtraKeyClaimsOfPeer Global) → Network → ℕ
count_of_peer counts prefix = option_map_or (λ counts. count_of counts.value prefix) counts 0

-- how many claims (reasons to keep it as a key) of a pair are counted in `claims`: all but the first, which
-- is the key itself; 0 if it isn't counted
abbrev pub claims_beyond : ExtraKeyClaims → Pair → ℕ
claims_beyond claims pair = count_of_peer (tree.get peer_cmp claims.peers pair.peer) pair.prefix

-- how many claims (reasons to keep it as a key) of a pair are held: one if it is in `keys`, plus
-- `beyond pair`, the number beyond the first
abbrev pub held_claims : Pairs → (Pair → ℕ) → Pair → ℕ
held_claims keys beyond pair = one_if (set.contains keys pair) + beyond pair

-- how many claims (reasons to keep it as a key) of a pair are held: one if it is a key of `table`, and those
-- beyond this that are counted in `claims`
abbrev pub held_claims_of : Contents → ExtraKeyClaims → Pair → ℕ
held_claims_of table claims = held_claims table.keys (claims_beyond claims)

-- a pair that isn't in `keys` has no claims beyond the first: `beyond`, which gives their number, is 0 there
abbrev pub OnlyKeysHaveExtraClaims : Pairs → (Pair → ℕ) → Type 0
OnlyKeysHaveExtraClaims keys beyond = (pair : Pair) → set.contains keys pair ≡ false → beyond pair ≡ 0
