-- Private.
-- Ranges of items that announce prefixes of one peer with one route.
use Rattle.std.specs.Prelude.{◌≡◌, ◌≤◌, List, [], ◌∷◌, length, All, slice_range}
use Rattle.mrt_events.specs.declared.peer.Peer.{Peer}
use Rattle.mrt_events.specs.declared.event.Route.{Route}
use Rattle.mrt_events.specs.declared.event.SharedRange.{SharedRange}
use Rattle.mrt_events.specs.declared.event.SharedRanges.{SharedRanges}
use Rattle.mrt_events.specs.Event.{ItemValue, Announced}

-- the value of an item is an announcement by this peer with this route, of any prefix
abbrev pub Announces : Peer → Route → ItemValue → Type 0
Announces peer route (Announced other network same) = (other ≡ peer) × (same ≡ route)
Announces peer route other = ⊥

-- the values of items are all announcements by one peer with one route. It holds of no items, too.
abbrev pub AnnounceOneRoute : List ItemValue → Type 0
AnnounceOneRoute [] = Unit {0}
AnnounceOneRoute (Announced peer network route ∷ rest) = All (Announces peer route) rest
AnnounceOneRoute other = ⊥

-- the range lies within the list, and the values in it are all announcements by one peer with one route. It may be
-- empty.
pub record IsSharedRange (shared : SharedRange) (values : List ItemValue) : Type 0 where
  pub ordered : shared.start ≤ shared.end
  pub within : shared.end ≤ length values
  pub alike : AnnounceOneRoute (slice_range values shared.start shared.end)

-- both ranges lie within the list, and the values in each are all announcements by one peer with one route; the two
-- ranges may have two routes. Either may be empty.
pub record AreSharedRanges (ranges : SharedRanges) (values : List ItemValue) : Type 0 where
  pub first : IsSharedRange (record { start = ranges.start; end = ranges.middle }) values
  pub second : IsSharedRange (record { start = ranges.middle; end = ranges.end }) values
