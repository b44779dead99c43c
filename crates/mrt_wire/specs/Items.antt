-- The values of the items that the contents of records make.
use Rattle.std.specs.Prelude.{ℕ, List, [], ◌∷◌, ◌++◌, map, slice_get, Option, Some, None, is_none, option_to_list, find, flat_map}
use Rattle.ip_prefix.specs.Network.{Network}
use Rattle.bgp_wire.specs.declared.attrs.Attrs.{Attrs}
use Rattle.bgp_wire.specs.declared.message.Message.{Message}
use Rattle.bgp_wire.specs.declared.message.Message.TheVariants as message
use Rattle.bgp_wire.specs.declared.parts.Update.{Update}
use Rattle.mrt_events.specs.declared.peer.Peer.{Peer}
use Rattle.mrt_events.specs.declared.event.Route.{Route}
use Rattle.mrt_events.specs.declared.stamp.Stamp.{Stamp}
use Rattle.mrt_events.specs.declared.stamp.Stamp.TheVariants.{Dump, Change}
use Rattle.mrt_events.specs.Event.{ItemValue, Announced, Withdrawn, Changed}
use Rattle.mrt_wire.specs.Rib.{RibEntry, PrefixEntries, TableDumpEntry}
use Rattle.mrt_wire.specs.Session.{SessionContent, Change, Receipt}

-- ---- the entries of routing tables

-- the time of a table entry's route, as the stamp chooses: for `Dump` `seconds`, the timestamp of the record, and for
-- `Change` `originated`, the Originated Time of the entry
abbrev pub entry_time : Stamp → ℕ → ℕ → ℕ
entry_time Dump seconds originated = seconds
entry_time Change seconds originated = originated

-- the route of these attributes and this time
abbrev pub route_of : Attrs → ℕ → Route
route_of attrs time = record { attrs = attrs; time = time }

-- the first peer index among the entries that isn't below the number of peers, and `None` where all are
abbrev pub first_unknown : List Peer → List RibEntry → Option ℕ
first_unknown peers entries = find (λ number. is_none (slice_get peers number)) (map (λ entry. entry.index) entries)

-- the announcement of `prefix` by RIB entry `entry`, in a record with timestamp `seconds`, as a list of one; it is
-- empty if the entry's peer index isn't below the number of `peers`. `stamp` chooses the time of the route:
-- `seconds`, or the Originated Time of the entry
abbrev pub entry_items : List Peer → Stamp → ℕ → Network → RibEntry → List ItemValue
entry_items peers stamp seconds prefix entry =
    map (λ peer. Announced peer prefix (route_of entry.attrs (entry_time stamp seconds entry.time)))
    (option_to_list (slice_get peers entry.index))

-- the announcements of the prefix of `rib` by its RIB entries, in order, in a record with timestamp `seconds`, where
-- `peers` are those of the peer index table; `stamp` chooses the times of the routes: `seconds`, or Originated Times
abbrev pub entries_items : List Peer → Stamp → ℕ → PrefixEntries → List ItemValue
entries_items peers stamp seconds rib = flat_map (entry_items peers stamp seconds rib.prefix) rib.entries

-- the announcement of `entry`, as a list of one, in a TABLE_DUMP record with timestamp `seconds`; `stamp` chooses the
-- time of the route: `seconds`, or the Originated Time of the entry
abbrev pub table_dump_items : Stamp → ℕ → TableDumpEntry → List ItemValue
table_dump_items stamp seconds entry =
    Announced entry.peer entry.prefix (route_of entry.attrs (entry_time stamp seconds entry.time)) ∷ []

-- ---- messages and state changes

-- the announcements of prefixes by a peer, all with one route
abbrev pub announcements : Peer → Route → List Network → List ItemValue
announcements peer route prefixes = map (λ prefix. Announced peer prefix route) prefixes

-- the announcements by `peer` of `prefixes`, those of MP_REACH_NLRI, each of a route with `attrs`, the attributes
-- that have its next hop, and with the time `seconds`; none if the attributes are `None`
abbrev pub mp_announcements : Peer → ℕ → Option Attrs → List Network → List ItemValue
mp_announcements peer seconds None prefixes = []
mp_announcements peer seconds (Some attrs) prefixes = announcements peer (route_of attrs seconds) prefixes

-- the items of an UPDATE that a peer sent at this time in seconds, in this order: withdrawals of the withdrawn
-- prefixes and of those of MP_UNREACH_NLRI, and announcements of the announced prefixes and of those of MP_REACH_NLRI
abbrev pub update_items : Peer → ℕ → Update → List ItemValue
update_items peer seconds update =
    map (Withdrawn peer) update.withdrawn ++ (map (Withdrawn peer) update.mp_withdrawn
    ++ (announcements peer (route_of update.attrs seconds) update.announced
    ++ mp_announcements peer seconds update.mp_attrs update.mp_announced))

-- the items of a message that a peer sent at this time in seconds: none where it isn't an UPDATE
abbrev pub message_items : Peer → ℕ → Message → List ItemValue
message_items peer seconds (message.Update update) = update_items peer seconds update
message_items peer seconds (message.Other kind) = []

-- the items of a state change or a message in a record with timestamp `seconds`: the change alone, or `message_items`
abbrev pub session_items : ℕ → SessionContent → List ItemValue
session_items seconds (Change change) = Changed change.peer change.old change.new ∷ []
session_items seconds (Receipt m) = message_items m.peer seconds m.message
