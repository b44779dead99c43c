-- The lines of events, one for each item, as `bgpdump -m` prints them.
use Rattle.std.specs.Prelude.{ℕ, ◌-◌, if◌then◌else◌, Bool, Option, Some, None, List, [], ◌∷◌, ◌++◌, length, replicate, decimal, codes, unwrap_or, flat_map}
use Rattle.ip_prefix.specs.Network.{Address, Network}
use Rattle.ip_prefix.specs.Text.{address_text, network_text}
use Rattle.bgp_wire.specs.declared.attrs.Origin.{Origin}
use Rattle.bgp_wire.specs.declared.attrs.Origin.TheVariants.{Igp, Egp, Incomplete}
use Rattle.bgp_wire.specs.declared.attrs.Aggregator.{Aggregator}
use Rattle.bgp_wire.specs.declared.attrs.Attrs.{Attrs}
use Rattle.bgp_wire.specs.Text.{path_text, communities_text}
use Rattle.mrt_events.specs.declared.peer.Peer.{Peer}
use Rattle.mrt_events.specs.declared.event.Route.{Route}
use Rattle.mrt_events.specs.declared.event.Time.{Time}
use Rattle.mrt_events.specs.declared.event.Tag.{Tag}
use Rattle.mrt_events.specs.declared.event.Tag.TheVariants.{TableDump, TableDump2, Bgp4mp, Bgp4mpEt}
use Rattle.mrt_events.specs.declared.event.Event.{Event}
use Rattle.mrt_events.specs.Event.{ItemValue, Announced, Withdrawn, Changed}
use Rattle.bgpdump_lines.specs.declared.heading.TheConstants.{MICROS_DIGITS}

-- the ASCII code of `|`, which separates the fields of a line
abbrev pub bar : ℕ
bar = 124

-- the ASCII code of a line feed, which ends a line
abbrev pub line_feed : ℕ
line_feed = 10

-- the ASCII code of `.`
abbrev pub dot : ℕ
dot = 46

-- the ASCII code of `0`
abbrev pub zero_digit : ℕ
zero_digit = 48

-- the ASCII code of a space
abbrev pub space : ℕ
space = 32

-- the line of these fields, in order: a bar between each and the next, and a line feed at the end; of no fields, just
-- a line feed
abbrev pub line_from_fields : List (List ℕ) → List ℕ
line_from_fields [] = line_feed ∷ []
line_from_fields (field ∷ []) = field ++ line_feed ∷ []
line_from_fields (field ∷ next ∷ fields) = field ++ bar ∷ line_from_fields (next ∷ fields)

-- the first field of the lines of an event with this tag: the kind of its record, `TABLE_DUMP`, `TABLE_DUMP2`,
-- `BGP4MP` or `BGP4MP_ET`
abbrev pub tag_word : Tag → List ℕ
tag_word TableDump = codes "TABLE_DUMP"
tag_word TableDump2 = codes "TABLE_DUMP2"
tag_word Bgp4mp = codes "BGP4MP"
tag_word Bgp4mpEt = codes "BGP4MP_ET"

-- microseconds in decimal, with leading zeros up to 6 (`MICROS_DIGITS`) digits; a number of more digits is in full
abbrev pub micros_text : ℕ → List ℕ
micros_text micros = replicate (MICROS_DIGITS - length (decimal micros)) zero_digit ++ decimal micros

-- the time of a record in a line, by the record's tag: its seconds in decimal, and for BGP4MP_ET a dot and the
-- microseconds (`micros_text`), 0 if there are none
abbrev pub time_text : Tag → Time → List ℕ
time_text TableDump time = decimal time.seconds
time_text TableDump2 time = decimal time.seconds
time_text Bgp4mp time = decimal time.seconds
time_text Bgp4mpEt time = decimal time.seconds ++ dot ∷ micros_text (unwrap_or time.micros 0)

-- the time in the line of a route, by the tag of its record: for TABLE_DUMP and TABLE_DUMP2, the tags of tables, the
-- time of the route, in seconds; for others `time`, that of the record (`time_text`)
abbrev pub route_time_text : Time → Tag → Route → List ℕ
route_time_text time TableDump route = decimal route.time
route_time_text time TableDump2 route = decimal route.time
route_time_text time Bgp4mp route = time_text Bgp4mp time
route_time_text time Bgp4mpEt route = time_text Bgp4mpEt time

-- the third field of a route's line, by the tag of its record: `B` for TABLE_DUMP and TABLE_DUMP2, the tags of
-- tables, `A` for others, whose routes are announced
abbrev pub route_letter : Tag → List ℕ
route_letter TableDump = codes "B"
route_letter TableDump2 = codes "B"
route_letter Bgp4mp = codes "A"
route_letter Bgp4mpEt = codes "A"

-- the field of ORIGIN: `IGP`, `EGP` or `INCOMPLETE`, or empty if it is absent
abbrev pub origin_text : Option Origin → List ℕ
origin_text (Some Igp) = codes "IGP"
origin_text (Some Egp) = codes "EGP"
origin_text (Some Incomplete) = codes "INCOMPLETE"
origin_text None = []

-- the field of the next hop: its address, or empty if it is absent
abbrev pub next_hop_text : Option Address → List ℕ
next_hop_text (Some address) = address_text address
next_hop_text None = []

-- the field of LOCAL_PREF or MULTI_EXIT_DISC: its value in decimal, 0 if it is absent
abbrev pub number_or_zero : Option ℕ → List ℕ
number_or_zero number = decimal (unwrap_or number 0)

-- the field of ATOMIC_AGGREGATE: `AG` if it is there, or else `NAG`
abbrev pub atomic_word : Bool → List ℕ
atomic_word atomic = if atomic then codes "AG" else codes "NAG"

-- the field of AGGREGATOR: the AS number, a space and the address, or empty if it is absent
abbrev pub aggregator_text : Option Aggregator → List ℕ
aggregator_text (Some aggregator) = decimal aggregator.asn ++ space ∷ address_text aggregator.addr
aggregator_text None = []

-- the fields of a line for the attributes of a route, in order: AS path, origin, next hop, LOCAL_PREF and
-- MULTI_EXIT_DISC (0 if absent), communities, atomic aggregate, aggregator, and an empty one
abbrev pub attribute_fields : Attrs → List (List ℕ)
attribute_fields attrs =
    path_text attrs.path ∷ origin_text attrs.origin ∷ next_hop_text attrs.next_hop
    ∷ number_or_zero attrs.local_pref ∷ number_or_zero attrs.med ∷ communities_text attrs.communities
    ∷ atomic_word attrs.atomic ∷ aggregator_text attrs.aggregator ∷ [] ∷ []

-- the line of an item of an event with this time and tag, whose first field is `first`. Then come the time; `A` (`B`
-- in a table) for an announcement, `W` for a withdrawal, `STATE` for a change of state; the peer's address and AS
-- number; and the prefix and the attributes of an announcement, the prefix of a withdrawal, or the numbers of the old
-- and the new state
abbrev pub line_from_first_field : List ℕ → Time → Tag → ItemValue → List ℕ
line_from_first_field first time tag (Announced peer network route) =
    line_from_fields (first ∷ route_time_text time tag route ∷ route_letter tag
    ∷ address_text peer.addr ∷ decimal peer.asn ∷ network_text network ∷ attribute_fields route.attrs)
line_from_first_field first time tag (Withdrawn peer network) =
    line_from_fields (first ∷ time_text tag time ∷ codes "W"
    ∷ address_text peer.addr ∷ decimal peer.asn ∷ network_text network ∷ [])
line_from_first_field first time tag (Changed peer old new) =
    line_from_fields (first ∷ time_text tag time ∷ codes "STATE"
    ∷ address_text peer.addr ∷ decimal peer.asn ∷ decimal old ∷ decimal new ∷ [])

-- the line that `bgpdump -m` prints for an item of an event with this time and tag: its first field is the kind of
-- the record (`tag_word`), and the others are those of `line_from_first_field`
abbrev pub item_line : Time → Tag → ItemValue → List ℕ
item_line time tag = line_from_first_field (tag_word tag) time tag

-- the lines that `bgpdump -m` prints for an event: one for each of its items (`item_line`), in order
abbrev pub event_lines : Event → List ℕ
event_lines event = flat_map (item_line event.time event.tag) event.items

-- the line of a route of `peer` in a reply of a script: `RIB|time|B|address|AS number|prefix|attributes`, where
-- `entry` is the prefix and the route to it, and the time that of the route
abbrev pub rib_reply_line : Peer → Network × Route → List ℕ
rib_reply_line peer entry =
    line_from_fields (codes "RIB" ∷ decimal entry.1.time ∷ codes "B"
    ∷ address_text peer.addr ∷ decimal peer.asn ∷ network_text entry.0 ∷ attribute_fields entry.1.attrs)
