-- Private.
-- What the private calls of the parser return.
use Rattle.std.specs.Prelude.{◌≡◌, ℕ, List, ◌++◌, map, Option, Some, None, Result, Ok, Err}
use Rattle.ip_prefix.specs.declared.addr.Family.{Family}
use Rattle.ip_prefix.specs.Network.{Network}
use Rattle.ip_prefix.specs.Sequences.{Begins}
use Rattle.ip_prefix.specs.Fronts.{BeginsWithNone}
use Rattle.bgp_wire.specs.Content.{SpellsRibAttrs}
use Rattle.bgp_wire.specs.Readers.{Refuses}
use Rattle.bgp_wire.specs.declared.WireFault.{WireFault}
use Rattle.bgp_wire.specs.declared.WireFault.TheVariants as wire
use Rattle.mrt_events.specs.declared.stamp.Stamp.{Stamp}
use Rattle.mrt_events.specs.declared.event.Event.{Event}
use Rattle.mrt_events.specs.declared.event.Item.{Item}
use Rattle.mrt_events.specs.declared.event.Route.{Route}
use Rattle.mrt_frames.specs.declared.fault.RecordKind.{RecordKind}
use Rattle.mrt_frames.specs.declared.fault.RecordKind.TheVariants.{Malformed}
use Rattle.mrt_frames.specs.declared.fault.SourceFault.{SourceFault}
use Rattle.mrt_frames.specs.declared.fault.SourceFault.TheVariants as source
use Rattle.mrt_wire.specs.declared.fields.ValueAndRest.{ValueAndRest}
use Rattle.mrt_wire.specs.declared.decoding.DecodeError.{DecodeError}
use Rattle.mrt_wire.specs.declared.decoding.DecodeError.TheVariants as refusal
use Rattle.mrt_wire.specs.declared.next.Next.{Next}
use Rattle.mrt_wire.specs.declared.next.Next.TheVariants as next
use Rattle.mrt_wire.specs.declared.rib.TableContext.{TableContext}
use Rattle.mrt_wire.specs.declared.rib.ParsedEntries.{ParsedEntries}
use Rattle.mrt_wire.specs.declared.rib.ParsedEntry.{ParsedEntry}
use Rattle.mrt_wire.specs.declared.rib_route.RawAttrs.{RawAttrs}
use Rattle.mrt_wire.specs.declared.session.ItemsAndMicroseconds.{ItemsAndMicroseconds}
use Rattle.mrt_wire.specs.declared.update.AnnouncedPrefixes.{AnnouncedPrefixes}
use Rattle.bgp_wire.specs.declared.attrs.Attrs.{Attrs}
use Rattle.mrt_wire.specs.declared.table_dump.TableDumpFields.{TableDumpFields}
use Rattle.mrt_frames.specs.Record.{Record}
use Rattle.mrt_wire.specs.Rib.{RibEntry, PrefixEntries, SpellsEntries, AreTableDumpFields}
use Rattle.mrt_wire.specs.Items.{announcements, route_of, entry_items, entry_time, entries_items, first_unknown, session_items}
use Rattle.mrt_events.specs.Event.{ItemValue, item_value}
use Rattle.mrt_wire.specs.Session.{TimedSessionContent}
use Rattle.mrt_wire.specs.Content.{Content}
use Rattle.mrt_wire.specs.Results.{PeerTable, Accepted, Refused, ReadsAs, index_after}

-- what a parser finds at the start of the octets: a value that they begin with, by `Spells`, and the octets after it,
-- or `None` if they begin with no value
abbrev pub FindsValue : {A : Type 0} → (A → List ℕ → Type 0) → List ℕ → Option (ValueAndRest A) → Type 0
FindsValue Spells octets (Some found) = Begins Spells found.value found.rest.now octets
FindsValue Spells octets None = BeginsWithNone Spells octets

-- the error of parsing a record, where the parser of its body fails with this one: for `Malformed` the fault
-- `Malformed` of the record, for `Memory` `Memory`
abbrev pub body_error : WireFault → DecodeError
body_error wire.Malformed = refusal.Fault Malformed
body_error wire.Memory = refusal.Memory

-- the values of the items `new` are those of `old` and then `more`: items with the values `more` were appended, in
-- order
abbrev pub AddsItems : List Item → List Item → List ItemValue → Type 0
AddsItems old new more = map item_value new ≡ map item_value old ++ more

-- `route` has the attributes that the octets of `raw` spell, by its family and its width of AS numbers, and the time
-- `time`, in seconds
abbrev pub IsRouteFrom : RawAttrs → ℕ → Route → Type 0
IsRouteFrom raw time route = SpellsRibAttrs raw.family raw.width route.attrs raw.octets.now × (route.time ≡ time)

-- a call that parses the attributes `raw` may return this error: `Malformed` only if their octets spell no
-- attributes, `Memory` always
abbrev pub RefusesRaw : RawAttrs → WireFault → Type 0
RefusesRaw raw fault = Refuses (SpellsRibAttrs raw.family raw.width) raw.octets.now fault

-- the announcements of the prefixes of `announcement` by its peer, each with the route of these attributes and its
-- time
abbrev pub announced_with : AnnouncedPrefixes → Attrs → List ItemValue
announced_with announcement attrs = announcements announcement.peer.now (route_of attrs announcement.seconds) announcement.prefixes.now

-- a call that parses record `r` returned this result, with peer index table `before` before it and `after` after it:
-- the event with which the record is accepted, or the fault with which it is refused (`ReadsAs`, times chosen by
-- `stamp`), or `Memory`, which leaves this open. On both errors the table is unchanged.
abbrev pub Decodes : Stamp → PeerTable → PeerTable → Record → Result Event DecodeError → Type 0
Decodes stamp before after r (Ok event) =
    (content : Content) × ReadsAs stamp before r (Accepted content event) × (after ≡ index_after before (Accepted content event))
Decodes stamp before after r (Err (refusal.Fault kind)) = ReadsAs stamp before r (Refused kind) × (after ≡ before)
Decodes stamp before after r (Err refusal.Memory) = after ≡ before

-- what `next` returns of a record with this fault, where `number` is that of the record, counted from 1, and `offset`
-- that of its header: the fault with both
abbrev pub next_of_fault : ℕ → ℕ → RecordKind → Next
next_of_fault number offset kind = next.Bad (record { number = number; offset = offset; kind = kind })

-- what `next` returns of a record whose parser returned this: its event, or its fault with the record's number,
-- counted from 1, and the offset of its header, or the error `Memory`
abbrev pub decoded_answer : ℕ → ℕ → Result Event DecodeError → Result Next SourceFault
decoded_answer number offset (Ok event) = Ok (next.Event event)
decoded_answer number offset (Err (refusal.Fault kind)) = Ok (next_of_fault number offset kind)
decoded_answer number offset (Err refusal.Memory) = Err source.Memory

-- `parsed` is what `says` gives for some value that the octets spell, where `Spells` tells which octets spell a value
abbrev pub SpellsMapped : {A B C : Type 0} → (A → C → Type 0) → (A → B) → B → C → Type 0
SpellsMapped {A} Spells says parsed octets = (value : A) × Spells value octets × (parsed ≡ says value)

-- what the body of a BGP4MP or BGP4MP_ET record with this timestamp is parsed into: the values of its items, and the
-- microseconds
abbrev pub parsed_session : ℕ → TimedSessionContent → ItemsAndMicroseconds
parsed_session seconds body = record { items = session_items seconds body.content; micros = body.micros }

-- the RIB entry that was parsed: the attributes of its route, its Originated Time, and its peer index
abbrev pub entry_value : ParsedEntry → RibEntry
entry_value entry = record { attrs = entry.route.value.attrs; time = entry.originated; index = entry.index }

-- the route of the parsed entry has the time that the stamp of the context chooses: the timestamp of the record, or
-- the Originated Time of the entry
abbrev pub HasEntryTime : TableContext → ParsedEntry → Type 0
HasEntryTime context entry = entry.route.value.time ≡ entry_time context.stamp context.seconds entry.originated

-- the announcement of a prefix by a RIB entry, with the peers, the stamp and the timestamp of this context, as a list
-- of one; it is empty if the entry's peer index isn't below the number of peers
abbrev pub context_items : TableContext → Network → RibEntry → List ItemValue
context_items context = entry_items context.peers.now context.stamp context.seconds

-- the items are the announcements of all RIB entries in this context, and `unknown` is the first peer index that
-- isn't in the table, or `None` where all are
pub record AreItemsOf (context : TableContext) (rib : PrefixEntries) (parsed : ParsedEntries) : Type 0 where
  pub items : map item_value parsed.items.items ≡ entries_items context.peers.now context.stamp context.seconds rib
  pub unknown : parsed.unknown ≡ first_unknown context.peers.now rib.entries

-- the octets are the number of RIB entries, the entries and then any octets, and `parsed` has the items that these
-- entries make for this prefix and their first peer index that isn't in the table (`AreItemsOf`)
abbrev pub SpellsEntryItems : TableContext → Network → ParsedEntries → List ℕ → Type 0
SpellsEntryItems context prefix parsed octets =
    (entries : List RibEntry) × SpellsEntries context.family entries octets
    × AreItemsOf context (record { prefix = prefix; entries = entries }) parsed

-- the octets begin with the body of a TABLE_DUMP, which has these fields; its view number, sequence number and status
-- may be any
abbrev pub BeginsWithTableDumpFields : Family → TableDumpFields → List ℕ → Type 0
BeginsWithTableDumpFields family f octets =
    (numbers status more : List ℕ)
    × Begins (AreTableDumpFields family) (numbers, (f.prefix, (status, (f.time, (f.peer, f.attributes.now))))) more octets
