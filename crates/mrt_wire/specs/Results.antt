-- The result of each record, an event or a fault, and the results of an input.
use Rattle.std.specs.Prelude.{◌≡◌, ◌⊎◌, ℕ, List, [], Option, Some, None, ◌++◌, ◌∷◌, ◌+◌, length, flat_map}
use Rattle.mrt_frames.specs.declared.fault.RecordKind.{RecordKind}
use Rattle.mrt_frames.specs.declared.fault.RecordKind.TheVariants.{Unsupported, Malformed, NoIndex, PeerIndex}
use Rattle.mrt_events.specs.declared.stamp.Stamp.{Stamp}
use Rattle.mrt_events.specs.declared.event.Tag.{Tag}
use Rattle.mrt_events.specs.declared.event.Tag.TheVariants.{TableDump, TableDump2, Bgp4mp, Bgp4mpEt}
use Rattle.mrt_events.specs.declared.event.Event.{Event}
use Rattle.mrt_events.specs.declared.peer.Peer.{Peer}
use Rattle.mrt_frames.specs.Record.{Record, spelling, IsRecord, BeginsWithNoRecord, rest_fault}
use Rattle.mrt_events.specs.Event.{ItemValue}
use Rattle.mrt_wire.specs.Content.{Content, Entry, Peers, Entries, Session, IsBody}
use Rattle.mrt_wire.specs.Items.{first_unknown, table_dump_items, entries_items, session_items}
use Rattle.mrt_wire.specs.RecordTypes.{IsSupported}
use Rattle.mrt_wire.specs.declared.next.Phase.{Phase}
use Rattle.mrt_wire.specs.declared.next.Phase.TheVariants.{Reading}
use Rattle.mrt_frames.specs.declared.fault.RecordFault.{RecordFault}

-- ---- the outcome of a record: its event, or the first fault that it has

-- the outcome of a record: it is accepted with this content and event, or refused with this fault
pub data RecordOutcome : Type 0 where
  Accepted : Content → Event → RecordOutcome
  Refused : RecordKind → RecordOutcome

-- a whole record, and its outcome
pub record Frame : Type 0 where
  pub mrt : Record
  pub outcome : RecordOutcome

-- the peers of the last accepted peer index table, in the order of their peer indexes, and `None` before the first
abbrev pub PeerTable : Type 0
PeerTable = Option (List Peer)

-- the peer index table after a record with this outcome, where `index` is the one before it: that of the record, if
-- it is an accepted PEER_INDEX_TABLE, and otherwise `index`
abbrev pub index_after : PeerTable → RecordOutcome → PeerTable
index_after index (Accepted (Entry entry) event) = index
index_after index (Accepted (Peers peers) event) = Some peers
index_after index (Accepted (Entries rib) event) = index
index_after index (Accepted (Session body) event) = index
index_after index (Refused kind) = index

-- the peers of a peer index table, and none where there is no table
abbrev pub peers_in : PeerTable → List Peer
peers_in None = []
peers_in (Some peers) = peers

-- the fault of a RIB record, where `unknown` is the first peer index among its entries that isn't in the table:
-- `NoIndex` without a table, even without entries; or else `PeerIndex` with `unknown`, or `None` if that is `None`
abbrev pub entries_fault : PeerTable → Option ℕ → Option RecordKind
entries_fault None unknown = Some NoIndex
entries_fault (Some peers) None = None
entries_fault (Some peers) (Some number) = Some (PeerIndex number)

-- the fault of a record whose body has this content, with peer index table `index` before it, or `None`: only RIB
-- entries can have one, that of a peer index
abbrev pub content_fault : PeerTable → Content → Option RecordKind
content_fault index (Entry entry) = None
content_fault index (Peers peers) = None
content_fault index (Entries rib) = entries_fault index (first_unknown (peers_in index) rib.entries)
content_fault index (Session body) = None

-- the tag of the event of a BGP4MP or BGP4MP_ET record: `Bgp4mpEt` with microseconds, and `Bgp4mp` without
abbrev pub session_tag : Option ℕ → Tag
session_tag None = Bgp4mp
session_tag (Some micros) = Bgp4mpEt

-- the event with this time in seconds and microseconds, this tag and these items
abbrev pub event_at : ℕ → Option ℕ → Tag → List ItemValue → Event
event_at seconds micros tag items = record { time = record { seconds = seconds; micros = micros }; tag = tag; items = items }

-- the event of accepted record `r`, whose body has this content, with peer index table `index` before it: its
-- timestamp, with microseconds if the body has them, the tag of its type, and the items of its content, none for a
-- PEER_INDEX_TABLE; `stamp` chooses the times of table entries
abbrev pub event_of : Stamp → PeerTable → Record → Content → Event
event_of stamp index r (Entry entry) = event_at r.seconds None TableDump (table_dump_items stamp r.seconds entry)
event_of stamp index r (Peers peers) = event_at r.seconds None TableDump2 []
event_of stamp index r (Entries rib) = event_at r.seconds None TableDump2 (entries_items (peers_in index) stamp r.seconds rib)
event_of stamp index r (Session body) = event_at r.seconds body.micros (session_tag body.micros) (session_items r.seconds body.content)

-- `kind` is the first fault that record `r`, a whole one, has, with peer index table `index` before it:
-- `Unsupported`, by its type and subtype; or else `Malformed`, if its body spells no content; or else the fault of
-- its content (`content_fault`)
abbrev pub HasFault : PeerTable → Record → RecordKind → Type 0
HasFault index r kind =
    ((IsSupported r → ⊥) × (kind ≡ Unsupported r.kind r.subtype))
    ⊎ ((IsSupported r × ((content : Content) → IsBody r.kind r.subtype content r.body → ⊥) × (kind ≡ Malformed))
    ⊎ ((content : Content) × IsBody r.kind r.subtype content r.body × (content_fault index content ≡ Some kind)))

-- record `r` is accepted, with peer index table `index` before it: its body spells `content`, which has no fault, and
-- `event` is the event of it, with times chosen by `stamp`
pub record MakesEvent (stamp : Stamp) (index : PeerTable) (r : Record) (content : Content) (event : Event) : Type 0 where
  pub is_body : IsBody r.kind r.subtype content r.body
  pub sound : content_fault index content ≡ None
  pub made : event ≡ event_of stamp index r content

-- record `r` has this outcome, with peer index table `index` before it: accepted, with the content of its body and
-- the event of it (times chosen by `stamp`), or refused, with the first fault that it has
abbrev pub ReadsAs : Stamp → PeerTable → Record → RecordOutcome → Type 0
ReadsAs stamp index r (Accepted content event) = MakesEvent stamp index r content event
ReadsAs stamp index r (Refused kind) = HasFault index r kind

-- ---- frames, the state of a source, and the results of an input

-- `taken` was taken off the front of an input that knows its octets, and `after` is left. It doesn't hold of an input
-- that doesn't know them
pub record TakesFront (old new : Option (List ℕ)) (taken after : List ℕ) : Type 0 where
  pub before : old ≡ Some (taken ++ after)
  pub now : new ≡ Some after

-- the octets of the records of these frames, one after the other
abbrev pub spellings : List Frame → List ℕ
spellings frames = flat_map (λ frame. spelling frame.mrt) frames

-- each frame is a record with the outcome that it has, with peer index table `index` before the first, and before
-- each further one the table that the records before it leave; `stamp` chooses the times of table entries
abbrev pub AreFrames : Stamp → PeerTable → List Frame → Type 0
AreFrames stamp index [] = Unit {0}
AreFrames stamp index (frame ∷ frames) =
    IsRecord frame.mrt × ReadsAs stamp index frame.mrt frame.outcome × AreFrames stamp (index_after index frame.outcome) frames

-- `octets` are those of the records of `frames` and then `rest`, which begins with no whole record; the frames have
-- the outcomes of these records, with peer index table `index` before the first and times chosen by `stamp`
pub record Splits (stamp : Stamp) (index : PeerTable) (octets : List ℕ) (frames : List Frame) (rest : List ℕ) : Type 0 where
  pub whole : octets ≡ spellings frames ++ rest
  pub are_frames : AreFrames stamp index frames
  pub none : BeginsWithNoRecord rest

-- one result of an input: the event of a record, or the fault of a record or of the octets after the last one, with
-- its number and offset
pub data RecordResult : Type 0 where
  Found : Event → RecordResult
  Bad : RecordFault → RecordResult

-- the result of a record with this outcome: its event, or its fault, with the record's number, counted from 1, and
-- the offset of its header
abbrev pub record_result : ℕ → ℕ → RecordOutcome → RecordResult
record_result number offset (Accepted content event) = Found event
record_result number offset (Refused kind) = Bad (record { number = number; offset = offset; kind = kind })

-- the fault of this kind in the record with this number and offset, as a list of one; empty if the kind is `None`
abbrev pub fault_if_any : ℕ → ℕ → Option RecordKind → List RecordResult
fault_if_any number offset None = []
fault_if_any number offset (Some kind) = Bad (record { number = number; offset = offset; kind = kind }) ∷ []

-- the state of a source, which reads records from an input, as contracts see it: the peer index table, how many
-- records (`number`) and octets (`offset`) it has read, how many octets it may read, which time table entries get
-- (`stamp`), and whether it reads, has ended or has failed (`phase`)
pub record SourceState : Type 0 where
  pub index : PeerTable
  pub number : ℕ
  pub offset : ℕ
  pub limit : ℕ
  pub stamp : Stamp
  pub phase : Phase

-- the state of a source that was in state `p` after the record of this frame: the peer index table after it, the
-- number greater by 1, and the offset by the octets of the record
abbrev pub state_after : SourceState → Frame → SourceState
state_after p frame =
    record { index = index_after p.index frame.outcome; number = p.number + 1; offset = p.offset + length (spelling frame.mrt); limit = p.limit; stamp = p.stamp; phase = p.phase }

-- the state of a new source with this stamp and limit: nothing is read, and there is no peer index table
abbrev pub start_state : Stamp → ℕ → SourceState
start_state stamp limit = record { index = None; number = 0; offset = 0; limit = limit; stamp = stamp; phase = Reading }

-- the results of an input from state `p` on, whose octets from there are those of the records of these frames and
-- then `rest`: an event or a fault for each frame, in order, and then the fault of `rest`, if it isn't empty
abbrev pub results : SourceState → List Frame → List ℕ → List RecordResult
results p [] rest = fault_if_any (p.number + 1) p.offset (rest_fault rest)
results p (frame ∷ frames) rest = record_result (p.number + 1) p.offset frame.outcome ∷ results (state_after p frame) frames rest
