-- What the body of a record holds, and the octets that spell it (RFC 6396, section 4).
use Rattle.std.specs.Prelude.{◌≡◌, ℕ, List}
use Rattle.mrt_events.specs.declared.peer.Peer.{Peer}
use Rattle.mrt_wire.specs.declared.record_types.BodyFormat.{BodyFormat}
use Rattle.mrt_wire.specs.declared.record_types.BodyFormat.TheVariants as form
use Rattle.mrt_wire.specs.Rib.{SpellsPeerIndex, PrefixEntries, SpellsRib, TableDumpEntry, SpellsTableDump}
use Rattle.mrt_wire.specs.Session.{TimedSessionContent, SpellsSessionBody}
use Rattle.mrt_wire.specs.RecordTypes.{HasBodyFormat}

-- what a body holds, by the record's type
pub data Content : Type 0 where
  -- TABLE_DUMP: the route of one peer to a prefix
  Entry : TableDumpEntry → Content
  -- PEER_INDEX_TABLE: the peers, in the order of their peer indexes
  Peers : List Peer → Content
  -- RIB_IPV4_UNICAST or RIB_IPV6_UNICAST: a prefix and its entries
  Entries : PrefixEntries → Content
  -- BGP4MP or BGP4MP_ET: a state change or a message, and the microseconds, if the type has them
  Session : TimedSessionContent → Content

-- the octets are a body of this format, and spell this content
abbrev pub SpellsContent : BodyFormat → Content → List ℕ → Type 0
SpellsContent (form.Entry family) content octets =
    (entry : TableDumpEntry) × (content ≡ Entry entry) × SpellsTableDump family entry octets
SpellsContent form.Peers content octets =
    (peers : List Peer) × (content ≡ Peers peers) × SpellsPeerIndex peers octets
SpellsContent (form.Entries family) content octets =
    (entries : PrefixEntries) × (content ≡ Entries entries) × SpellsRib family entries octets
SpellsContent (form.Session session) content octets =
    (body : TimedSessionContent) × (content ≡ Session body) × SpellsSessionBody session body octets

-- the type and subtype are supported, and the octets are a body of them, and spell this content
abbrev pub IsBody : ℕ → ℕ → Content → List ℕ → Type 0
IsBody kind subtype content octets =
    (form : BodyFormat) × HasBodyFormat kind subtype form × SpellsContent form content octets
