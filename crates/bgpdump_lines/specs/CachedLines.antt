-- Private.
-- The lines of a table's routes without their prefixes, as the cache holds them, and the prefix of a line in
-- a text.
use Rattle.std.specs.Prelude.{ℕ, List, ◌∷◌, ◌++◌, decimal, ◌≡◌, ◌≤◌, length, take}
use Rattle.mrt_events.specs.declared.peer.Peer.{Peer}
use Rattle.mrt_events.specs.declared.event.Route.{Route}
use Rattle.mrt_events.specs.declared.event.Tag.TheVariants.{TableDump2}
use Rattle.bgpdump_lines.specs.Lines.{bar, tag_word, route_letter}
use Rattle.bgpdump_lines.specs.declared.heading.FirstField.TheVariants.{Record}
use Rattle.bgpdump_lines.specs.declared.heading.Heading.{Heading}
use Rattle.bgpdump_lines.specs.declared.route_line.LastLine.{LastLine}
use Rattle.bgpdump_lines.specs.Heading.{peer_fields, prefix_field, fields_after_prefix, prefix_at}

-- The heading, what the lines of a record have in common, is that of a TABLE_DUMP_V2 record: the first field of its
-- lines is the record's kind, and its tag `TableDump2`. Its time may be any, as the line of a route has that of the
-- route.
abbrev pub IsTableHeading : Heading → Type 0
IsTableHeading heading = (heading.first ≡ Record) × (heading.tag ≡ TableDump2)

-- The first three fields of the line of a route of time `time` from a TABLE_DUMP_V2 record, such as
-- `TABLE_DUMP2|1700000000|B`, with no bar after them.
abbrev pub table_line_head : ℕ → List ℕ
table_line_head time = tag_word TableDump2 ++ bar ∷ (decimal time ++ bar ∷ route_letter TableDump2)

-- `octets` are what the lines of the routes of `peer` with time `time` from TABLE_DUMP_V2 records have before the bar
-- ahead of the prefix. Their first three fields end at the offset `end`.
pub record IsLineStart (octets : List ℕ) (end : ℕ) (peer : Peer) (time : ℕ) : Type 0 where
  pub within : end ≤ length octets
  pub head : take end octets ≡ table_line_head time
  pub front : octets ≡ table_line_head time ++ peer_fields peer

-- The line of the route of `peer` from a TABLE_DUMP_V2 record is `in_front`, a bar and the prefix, and `behind`. Its
-- first three fields end at the offset `end` of `in_front`.
pub record IsPrefixlessLine (in_front : List ℕ) (end : ℕ) (behind : List ℕ) (peer : Peer) (route : Route) : Type 0 where
  pub start : IsLineStart in_front end peer route.time
  pub tail : behind ≡ fields_after_prefix route

-- `text` has the prefix of `line`, with the bar ahead of it, between the offsets of `line` for the start and the end
-- of that field, which lie in the text.
pub record HoldsPrefixOf (line : LastLine) (text : List ℕ) : Type 0 where
  pub ordered : line.offsets.front ≤ line.offsets.tail
  pub within : line.offsets.tail ≤ length text
  pub prefix : prefix_at line.offsets text ≡ prefix_field line.announcement.prefix.now
