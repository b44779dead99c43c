-- Private.
-- What cached lines begin with, and the line that is printed by use of one.
use Rattle.std.specs.Prelude.{ℕ, List, take}
use Rattle.mrt_events.specs.declared.peer.Peer.{Peer}
use Rattle.bgpdump_lines.specs.declared.cached_line.CachedLine.{CachedLine}
use Rattle.bgpdump_lines.specs.declared.route_line.Announcement.{Announcement}
use Rattle.bgpdump_lines.specs.declared.route_line.FieldOffsets.{FieldOffsets}
use Rattle.bgpdump_lines.specs.CachedLines.{IsLineStart}
use Rattle.bgpdump_lines.specs.Heading.{prefix_field, fields_after_prefix, HasFieldsAt}

-- the octets of a cached line before the bar ahead of its prefix: the first `start.size` ones of its array, which has
-- zeros after them
abbrev pub start_octets : CachedLine → List ℕ
start_octets line = take line.start.size line.start.octets

-- the lines of the routes of `peer` with time `time` from TABLE_DUMP_V2 records begin as the cached line `line` does,
-- up to the bar ahead of the prefix, and their first three fields end where it states (`line.start.head`)
abbrev pub BeginsLinesOf : CachedLine → Peer → ℕ → Type 0
BeginsLinesOf line peer time = IsLineStart (start_octets line) line.start.head peer time

-- `text` ends in a line that is made of the start of the cached line `line` (`start_octets`), and the prefix and the
-- attributes of `announcement`; `offsets` are those of the fields of this line
abbrev pub HasFieldsByCached : List ℕ → CachedLine → Announcement → FieldOffsets → Type 0
HasFieldsByCached text line announcement offsets =
    HasFieldsAt text (take line.start.head (start_octets line)) (start_octets line)
    (prefix_field announcement.prefix.now) (fields_after_prefix announcement.route.now) offsets
