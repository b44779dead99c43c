-- Private.
-- The lines that are printed under a heading, and the offsets of the fields of a route's line in a text.
use Rattle.std.specs.Prelude.{ℕ, List, ◌∷◌, ◌++◌, decimal, codes, flat_map, ◌≡◌, ◌≤◌, length, drop, slice_range}
use Rattle.ip_prefix.specs.Network.{Network}
use Rattle.ip_prefix.specs.Text.{address_text, network_text}
use Rattle.mrt_events.specs.declared.peer.Peer.{Peer}
use Rattle.mrt_events.specs.declared.event.Route.{Route}
use Rattle.bgpdump_lines.specs.Lines.{bar, line_from_fields, attribute_fields, tag_word, route_time_text, route_letter, line_from_first_field}
use Rattle.mrt_events.specs.Event.{ItemValue}
use Rattle.mrt_events.specs.declared.event.Tag.{Tag}
use Rattle.bgpdump_lines.specs.declared.heading.FirstField.{FirstField}
use Rattle.bgpdump_lines.specs.declared.heading.FirstField.TheVariants.{Record, Rib}
use Rattle.bgpdump_lines.specs.declared.heading.Heading.{Heading}
use Rattle.bgpdump_lines.specs.declared.route_line.FieldOffsets.{FieldOffsets}
use Rattle.bgpdump_lines.specs.declared.route_line.LastLine.{LastLine}

-- ---- the fields of a line from the peer on, each with the bar ahead of it

-- The fields of a peer: a bar and its address, a bar and its AS number.
abbrev pub peer_fields : Peer → List ℕ
peer_fields peer = bar ∷ address_text peer.addr ++ bar ∷ decimal peer.asn

-- The field of a prefix: a bar and the prefix.
abbrev pub prefix_field : Network → List ℕ
prefix_field network = bar ∷ network_text network

-- The fields of a route's line after the prefix: a bar, the fields of its attributes with bars between them, and a
-- line feed.
abbrev pub fields_after_prefix : Route → List ℕ
fields_after_prefix route = bar ∷ line_from_fields (attribute_fields route.attrs)

-- ---- the lines under a heading, which has what the lines of an event, or of a table, have in common

-- The first field of a line: `RIB` for the choice `Rib`, and for `Record` the kind of the record that the line is
-- from, such as `BGP4MP`, as `tag` has it.
abbrev pub first_field_of_kind : FirstField → Tag → List ℕ
first_field_of_kind Record tag = tag_word tag
first_field_of_kind Rib tag = codes "RIB"

-- The first field of the lines under a heading, which is what the lines of a record, or of a peer's table, have in
-- common: `RIB` if it chooses this, or else the kind of its record, such as `BGP4MP`.
abbrev pub first_field : Heading → List ℕ
first_field heading = first_field_of_kind heading.first heading.tag

-- The first three fields of the line of `route` under `heading`, with bars between them: `RIB` or the record's kind;
-- the time, which is that of the route in a table, and else that of the heading; and the letter `B` in a table, or
-- else `A`.
abbrev pub first_three_fields : Heading → Route → List ℕ
first_three_fields heading route =
    first_field heading ++ bar ∷ (route_time_text heading.time heading.tag route ++ bar ∷ route_letter heading.tag)

-- The fields of the line of `route` under `heading` before the bar ahead of the prefix: the first three, and the
-- address and the AS number of `peer`.
abbrev pub fields_before_prefix : Heading → Peer → Route → List ℕ
fields_before_prefix heading peer route = first_three_fields heading route ++ peer_fields peer

-- The line of an item of an event, with the first field, the time and the tag of `heading` (`line_from_first_field`).
abbrev pub line_under_heading : Heading → ItemValue → List ℕ
line_under_heading heading = line_from_first_field (first_field heading) heading.time heading.tag

-- The lines of items of an event under `heading` (`line_under_heading`), one for each, in order.
abbrev pub lines_under_heading : Heading → List ItemValue → List ℕ
lines_under_heading heading announcement = flat_map (line_under_heading heading) announcement

-- ---- the offsets of the fields of a route's line, from which the next line may be copied

-- The offsets are in order, and none is after the end of the text.
pub record AreOffsetsOrdered (offsets : FieldOffsets) (text : List ℕ) : Type 0 where
  pub head : offsets.start ≤ offsets.head
  pub front : offsets.head ≤ offsets.front
  pub tail : offsets.front ≤ offsets.tail
  pub within : offsets.tail ≤ length text

-- The octets of a text from the start of a line up to the end of its first three fields, by the offsets of its
-- fields.
abbrev pub first_three_fields_at : FieldOffsets → List ℕ → List ℕ
first_three_fields_at offsets text = slice_range text offsets.start offsets.head

-- The octets of a text from the start of a line up to, and without, the bar ahead of its prefix, by the offsets of
-- its fields.
abbrev pub front_at : FieldOffsets → List ℕ → List ℕ
front_at offsets text = slice_range text offsets.start offsets.front

-- The octets of a text from the bar ahead of a line's prefix up to the end of the prefix, by the offsets of its
-- fields.
abbrev pub prefix_at : FieldOffsets → List ℕ → List ℕ
prefix_at offsets text = slice_range text offsets.front offsets.tail

-- The octets of a text from the end of a line's prefix, by the offsets of its fields, up to the end of the text.
abbrev pub after_prefix_at : FieldOffsets → List ℕ → List ℕ
after_prefix_at offsets text = drop offsets.tail text

-- The text has these fields at `offsets`: `head_text`, the first three of a line; `front_text`, all before the bar
-- ahead of its prefix; `prefix_text`, that bar and the prefix; and `tail_text`, all after it up to the end of the
-- text.
pub record HasFieldsAt (text head_text front_text prefix_text tail_text : List ℕ) (offsets : FieldOffsets) : Type 0 where
  pub ordered : AreOffsetsOrdered offsets text
  pub head : first_three_fields_at offsets text ≡ head_text
  pub front : front_at offsets text ≡ front_text
  pub prefix : prefix_at offsets text ≡ prefix_text
  pub tail : after_prefix_at offsets text ≡ tail_text

-- `text` ends in the line under `heading` of the announcement of `line` (its peer, prefix and route), whose fields
-- are at the offsets of `line`.
abbrev pub EndsInLineUnder : Heading → LastLine → List ℕ → Type 0
EndsInLineUnder heading line text =
    HasFieldsAt text (first_three_fields heading line.announcement.route.now) (fields_before_prefix heading line.announcement.peer.now line.announcement.route.now)
    (prefix_field line.announcement.prefix.now) (fields_after_prefix line.announcement.route.now) line.offsets

-- `text` ends in a line of `route` of `peer`, to any prefix, under `heading`, whose fields are at `offsets`.
pub record EndsInLineOfRoute (heading : Heading) (peer : Peer) (route : Route) (offsets : FieldOffsets) (text : List ℕ) : Type 0 where
  pub ordered : AreOffsetsOrdered offsets text
  pub front : front_at offsets text ≡ fields_before_prefix heading peer route
  pub tail : after_prefix_at offsets text ≡ fields_after_prefix route
