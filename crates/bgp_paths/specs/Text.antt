-- The printed texts of AS paths and communities.
use Rattle.std.specs.Prelude.{ℕ, ◌^◌, ◌/◌, ◌%◌, ◌==◌, if◌then◌else◌, List, [], ◌∷◌, ◌++◌, map, decimal, codes}
use Rattle.std.specs.List.{flat_map, join_with_byte}
use Rattle.bgp_paths.specs.declared.segment.SegmentKind.{SegmentKind}
use Rattle.bgp_paths.specs.declared.segment.SegmentKind.TheVariants.{AsSet, AsSequence, ConfedSequence, ConfedSet}
use Rattle.bgp_paths.specs.declared.segment.Segment.{Segment}
use Rattle.bgp_paths.specs.declared.path.AsPath.{AsPath}
use Rattle.bgp_paths.specs.declared.text.Brackets.{Brackets}
use Rattle.ip_prefix.specs.declared.text.TheConstants.{COLON}
use Rattle.bgp_paths.specs.declared.text.TheConstants.{NO_EXPORT, NO_ADVERTISE, NO_EXPORT_SUBCONFED, AS_SET_BRACKETS, CONFED_SEQUENCE_BRACKETS, CONFED_SET_BRACKETS}
use Rattle.octet_text.specs.declared.cursor.TheConstants.{SPACE}

-- the numbers in decimal, joined by the separator of the marks, between their opening and closing octet
abbrev pub bracketed_numbers : Brackets → List ℕ → List ℕ
bracketed_numbers marks ns = marks.open ∷ join_with_byte marks.separator (map decimal ns) ++ marks.close ∷ []

-- the words that a segment of this kind with the AS numbers `ns` prints: each number of a sequence in
-- decimal, and one word of all numbers, in brackets, for each other kind
abbrev pub words_by : SegmentKind → List ℕ → List (List ℕ)
words_by AsSequence ns = map decimal ns
-- {a,b}
words_by AsSet ns = bracketed_numbers AS_SET_BRACKETS ns ∷ []
-- (a b)
words_by ConfedSequence ns = bracketed_numbers CONFED_SEQUENCE_BRACKETS ns ∷ []
-- [a,b]
words_by ConfedSet ns = bracketed_numbers CONFED_SET_BRACKETS ns ∷ []

-- the words that a segment prints: each AS number of a sequence in decimal, or else one word of all numbers:
-- `{a,b}` of a set, `(a b)` of a sequence of a confederation, `[a,b]` of a set of one
abbrev pub segment_words : Segment → List (List ℕ)
segment_words segment = words_by segment.kind segment.numbers

-- the printed text of a path: the words of its segments, joined by spaces
unfoldable pub path_text : AsPath → List ℕ
path_text path = join_with_byte SPACE (flat_map segment_words path.segments)

-- the high and the low 16 bits of a number of 32 bits in decimal, joined by a colon
abbrev pub halves_text : ℕ → List ℕ
halves_text n = decimal (n / 2 ^ 16) ++ COLON ∷ decimal (n % 2 ^ 16)

-- the printed text of a community (RFC 1997): `no-export`, `no-advertise` or `local-AS` for NO_EXPORT,
-- NO_ADVERTISE and NO_EXPORT_SUBCONFED, and for others the high and the low 16 bits in decimal, joined by a
-- colon
unfoldable pub community_text : ℕ → List ℕ
community_text community =
    if community == NO_EXPORT then codes "no-export"
    else if community == NO_ADVERTISE then codes "no-advertise"
    else if community == NO_EXPORT_SUBCONFED then codes "local-AS"
    else halves_text community

-- the printed text of communities, joined by spaces
abbrev pub communities_text : List ℕ → List ℕ
communities_text communities = join_with_byte SPACE (map community_text communities)
