-- Private.
-- What parsers return, segments whose AS numbers aren't parsed, and texts of words.
use Rattle.std.specs.Prelude.{ℕ, List, Option, Some, None, Result, Ok, Err, ◌≡◌, ◌*◌, ◌<◌, [], ◌∷◌, ◌++◌, length}
use Rattle.ip_prefix.specs.Fronts.{BeginsWithNone}
use Rattle.bgp_paths.specs.declared.fault.WireFault.{WireFault}
use Rattle.bgp_paths.specs.declared.fault.WireFault.TheVariants.{Malformed, Memory}
use Rattle.bgp_paths.specs.Path.{IsNoSpelling, asn_size, kind_code}
use Rattle.bgp_paths.specs.declared.numbers.AsWidth.{AsWidth}
use Rattle.bgp_paths.specs.declared.segment.SegmentKind.{SegmentKind}
use Rattle.bgp_paths.specs.declared.segment.SegmentKind.TheVariants.{AsSequence}
use Rattle.bgp_paths.specs.declared.segment.Segment.{Segment}
use Rattle.bgp_paths.specs.declared.path.AsPath.{AsPath}
use Rattle.std.specs.List.{join_with_byte}
use Rattle.ip_prefix.specs.Written.{ended_words}
use Rattle.bgp_paths.specs.declared.text.Brackets.{Brackets}

-- ---- what parsers return

-- what a parser returns for the octets: a value that they spell, or `None` if they spell none
abbrev pub ParsesTo : {A B : Type 0} → (A → B → Type 0) → B → Option A → Type 0
ParsesTo Spells octets (Some value) = Spells value octets
ParsesTo Spells octets None = IsNoSpelling Spells octets

-- an error that a parser may return for the octets: `Malformed` only if they spell no value, `Memory` always
abbrev pub Refuses : {A B : Type 0} → (A → B → Type 0) → B → WireFault → Type 0
Refuses Spells octets Malformed = IsNoSpelling Spells octets
Refuses Spells octets Memory = Unit {0}

-- what a parser returns for the octets: a value that they spell, or an error; `Malformed` only if they spell
-- no value
abbrev pub ParsesOrFails : {A B : Type 0} → (A → B → Type 0) → B → Result A WireFault → Type 0
ParsesOrFails Spells octets (Ok value) = Spells value octets
ParsesOrFails Spells octets (Err fault) = Refuses Spells octets fault

-- an error that a parser of a value at the start of the octets may return: `Malformed` only if they don't
-- begin with a spelling of any value, `Memory` always
abbrev pub MayRefuseFront : {A : Type 0} → (A → List ℕ → Type 0) → List ℕ → WireFault → Type 0
MayRefuseFront Spells octets Malformed = BeginsWithNone Spells octets
MayRefuseFront Spells octets Memory = Unit {0}

-- ---- an empty path, a segment that may be empty, and a segment at the start of octets

-- the path without segments
abbrev pub empty_path : AsPath
empty_path = record { segments = [] }

-- the segment of this kind with these AS numbers, as a list of one; the empty list for a sequence without AS
-- numbers
abbrev pub segment_unless_empty : SegmentKind → List ℕ → List Segment
segment_unless_empty AsSequence [] = []
segment_unless_empty kind ns = record { numbers = ns; kind = kind } ∷ []

-- the octets are the type of a segment of this kind, its count of AS numbers, from 1 to 255, as many octets
-- `body` as these numbers take, and then `rest`
pub record IsSplitSegment (width : AsWidth) (kind : SegmentKind) (count : ℕ) (body rest octets : List ℕ) : Type 0 where
  pub some : 0 < count
  pub fits : count < 256
  pub size : length body ≡ asn_size width * count
  pub whole : octets ≡ kind_code kind ∷ count ∷ (body ++ rest)

-- ---- texts

-- the three octets of `marks` in the order in which they are printed: opening, separator, closing
abbrev pub brackets_as_printed : Brackets → List ℕ
brackets_as_printed marks = marks.open ∷ marks.separator ∷ marks.close ∷ []

-- the text `new` begins with the text `old`
abbrev pub StillBegins : List ℕ → List ℕ → Type 0
StillBegins old new = (more : List ℕ) × (new ≡ old ++ more)

-- `new` is `old` without the separator after its last word: if `old` is a text of `before` octets and then
-- words with a separator after each, `new` is this text and then the words joined by the separator; without
-- words, this text
abbrev pub JoinsWords : ℕ → List ℕ → List ℕ → Type 0
JoinsWords before old new =
    (text : List ℕ) (separator : ℕ) (words : List (List ℕ)) → length text ≡ before
    → old ≡ text ++ ended_words separator words → new ≡ text ++ join_with_byte separator words
