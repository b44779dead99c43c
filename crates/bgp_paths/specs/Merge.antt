-- The merge of an AS_PATH with AS numbers of two octets and the AS4_PATH sent with it (RFC 6793, section
-- 4.2.3).
use Rattle.std.specs.Prelude.{◌≡◌, ℕ, suc, ◌-◌, ◌<◌, ◌≤◌, ◌==◌, if◌then◌else◌, List, [], ◌∷◌, ◌++◌, length, map, filter, sum_by}
use Rattle.bgp_paths.specs.declared.segment.SegmentKind.{SegmentKind}
use Rattle.bgp_paths.specs.declared.segment.SegmentKind.TheVariants.{AsSet, AsSequence}
use Rattle.bgp_paths.specs.declared.segment.Segment.{Segment}
use Rattle.bgp_paths.specs.declared.path.AsPath.{AsPath}

-- a unit of an AS path, which the merge of AS_PATH with AS4_PATH keeps or drops as a whole: an AS number of a
-- sequence, as a sequence of this number alone, or a whole segment of another kind. `place` is the index of
-- its segment in the path
pub record PathUnit : Type 0 where
  pub place : ℕ
  pub part : Segment

-- the units of the segment that has the index `place` in its path, this kind, and the AS numbers `ns`: one
-- unit for each number of a sequence, or else one for the whole segment
abbrev pub units_of_segment_at : SegmentKind → ℕ → List ℕ → List PathUnit
units_of_segment_at AsSequence place ns = map (λ n. record { place = place; part = record { numbers = n ∷ []; kind = AsSequence } }) ns
units_of_segment_at kind place ns = record { place = place; part = record { numbers = ns; kind = kind } } ∷ []

-- the units of `segments`, in order; `place` is the index of the first segment in its path, and the indexes
-- of the others follow
abbrev pub units_from : ℕ → List Segment → List PathUnit
units_from place [] = []
units_from place (segment ∷ segments) = units_of_segment_at segment.kind place segment.numbers ++ units_from (suc place) segments

-- how many ASes a unit of a segment of this kind counts in the length of a path (RFC 6793, section 4.2.3; RFC
-- 5065, section 5.3): 1, for a number of a sequence or for a whole set, but 0 for a segment of a
-- confederation
abbrev pub kind_weight : SegmentKind → ℕ
kind_weight AsSequence = 1
kind_weight AsSet = 1
kind_weight kind = 0

-- how many ASes a unit counts in the length of a path: 1 if it is a number of a sequence or a whole set, 0 if
-- it is a segment of a confederation
abbrev pub unit_weight : PathUnit → ℕ
unit_weight hop = kind_weight hop.part.kind

-- how many ASes these units count together in the length of a path: the sum of their `unit_weight`
abbrev pub units_weight : List PathUnit → ℕ
units_weight hops = sum_by unit_weight hops

-- how many ASes a segment of this kind with `size` AS numbers counts in the length of a path: `size` for a
-- sequence, 1 for a set, 0 for a segment of a confederation
abbrev pub weight_by : SegmentKind → ℕ → ℕ
weight_by AsSequence size = size
weight_by kind size = kind_weight kind

-- how many ASes a segment counts in the length of a path: as many as its AS numbers for a sequence, 1 for a
-- set, 0 for a segment of a confederation
abbrev pub segment_weight : Segment → ℕ
segment_weight segment = weight_by segment.kind (length segment.numbers)

-- the length of a path, as a number of ASes, the sum over its segments: as many as its AS numbers for a
-- sequence, 1 for a set, 0 for a segment of a confederation
abbrev pub path_weight : AsPath → ℕ
path_weight path = sum_by segment_weight path.segments

-- the unit `hop` before the others; if the first of these is of the same segment (of equal `place`), the two
-- become one unit, which has the AS numbers of both
abbrev pub joined_units : PathUnit → List PathUnit → List PathUnit
joined_units hop [] = hop ∷ []
joined_units hop (next ∷ hops) =
    if hop.place == next.place
    then record { place = hop.place; part = record { numbers = hop.part.numbers ++ next.part.numbers; kind = hop.part.kind } } ∷ hops
    else hop ∷ next ∷ hops

-- the units, in order, with neighbours of the same segment (of equal `place`) joined into one, which has the
-- AS numbers of all
abbrev pub gathered_units : List PathUnit → List PathUnit
gathered_units [] = []
gathered_units (hop ∷ hops) = joined_units hop (gathered_units hops)

-- the segments that units make, in order: neighbours of the same segment (of equal `place`) become one
-- segment again, and the others one each
abbrev pub segments_of : List PathUnit → List Segment
segments_of hops = map (λ hop. hop.part) (gathered_units hops)

-- the segments that aren't of a confederation, in order
abbrev pub segments_without_confederations : List Segment → List Segment
segments_without_confederations segments = filter (λ segment. kind_weight segment.kind == 1) segments

-- the path without its segments of a confederation
abbrev pub path_without_confederations : AsPath → AsPath
path_without_confederations path = record { segments = segments_without_confederations path.segments }

-- `front` begins `hops` and counts `weighing` ASes, and it is the longest beginning that does: units that
-- count none at its end are in it
pub record IsLongest (weighing : ℕ) (hops front : List PathUnit) : Type 0 where
  pub rest : List PathUnit
  pub whole : hops ≡ front ++ rest
  pub weighs : units_weight front ≡ weighing
  pub longest : (other left : List PathUnit) → hops ≡ other ++ left → units_weight other ≡ weighing → length other ≤ length front

-- `path` is AS_PATH `first` merged with AS4_PATH `second`, whose segments of a confederation are dropped (RFC
-- 6793, section 4.2.3): `first`, if it counts fewer ASes than `second`; or else the longest beginning of
-- `first` that counts the difference, and then `second`
pub record IsMerge (first second path : AsPath) : Type 0 where
  pub shorter : path_weight first < path_weight (path_without_confederations second) → path ≡ first
  pub joined : path_weight (path_without_confederations second) ≤ path_weight first
      → (front : List PathUnit) × IsLongest (path_weight first - path_weight (path_without_confederations second)) (units_from 0 first.segments) front
      × (path ≡ record { segments = segments_of front ++ segments_without_confederations second.segments })
