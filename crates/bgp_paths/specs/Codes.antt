-- Private.
-- AS paths as plain data (`Coded`): a code of them and their parts, from which types that contain them make
-- theirs.
use Rattle.std.specs.Prelude.{◌≡◌, ℕ, ◌==◌, if◌then◌else◌, List, refl}
use Rattle.std.specs.Coded.{Coded, code_by, coded×, coded_ℕ, coded_list}
use Rattle.bgp_paths.specs.declared.segment.SegmentKind.{SegmentKind}
use Rattle.bgp_paths.specs.declared.segment.SegmentKind.TheVariants.{AsSet, AsSequence, ConfedSequence, ConfedSet}
use Rattle.bgp_paths.specs.declared.segment.Segment.{Segment}
use Rattle.bgp_paths.specs.declared.path_reader.TheConstants.{AS_SET, AS_SEQUENCE, AS_CONFED_SEQUENCE}
use Rattle.bgp_paths.specs.declared.path.AsPath.{AsPath}
use Rattle.bgp_paths.specs.Path.{kind_code}

-- the kind of segment with this type; of other numbers the set of a confederation
abbrev kind_of : ℕ → SegmentKind
kind_of n = if n == AS_SET then AsSet else if n == AS_SEQUENCE then AsSequence else if n == AS_CONFED_SEQUENCE then ConfedSequence else ConfedSet

-- a kind of segment is the one of its type
abbrev same_kind : (kind : SegmentKind) → kind_of (kind_code kind) ≡ kind
same_kind AsSet = refl
same_kind AsSequence = refl
same_kind ConfedSequence = refl
same_kind ConfedSet = refl

-- an encoding of kinds of segments as plain data, for keys and values of finite maps: the number of the kind
-- (`kind_code`)
abbrev pub coded_segment_kind : Coded SegmentKind
coded_segment_kind = code_by ℕ coded_ℕ kind_code kind_of same_kind

-- an encoding of segments as plain data, for keys and values of finite maps: the pair of AS numbers and kind
abbrev pub coded_segment : Coded Segment
coded_segment = code_by (List ℕ × SegmentKind) (coded× (coded_list coded_ℕ) coded_segment_kind) (λ s. (s.numbers, s.kind)) (λ p. record { numbers = p.0; kind = p.1 }) (λ _. refl)

-- an encoding of AS paths as plain data, for keys and values of finite maps: the list of segments
abbrev pub coded_as_path : Coded AsPath
coded_as_path = code_by (List Segment) (coded_list coded_segment) (λ path. path.segments) (λ segments. record { segments = segments }) (λ _. refl)
