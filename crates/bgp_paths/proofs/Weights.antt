-- What hops and segments weigh.
use Rattle.std.proofs.Common.{◌≡◌, ℕ, suc, ◌<◌, ◌≤◌, cond, List, [], ◌∷◌, length, refl, arith, sum_by}
use Rattle.std.specs.Prelude.{◌==◌}
use Rattle.std.proofs.lemmas.List.Sums.{sum_by-cons, sum_by-append}
use Rattle.bgp_paths.specs.declared.segment.SegmentKind.{SegmentKind}
use Rattle.bgp_paths.specs.declared.segment.SegmentKind.TheVariants.{AsSequence}
use Rattle.bgp_paths.specs.declared.segment.Segment.{Segment}
use Rattle.bgp_paths.specs.Merge.{PathUnit, units_of_segment_at, units_from, kind_weight, unit_weight, units_weight, weight_by, segment_weight, segments_without_confederations}

-- what segments weigh together
abbrev pub total : List Segment → ℕ
total ss = sum_by segment_weight ss

light_kind : (kind : SegmentKind) → kind_weight kind ≤ 1
light_kind kind = grind arith

-- no hop weighs more than one
pub light : (hop : PathUnit) → unit_weight hop ≤ 1
light hop = light_kind hop.part.kind

weight-numbers : (place : ℕ) (ns : List ℕ) → units_weight (units_of_segment_at AsSequence place ns) ≡ length ns
weight-numbers place [] = refl
weight-numbers place (n ∷ ns) =
    let first : PathUnit = record { place = place; part = record { numbers = n ∷ []; kind = AsSequence } } in
    omega (arith, sum_by-cons unit_weight first (units_of_segment_at AsSequence place ns), weight-numbers place ns)

-- the hops of a segment weigh what it weighs
pub weight-units_of_segment_at : (kind : SegmentKind) (place : ℕ) (ns : List ℕ) → units_weight (units_of_segment_at kind place ns) ≡ weight_by kind (length ns)
weight-units_of_segment_at kind place ns = grind (arith, weight-numbers place ns)

-- the hops of segments weigh what those weigh together
pub weight-units_from : (place : ℕ) (ss : List Segment) → units_weight (units_from place ss) ≡ total ss
weight-units_from place [] = refl
weight-units_from place (s ∷ ss) =
    let first = units_of_segment_at s.kind place s.numbers in
    let others = units_from (suc place) ss in
    omega (arith, sum_by-append unit_weight first others, weight-units_of_segment_at s.kind place s.numbers, weight-units_from (suc place) ss, sum_by-cons segment_weight s ss)

-- of a segment that weighs more than is left, so many numbers can be taken
pub cut_fits : (kind : SegmentKind) (size left : ℕ) → left < weight_by kind size → left ≤ size
cut_fits kind size left h = grind arith

one_plain : (kind : SegmentKind) (s : Segment) (ss plain : List Segment) → s.kind ≡ kind → total plain ≡ total ss → total (cond (kind_weight kind == 1) (s ∷ plain) plain) ≡ total (s ∷ ss)
one_plain kind s ss plain e same = grind (arith, sum_by-cons segment_weight s ss, sum_by-cons segment_weight s plain)

-- segments weigh as much without those of a confederation, which weigh nothing
pub total-plain : (ss : List Segment) → total (segments_without_confederations ss) ≡ total ss
total-plain [] = refl
total-plain (s ∷ ss) = one_plain s.kind s ss (segments_without_confederations ss) refl (total-plain ss)
