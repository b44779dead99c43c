-- The segments that hops are put back into.
use Rattle.std.proofs.Common.{◌≡◌, ℕ, zero, suc, ◌-◌, ◌<◌, ◌≤◌, true, false, cond, List, [], ◌∷◌, ◌++◌, length, take, map, refl, ap, sym, ◌∙◌, arith, append-nil, eq-eqb, ne_eqb, ⊎_elim, length-take-le}
use Rattle.std.specs.Prelude.{◌==◌}
use Rattle.std.proofs.lemmas.Bool.{cond-true, cond-false, cases_lt}
use Rattle.std.proofs.lemmas.List.Sums.{sum_by-cons, sum_by-append}
use Rattle.bgp_paths.specs.declared.segment.SegmentKind.{SegmentKind}
use Rattle.bgp_paths.specs.declared.segment.SegmentKind.TheVariants.{AsSequence}
use Rattle.bgp_paths.specs.declared.segment.Segment.{Segment}
use Rattle.bgp_paths.specs.Merge.{PathUnit, units_of_segment_at, units_from, unit_weight, joined_units, gathered_units, segments_of, weight_by, segment_weight}
use Rattle.bgp_paths.specs.Readers.{segment_unless_empty}
use Rattle.bgp_paths.proofs.Weights.{cut_fits, total, weight-units_of_segment_at}
use Rattle.bgp_paths.proofs.Fronts.{hops_before, front, front-append, front_cut}

-- ---- hops of later segments

-- the first of the hops, if there is one, is of a later segment
abbrev pub IsBehind : ℕ → List PathUnit → Type 0
IsBehind place [] = Unit {0}
IsBehind place (hop ∷ hops) = place < hop.place

behind-hops_before : (place w left : ℕ) (hop : PathUnit) (more : ℕ → List PathUnit) → place < hop.place → IsBehind place (hops_before w left hop more)
behind-hops_before place zero left hop more h = h
behind-hops_before place (suc w) zero hop more h = tt
behind-hops_before place (suc w) (suc left) hop more h = h

behind-front : (place left : ℕ) (hops : List PathUnit) → IsBehind place hops → IsBehind place (front hops left)
behind-front place left [] h = tt
behind-front place left (hop ∷ hops) h = behind-hops_before place (unit_weight hop) left hop (front hops) h

behind-joined_units : (place : ℕ) (hop : PathUnit) (hops : List PathUnit) → place < hop.place → IsBehind place (joined_units hop hops)
behind-joined_units place hop [] h = h
behind-joined_units place hop (next ∷ hops) h =
    let joined : PathUnit = record { place = hop.place; part = record { numbers = hop.part.numbers ++ next.part.numbers; kind = hop.part.kind } } in
    elim (hop.place == next.place) as (λ same. IsBehind place (cond same (joined ∷ hops) (hop ∷ next ∷ hops))) [ true ↦ h | false ↦ h ]

behind-gathered_units : (place : ℕ) (hops : List PathUnit) → IsBehind place hops → IsBehind place (gathered_units hops)
behind-gathered_units place [] h = tt
behind-gathered_units place (hop ∷ hops) h = behind-joined_units place hop (gathered_units hops) h

behind-units_of_segment_at : (kind : SegmentKind) (place next : ℕ) (ns : List ℕ) (more : List PathUnit) → place < next → IsBehind place more → IsBehind place (units_of_segment_at kind next ns ++ more)
behind-units_of_segment_at AsSequence place next [] more h a = a
behind-units_of_segment_at AsSequence place next (n ∷ ns) more h a = h
behind-units_of_segment_at kind place next ns more h a = h

behind-units_from : (place next : ℕ) (ss : List Segment) → place < next → IsBehind place (units_from next ss)
behind-units_from place next [] h = tt
behind-units_from place next (s ∷ ss) h = behind-units_of_segment_at s.kind place next s.numbers (units_from (suc next) ss) h (behind-units_from place (suc next) ss (omega arith))

-- ---- the hops of one segment, and others behind them

apart : (hop : PathUnit) (hops : List PathUnit) → IsBehind hop.place hops → joined_units hop hops ≡ hop ∷ hops
apart hop [] h = refl
apart hop (next ∷ hops) h = cond-false (hop.place == next.place) _ _ (ne_eqb hop.place next.place (λ e. omega (arith, e, h)))

abbrev hop_at : ℕ → SegmentKind → List ℕ → PathUnit
hop_at place kind ns = record { place = place; part = record { numbers = ns; kind = kind } }

gathered_units-numbers : (place n : ℕ) (ns : List ℕ) (others : List PathUnit) → IsBehind place (gathered_units others)
    → gathered_units (units_of_segment_at AsSequence place (n ∷ ns) ++ others) ≡ hop_at place AsSequence (n ∷ ns) ∷ gathered_units others
gathered_units-numbers place n [] others h = apart (hop_at place AsSequence (n ∷ [])) (gathered_units others) h
gathered_units-numbers place n (m ∷ ns) others h =
    ap (joined_units (hop_at place AsSequence (n ∷ []))) (gathered_units-numbers place m ns others h) ∙ cond-true (place == place) _ _ (eq-eqb place place refl)

-- the hops of a segment are put back into it
parted : (kind : SegmentKind) (place : ℕ) (ns : List ℕ) (others : List PathUnit) → IsBehind place (gathered_units others) → segments_of (units_of_segment_at kind place ns ++ others) ≡ segment_unless_empty kind ns ++ segments_of others
parted AsSequence place [] others h = refl
parted AsSequence place (n ∷ ns) others h = ap (map (λ hop. hop.part)) (gathered_units-numbers place n ns others h)
parted kind place ns others h = ap (map (λ hop. hop.part)) (apart (hop_at place kind ns) (gathered_units others) h)

total-segment_unless_empty : (kind : SegmentKind) (ns : List ℕ) → total (segment_unless_empty kind ns) ≡ weight_by kind (length ns)
total-segment_unless_empty AsSequence [] = refl
total-segment_unless_empty kind ns = grind arith

-- ---- a front of segments

-- the segments of what is kept of these, with so much left; the first has this place
abbrev pub kept_segments : ℕ → List Segment → ℕ → List Segment
kept_segments place ss left = segments_of (front (units_from place ss) left)

-- a segment for which enough is left is kept
pub kept_whole : (place left : ℕ) (s : Segment) (ss : List Segment) → segment_weight s ≤ left
    → kept_segments place (s ∷ ss) left ≡ segment_unless_empty s.kind s.numbers ++ kept_segments (suc place) ss (left - segment_weight s)
kept_whole place left s ss h =
    let first = units_of_segment_at s.kind place s.numbers in
    let others = units_from (suc place) ss in
    let more = front others (left - segment_weight s) in
    let weighs = weight-units_of_segment_at s.kind place s.numbers in
    ap segments_of (front-append first others left (omega arith) ∙ ap (λ n. first ++ front others (left - n)) weighs)
    ∙ parted s.kind place s.numbers more (behind-gathered_units place more (behind-front place (left - segment_weight s) others (behind-units_from place (suc place) ss (omega arith))))

-- of another so many numbers are kept, and nothing behind it
pub kept_cut : (place left : ℕ) (s : Segment) (ss : List Segment) → left < segment_weight s → kept_segments place (s ∷ ss) left ≡ segment_unless_empty AsSequence (take left s.numbers)
kept_cut place left s ss h =
    let numbers = units_of_segment_at AsSequence place (take left s.numbers) in
    ap segments_of (front_cut s.kind place s.numbers (units_from (suc place) ss) left h ∙ sym (append-nil numbers))
    ∙ parted AsSequence place (take left s.numbers) [] tt ∙ append-nil (segment_unless_empty AsSequence (take left s.numbers))

-- what is kept weighs what was left
pub total-kept_segments : (place left : ℕ) (ss : List Segment) → left ≤ total ss → total (kept_segments place ss left) ≡ left
total-kept_segments place left [] h = omega arith
total-kept_segments place left (s ∷ ss) h =
    let all = sum_by-cons segment_weight s ss in
    let rest = left - segment_weight s in
    let others = kept_segments (suc place) ss rest in
    ⊎_elim (λ short. ap total (kept_cut place left s ss short) ∙ total-segment_unless_empty AsSequence (take left s.numbers) ∙ length-take-le left s.numbers (cut_fits s.kind (length s.numbers) left short))
    (λ fits.
    let more = total-kept_segments (suc place) rest ss (omega (arith, all)) in
    ap total (kept_whole place left s ss fits) ∙ omega (arith, sum_by-append segment_weight (segment_unless_empty s.kind s.numbers) others, total-segment_unless_empty s.kind s.numbers, more))
    (cases_lt left (segment_weight s))
