-- Joined paths, and how one is made.
use Rattle.std.proofs.Common.{◌≡◌, ℕ, ◌+◌, ◌-◌, ◌<◌, ◌≤◌, List, ◌∷◌, ◌++◌, length, get_or, take, drop, refl, ap, sym, subst, ◌∙◌, arith, add-one, append-nil, append_assoc, ⊎_elim}
use Rattle.std.proofs.lemmas.Bool.{cases_lt}
use Rattle.std.proofs.lemmas.List.{drop_more, drop_all}
use Rattle.std.proofs.lemmas.List.Sums.{sum_by-append}
use Rattle.bgp_paths.specs.declared.segment.SegmentKind.TheVariants.{AsSequence}
use Rattle.bgp_paths.specs.declared.segment.Segment.{Segment}
use Rattle.bgp_paths.specs.declared.path.AsPath.{AsPath}
use Rattle.bgp_paths.specs.Merge.{PathUnit, units_from, segment_weight, path_weight, path_without_confederations, segments_without_confederations, segments_of, IsLongest, IsMerge}
use Rattle.bgp_paths.specs.Readers.{segment_unless_empty}
use Rattle.bgp_paths.proofs.Weights.{total, weight-units_from, total-plain}
use Rattle.bgp_paths.proofs.Fronts.{front, front_longest, one_front}
use Rattle.bgp_paths.proofs.Gathering.{kept_segments, kept_whole, kept_cut, total-kept_segments}

-- ---- a walk over the segments

at_segment : (segments : List Segment) (i : ℕ) (s : Segment) → i < length segments → s ≡ get_or segments i s → drop i segments ≡ s ∷ drop (i + 1) segments
at_segment segments i s h e = drop_more segments i s h ∙ ap (λ first. first ∷ drop (i + 1) segments) (sym e)

-- with a whole segment pushed, what is pushed and what is still kept are as before
pub pushed_whole : (segments : List Segment) (i left : ℕ) (s : Segment) (pushed : List Segment) → i < length segments → s ≡ get_or segments i s → segment_weight s ≤ left
    → (pushed ++ segment_unless_empty s.kind s.numbers) ++ kept_segments (i + 1) (drop (i + 1) segments) (left - segment_weight s) ≡ pushed ++ kept_segments i (drop i segments) left
pushed_whole segments i left s pushed h e fits =
    let more = drop (i + 1) segments in
    let rest = left - segment_weight s in
    append_assoc pushed (segment_unless_empty s.kind s.numbers) (kept_segments (i + 1) more rest)
    ∙ ap (λ n. pushed ++ (segment_unless_empty s.kind s.numbers ++ kept_segments n more rest)) (add-one i)
    ∙ ap (λ l. pushed ++ l) (sym (ap (λ l. kept_segments i l left) (at_segment segments i s h e) ∙ kept_whole i left s more fits))

-- where too little is left for a segment, its front is the last that is kept
pub pushed_cut : (segments : List Segment) (i left : ℕ) (s : Segment) (pushed : List Segment) → i < length segments → s ≡ get_or segments i s → left < segment_weight s
    → pushed ++ segment_unless_empty AsSequence (take left s.numbers) ≡ pushed ++ kept_segments i (drop i segments) left
pushed_cut segments i left s pushed h e short =
    ap (λ l. pushed ++ l) (sym (ap (λ l. kept_segments i l left) (at_segment segments i s h e) ∙ kept_cut i left s (drop (i + 1) segments) short))

-- at the end nothing more is kept
pub pushed_all : (segments : List Segment) (i left : ℕ) (pushed : List Segment) → length segments ≤ i → pushed ≡ pushed ++ kept_segments i (drop i segments) left
pushed_all segments i left pushed h = sym (ap (λ l. pushed ++ kept_segments i l left) (drop_all i segments h) ∙ append-nil pushed)

-- what is kept has the longest front's hops
pub longest_kept : (ss : List Segment) (left : ℕ) → left ≤ total ss → IsLongest left (units_from 0 ss) (front (units_from 0 ss) left)
longest_kept ss left h = front_longest (units_from 0 ss) left (omega (arith, h, weight-units_from 0 ss))

-- ---- the two paths

-- the first alone, where it is the shorter
pub first_alone : (first second : AsPath) → path_weight first < path_weight second → IsMerge first second first
first_alone first second h = record { shorter = λ less. refl; joined = λ more. absurd (omega (arith, total-plain second.segments)) }

-- the first's front and the second
pub front_joined : (first second : AsPath) (front : List PathUnit) → path_weight second ≤ path_weight first → IsLongest (path_weight first - path_weight second) (units_from 0 first.segments) front
    → IsMerge first second (record { segments = segments_of front ++ segments_without_confederations second.segments })
front_joined first second front h longest = record {
  shorter = λ less. absurd (omega (arith, total-plain second.segments));
  joined = λ more. (front, subst (λ n. IsLongest (path_weight first - n) (units_from 0 first.segments) front) (sym (total-plain second.segments)) longest, refl);
}

-- ---- laws

-- two paths have a joined path
pub some_merged : (first second : AsPath) → (path : AsPath) × IsMerge first second path
some_merged first second =
    let lacking = path_weight first - path_weight second in
    ⊎_elim (λ less. (first, first_alone first second less))
    (λ more. (
      record { segments = segments_of (front (units_from 0 first.segments) lacking) ++ segments_without_confederations second.segments },
      front_joined first second (front (units_from 0 first.segments) lacking) more (longest_kept first.segments lacking (omega arith)),
    ))
    (cases_lt (path_weight first) (path_weight second))

-- two paths have one joined path
pub one_merged : (first second path other : AsPath) → IsMerge first second path → IsMerge first second other → path ≡ other
one_merged first second path other a b =
    ⊎_elim (λ less. a.shorter less ∙ sym (b.shorter less))
    (λ more.
    let p = a.joined more in
    let q = b.joined more in
    let lacking = path_weight first - path_weight (path_without_confederations second) in
    p.2 ∙ ap (λ hops. record { segments = segments_of hops ++ segments_without_confederations second.segments }) (one_front lacking (units_from 0 first.segments) p.0 q.0 p.1 q.1) ∙ sym q.2)
    (cases_lt (path_weight first) (path_weight (path_without_confederations second)))

joined_weight : (first second : AsPath) (hops : List PathUnit) → path_weight (path_without_confederations second) ≤ path_weight first → IsLongest (path_weight first - path_weight (path_without_confederations second)) (units_from 0 first.segments) hops
    → path_weight (record { segments = segments_of hops ++ segments_without_confederations second.segments }) ≡ path_weight first
joined_weight first second hops h longest =
    let lacking = path_weight first - path_weight (path_without_confederations second) in
    let fits : lacking ≤ total first.segments = omega arith in
    let walked = front (units_from 0 first.segments) lacking in
    let same = one_front lacking (units_from 0 first.segments) hops walked longest (longest_kept first.segments lacking fits) in
    let kept_weight : total (segments_of hops) ≡ lacking = ap (λ l. total (segments_of l)) same ∙ total-kept_segments 0 lacking first.segments fits in
    sum_by-append segment_weight (segments_of hops) (segments_without_confederations second.segments) ∙ omega (arith, kept_weight, h)

-- a joined path weighs what the first does
pub same_weight : (first second path : AsPath) → IsMerge first second path → path_weight path ≡ path_weight first
same_weight first second path merged =
    ⊎_elim (λ less. ap path_weight (merged.shorter less))
    (λ more. let p = merged.joined more in ap path_weight p.2 ∙ joined_weight first second p.0 more p.1)
    (cases_lt (path_weight first) (path_weight (path_without_confederations second)))
