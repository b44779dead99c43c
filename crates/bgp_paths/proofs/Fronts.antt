-- The longest front of hops that has a weight.
use Rattle.std.proofs.Common.{◌≡◌, ℕ, zero, suc, ◌+◌, ◌-◌, ◌<◌, ◌≤◌, List, [], ◌∷◌, ◌++◌, length, take, refl, ap, sym, subst, ◌∙◌, arith}
use Rattle.std.proofs.lemmas.List.Sums.{sum_by-cons}
use Rattle.octet_forms.proofs.Lists.{append_parts}
use Rattle.bgp_paths.specs.declared.segment.SegmentKind.{SegmentKind}
use Rattle.bgp_paths.specs.declared.segment.SegmentKind.TheVariants.{AsSet, AsSequence}
use Rattle.bgp_paths.specs.Merge.{PathUnit, units_of_segment_at, unit_weight, units_weight, weight_by, IsLongest}
use Rattle.bgp_paths.proofs.Weights.{light}

-- a hop that weighs so much, before what is kept of others with what it leaves; nothing where too little is left for it
abbrev pub hops_before : ℕ → ℕ → PathUnit → (ℕ → List PathUnit) → List PathUnit
hops_before zero left hop more = hop ∷ more left
hops_before (suc w) zero hop more = []
hops_before (suc w) (suc left) hop more = hop ∷ more left

-- the hops that are kept, one by one, as long as enough is left
abbrev pub front : List PathUnit → ℕ → List PathUnit
front [] left = []
front (hop ∷ hops) left = hops_before (unit_weight hop) left hop (front hops)

-- ---- it is the longest

-- a hop before the longest front
with_first : (n : ℕ) (hop : PathUnit) (hops kept : List PathUnit) → IsLongest n hops kept → IsLongest (unit_weight hop + n) (hop ∷ hops) (hop ∷ kept)
with_first n hop hops kept b = record {
  rest = b.rest;
  whole = ap (λ l. hop ∷ l) b.whole;
  weighs = sum_by-cons unit_weight hop kept ∙ ap (λ m. unit_weight hop + m) b.weighs;
  longest = longest;
}
  where
    longest : (other left : List PathUnit) → hop ∷ hops ≡ other ++ left → units_weight other ≡ unit_weight hop + n → length other ≤ suc (length kept)
    longest [] left e w = omega arith
    longest (o ∷ os) left e w =
        let first : o ≡ hop = cc in
        let more : hops ≡ os ++ left = cc in
        let same = ap unit_weight first in
        let weighs : units_weight os ≡ n = omega (arith, sum_by-cons unit_weight o os, w, same) in
        omega (arith, b.longest os left more weighs)

-- where nothing is left, and the first hop weighs something, none are kept
none_kept : (w : ℕ) (hop : PathUnit) (hops : List PathUnit) → unit_weight hop ≡ suc w → IsLongest 0 (hop ∷ hops) []
none_kept w hop hops e = record { rest = hop ∷ hops; whole = refl; weighs = refl; longest = longest }
  where
    longest : (other left : List PathUnit) → hop ∷ hops ≡ other ++ left → units_weight other ≡ 0 → length other ≤ 0
    longest [] left same none = omega arith
    longest (o ∷ os) left same none =
        let first : o ≡ hop = cc in
        absurd (omega (arith, sum_by-cons unit_weight o os, none, ap unit_weight first, e))

no_hops : (left : ℕ) → left ≤ 0 → IsLongest left [] []
no_hops left h = record { rest = []; whole = refl; weighs = omega arith; longest = longest }
  where
    longest : (other rest : List PathUnit) → [] ≡ other ++ rest → units_weight other ≡ left → length other ≤ 0
    longest [] rest e w = omega arith
    longest (o ∷ os) rest e w = cc

longest_before : (w left : ℕ) (hop : PathUnit) (hops : List PathUnit) → unit_weight hop ≡ w → ((n : ℕ) → n ≤ units_weight hops → IsLongest n hops (front hops n)) → left ≤ units_weight (hop ∷ hops)
    → IsLongest left (hop ∷ hops) (hops_before w left hop (front hops))
longest_before zero left hop hops e more h =
    let fits : left ≤ units_weight hops = omega (arith, sum_by-cons unit_weight hop hops, e, h) in
    let sum : unit_weight hop + left ≡ left = omega (arith, e) in
    subst (λ n. IsLongest n (hop ∷ hops) (hop ∷ front hops left)) sum (with_first left hop hops (front hops left) (more left fits))
longest_before (suc w) zero hop hops e more h = none_kept w hop hops e
longest_before (suc w) (suc left) hop hops e more h =
    let one : unit_weight hop ≡ 1 = omega (arith, light hop, e) in
    let fits : left ≤ units_weight hops = omega (arith, sum_by-cons unit_weight hop hops, one, h) in
    let sum : unit_weight hop + left ≡ suc left = omega (arith, one) in
    subst (λ n. IsLongest n (hop ∷ hops) (hop ∷ front hops left)) sum (with_first left hop hops (front hops left) (more left fits))

-- the hops kept one by one are the longest front
pub front_longest : (hops : List PathUnit) (left : ℕ) → left ≤ units_weight hops → IsLongest left hops (front hops left)
front_longest [] left h = no_hops left h
front_longest (hop ∷ hops) left h = longest_before (unit_weight hop) left hop hops refl (front_longest hops) h

-- there is one longest front
pub one_front : (n : ℕ) (hops kept other : List PathUnit) → IsLongest n hops kept → IsLongest n hops other → kept ≡ other
one_front n hops kept other a b =
    let up : length kept ≤ length other = b.longest kept a.rest a.whole a.weighs in
    let down : length other ≤ length kept = a.longest other b.rest b.whole b.weighs in
    let parts = append_parts kept other a.rest b.rest (omega arith) (sym a.whole ∙ b.whole) in
    parts.0

-- ---- along a list

kept_on : (w left : ℕ) (hop : PathUnit) (more : ℕ → List PathUnit) → w ≤ 1 → w ≤ left → hops_before w left hop more ≡ hop ∷ more (left - w)
kept_on zero left hop more one h = let e : left ≡ left - 0 = omega arith in ap (λ n. hop ∷ more n) e
kept_on (suc w) zero hop more one h = absurd (omega arith)
kept_on (suc w) (suc left) hop more one h = let e : left ≡ suc left - suc w = omega arith in ap (λ n. hop ∷ more n) e

-- hops that there is enough left for are kept, and then as many others as the rest allows
pub front-append : (hops others : List PathUnit) (left : ℕ) → units_weight hops ≤ left → front (hops ++ others) left ≡ hops ++ front others (left - units_weight hops)
front-append [] others left h = let e : left ≡ left - 0 = omega arith in ap (front others) e
front-append (hop ∷ hops) others left h =
    let both = sum_by-cons unit_weight hop hops in
    let first : unit_weight hop ≤ left = omega arith in
    let fits : units_weight hops ≤ left - unit_weight hop = omega arith in
    let same : left - unit_weight hop - units_weight hops ≡ left - units_weight (hop ∷ hops) = omega arith in
    kept_on (unit_weight hop) left hop (front (hops ++ others)) (light hop) first
    ∙ ap (λ l. hop ∷ l) (front-append hops others (left - unit_weight hop) fits)
    ∙ ap (λ n. hop ∷ (hops ++ front others n)) same

-- of a sequence that weighs more than is left, as many numbers as are left
numbers_cut : (place : ℕ) (ns : List ℕ) (others : List PathUnit) (left : ℕ) → left < length ns → front (units_of_segment_at AsSequence place ns ++ others) left ≡ units_of_segment_at AsSequence place (take left ns)
numbers_cut place [] others left h = absurd (omega arith)
numbers_cut place (n ∷ ns) others zero h = refl
numbers_cut place (n ∷ ns) others (suc left) h =
    let first : PathUnit = record { place = place; part = record { numbers = n ∷ []; kind = AsSequence } } in
    ap (λ l. first ∷ l) (numbers_cut place ns others left (omega arith))

set_cut : (place : ℕ) (ns : List ℕ) (others : List PathUnit) (left : ℕ) → left < 1 → front (units_of_segment_at AsSet place ns ++ others) left ≡ units_of_segment_at AsSequence place (take left ns)
set_cut place ns others left h = grind arith

-- of a segment that weighs more than is left, as much as is left
pub front_cut : (kind : SegmentKind) (place : ℕ) (ns : List ℕ) (others : List PathUnit) (left : ℕ) → left < weight_by kind (length ns) → front (units_of_segment_at kind place ns ++ others) left ≡ units_of_segment_at AsSequence place (take left ns)
front_cut kind place ns others left h = grind (arith, set_cut place ns others left, numbers_cut place ns others left)
