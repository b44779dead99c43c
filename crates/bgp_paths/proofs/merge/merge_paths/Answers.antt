use Rattle.std.proofs.Common.{◌≡◌, ◌-◌, ◌<◌, ◌≤◌, ◌++◌, ap, ap₂, sym, subst, ◌∙◌, arith}
use Rattle.std.proofs.lemmas.List.{take_all}
use Rattle.std.proofs.lemmas.Result.{MatchResult-weaker}
use Rattle.bgp_paths.specs.Merge.{IsMerge, IsLongest, units_from, path_weight, segments_of, segments_without_confederations}
use Rattle.bgp_paths.proofs.Merging.{first_alone, front_joined}
use Rattle.bgp_paths.proofs.merge.merge_paths.Goals as goal

pub returns-then-total-replaced : goal.returns-then-total-replaced
returns-then-total-replaced c =
    let first = c.args.first.now in
    let second = c.args.second.now in
    let shorter : path_weight first < path_weight second = omega arith in
    let alone = first_alone first second shorter in
    MatchResult-weaker c.clone.result c.clone.ensures.cases (λ copy same. subst (IsMerge first second) (λ i. record { segments = sym same i }) alone) (λ error none. tt)

pub returns : goal.returns
returns c =
    let first = c.args.first.now in
    let second = c.args.second.now in
    let longer : path_weight second ≤ path_weight first = omega arith in
    let pushed = c.in_ok-push_leading_segments.ensures in
    let hops = pushed.0 in
    let lacking : c.count_ases-total.result - c.count_ases-replaced.result ≡ path_weight first - path_weight second = ap₂ (λ m n. m - n) c.count_ases-total.ensures c.count_ases-replaced.ensures in
    let longest = subst (λ segments. IsLongest (path_weight first - path_weight second) (units_from 0 segments) hops) c.as_slice-front.ensures
    (subst (λ n. IsLongest n (units_from 0 c.as_slice-front.result.now) hops) lacking pushed.1) in
    let made : c.from_vec.result ≡ segments_of hops ++ segments_without_confederations second.segments =
    c.from_vec.ensures ∙ c.shrink_if_much_spare.ensures ∙ c.loop-segment.invariant
    ∙ ap (λ l. c.push_leading_segments.new.path.items ++ segments_without_confederations l) (take_all c.loop-segment.segment-index c.as_slice-back.result.now (omega (arith, c.loop-segment-test.false)))
    ∙ ap (λ l. l ++ segments_without_confederations c.as_slice-back.result.now) (pushed.2 ∙ ap (λ l. l ++ segments_of hops) c.in_ok-segments.ensures.items)
    ∙ ap (λ segments. segments_of hops ++ segments_without_confederations segments) c.as_slice-back.ensures in
    subst (λ segments. IsMerge first second (record { segments = segments })) (sym made) (front_joined first second hops longer longest)
