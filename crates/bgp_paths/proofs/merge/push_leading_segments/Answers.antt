use Rattle.std.proofs.Common.{◌+◌, ◌-◌, ◌++◌, length, take, drop, ap, sym, ◌∙◌, arith, length-take-le}
use Rattle.std.proofs.lemmas.Result.{on_ok_weaker}
use Rattle.bgp_paths.specs.Merge.{units_from, segment_weight}
use Rattle.bgp_paths.specs.Readers.{segment_unless_empty}
use Rattle.bgp_paths.specs.declared.segment.SegmentKind.TheVariants.{AsSequence}
use Rattle.bgp_paths.proofs.Weights.{cut_fits}
use Rattle.bgp_paths.proofs.Fronts.{front}
use Rattle.bgp_paths.proofs.Gathering.{kept_segments}
use Rattle.bgp_paths.proofs.Merging.{pushed_whole, pushed_cut, pushed_all, longest_kept}
use Rattle.bgp_paths.proofs.merge.push_leading_segments.Goals as goal

pub slice_bounds-push_segment-end : goal.slice_bounds-push_segment-end
slice_bounds-push_segment-end c =
    let s = c.segment-item.result in
    let left = c.loop-segment.left in
    let fits = cut_fits s.kind (length s.numbers) left (omega arith) in
    sym (ap (λ numbers. length (take left numbers)) c.as_slice-numbers.ensures ∙ length-take-le left s.numbers fits)

pub returns-then-left-needed : goal.returns-then-left-needed
returns-then-left-needed c =
    let segments = c.args.segments.now in
    let s = c.segment-item.result in
    let left = c.loop-segment.left in
    let pushed = c.loop-segment.path.items in
    on_ok_weaker c.push_segment.result
    (λ e. (
      front (units_from 0 segments) c.args.weight,
      longest_kept segments c.args.weight c.requires,
      e ∙ ap (λ numbers. pushed ++ segment_unless_empty AsSequence (take left numbers)) c.as_slice-numbers.ensures
          ∙ pushed_cut segments c.loop-segment.segment-index left s pushed c.loop-segment-test.true c.segment-item.is (omega arith)
          ∙ c.loop-segment.invariant,
    ))
    c.push_segment.ensures

pub loop-segment-preserved : goal.loop-segment-preserved
loop-segment-preserved c =
    let s = c.segment-item.result in
    let i = c.loop-segment.segment-index in
    let left = c.loop-segment.left in
    let segments = c.args.segments.now in
    let pushed = c.loop-segment.path.items in
    (λ j. c.in_ok-push_segment.ensures j ++ kept_segments (i + 1) (drop (i + 1) segments) (left - c.count_ases_of_segment-needed.ensures j))
    ∙ ap (λ numbers. (pushed ++ segment_unless_empty s.kind numbers) ++ kept_segments (i + 1) (drop (i + 1) segments) (left - segment_weight s)) c.as_slice-numbers.ensures
    ∙ pushed_whole segments i left s pushed c.loop-segment-test.true c.segment-item.is (omega arith)
    ∙ c.loop-segment.invariant

pub returns : goal.returns
returns c =
    let segments = c.args.segments.now in (
      front (units_from 0 segments) c.args.weight,
      longest_kept segments c.args.weight c.requires,
      pushed_all segments c.loop-segment.segment-index c.loop-segment.left c.loop-segment.path.items c.loop-segment-test.false ∙ c.loop-segment.invariant,
    )
