use Rattle.std.proofs.Common.{rules, ◌∙◌, ◌≤◌, length, take, drop, arith, length-take-le, length-drop, ◌-◌, ◌≡◌}
use Rattle.std.proofs.lemmas.Result.{err_from_is_err_and}
use Rattle.mrt_frames.proofs.Buffers.{Takes-parts, FillsWithinLimit-stopped_place, take-resized}
use Rattle.mrt_frames.proofs.BufferedLaws.{length_read}
use Rattle.mrt_frames.proofs.buffer.fill_body.Goals as goal

pub returns-in_err-filled-clause-octets : goal.returns-in_err-filled-clause-octets
returns-in_err-filled-clause-octets g c =
    let p = err_from_is_err_and c.from_residual-in_err-filled.result c.from_residual-in_err-filled.ensures.1 in
    let at = c.loop-filled.filled in
    let held : at ≤ length c.loop-filled.buffer.items = omega (arith, c.loop-filled.buffer.ok.0) in
    rw (p.1, p.2) (FillsWithinLimit-stopped_place _ _ _ _ _ _ (take at c.loop-filled.buffer.items) (drop at c.fill_part.new.buffer.items) c.fill_part.new.buffer.items at c.next_fill_end-end.result c.args.size c.args.limit _ (length-take-le at c.loop-filled.buffer.items held)
    (omega arith) (omega arith) c.loop-filled.invariant.octets c.in_err-filled.ensures.octets)

pub loop-filled-preserved : goal.loop-filled-preserved
loop-filled-preserved g c =
    let at = c.loop-filled.filled in
    let kept = c.fill_part.ensures.kept ∙ take-resized at c.next_fill_end-end.result c.loop-filled.buffer.items _ _ (omega arith) (omega (arith, c.loop-filled.buffer.ok.0)) c.in_ok-resize.ensures.items in
    let now = c.in_ok-filled.ensures.octets in
    record {
      within = omega (arith, now.0);
      in_room = now.1;
      held = omega (arith, now.0, c.in_ok-resize.ensures.len, c.fill_part.ensures.size);
      growth = omega (arith, now.0, c.in_ok-resize.ensures.len, c.fill_part.ensures.size);
      octets = Takes-parts _ _ _ _ _ _ at _ _ _ kept c.loop-filled.invariant.octets now.2;
      failed = search rules;
      buffered = λ enough.
          let before = c.loop-filled.invariant.buffered enough in
          let read = (c.in_ok-filled.ensures.buffered (omega (arith, before, enough))).1 in
          let part : c.next_fill_end-end.result - at ≤ length (drop at c.fill_part.new.buffer.items) = omega (arith, length-drop at c.fill_part.new.buffer.items, c.in_ok-resize.ensures.len, c.fill_part.ensures.size, c.fill_part.new.buffer.ok.0) in
          omega (arith, before, read.0, length_read _ _ _ _ part read.1);
    }

pub returns-in_err-filled-clause-buffered : goal.returns-in_err-filled-clause-buffered
returns-in_err-filled-clause-buffered g c = λ enough.
    let p = err_from_is_err_and c.from_residual-in_err-filled.result c.from_residual-in_err-filled.ensures.1 in
    let before = c.loop-filled.invariant.buffered enough in
    rw (p.1, p.2) (c.in_err-filled.ensures.buffered (omega (arith, before, enough))).0

pub returns-then-filled-end-clause-octets : goal.returns-then-filled-end-clause-octets
returns-then-filled-end-clause-octets g c =
    let at = c.loop-filled.filled in
    let kept = c.fill_part.ensures.kept ∙ take-resized at c.next_fill_end-end.result c.loop-filled.buffer.items _ _ (omega arith) (omega (arith, c.loop-filled.buffer.ok.0)) c.in_ok-resize.ensures.items in
    let now = c.in_ok-filled.ensures.octets in
    (omega (arith, now.0), now.1, Takes-parts _ _ _ _ _ _ at _ _ _ kept c.loop-filled.invariant.octets now.2, λ _. now.3 (omega (arith, now.0)))
