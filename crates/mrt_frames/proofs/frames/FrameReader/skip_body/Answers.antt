use Rattle.std.proofs.Common.{rules, ◌≡◌, refl, ◌++◌, ◌+◌, ◌-◌, ◌≤◌, length, take, arith, length-append, length-take-le}
use Rattle.std.proofs.lemmas.Result.{err_from_is_err_and}
use Rattle.mrt_frames.proofs.Buffers.{Takes-trans, Skipped-more}
use Rattle.mrt_frames.proofs.BufferedLaws.{length_read}
use Rattle.mrt_frames.proofs.frames.FrameReader.skip_body.Goals as goal

pub returns-in_err-count-clause-octets : goal.returns-in_err-count-clause-octets
returns-in_err-count-clause-octets g c =
    let p = err_from_is_err_and c.from_residual.result c.from_residual.ensures.1 in
    let part : length (take c.min-wanted.result c.loop-ahead.piece) ≡ c.min-wanted.result = length-take-le c.min-wanted.result c.loop-ahead.piece (search rules) in
    let done = c.loop-ahead.invariant.octets in
    let now = c.in_err-count.ensures.octets in
    rw (p.1, p.2) (done.0 ++ now.0, Takes-trans _ _ _ _ _ _ done.0 now.0 done.2 now.3, (omega (arith, part, done.1, now.1, length-append done.0 now.0), now.2))

pub returns-then-count-wanted-clause-octets : goal.returns-then-count-wanted-clause-octets
returns-then-count-wanted-clause-octets g c =
    let part : length (take c.min-wanted.result c.loop-ahead.piece) ≡ c.min-wanted.result = length-take-le c.min-wanted.result c.loop-ahead.piece (search rules) in
    let now = c.in_ok-count.ensures.octets in
    let all = Skipped-more _ _ _ _ _ _ _ c.in_ok-count.count (c.args.size - c.loop-ahead.ahead + c.in_ok-count.count) _ c.loop-ahead.invariant.octets now.0 now.2 refl in
    (all.0, all.2, (now.3 (omega (arith, part)), omega (arith, part, all.1)))

pub loop-ahead-preserved : goal.loop-ahead-preserved
loop-ahead-preserved g c = record {
  limit = search rules;
  octets =
      let part : length (take c.min-wanted.result c.loop-ahead.piece) ≡ c.min-wanted.result = length-take-le c.min-wanted.result c.loop-ahead.piece (search rules) in
      let now = c.in_ok-count.ensures.octets in
      Skipped-more _ _ _ _ _ _ _ _ _ _ c.loop-ahead.invariant.octets now.0 now.2 (omega (arith, part, now.0));
  within = omega arith;
  failed = search rules;
  buffered = λ enough.
      let part : length (take c.min-wanted.result c.loop-ahead.piece) ≡ c.min-wanted.result = length-take-le c.min-wanted.result c.loop-ahead.piece (search rules) in
      let before = c.loop-ahead.invariant.buffered enough in
      let read = (c.in_ok-count.ensures.buffered (omega (arith, part, before, enough))).1 in
      omega (arith, part, before, read.0, length_read _ _ c.fill_within.new.buffer (length c.fill_within.new.buffer) (omega arith) read.1);
}

pub returns-in_err-count-clause-buffered : goal.returns-in_err-count-clause-buffered
returns-in_err-count-clause-buffered g c = λ enough.
    let p = err_from_is_err_and c.from_residual.result c.from_residual.ensures.1 in
    let part : length (take c.min-wanted.result c.loop-ahead.piece) ≡ c.min-wanted.result = length-take-le c.min-wanted.result c.loop-ahead.piece (search rules) in
    let before = c.loop-ahead.invariant.buffered enough in
    rw (p.1, p.2) (c.in_err-count.ensures.buffered (omega (arith, part, before, enough))).0
