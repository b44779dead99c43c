use Rattle.std.proofs.Common.{rules, arith, ◌≡◌, ◌-◌, ◌≤◌, ◌++◌, length, take, refl, ap, sym, ◌∙◌, subst}
use borrow.Rule.Slice.PartMut.{put_mid}
use Rattle.mrt_frames.proofs.Buffers.{Takes-filled}
use Rattle.mrt_frames.proofs.BufferedLaws.{part_buffered, filled_more}
use Rattle.mrt_frames.proofs.buffer.fill_within.Goals as goal

pub loop-filled-preserved : goal.loop-filled-preserved
loop-filled-preserved g c = record {
  within = search rules;
  octets = Takes-filled _ _ _ _ _ c.loop-filled.filled _ c.in_ok-count.count _ _ (omega arith) c.in_ok-count.ensures.bound c.loop-filled.invariant.octets c.in_ok-count.ensures.octets.0;
  failed = search rules;
  buffered = λ enough.
      let before = c.loop-filled.invariant.buffered (omega (arith, enough)) in
      let ready = part_buffered _ _ c.loop-filled.buffer c.take.new.buffer c.loop-filled.filled c.min-end.result (length c.loop-filled.buffer) before (omega arith) (omega arith) (omega arith) (omega (arith, enough)) (omega arith) in
      let read = c.in_ok-count.ensures.buffered ready.0 ready.1 in
      let all : c.in_ok-count.count ≡ length c.take.new.buffer = let e = read.0 in cc in
      filled_more _ _ _ c.loop-filled.buffer c.take.new.buffer c.loop-filled.filled _ c.in_ok-count.count (omega arith) all before read.1;
}

pub returns-in_err-count-clause-buffered : goal.returns-in_err-count-clause-buffered
returns-in_err-count-clause-buffered g c = λ enough.
    let before = c.loop-filled.invariant.buffered (omega (arith, enough)) in
    let ready = part_buffered _ _ c.loop-filled.buffer c.take.new.buffer c.loop-filled.filled c.min-end.result (length c.loop-filled.buffer) before (omega arith) (omega arith) (omega arith) (omega (arith, enough)) (omega arith) in
    let read = (c.in_err-count.ensures.buffered ready.0 ready.1).0 in
    absurd (cc read)

pub returns-then-count-eq0-clause-buffered : goal.returns-then-count-eq0-clause-buffered
returns-then-count-eq0-clause-buffered g c = λ enough.
    let before = c.loop-filled.invariant.buffered (omega (arith, enough)) in
    let ready = part_buffered _ _ c.loop-filled.buffer c.take.new.buffer c.loop-filled.filled c.min-end.result (length c.loop-filled.buffer) before (omega arith) (omega arith) (omega arith) (omega (arith, enough)) (omega arith) in
    let read = (c.in_ok-count.ensures.buffered ready.0 ready.1).0 in
    let all : c.in_ok-count.count ≡ length c.take.new.buffer = cc read in
    absurd (omega (arith, all, ready.0))

pub returns-clause-buffered : goal.returns-clause-buffered
returns-clause-buffered g c = λ enough.
    let all : c.loop-filled.filled ≡ length c.loop-filled.buffer = omega arith in
    (refl, (all, c.loop-filled.invariant.buffered enough ∙ ap (λ n. take n c.loop-filled.buffer ++ g.I.Input.buffered c.loop-filled.input) all))
