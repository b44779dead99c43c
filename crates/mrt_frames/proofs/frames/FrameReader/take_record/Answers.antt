use Rattle.std.proofs.Common.{◌≡◌, ◌++◌, true, false, arith, rules}
use Rattle.std.proofs.lemmas.Result.{err_from_is_err_and}
use Rattle.mrt_frames.proofs.Buffers.{Takes-trans}
use Rattle.mrt_frames.proofs.RestLaws.{IsUnfinished-cut, cut_record, passed_record}
use Rattle.mrt_frames.proofs.frames.FrameReader.take_record.Goals as goal

pub returns-in_err-take_body-clause-octets :
    goal.returns-in_err-take_body-clause-octets
returns-in_err-take_body-clause-octets g c =
    let p = err_from_is_err_and c.from_residual-in_err-take_body.result c.from_residual-in_err-take_body.ensures.1 in
    let h = rw c.in-Header.is at c.in_ok-header.ensures.octets in
    let b = c.in_err-take_body.ensures.octets in
    rw (p.1, p.2) (h.0 ++ b.0, Takes-trans _ _ _ _ _ _ h.0 b.0 h.1 b.1, (IsUnfinished-cut c.in-Header.header h.0 b.0 h.2.0 h.2.1 (omega arith) b.2.0, b.2.1))

pub returns-clause-octets : goal.returns-clause-octets
returns-clause-octets g c =
    let h = rw c.in-Header.is at c.in_ok-header.ensures.octets in
    let cut : c.in_ok-take_body.field-0 ≡ false = search rules in
    let b = rw cut at c.in_ok-take_body.ensures.octets in
    (h.0 ++ b.0, Takes-trans _ _ _ _ _ _ h.0 b.0 h.1 b.1, cut_record _ c.in-Header.header h.0 b.0 h.2.0 h.2.1 (omega arith) b.2.1 b.2.0)

pub returns-in_err-skip_body-clause-octets :
    goal.returns-in_err-skip_body-clause-octets
returns-in_err-skip_body-clause-octets g c =
    let p = err_from_is_err_and c.from_residual-in_err-skip_body.result c.from_residual-in_err-skip_body.ensures.1 in
    let h = rw c.in-Header.is at c.in_ok-header.ensures.octets in
    let b = c.in_err-skip_body.ensures.octets in
    rw (p.1, p.2) (h.0 ++ b.0, Takes-trans _ _ _ _ _ _ h.0 b.0 h.1 b.1, (IsUnfinished-cut c.in-Header.header h.0 b.0 h.2.0 h.2.1 (omega arith) b.2.0, b.2.1))

pub returns-then-branch-clause-octets : goal.returns-then-branch-clause-octets
returns-then-branch-clause-octets g c =
    let h = rw c.in-Header.is at c.in_ok-header.ensures.octets in
    let whole : c.in_ok-skip_body.field-0 ≡ true = search rules in
    let b = rw whole at c.in_ok-skip_body.ensures.octets in
    let whole_record = passed_record c.in-Header.header h.0 b.0 h.2.0 h.2.1 (omega arith) b.2.1 in
    (h.0 ++ b.0, Takes-trans _ _ _ _ _ _ h.0 b.0 h.1 b.1, (search rules, (b.0, whole_record.0, whole_record.1)))

pub returns-in_default-clause-octets : goal.returns-in_default-clause-octets
returns-in_default-clause-octets g c =
    let h = rw c.in-Header.is at c.in_ok-header.ensures.octets in
    let cut : c.in_ok-skip_body.field-0 ≡ false = search rules in
    let b = rw cut at c.in_ok-skip_body.ensures.octets in
    (h.0 ++ b.0, Takes-trans _ _ _ _ _ _ h.0 b.0 h.1 b.1, cut_record _ c.in-Header.header h.0 b.0 h.2.0 h.2.1 (omega arith) b.2.1 b.2.0)
