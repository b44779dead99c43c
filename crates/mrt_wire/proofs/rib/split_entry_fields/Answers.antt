use Rattle.octet_forms.proofs.Fields.{both_front, none_first, none_second}
use Rattle.mrt_wire.proofs.FieldFronts.{short_front, word_front}
use Rattle.mrt_wire.proofs.rib.split_entry_fields.Goals as goal

pub returns-in_err-index-clause-none : goal.returns-in_err-index-clause-none
returns-in_err-index-clause-none c = rw c.from_residual.ensures (none_first _ _ c.args.octets.now c.in_err-index.ensures)

pub returns-in_err-time-clause-none : goal.returns-in_err-time-clause-none
returns-in_err-time-clause-none c =
    let index = c.in_ok-index.index in
    rw c.from_residual-in_err-time.ensures
    (none_second _ _ (short_front) index.value index.rest.now c.args.octets.now c.in_ok-index.ensures (none_first _ _ index.rest.now c.in_err-time.ensures))

pub returns-in_err-attributes-clause-none : goal.returns-in_err-attributes-clause-none
returns-in_err-attributes-clause-none c =
    let index = c.in_ok-index.index in
    let time = c.in_ok-time.time in
    rw c.from_residual-in_err-attributes.ensures
    (none_second _ _ (short_front) index.value index.rest.now c.args.octets.now c.in_ok-index.ensures
    (none_second _ _ (word_front) time.value time.rest.now index.rest.now c.in_ok-time.ensures c.in_err-attributes.ensures.none))

pub returns-clause-some : goal.returns-clause-some
returns-clause-some c =
    let index = c.in_ok-index.index in
    let time = c.in_ok-time.time in
    let rest = c.in_ok-attributes.rest.now in
    both_front _ _ index.value (time.value, c.in_ok-attributes.attributes.now) index.rest.now rest c.args.octets.now c.in_ok-index.ensures
    (both_front _ _ time.value c.in_ok-attributes.attributes.now time.rest.now rest index.rest.now c.in_ok-time.ensures c.in_ok-attributes.ensures.some)
