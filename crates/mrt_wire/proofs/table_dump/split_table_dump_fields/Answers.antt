use Rattle.octet_forms.proofs.Fields.{both_front, none_first, none_second}
use Rattle.bgp_wire.specs.declared.AsWidth.TheVariants.{Two}
use Rattle.mrt_wire.specs.declared.table_dump.TheConstants.{NUMBERS_SIZE, STATUS_SIZE}
use Rattle.mrt_wire.proofs.FieldFronts.{octets_front, peer_of_front, word_front}
use Rattle.mrt_wire.proofs.TableDumpLaws.{prefix_front}
use Rattle.mrt_wire.proofs.table_dump.split_table_dump_fields.Goals as goal

pub returns-in_err-after_numbers-clause-none : goal.returns-in_err-after_numbers-clause-none
returns-in_err-after_numbers-clause-none c = rw c.from_residual.ensures (none_first _ _ c.args.octets.now c.in_err-after_numbers.ensures.none)

pub returns-in_default-clause-none : goal.returns-in_default-clause-none
returns-in_default-clause-none c =
    let numbers = c.in_ok-after_numbers.ensures.some in
    let a = c.in_ok-after_numbers.after_numbers.now in
    none_second _ _ (octets_front NUMBERS_SIZE) numbers.0 a c.args.octets.now numbers.1 (none_first _ _ a c.in_default.ensures)

pub returns-in_err-after_status-clause-none : goal.returns-in_err-after_status-clause-none
returns-in_err-after_status-clause-none c =
    let numbers = c.in_ok-after_numbers.ensures.some in
    let a = c.in_ok-after_numbers.after_numbers.now in
    let prefix = c.in-Some.prefix in
    rw c.from_residual-in_err-after_status.ensures
    (none_second _ _ (octets_front NUMBERS_SIZE) numbers.0 a c.args.octets.now numbers.1
    (none_second _ _ (prefix_front c.args.family) prefix.value prefix.rest.now a c.in-Some.ensures (none_first _ _ prefix.rest.now c.in_err-after_status.ensures.none)))

pub returns-in_err-time-clause-none : goal.returns-in_err-time-clause-none
returns-in_err-time-clause-none c =
    let numbers = c.in_ok-after_numbers.ensures.some in
    let a = c.in_ok-after_numbers.after_numbers.now in
    let prefix = c.in-Some.prefix in
    let status = c.in_ok-after_status.ensures.some in
    let b = c.in_ok-after_status.after_status.now in
    rw c.from_residual-in_err-time.ensures
    (none_second _ _ (octets_front NUMBERS_SIZE) numbers.0 a c.args.octets.now numbers.1
    (none_second _ _ (prefix_front c.args.family) prefix.value prefix.rest.now a c.in-Some.ensures
    (none_second _ _ (octets_front STATUS_SIZE) status.0 b prefix.rest.now status.1 (none_first _ _ b c.in_err-time.ensures))))

pub returns-in_default-split_address_and_asn-clause-none : goal.returns-in_default-split_address_and_asn-clause-none
returns-in_default-split_address_and_asn-clause-none c =
    let numbers = c.in_ok-after_numbers.ensures.some in
    let a = c.in_ok-after_numbers.after_numbers.now in
    let prefix = c.in-Some.prefix in
    let status = c.in_ok-after_status.ensures.some in
    let b = c.in_ok-after_status.after_status.now in
    let time = c.in_ok-time.time in
    none_second _ _ (octets_front NUMBERS_SIZE) numbers.0 a c.args.octets.now numbers.1
    (none_second _ _ (prefix_front c.args.family) prefix.value prefix.rest.now a c.in-Some.ensures
    (none_second _ _ (octets_front STATUS_SIZE) status.0 b prefix.rest.now status.1
    (none_second _ _ word_front time.value time.rest.now b c.in_ok-time.ensures (none_first _ _ time.rest.now c.in_default-split_address_and_asn.ensures))))

pub returns-in_err-attributes-clause-none : goal.returns-in_err-attributes-clause-none
returns-in_err-attributes-clause-none c =
    let numbers = c.in_ok-after_numbers.ensures.some in
    let a = c.in_ok-after_numbers.after_numbers.now in
    let prefix = c.in-Some.prefix in
    let status = c.in_ok-after_status.ensures.some in
    let b = c.in_ok-after_status.after_status.now in
    let time = c.in_ok-time.time in
    let peer = c.in-Some-split_address_and_asn.peer in
    rw c.from_residual-in_err-attributes.ensures
    (none_second _ _ (octets_front NUMBERS_SIZE) numbers.0 a c.args.octets.now numbers.1
    (none_second _ _ (prefix_front c.args.family) prefix.value prefix.rest.now a c.in-Some.ensures
    (none_second _ _ (octets_front STATUS_SIZE) status.0 b prefix.rest.now status.1
    (none_second _ _ word_front time.value time.rest.now b c.in_ok-time.ensures
    (none_second _ _ (peer_of_front c.args.family Two) peer.value peer.rest.now time.rest.now c.in-Some-split_address_and_asn.ensures c.in_err-attributes.ensures.none)))))

pub returns-clause-some : goal.returns-clause-some
returns-clause-some c =
    let numbers = c.in_ok-after_numbers.ensures.some in
    let a = c.in_ok-after_numbers.after_numbers.now in
    let prefix = c.in-Some.prefix in
    let status = c.in_ok-after_status.ensures.some in
    let b = c.in_ok-after_status.after_status.now in
    let time = c.in_ok-time.time in
    let peer = c.in-Some-split_address_and_asn.peer in
    let attributes = c.in_ok-attributes.attributes.now in
    let more = c.in_ok-attributes.field-0-1.now in (
      numbers.0,
      status.0,
      more,
      both_front _ _ numbers.0 (prefix.value, (status.0, (time.value, (peer.value, attributes)))) a more c.args.octets.now numbers.1
          (both_front _ _ prefix.value (status.0, (time.value, (peer.value, attributes))) prefix.rest.now more a c.in-Some.ensures
          (both_front _ _ status.0 (time.value, (peer.value, attributes)) b more prefix.rest.now status.1
          (both_front _ _ time.value (peer.value, attributes) time.rest.now more b c.in_ok-time.ensures
          (both_front _ _ peer.value attributes peer.rest.now more time.rest.now c.in-Some-split_address_and_asn.ensures c.in_ok-attributes.ensures.some)))),
    )
