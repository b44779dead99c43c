use Rattle.octet_forms.proofs.Fields.{none_first, none_second}
use Rattle.mrt_wire.proofs.FieldFronts.{address_front}
use Rattle.mrt_wire.proofs.TableDumpLaws.{no_prefix, no_such_length, a_prefix}
use Rattle.mrt_wire.proofs.table_dump.split_address_and_length.Goals as goal

pub returns-in_err-after_addr : goal.returns-in_err-after_addr
returns-in_err-after_addr c = rw c.from_residual.ensures (no_prefix c.args.family c.args.octets.now (none_first _ _ c.args.octets.now c.in_err-after_addr.ensures.none))

pub returns-in_err-len : goal.returns-in_err-len
returns-in_err-len c =
    let family = c.args.family in
    let after = c.in_ok-after_addr.after_addr.now in
    rw c.from_residual-in_err-len.ensures
    (no_prefix family c.args.octets.now (none_second _ _ (address_front family) c.fill_address.new.addr after c.args.octets.now c.in_ok-after_addr.ensures.some c.in_err-len.ensures))

pub returns-in_err-prefix : goal.returns-in_err-prefix
returns-in_err-prefix c =
    let len = c.in_ok-len.len in
    rw c.from_residual-in_err-prefix.ensures
    (no_such_length c.args.family c.fill_address.new.addr len.value c.in_ok-after_addr.after_addr.now len.rest.now c.args.octets.now c.in_ok-after_addr.ensures.some c.in_ok-len.ensures c.in_err-prefix.ensures)

pub returns : goal.returns
returns c =
    let len = c.in_ok-len.len in
    let made = c.in_ok-prefix.ensures in
    a_prefix c.args.family c.fill_address.new.addr len.value c.in_ok-prefix.prefix c.in_ok-after_addr.after_addr.now len.rest.now c.args.octets.now c.in_ok-after_addr.ensures.some c.in_ok-len.ensures made.0 made.1
