use Rattle.bgp_wire.specs.Path.{SpellsAsn}
use Rattle.octet_forms.proofs.Fields.{both_front, none_first, none_second}
use Rattle.mrt_wire.specs.Fields.{SpellsAddressOf}
use Rattle.mrt_wire.proofs.FieldFronts.{address_front}
use Rattle.mrt_wire.proofs.fields.split_address_and_asn.Goals as goal

pub returns-in_err-after_addr : goal.returns-in_err-after_addr
returns-in_err-after_addr c =
    rw c.from_residual.ensures
    (λ peer rest b. none_first _ _ c.args.octets.now c.in_err-after_addr.ensures.none (peer.addr, peer.asn) rest record { front = b.front; spelled = b.spelled; whole = b.whole })

pub returns-in_err-asn : goal.returns-in_err-asn
returns-in_err-asn c =
    rw c.from_residual-in_err-asn.ensures
    (λ peer rest b. none_second _ _ (address_front c.args.family) c.fill_address.new.addr c.in_ok-after_addr.after_addr.now c.args.octets.now c.in_ok-after_addr.ensures.some c.in_err-asn.ensures
    (peer.addr, peer.asn) rest record { front = b.front; spelled = b.spelled; whole = b.whole })

pub returns : goal.returns
returns c =
    let asn = c.in_ok-asn.asn in
    let b = both_front (SpellsAddressOf c.args.family) (λ address. SpellsAsn c.args.width) c.fill_address.new.addr asn.value c.in_ok-after_addr.after_addr.now asn.rest.now c.args.octets.now
    c.in_ok-after_addr.ensures.some c.in_ok-asn.ensures in
    record { front = b.front; spelled = b.spelled; whole = b.whole }
