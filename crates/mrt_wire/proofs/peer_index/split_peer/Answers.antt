use Rattle.std.proofs.Common.{ℕ, List, Option, Some, None}
use Rattle.ip_prefix.specs.Sequences.{Begins}
use Rattle.octet_forms.proofs.Fields.{both_front, none_first, none_second}
use Rattle.mrt_wire.specs.declared.peer_index.TheConstants.{ID_SIZE}
use Rattle.mrt_events.specs.declared.peer.Peer.{Peer}
use Rattle.mrt_wire.specs.declared.fields.ValueAndRest.{ValueAndRest}
use Rattle.mrt_wire.specs.Fields.{SpellsOctet, AreOctets, SpellsPeerOf}
use Rattle.mrt_wire.specs.Decoding.{FindsValue}
use Rattle.mrt_wire.specs.Rib.{peer_family, peer_as_width, SpellsPeer, SpellsPeerFields}
use Rattle.mrt_wire.proofs.FieldFronts.{octet_front, octets_front}
use Rattle.mrt_wire.proofs.PeerIndexLaws.{no_peer}
use Rattle.mrt_wire.proofs.peer_index.split_peer.Goals as goal

pub returns-in_err-kind : goal.returns-in_err-kind
returns-in_err-kind c = rw c.from_residual.ensures (no_peer c.args.octets.now (none_first _ _ c.args.octets.now c.in_err-kind.ensures))

pub returns-in_err-after_id : goal.returns-in_err-after_id
returns-in_err-after_id c =
    let kind = c.in_ok-kind.kind in
    rw c.from_residual-in_err-after_id.ensures
    (no_peer c.args.octets.now (none_second _ _ octet_front kind.value kind.rest.now c.args.octets.now c.in_ok-kind.ensures (none_first _ _ kind.rest.now c.in_err-after_id.ensures.none)))

-- behind the type and the ID stands a peer of that type, or none
behind : (kind : ℕ) (id after_kind after octets : List ℕ) (found : Option (ValueAndRest Peer)) → Begins SpellsOctet kind after_kind octets → Begins (AreOctets ID_SIZE) id after after_kind
    → FindsValue (SpellsPeerOf (peer_family kind) (peer_as_width kind)) after found → FindsValue SpellsPeer octets found
behind kind id after_kind after octets None first second none =
    no_peer octets (none_second _ _ octet_front kind after_kind octets first (none_second _ _ (octets_front ID_SIZE) id after after_kind second none))
behind kind id after_kind after octets (Some peer) first second found =
    let b : Begins SpellsPeerFields (kind, (id, peer.value)) peer.rest.now octets
    = both_front _ _ kind (id, peer.value) after_kind peer.rest.now octets first (both_front _ _ id peer.value after peer.rest.now after_kind second found) in
    record { front = b.front; spelled = (kind, id, b.spelled); whole = b.whole }

pub returns : goal.returns
returns c =
    let kind = c.in_ok-kind.kind in
    let id = c.in_ok-after_id.ensures.some in
    behind kind.value id.0 kind.rest.now c.in_ok-after_id.after_id.now c.args.octets.now c.split_address_and_asn.result c.in_ok-kind.ensures id.1
    (rw (c.peer_family-family.ensures, c.peer_as_width-width.ensures) at c.split_address_and_asn.ensures)
