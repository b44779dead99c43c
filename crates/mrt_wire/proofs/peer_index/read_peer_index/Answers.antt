use Rattle.octet_forms.proofs.Fields.{both_front, none_first, none_second}
use Rattle.mrt_wire.specs.declared.peer_index.TheConstants.{ID_SIZE}
use Rattle.mrt_wire.specs.Rib.{SpellsPeerIndex}
use Rattle.mrt_wire.proofs.FieldFronts.{octets_front}
use Rattle.mrt_wire.proofs.PeerIndexLaws.{view_front}
use Rattle.mrt_wire.proofs.ReadingLaws.{reads_behind, reads_none}
use Rattle.mrt_wire.proofs.peer_index.read_peer_index.Goals as goal

pub returns-in_err-after_id : goal.returns-in_err-after_id
returns-in_err-after_id c =
    reads_none _ SpellsPeerIndex c.args.octets.now c.from_residual.result c.from_residual.ensures.1
    (λ peers s. none_first _ _ c.args.octets.now (rw c.in_err-after_id.ensures.ok_part at c.skip.ensures.none) s.0 s.1.rest s.1.first)

pub returns-in_err-peers : goal.returns-in_err-peers
returns-in_err-peers c =
    let id = rw c.in_ok-after_id.ensures.ok_part at c.skip.ensures.some in
    reads_none _ SpellsPeerIndex c.args.octets.now c.from_residual-in_err-peers.result c.from_residual-in_err-peers.ensures.1
    (λ peers s. none_second _ _ (octets_front ID_SIZE) id.0 c.in_ok-after_id.after_id.now c.args.octets.now id.1 (rw c.in_err-peers.ensures.ok_part at c.split_length_prefixed.ensures.none) s.0 s.1.rest s.1.first)

pub returns : goal.returns
returns c =
    let id = rw c.in_ok-after_id.ensures.ok_part at c.skip.ensures.some in
    let view = c.in_ok-peers.field-0-0.now in
    let peers = c.in_ok-peers.peers.now in
    reads_behind _ _ view_front (id.0, view) peers c.args.octets.now c.read_peers.result
    (both_front _ _ id.0 view c.in_ok-after_id.after_id.now peers c.args.octets.now id.1 (rw c.in_ok-peers.ensures.ok_part at c.split_length_prefixed.ensures.some)) c.read_peers.ensures
