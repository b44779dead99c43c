use Rattle.std.proofs.Common.{Err, ap, map, sym, subst, refl, ◌∙◌}
use Rattle.std.proofs.lemmas.Result.{err_from_is_err_and}
use Rattle.bgp_wire.specs.Parts.{message_of_parts}
use Rattle.bgp_wire.specs.Readers.{ParsesOrFails}
use Rattle.bgp_wire.specs.Update.{SpellsMessage}
use Rattle.bgp_paths.proofs.Refusing.{refused_part}
use Rattle.ip_prefix.specs.Fields.{SpellsPair}
use Rattle.mrt_wire.specs.declared.record_types.Bgp4mpRecordKind.TheVariants.{Message}
use Rattle.mrt_events.specs.Event.{item_value}
use Rattle.mrt_wire.specs.Items.{session_items}
use Rattle.mrt_wire.specs.Decoding.{SpellsMapped}
use Rattle.mrt_wire.specs.Session.{PeerMessage, Receipt, SpellsSessionPeer, SpellsSessionContent}
use Rattle.mrt_wire.proofs.SessionLaws.{session_front}
use Rattle.mrt_wire.proofs.ReadingLaws.{reads_none, refused_behind}
use Rattle.mrt_wire.proofs.session.read_peer_message.Goals as goal

pub returns-in_err-rest : goal.returns-in_err-rest
returns-in_err-rest c =
    reads_none _ (SpellsMapped (SpellsSessionContent Message c.args.width) (session_items c.args.seconds)) c.args.octets.now c.from_residual.result c.from_residual.ensures.1
    (λ items s. (rw c.in_err-rest.ensures.ok_part at c.fill_session_peer.ensures.none) s.1.0.peer s.1.2.rest s.1.2.first)

pub returns-in_err-kind : goal.returns-in_err-kind
returns-in_err-kind c =
    let width = c.args.width in
    let octets = c.args.octets.now in
    let fault = c.in_err-kind.field-0.0 in
    let peer = c.fill_session_peer.new.peer in
    let Whole = SpellsMapped (SpellsSessionContent Message width) (session_items c.args.seconds) in
    let p = err_from_is_err_and c.from_residual-in_err-kind.result c.from_residual-in_err-kind.ensures.1 in
    subst (ParsesOrFails Whole octets) (sym (p.1 ∙ ap Err p.2))
    (refused_part Whole (SpellsPair (SpellsSessionPeer width) (λ peer. SpellsMessage width)) octets octets fault (λ items s. ((s.1.0.peer, s.1.0.message), s.1.2))
    (refused_behind _ _ (session_front width) peer c.in_ok-rest.rest.now octets fault (rw c.in_ok-rest.ensures.ok_part at c.fill_session_peer.ensures.some) c.in_err-kind.ensures.refused))

pub returns-in_ok-items_of_update-in-Update : goal.returns-in_ok-items_of_update-in-Update
returns-in_ok-items_of_update-in-Update c =
    let message : PeerMessage = record { message = message_of_parts c.in_ok-kind.kind c.read_message_into.new.parts; peer = c.fill_session_peer.new.peer } in (
      Receipt message,
      (message, refl, record { rest = c.in_ok-rest.rest.now; first = rw c.in_ok-rest.ensures.ok_part at c.fill_session_peer.ensures.some; second = c.in_ok-kind.ensures.replaced }),
      rw c.in-Update.is c.in_ok-items_of_update-in-Update.ensures,
    )

pub returns-in-Other : goal.returns-in-Other
returns-in-Other c =
    let message : PeerMessage = record { message = message_of_parts c.in_ok-kind.kind c.read_message_into.new.parts; peer = c.fill_session_peer.new.peer } in (
      Receipt message,
      (message, refl, record { rest = c.in_ok-rest.rest.now; first = rw c.in_ok-rest.ensures.ok_part at c.fill_session_peer.ensures.some; second = c.in_ok-kind.ensures.replaced }),
      rw c.in-Other.is (c.from_vec.ensures ∙ ap (map item_value) c.new.ensures.items),
    )
