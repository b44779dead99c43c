use Rattle.std.proofs.Common.{map, ap, refl, ◌∙◌}
use Rattle.octet_forms.proofs.Fields.{none_behind}
use Rattle.mrt_events.specs.Event.{item_value}
use Rattle.mrt_wire.specs.declared.record_types.Bgp4mpRecordKind.TheVariants.{StateChange}
use Rattle.mrt_wire.specs.Items.{session_items}
use Rattle.mrt_wire.specs.Decoding.{SpellsMapped}
use Rattle.mrt_wire.specs.Session.{Change, SpellsSessionContent}
use Rattle.mrt_wire.proofs.FieldFronts.{short_front}
use Rattle.mrt_wire.proofs.ReadingLaws.{reads_none}
use Rattle.mrt_wire.proofs.SessionLaws.{session_front}
use Rattle.mrt_wire.proofs.session.read_state_change.Goals as goal

pub returns-in_err-rest : goal.returns-in_err-rest
returns-in_err-rest c seconds =
    reads_none _ (SpellsMapped (SpellsSessionContent StateChange c.args.width) (session_items seconds)) c.args.octets.now c.from_residual.result c.from_residual.ensures.1
    (λ items s. let t = s.1.2 in (rw c.in_err-rest.ensures.ok_part at c.fill_session_peer.ensures.none) s.1.0.peer t.rest t.first)

pub returns-in_err-old : goal.returns-in_err-old
returns-in_err-old c seconds =
    let peer = c.fill_session_peer.new.peer in
    let after = c.in_ok-rest.rest.now in
    let first = rw c.in_ok-rest.ensures.ok_part at c.fill_session_peer.ensures.some in
    let none = rw c.in_err-old.ensures.ok_part at c.split_u16.ensures in
    reads_none _ (SpellsMapped (SpellsSessionContent StateChange c.args.width) (session_items seconds)) c.args.octets.now c.from_residual-in_err-old.result c.from_residual-in_err-old.ensures.1
    (λ items s. let change = s.1.0 in
    none_behind _ _ (session_front c.args.width) peer after c.args.octets.now first (λ states t. none states.0 t.rest t.first) (change.peer, (change.old, change.new)) s.1.2)

pub returns-in_err-new : goal.returns-in_err-new
returns-in_err-new c seconds =
    let peer = c.fill_session_peer.new.peer in
    let after = c.in_ok-rest.rest.now in
    let old = c.in_ok-old.old in
    let first = rw c.in_ok-rest.ensures.ok_part at c.fill_session_peer.ensures.some in
    let second = rw c.in_ok-old.ensures.ok_part at c.split_u16.ensures in
    let none = rw c.in_err-new.ensures.ok_part at c.split_u16-2.ensures in
    reads_none _ (SpellsMapped (SpellsSessionContent StateChange c.args.width) (session_items seconds)) c.args.octets.now c.from_residual-in_err-new.result c.from_residual-in_err-new.ensures.1
    (λ items s. let change = s.1.0 in
    none_behind _ _ (session_front c.args.width) peer after c.args.octets.now first
    (none_behind _ _ short_front old.value old.rest.now after second (λ new t. none new t.0 t.1)) (change.peer, (change.old, change.new)) s.1.2)

pub returns : goal.returns
returns c seconds =
    let old = c.in_ok-old.old in
    let new = c.in_ok-new.new in (
      Change record { peer = c.fill_session_peer.new.peer; old = old.value; new = new.value },
      (
        record { peer = c.fill_session_peer.new.peer; old = old.value; new = new.value },
        refl,
        record {
          rest = c.in_ok-rest.rest.now;
          first = rw c.in_ok-rest.ensures.ok_part at c.fill_session_peer.ensures.some;
          second = record {
            rest = old.rest.now;
            first = rw c.in_ok-old.ensures.ok_part at c.split_u16.ensures;
            second = (new.rest.now, rw c.in_ok-new.ensures.ok_part at c.split_u16-2.ensures);
          };
        },
      ),
      c.from_vec.ensures ∙ ap (map item_value) c.in_ok-items.ensures.items,
    )
