use Rattle.std.proofs.Common.{Err, ap, sym, subst, refl, ◌∙◌}
use Rattle.std.proofs.lemmas.Result.{err_from_is_err_and}
use Rattle.bgp_wire.specs.Readers.{ParsesOrFails}
use Rattle.bgp_paths.proofs.Refusing.{refused_part}
use Rattle.ip_prefix.specs.Fields.{SpellsPair}
use Rattle.mrt_wire.specs.Items.{session_items}
use Rattle.mrt_wire.specs.Decoding.{SpellsMapped, parsed_session}
use Rattle.mrt_wire.specs.Session.{SpellsMicros, SpellsSessionContent, SpellsSessionBody}
use Rattle.mrt_wire.proofs.ReadingLaws.{reads_none, refused_behind}
use Rattle.mrt_wire.proofs.SessionLaws.{micros_front}
use Rattle.mrt_wire.proofs.session.read_session.Goals as goal

pub returns-in_err-micros : goal.returns-in_err-micros
returns-in_err-micros c =
    reads_none _ (SpellsMapped (SpellsSessionBody c.args.form) (parsed_session c.args.seconds)) c.args.octets.now c.from_residual.result c.from_residual.ensures.1
    (λ told s. (rw c.in_err-micros.ensures.ok_part at c.split_micros.ensures) s.0.micros s.1.rest s.1.first)

pub returns-in_err-items : goal.returns-in_err-items
returns-in_err-items c =
    let octets = c.args.octets.now in
    let form = c.args.form in
    let seconds = c.args.seconds in
    let micros = c.in_ok-micros.micros in
    let rest = micros.rest.now in
    let fault = c.in_err-items.field-0.0 in
    let Happening = SpellsSessionContent form.kind form.width in
    let Whole = SpellsMapped (SpellsSessionBody form) (parsed_session seconds) in
    let p = err_from_is_err_and c.from_residual-in_err-items.result c.from_residual-in_err-items.ensures.1 in
    subst (ParsesOrFails Whole octets) (sym (p.1 ∙ ap Err p.2))
    (refused_part Whole (SpellsPair (SpellsMicros form.timed) (λ micros. Happening)) octets octets fault (λ told s. ((s.0.micros, s.0.content), s.1))
    (refused_behind _ _ (micros_front form.timed) micros.value rest octets fault (rw c.in_ok-micros.ensures.ok_part at c.split_micros.ensures)
    (refused_part Happening (SpellsMapped Happening (session_items seconds)) rest rest fault (λ content s. (session_items seconds content, (content, s, refl))) c.in_err-items.ensures)))

pub returns : goal.returns
returns c =
    let micros = c.in_ok-micros.micros in
    let told = c.in_ok-items.ensures in (
      record { content = told.0; micros = micros.value },
      record { rest = micros.rest.now; first = (rw c.in_ok-micros.ensures.ok_part at c.split_micros.ensures); second = told.1 },
      λ i. record { items = told.2 i; micros = micros.value },
    )
