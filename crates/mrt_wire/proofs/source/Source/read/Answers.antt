use Rattle.std.proofs.Common.{◌≡◌, ◌+◌, Ok, sym, ◌∙◌, ap}
use Rattle.mrt_frames.specs.declared.fault.RecordKind.TheVariants.{Unsupported}
use Rattle.mrt_wire.specs.Decoding.{decoded_answer, next_of_fault}
use Rattle.mrt_wire.specs.RecordTypes.{body_format}
use Rattle.mrt_wire.proofs.NextLaws.{NextReturns-record, NextReturns-passed}
use Rattle.mrt_wire.proofs.source.Source.read.Goals as goal

pub returns-in_ok-answer-in-Record-clause-next : goal.returns-in_ok-answer-in-Record-clause-next
returns-in_ok-answer-in-Record-clause-next g c =
    let taken = rw c.in-Record.is at c.in_ok-header.ensures.octets in
    let s = c.self.inside in
    let answered = sym c.in_ok-answer-in-Record.was ∙ c.next_of_record.ensures ∙ ap (λ o. decoded_answer (s.number + 1) o c.decode_record-decoded.result) c.taken-offset.ensures.taken in
    rw (← c.self.view_is) (NextReturns-record body_format (record { index = s.index; number = s.number; offset = s.frames.taken; limit = s.frames.limit; stamp = s.stamp; phase = s.phase })
    _ _ c.take_record.new.self.taken c.take_record.new.self.limit c.take_record.new.self.body.items c.body-body.result.now c.in-Record.header c.in-Record.form c.decode_record-decoded.new.index c.decode_record-decoded.result c.in_ok-answer-in-Record.answer
    taken c.body-body.ensures c.decode_record-decoded.ensures c.take_record.ensures.limit answered)

pub returns-in-Skipped-clause-next : goal.returns-in-Skipped-clause-next
returns-in-Skipped-clause-next g c =
    let taken = rw c.in-Skipped.is at c.in_ok-header.ensures.octets in
    let s = c.self.inside in
    let kind = Unsupported c.in-Skipped.header.kind c.in-Skipped.header.subtype in
    let answered : c.next_of_fault.result ≡ next_of_fault (s.number + 1) s.frames.taken kind = c.next_of_fault.ensures ∙ ap (λ o. next_of_fault (s.number + 1) o kind) c.taken-offset.ensures.taken in
    rw (← c.self.view_is) (NextReturns-passed (record { index = s.index; number = s.number; offset = s.frames.taken; limit = s.frames.limit; stamp = s.stamp; phase = s.phase })
    _ _ c.take_record.new.self.taken c.take_record.new.self.limit c.take_record.new.self.body.items c.in-Skipped.header _ taken c.take_record.ensures.limit (ap Ok answered))

pub decode_record-decoded-requires : goal.decode_record-decoded-requires
decode_record-decoded-requires g c =
    let taken = rw c.in-Record.is at c.in_ok-header.ensures.octets in
    taken.2.0
