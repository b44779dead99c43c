-- What a call of `next` takes and answers.
use Rattle.std.proofs.Common.{◌≡◌, inl, ℕ, ◌+◌, List, [], ◌∷◌, Option, Some, None, Result, Ok, Err, length, take, ap, sym, ◌∙◌, refl, subst}
use Rattle.std.specs.Io.KnownBytes.{Consumes}
use Rattle.mrt_events.specs.declared.event.Event.{Event}
use Rattle.mrt_frames.specs.declared.frames.NextRecord.TheVariants as front
use Rattle.mrt_frames.specs.declared.header.Header.{Header}
use Rattle.mrt_wire.specs.declared.decoding.DecodeError.{DecodeError}
use Rattle.mrt_wire.specs.declared.decoding.DecodeError.TheVariants as refusal
use Rattle.mrt_frames.specs.declared.fault.RecordKind.TheVariants.{Unsupported}
use Rattle.mrt_wire.specs.declared.next.Next.{Next}
use Rattle.mrt_wire.specs.declared.next.Next.TheVariants as next
use Rattle.mrt_frames.specs.Record.{Record, spelling, IsRecord}
use Rattle.mrt_frames.specs.Taken.{record_with_header, record_in_buffer, Takes, TakesOctets, AreOctetsOfRecordOrRest}
use Rattle.mrt_wire.specs.Results.{PeerTable, RecordOutcome, Accepted, Refused, ReadsAs, index_after, record_result, SourceState}
use Rattle.mrt_wire.specs.declared.record_types.BodyFormat.{BodyFormat}
use Rattle.mrt_wire.specs.RecordTypes.{body_format, IsSupported}
use Rattle.mrt_wire.specs.Decoding.{Decodes, decoded_answer}
use Rattle.mrt_wire.specs.Answered.{NextReturns, answer_results}

-- a record was taken, and this was answered of what became of it
NextReturns-frame : (p : SourceState) (left left' : Option (List ℕ)) (after limit : ℕ) (octets : List ℕ) (r : Record) (outcome : RecordOutcome) (index : PeerTable) (answer : Next)
    → Takes left left' p.offset after octets → octets ≡ spelling r → IsRecord r → ReadsAs p.stamp p.index r outcome → index ≡ index_after p.index outcome → limit ≡ p.limit
    → answer_results answer ≡ record_result (p.number + 1) p.offset outcome ∷ []
    → (octets : List ℕ) × Consumes left left' octets × NextReturns p (record { index = index; number = p.number + 1; offset = after; limit = limit; stamp = p.stamp; phase = p.phase }) left' octets (Ok answer)
NextReturns-frame p left left' after limit octets r outcome index answer took whole is_record reads behind_it same_limit tells = (
  octets,
  took.0,
  inl (
    record { mrt = r; outcome = outcome },
    record {
      whole = whole;
      is_record = is_record;
      reads = reads;
      tells = tells;
      state = λ i. record { index = behind_it i; number = p.number + 1; offset = (took.1 ∙ ap (λ l. p.offset + length l) whole) i; limit = same_limit i; stamp = p.stamp; phase = p.phase };
    },
  ),
)

-- a record was taken and judged, and this was answered
pub NextReturns-record : (format_at : ℕ → ℕ → Option BodyFormat) (p : SourceState) (left left' : Option (List ℕ)) (after limit : ℕ) (buffer body : List ℕ) (h : Header) (form : BodyFormat) (index : PeerTable) (decoded : Result Event DecodeError) (answer : Next)
    → TakesOctets (AreOctetsOfRecordOrRest format_at limit buffer (Ok (front.Record h form))) left left' p.offset after → body ≡ take h.size buffer
    → Decodes p.stamp p.index index (record_with_header h body) decoded → limit ≡ p.limit → Ok answer ≡ decoded_answer (p.number + 1) p.offset decoded
    → (octets : List ℕ) × Consumes left left' octets × NextReturns p (record { index = index; number = p.number + 1; offset = after; limit = limit; stamp = p.stamp; phase = p.phase }) left' octets (Ok answer)
NextReturns-record format_at p left left' after limit buffer body h form index (Ok event) answer (octets, took, (supported, size, is_record, whole)) is_body (content, reads, behind_it) same_limit answered =
    let same : answer ≡ next.Event event = cc in
    NextReturns-frame p left left' after limit octets (record_in_buffer h buffer) (Accepted content event) index answer took whole is_record
    (subst (λ b. ReadsAs p.stamp p.index (record_with_header h b) (Accepted content event)) is_body reads) behind_it same_limit (ap answer_results same)
NextReturns-record format_at p left left' after limit buffer body h form index (Err (refusal.Fault kind)) answer (octets, took, (supported, size, is_record, whole)) is_body (reads, behind_it) same_limit answered =
    let same : answer ≡ next.Bad record { number = p.number + 1; offset = p.offset; kind = kind } = cc in
    NextReturns-frame p left left' after limit octets (record_in_buffer h buffer) (Refused kind) index answer took whole is_record
    (subst (λ b. ReadsAs p.stamp p.index (record_with_header h b) (Refused kind)) is_body reads) behind_it same_limit (ap answer_results same)
NextReturns-record format_at p left left' after limit buffer body h form index (Err refusal.Memory) answer taken is_body judges same_limit answered = cc

-- the body of a record was passed over, since it isn't read, and this was answered
pub NextReturns-passed : (p : SourceState) (left left' : Option (List ℕ)) (after limit : ℕ) (buffer : List ℕ) (h : Header) (answer : Next)
    → TakesOctets (AreOctetsOfRecordOrRest body_format limit buffer (Ok (front.Skipped h))) left left' p.offset after → limit ≡ p.limit
    → Ok answer ≡ decoded_answer (p.number + 1) p.offset (Err (refusal.Fault (Unsupported h.kind h.subtype)))
    → (octets : List ℕ) × Consumes left left' octets × NextReturns p (record { index = p.index; number = p.number + 1; offset = after; limit = limit; stamp = p.stamp; phase = p.phase }) left' octets (Ok answer)
NextReturns-passed p left left' after limit buffer h answer (octets, took, (unsupported, (body, is_record, whole))) same_limit answered =
    let same : answer ≡ next.Bad record { number = p.number + 1; offset = p.offset; kind = Unsupported h.kind h.subtype } = cc in
    NextReturns-frame p left left' after limit octets (record_with_header h body) (Refused (Unsupported h.kind h.subtype)) p.index answer took whole is_record
    (inl (unread, refl)) refl same_limit (ap answer_results same)
  where
    unread : IsSupported (record_with_header h body) → ⊥
    unread supported = let e : Some supported.0 ≡ None = sym supported.1 ∙ unsupported in cc
