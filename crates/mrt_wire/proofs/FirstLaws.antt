-- What a source answers is the first result.
use Rattle.std.proofs.Common.{◌≡◌, inl, inr, Result, ℕ, ◌+◌, ◌≤◌, ◌<◌, cond, List, [], ◌∷◌, ◌++◌, Option, Some, None, Ok, length, take, drop, sym, ap, ◌∙◌, refl, subst, arith, length-append, append-nil}
use Rattle.std.proofs.lemmas.Bool.{cases_lt, lt-ltb, le-ltb}
use Rattle.std.proofs.lemmas.List.{append_cancel_right, append_assoc, drop_at, take-append-drop, length-take-le}
use Rattle.std.proofs.lemmas.Nat.{from_be_bytes-to_be_bytes_4}
use Rattle.std.specs.Prelude.{nat_lt}
use Rattle.std.specs.Int.{from_be_bytes, w32}
use Rattle.mrt_frames.specs.declared.fault.RecordKind.{RecordKind}
use Rattle.mrt_frames.specs.declared.fault.RecordKind.TheVariants.{CutRecord, TooLong}
use Rattle.std.specs.Io.KnownBytes.{Consumes}
use Rattle.mrt_frames.specs.declared.fault.SourceFault.{SourceFault}
use Rattle.mrt_wire.specs.declared.next.Next.{Next}
use Rattle.mrt_wire.specs.declared.next.Next.TheVariants as next
use Rattle.mrt_frames.specs.declared.header.TheConstants.{LONGEST_BODY}
use Rattle.mrt_frames.specs.Record.{Record, spelling, IsRecord, BeginsWithNoRecord, stated_body_size, rest_fault_kind, rest_fault, IsRest}
use Rattle.mrt_wire.specs.Results.{Frame, Splits, spellings, RecordResult, Found, Bad, fault_if_any, SourceState, results, TakesFront}
use Rattle.mrt_wire.specs.Answered.{NextReturns, answer_results, MayBeLeftAfter, AnswersFrame, AnswersRest}
use Rattle.mrt_wire.proofs.SplitLaws.{frames_first, frames_all}
use lib.Seq.{take-append-le}

-- the length that a record's header states
stated_body_size-record : (r : Record) (more : List ℕ) → IsRecord r → stated_body_size (spelling r ++ more) ≡ length r.body
stated_body_size-record r more p = from_be_bytes-to_be_bytes_4 (length r.body) p.header.size_fits

-- octets that state too much begin with no record
BeginsWithNoRecord-stated : (octets : List ℕ) → LONGEST_BODY < stated_body_size octets → BeginsWithNoRecord octets
BeginsWithNoRecord-stated octets long r more p e = absurd (omega (arith, ap stated_body_size e, stated_body_size-record r more p, p.size))

-- what follows twelve octets doesn't change what they state
stated_body_size-front : (octets more : List ℕ) → length octets ≡ 12 → stated_body_size (octets ++ more) ≡ stated_body_size octets
stated_body_size-front octets more size =
    let front : List ℕ = take 8 octets in
    let back : List ℕ = drop 8 octets in
    let parts : octets ≡ front ++ back = sym (take-append-drop 8 octets) in
    let short : length front ≡ 8 = length-take-le 8 octets (omega (arith, size)) in
    let long : 4 ≤ length back = omega (arith, size, short, ap length parts, length-append front back) in
    let behind : drop 8 (octets ++ more) ≡ back ++ more = ap (λ l. drop 8 (l ++ more)) parts ∙ ap (drop 8) (append_assoc front back more) ∙ drop_at front (back ++ more) 8 short in
    ap (from_be_bytes w32) (ap (take 4) behind ∙ take-append-le 4 back more long)

-- nor the fault of a rest
rest_fault_kind-front : (octets more : List ℕ) → length octets ≡ 12 → rest_fault_kind (octets ++ more) ≡ rest_fault_kind octets
rest_fault_kind-front octets more size =
    (λ i. cond (short i) CutRecord (cond (nat_lt LONGEST_BODY (same i)) (TooLong (same i)) CutRecord))
  where
    short : nat_lt (length (octets ++ more)) 12 ≡ nat_lt (length octets) 12
    short = le-ltb (length (octets ++ more)) 12 (omega (arith, length-append octets more)) ∙ sym (le-ltb (length octets) 12 (omega arith))

    same : stated_body_size (octets ++ more) ≡ stated_body_size octets
    same = stated_body_size-front octets more size

-- the fault of octets that aren't empty
rest_fault-front : (octets more : List ℕ) → length octets ≡ 12 → rest_fault (octets ++ more) ≡ rest_fault octets
rest_fault-front [] more size = absurd (omega (arith, size))
rest_fault-front (octet ∷ octets) more size = ap Some (rest_fault_kind-front (octet ∷ octets) more size)

-- a length that isn't too long is no fault but a cut
rest_fault_kind-small : (octets : List ℕ) → stated_body_size octets ≤ LONGEST_BODY → rest_fault_kind octets ≡ CutRecord
rest_fault_kind-small octets small = elim (cases_lt (length octets) 12) [
  | inl short ↦ ap (λ b. cond b CutRecord (cond (nat_lt LONGEST_BODY (stated_body_size octets)) (TooLong (stated_body_size octets)) CutRecord)) (lt-ltb (length octets) 12 short)
  | inr long ↦
      ap (λ b. cond b CutRecord (cond (nat_lt LONGEST_BODY (stated_body_size octets)) (TooLong (stated_body_size octets)) CutRecord)) (le-ltb (length octets) 12 long)
      ∙ ap (λ b. cond b (TooLong (stated_body_size octets)) CutRecord) (le-ltb LONGEST_BODY (stated_body_size octets) small)
]

-- an answer to a cut record, or to none, saw the end
nothing_follows : (answer : Next) (number offset : ℕ) (octets more : List ℕ) → answer_results answer ≡ fault_if_any number offset (rest_fault octets) → rest_fault_kind octets ≡ CutRecord → MayBeLeftAfter answer more → more ≡ []
nothing_follows (next.Event event) number offset [] more tells cut follows = cc
nothing_follows (next.Event event) number offset (octet ∷ octets) more tells cut follows = cc
nothing_follows (next.Bad fault) number offset [] more tells cut follows = cc
nothing_follows (next.Bad fault) number offset (octet ∷ octets) more tells cut follows = follows (ap kind_of tells ∙ cut)
  where
    kind_of : List RecordResult → RecordKind
    kind_of (Bad f ∷ found) = f.kind
    kind_of (Found e ∷ found) = CutRecord
    kind_of [] = CutRecord
nothing_follows next.End number offset octets more tells cut follows = follows

-- a rest is one whatever may follow it, and so is its fault
pub record RestStays (octets more : List ℕ) : Type 0 where
  pub none : BeginsWithNoRecord (octets ++ more)
  pub fault : rest_fault (octets ++ more) ≡ rest_fault octets

RestStays-end : (octets more : List ℕ) → BeginsWithNoRecord octets → more ≡ [] → RestStays octets more
RestStays-end octets more none end =
    let whole : octets ++ more ≡ octets = ap (λ l. octets ++ l) end ∙ append-nil octets in
    record { none = subst BeginsWithNoRecord (sym whole) none; fault = ap rest_fault whole }

pub RestStays-rest : (octets more : List ℕ) → IsRest octets → (rest_fault_kind octets ≡ CutRecord → more ≡ []) → RestStays octets more
RestStays-rest octets more rest end = elim rest.stops [
  | inl cut ↦ RestStays-end octets more rest.none (end cut)
  | inr size ↦ elim (cases_lt LONGEST_BODY (stated_body_size octets)) [
    | inl long ↦ record {
      none = BeginsWithNoRecord-stated (octets ++ more) (omega (arith, long, stated_body_size-front octets more size));
      fault = rest_fault-front octets more size;
    }
    | inr small ↦ RestStays-end octets more rest.none (end (rest_fault_kind-small octets small))
  ]
]

take-fault_if_any : (number offset : ℕ) (fault : Option RecordKind) → take 1 (fault_if_any number offset fault) ≡ fault_if_any number offset fault
take-fault_if_any number offset None = refl
take-fault_if_any number offset (Some kind) = refl

-- the first result of octets that begin with a frame
first_of_frame : (p q : SourceState) (octets : List ℕ) (answer : Next) (frame : Frame) → AnswersFrame p q answer octets frame
    → (more : List ℕ) (frames : List Frame) (rest : List ℕ) → Splits p.stamp p.index (octets ++ more) frames rest → take 1 (results p frames rest) ≡ answer_results answer
first_of_frame p q octets answer frame at more frames rest split =
    let joined : spellings (frame ∷ []) ++ more ≡ spellings frames ++ rest = ap (λ l. l ++ more) (append-nil (spelling frame.mrt) ∙ sym at.whole) ∙ split.whole in
    let behind = frames_first p.stamp p.index (frame ∷ []) frames more rest (at.is_record, at.reads, tt) split.are_frames split.none joined in
    ap (λ f. take 1 (results p f rest)) behind.frames_are ∙ sym at.tells

-- the first result of octets that are a rest
first_of_rest : (p q : SourceState) (left : Option (List ℕ)) (octets : List ℕ) (answer : Next) → AnswersRest p q left answer octets
    → (more : List ℕ) (frames : List Frame) (rest : List ℕ) → MayBeLeftAfter answer more → Splits p.stamp p.index (octets ++ more) frames rest → take 1 (results p frames rest) ≡ answer_results answer
first_of_rest p q left octets answer at more frames rest follows split =
    let stays = RestStays-rest octets more at.ends.rest (λ cut. nothing_follows answer (p.number + 1) p.offset octets more at.tells cut follows) in
    let all = frames_all p.stamp p.index [] frames (octets ++ more) rest tt split.are_frames stays.none split.none split.whole in
    (λ i. take 1 (results p (all.0 i) (all.1 i)))
    ∙ ap (λ f. take 1 (fault_if_any (p.number + 1) p.offset f)) stays.fault
    ∙ take-fault_if_any (p.number + 1) p.offset (rest_fault octets) ∙ sym at.tells

pub first_result : (p q : SourceState) (left : Option (List ℕ)) (octets : List ℕ) (answer : Next) → NextReturns p q left octets (Ok answer)
    → (more : List ℕ) (frames : List Frame) (rest : List ℕ) → MayBeLeftAfter answer more → Splits p.stamp p.index (octets ++ more) frames rest → take 1 (results p frames rest) ≡ answer_results answer
first_result p q left octets answer (inl (frame, at)) more frames rest follows split = first_of_frame p q octets answer frame at more frames rest split
first_result p q left octets answer (inr at) more frames rest follows split = first_of_rest p q left octets answer at more frames rest follows split

-- the octets taken are those of the call
pub same_taken : (left left' : Option (List ℕ)) (octets taken after : List ℕ) → Consumes left left' octets → TakesFront left left' taken after → taken ≡ octets
same_taken left left' octets taken after consumed p =
    let one = subst (λ o. Consumes o left' octets) p.before consumed in
    let two = subst (λ o. Consumes (Some (taken ++ after)) o octets) p.now one in
    append_cancel_right taken octets after two

-- the same of a call, where the input tells its octets
pub first_answered : (p q : SourceState) (left left' : Option (List ℕ)) (result : Result Next SourceFault) (answer : Next) → ((octets : List ℕ) × Consumes left left' octets × NextReturns p q left' octets result) → result ≡ Ok answer
    → (taken after more : List ℕ) (frames : List Frame) (rest : List ℕ) → TakesFront left left' taken after → MayBeLeftAfter answer more → Splits p.stamp p.index (taken ++ more) frames rest
    → take 1 (results p frames rest) ≡ answer_results answer
first_answered p q left left' result answer (octets, consumed, nexts) is taken after more frames rest took follows split =
    let same = same_taken left left' octets taken after consumed took in
    first_result p q left' octets answer (subst (NextReturns p q left' octets) is nexts) more frames rest follows (subst (λ o. Splits p.stamp p.index (o ++ more) frames rest) same split)
