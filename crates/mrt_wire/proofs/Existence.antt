-- No list of octets is without a split into frames and a rest.
use Rattle.std.proofs.Common.{◌≡◌, ℕ, zero, suc, ◌+◌, ◌≤◌, ◌<◌, ◌^◌, ◌⊎◌, inl, inr, List, [], ◌∷◌, ◌++◌, Option, Some, None, length, take, drop, sym, ap, ◌∙◌, subst, refl, arith}
use Rattle.std.proofs.lemmas.Bool.{cases_lt}
use Rattle.std.proofs.lemmas.List.{append_assoc, length-append, length-take-le, length-drop, get_or-take, get_or-drop, get_or_past, take-append-drop}
use Rattle.std.proofs.lemmas.Nat.{be_bytes_2, be_bytes_4}
use Rattle.std.specs.Int.{to_be_bytes, from_be_bytes, w16, w32}
use Rattle.mrt_frames.specs.declared.fault.RecordKind.TheVariants.{Unsupported, Malformed}
use Rattle.mrt_events.specs.declared.stamp.Stamp.{Stamp}
use Rattle.mrt_frames.specs.declared.header.TheConstants.{LONGEST_BODY}
use Rattle.mrt_frames.specs.Record.{Record, FitsHeader, header_octets, spelling, IsRecord, BeginsWithNoRecord}
use Rattle.mrt_frames.specs.Taken.{record_from_fields, IsOctets}
use Rattle.mrt_frames.specs.declared.fault.RecordKind.{RecordKind}
use Rattle.mrt_wire.specs.declared.record_types.BodyFormat.{BodyFormat}
use Rattle.mrt_wire.specs.RecordTypes.{body_format}
use Rattle.mrt_wire.specs.Content.{Content, IsBody}
use Rattle.mrt_wire.specs.Results.{RecordOutcome, Accepted, Refused, Frame, PeerTable, index_after, content_fault, event_of, ReadsAs, Splits, spellings}
use Rattle.mrt_frames.proofs.RecordLaws.{BeginsWithNoRecord-short, BeginsWithNoRecord-cut, BeginsWithNoRecord-too_long}
use Rattle.octet_forms.proofs.Lists.{drop_in_parts}

-- a field is put in front
field_then : (field front octets more : List ℕ) → field ≡ front → octets ≡ more → field ++ octets ≡ front ++ more
field_then field front octets more e f = ap (λ l. l ++ octets) e ∙ ap (λ l. front ++ l) f

-- a front of octets is octets
IsOctets-take : (n : ℕ) (octets : List ℕ) → n ≤ length octets → IsOctets octets → IsOctets (take n octets)
IsOctets-take n octets within small i = elim (cases_lt i n) [
  | inl below ↦ subst (λ m. m < 256) (sym (get_or-take n octets i 0 below)) (small i)
  | inr above ↦ subst (λ m. m < 256) (sym (get_or_past (take n octets) i 0 (omega (arith, length-take-le n octets within)))) (omega arith)
]

-- what stands behind a front of octets is octets
IsOctets-drop : (n : ℕ) (octets : List ℕ) → IsOctets octets → IsOctets (drop n octets)
IsOctets-drop n octets small i = subst (λ m. m < 256) (sym (get_or-drop n octets i 0)) (small (n + i))

-- two octets spell a number
record Spells16 (octets : List ℕ) : Type 0 where
  number : ℕ
  fits : number < 2 ^ 16
  spelling : to_be_bytes w16 number ≡ octets

-- four octets spell a number
record Spells32 (octets : List ℕ) : Type 0 where
  number : ℕ
  fits : number < 2 ^ 32
  spelling : to_be_bytes w32 number ≡ octets

-- any two octets spell a number
Spells16-octets : (octets : List ℕ) → length octets ≡ 2 → IsOctets octets → Spells16 octets
Spells16-octets octets size small = record {
  number = from_be_bytes w16 octets;
  fits = omega (arith, small 0, small 1);
  spelling = be_bytes_2 octets (from_be_bytes w16 octets) size small refl;
}

-- any four octets spell a number
Spells32-octets : (octets : List ℕ) → length octets ≡ 4 → IsOctets octets → Spells32 octets
Spells32-octets octets size small = record {
  number = from_be_bytes w32 octets;
  fits = omega (arith, small 0, small 1, small 2, small 3);
  spelling = be_bytes_4 octets (from_be_bytes w32 octets) size small refl;
}

-- the two octets at a place spell a number
Spells16-at : (place : ℕ) (octets : List ℕ) → place + 2 ≤ length octets → IsOctets octets → Spells16 (take 2 (drop place octets))
Spells16-at place octets within small =
    let behind : List ℕ = drop place octets in
    let long : 2 ≤ length behind = omega (arith, length-drop place octets) in
    Spells16-octets (take 2 behind) (length-take-le 2 behind long) (IsOctets-take 2 behind long (IsOctets-drop place octets small))

-- the four octets at a place spell a number
Spells32-at : (place : ℕ) (octets : List ℕ) → place + 4 ≤ length octets → IsOctets octets → Spells32 (take 4 (drop place octets))
Spells32-at place octets within small =
    let behind : List ℕ = drop place octets in
    let long : 4 ≤ length behind = omega (arith, length-drop place octets) in
    Spells32-octets (take 4 behind) (length-take-le 4 behind long) (IsOctets-take 4 behind long (IsOctets-drop place octets small))

-- a header stands in front of the octets
record BeginsWithHeader (octets : List ℕ) : Type 0 where
  seconds : ℕ
  kind : ℕ
  subtype : ℕ
  size : ℕ
  fits : FitsHeader seconds kind subtype size
  whole : octets ≡ header_octets seconds kind subtype size ++ drop 12 octets

-- one stands in front of any twelve octets
BeginsWithHeader-long : (octets : List ℕ) → 12 ≤ length octets → IsOctets octets → BeginsWithHeader octets
BeginsWithHeader-long octets long small =
    let seconds = Spells32-at 0 octets (omega arith) small in
    let kind = Spells16-at 4 octets (omega arith) small in
    let subtype = Spells16-at 6 octets (omega arith) small in
    let size = Spells32-at 8 octets (omega arith) small in
    record {
      seconds = seconds.number;
      kind = kind.number;
      subtype = subtype.number;
      size = size.number;
      fits = record { seconds_fit = seconds.fits; kind_fits = kind.fits; subtype_fits = subtype.fits; size_fits = size.fits };
      whole =
          drop_in_parts 0 4 octets ∙ field_then _ _ _ _ (sym seconds.spelling)
          (drop_in_parts 4 2 octets ∙ field_then _ _ _ _ (sym kind.spelling)
          (drop_in_parts 6 2 octets ∙ field_then _ _ _ _ (sym subtype.spelling)
          (drop_in_parts 8 4 octets ∙ field_then _ _ _ _ (sym size.spelling) refl)));
    }

-- a record stands in front of the octets, and octets follow it
record BeginsWithRecord (octets : List ℕ) : Type 0 where
  mrt : Record
  more : List ℕ
  is_record : IsRecord mrt
  more_octets : IsOctets more
  whole : octets ≡ spelling mrt ++ more

-- one stands in front of octets whose header states a length that they have and a record may have
BeginsWithRecord-header : (octets : List ℕ) → IsOctets octets → (header : BeginsWithHeader octets)
    → header.size ≤ length (drop 12 octets) → header.size ≤ LONGEST_BODY → BeginsWithRecord octets
BeginsWithRecord-header octets small header enough short =
    let behind : List ℕ = drop 12 octets in
    let body : List ℕ = take header.size behind in
    let size : header.size ≡ length body = sym (length-take-le header.size behind enough) in
    let small_behind : IsOctets behind = IsOctets-drop 12 octets small in
    record {
      mrt = record_from_fields header.seconds header.kind header.subtype body;
      more = drop header.size behind;
      is_record = record { header = subst (FitsHeader header.seconds header.kind header.subtype) size header.fits; size = omega arith };
      more_octets = IsOctets-drop header.size behind small_behind;
      whole = header.whole
          ∙ field_then _ _ _ _ (ap (header_octets header.seconds header.kind header.subtype) size) (sym (take-append-drop header.size behind));
    }

-- a record stands in front of octets, or none
cases_record : (octets : List ℕ) → IsOctets octets → BeginsWithRecord octets ⊎ BeginsWithNoRecord octets
cases_record octets small = elim (cases_lt (length octets) 12) [
  | inl short ↦ inr (BeginsWithNoRecord-short octets short)
  | inr long ↦
      let header = BeginsWithHeader-long octets long small in
      let s = header.seconds in
      let k = header.kind in
      let t = header.subtype in
      let n = header.size in
      let behind : List ℕ = drop 12 octets in
      elim (cases_lt LONGEST_BODY n) [
        | inl too_long ↦ inr (subst BeginsWithNoRecord (sym header.whole) (BeginsWithNoRecord-too_long s k t n behind header.fits too_long))
        | inr short ↦ elim (cases_lt (length behind) n) [
          | inl cut ↦ inr (subst BeginsWithNoRecord (sym header.whole) (BeginsWithNoRecord-cut s k t n behind header.fits cut))
          | inr enough ↦ inl (BeginsWithRecord-header octets small header enough short)
        ]
      ]
]

-- no record is without a verdict
some_verdict : (stamp : Stamp) (index : PeerTable) (r : Record) → ((outcome : RecordOutcome) → ReadsAs stamp index r outcome → ⊥) → ⊥
some_verdict stamp index r none = by_form (body_format r.kind r.subtype) refl
  where
    by_fault : (content : Content) → IsBody r.kind r.subtype content r.body → (fault : Option RecordKind) → content_fault index content ≡ fault → ⊥
    by_fault content is_body None sound = none (Accepted content (event_of stamp index r content)) record { is_body = is_body; sound = sound; made = refl }
    by_fault content is_body (Some kind) is = none (Refused kind) (inr (inr (content, is_body, is)))

    by_form : (found : Option BodyFormat) → body_format r.kind r.subtype ≡ found → ⊥
    by_form None unread = none (Refused (Unsupported r.kind r.subtype)) (inl ((λ supported. let e : None ≡ Some supported.0 = sym unread ∙ supported.1 in cc), refl))
    by_form (Some form) read = none (Refused Malformed) (inr (inl ((form, read), (λ content is_body. by_fault content is_body (content_fault index content) refl), refl)))

-- octets that begin with no record are a rest
Splits-rest : (stamp : Stamp) (index : PeerTable) (octets : List ℕ) → BeginsWithNoRecord octets → Splits stamp index octets [] octets
Splits-rest stamp index octets none = record { whole = refl; are_frames = tt; none = none }

-- a record is put in front
Splits-record : (stamp : Stamp) (index : PeerTable) (frame : Frame) (octets more : List ℕ) (frames : List Frame) (rest : List ℕ) → IsRecord frame.mrt
    → ReadsAs stamp index frame.mrt frame.outcome → octets ≡ spelling frame.mrt ++ more → Splits stamp (index_after index frame.outcome) more frames rest
    → Splits stamp index octets (frame ∷ frames) rest
Splits-record stamp index frame octets more frames rest is_record reads whole split = record {
  whole = whole ∙ ap (λ l. spelling frame.mrt ++ l) split.whole ∙ sym (append_assoc (spelling frame.mrt) (spellings frames) rest);
  are_frames = (is_record, reads, split.are_frames);
  none = split.none;
}

-- no octets of at most this length are without a split
no_octets_without_a_split_within : (most : ℕ) (stamp : Stamp) (index : PeerTable) (octets : List ℕ) → length octets ≤ most → IsOctets octets
    → ((frames : List Frame) (rest : List ℕ) → Splits stamp index octets frames rest → ⊥) → ⊥
no_octets_without_a_split_within zero stamp index octets within small none = none [] octets (Splits-rest stamp index octets (BeginsWithNoRecord-short octets (omega arith)))
no_octets_without_a_split_within (suc most) stamp index octets within small none = elim (cases_record octets small) [
  | inr no_record ↦ none [] octets (Splits-rest stamp index octets no_record)
  | inl front ↦
      let r = front.mrt in
      let shorter : length front.more ≤ most = omega (
        arith,
        ap length front.whole,
        length-append (spelling r) front.more,
        length-append (header_octets r.seconds r.kind r.subtype (length r.body)) r.body,
      ) in
      some_verdict stamp index r (λ outcome reads.
      no_octets_without_a_split_within most stamp (index_after index outcome) front.more shorter front.more_octets (λ frames rest split.
      none (record { mrt = r; outcome = outcome } ∷ frames) rest
      (Splits-record stamp index (record { mrt = r; outcome = outcome }) octets front.more frames rest front.is_record reads front.whole split)))
]

-- no octets are without a split
pub law_input_splits_into_records : (stamp : Stamp) (index : PeerTable) (octets : List ℕ) → IsOctets octets → ((frames : List Frame) (rest : List ℕ) → Splits stamp index octets frames rest → ⊥) → ⊥
law_input_splits_into_records stamp index octets small = no_octets_without_a_split_within (length octets) stamp index octets (omega arith) small
