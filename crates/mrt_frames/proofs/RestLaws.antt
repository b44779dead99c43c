-- Octets that are a rest, or in which a record has begun.
use Rattle.std.proofs.Common.{◌≡◌, ℕ, ◌≤◌, ◌<◌, cond, List, [], ◌∷◌, ◌++◌, Option, Some, length, sym, ap, ◌∙◌, arith, length-append, inl, refl, le-ltb, nat_lt}
use Rattle.std.proofs.lemmas.Bool.Decides.{nat_tests}
use Rattle.std.proofs.lemmas.Nat.{from_be_bytes-to_be_bytes_4}
use Rattle.std.specs.Io.KnownBytes.{IsAtEnd}
use Rattle.mrt_frames.specs.declared.fault.RecordKind.TheVariants.{CutRecord, TooLong}
use Rattle.mrt_frames.specs.declared.header.Header.{Header}
use Rattle.mrt_frames.specs.declared.header.TheConstants.{LONGEST_BODY}
use Rattle.mrt_frames.specs.Record.{FitsHeader, IsRecord, header_octets, spelling, rest_fault_kind, rest_fault, IsUnfinished}
use Rattle.mrt_frames.specs.Taken.{record_with_header, EndsAt}
use Rattle.mrt_frames.proofs.RecordLaws.{BeginsWithNoRecord-cut}

-- behind a header its length decides
pub rest_fault_kind-header : (s k t n : ℕ) (octets : List ℕ) → FitsHeader s k t n
    → rest_fault_kind (header_octets s k t n ++ octets) ≡ cond (nat_lt LONGEST_BODY n) (TooLong n) CutRecord
rest_fault_kind-header s k t n octets fits =
    let long : 12 ≤ length (header_octets s k t n ++ octets) = omega (arith, length-append (header_octets s k t n) octets) in
    let stated = from_be_bytes-to_be_bytes_4 n fits.size_fits in
    grind (arith, nat_tests)

-- a header that states no more than it may, with octets behind it, is a cut record
pub rest_fault_kind-cut : (s k t n : ℕ) (octets : List ℕ) → FitsHeader s k t n → n ≤ LONGEST_BODY → rest_fault_kind (header_octets s k t n ++ octets) ≡ CutRecord
rest_fault_kind-cut s k t n octets fits small = rest_fault_kind-header s k t n octets fits ∙ ap (λ v. cond v (TooLong n) CutRecord) (le-ltb LONGEST_BODY n small)

-- the fault of a rest that isn't empty
pub rest_fault-some : (rest : List ℕ) → 0 < length rest → rest_fault rest ≡ Some (rest_fault_kind rest)
rest_fault-some [] some = absurd (omega (arith, some))
rest_fault-some (octet ∷ octets) some = refl

-- a header, and fewer octets than it states
pub IsUnfinished-cut : (h : Header) (front body : List ℕ) → FitsHeader h.seconds h.kind h.subtype h.size → front ≡ header_octets h.seconds h.kind h.subtype h.size → h.size ≤ LONGEST_BODY → length body < h.size → IsUnfinished (front ++ body)
IsUnfinished-cut h front body fits whole small short =
    rw whole (record { none = BeginsWithNoRecord-cut h.seconds h.kind h.subtype h.size body fits short; cut = rest_fault_kind-cut h.seconds h.kind h.subtype h.size body fits small })

-- they are a cut record, where the input ends there
pub cut_record : (left : Option (List ℕ)) (h : Header) (front body : List ℕ) → FitsHeader h.seconds h.kind h.subtype h.size → front ≡ header_octets h.seconds h.kind h.subtype h.size → h.size ≤ LONGEST_BODY → length body < h.size → IsAtEnd left
    → EndsAt left (front ++ body) × (Some CutRecord ≡ rest_fault (front ++ body))
cut_record left h front body fits whole small short end =
    let begun = IsUnfinished-cut h front body fits whole small short in
    (record { rest = record { none = begun.none; stops = inl begun.cut }; seen = λ _. end }, sym (rest_fault-some (front ++ body) (omega (arith, ap length whole, length-append front body)) ∙ ap Some begun.cut))

-- a whole record whose body was passed over
pub passed_record : (h : Header) (front body : List ℕ) → FitsHeader h.seconds h.kind h.subtype h.size → front ≡ header_octets h.seconds h.kind h.subtype h.size → h.size ≤ LONGEST_BODY → length body ≡ h.size
    → IsRecord (record_with_header h body) × (front ++ body ≡ spelling (record_with_header h body))
passed_record h front body fits whole small size =
    (record { header = rw size fits; size = omega (arith, size, small) }, ap (λ f. f ++ body) whole ∙ ap (λ n. header_octets h.seconds h.kind h.subtype n ++ body) (sym size))
