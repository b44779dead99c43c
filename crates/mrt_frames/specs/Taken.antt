-- Private.
-- What the reader of records takes from its input, by what it returns.
use Rattle.std.specs.Prelude.{ℕ, ◌<◌, List, ◌++◌, slice_index, take, ◌≡◌, ◌+◌, ◌≤◌, Bool, true, false, length, IfOk, Option, Some, None, Result, Ok, Err}
use Rattle.mrt_frames.specs.declared.header.Header.{Header}
use Rattle.mrt_frames.specs.Record.{Record, FitsHeader, header_octets, spelling, IsRecord, rest_fault, StatesNoExcess, IsRest, IsUnfinished}
use Rattle.std.specs.Io.KnownBytes.{Consumes, IsAtEnd}
use Rattle.mrt_frames.specs.declared.fault.SourceFault.{SourceFault}
use Rattle.mrt_frames.specs.declared.fault.SourceFault.TheVariants.{Read, InputTooLong, Spent}
use Rattle.mrt_frames.specs.declared.fault.TakeFault.{TakeFault}
use Rattle.mrt_frames.specs.declared.fault.TakeFault.TheVariants.{InputFailed, PastLimit}
use Rattle.mrt_frames.specs.declared.frames.NextHeader.{NextHeader}
use Rattle.mrt_frames.specs.declared.frames.NextHeader.TheVariants as start
use Rattle.mrt_frames.specs.declared.frames.NextRecord.{NextRecord}
use Rattle.mrt_frames.specs.declared.frames.NextRecord.TheVariants as front

-- ---- octets, and records made of their parts

-- each element of the list is less than 256
abbrev pub IsOctets : List ℕ → Type 0
IsOctets octets = (i : ℕ) → slice_index octets i < 256

-- the record with this timestamp, type, subtype and body
abbrev pub record_from_fields : ℕ → ℕ → ℕ → List ℕ → Record
record_from_fields seconds kind subtype body = record { seconds = seconds; kind = kind; subtype = subtype; body = body }

-- the record with the timestamp, type and subtype of a header, and with this body
abbrev pub record_with_header : Header → List ℕ → Record
record_with_header header body = record_from_fields header.seconds header.kind header.subtype body

-- the record with the fields of `header` and the body at the start of `buffer`: as many octets as the header states,
-- or all where the buffer has fewer
abbrev pub record_in_buffer : Header → List ℕ → Record
record_in_buffer header buffer = record_with_header header (take header.size buffer)

-- ---- the octets that calls take from an input, where it knows those that are left

-- a call took `octets` off the front of what an input had left, `old`, so that `new` is left, and raised the number
-- of octets taken in all from `before` to `after` by theirs. Of an input that doesn't know its octets (`None`) only
-- the latter is required
abbrev pub Takes : Option (List ℕ) → Option (List ℕ) → ℕ → ℕ → List ℕ → Type 0
Takes old new before after octets = Consumes old new octets × (after ≡ before + length octets)

-- the error of a source for an error of reading octets: `Read` for `InputFailed`, and `InputTooLong` for `PastLimit`
abbrev pub source_fault : TakeFault → SourceFault
source_fault InputFailed = Read
source_fault PastLimit = InputTooLong

-- the result with its error, if it has one, turned into the error of a source by `source_fault`
abbrev pub source_answer : {A : Type 0} → Result A TakeFault → Result A SourceFault
source_answer (Ok answer) = Ok answer
source_answer (Err fault) = Err (source_fault fault)

-- a source may fail with this error when it has taken `taken` octets in all, of at most `limit`: with `InputTooLong`
-- only at the limit, with `Spent` never, and with the others anywhere up to it
abbrev pub MayFailAt : SourceFault → ℕ → ℕ → Type 0
MayFailAt InputTooLong taken limit = taken ≡ limit
MayFailAt Spent taken limit = ⊥
MayFailAt other taken limit = taken ≤ limit

-- a call that fills `size` octets of a buffer, which then has the octets `buffer`, returned this result. The input
-- had `old` left before and has `new` left then; the number of octets taken in all rose from `before` to `after`. On
-- `Ok` at most `limit` octets were taken in all, and those of this call, fewer than `size` only at the end of the
-- input, are the first of the buffer, as many as it returns. On `Err` fewer than `size` were taken, which needn't be in the buffer, and the error fits `after` and
-- `limit` (`MayFailAt`).
abbrev pub FillsWithinLimit : Option (List ℕ) → Option (List ℕ) → ℕ → ℕ → List ℕ → ℕ → ℕ → Result ℕ SourceFault → Type 0
FillsWithinLimit old new before after buffer size limit (Ok count) = (count ≤ size) × (after ≤ limit) × Takes old new before after (take count buffer) × (count < size → IsAtEnd new)
FillsWithinLimit old new before after buffer size limit (Err fault) = (front : List ℕ) × (length front < size) × MayFailAt fault after limit × Takes old new before after front

-- whether the result is the error `Read`: a read of the input failed
abbrev pub is_err_read : {A : Type 0} → Result A SourceFault → Bool
is_err_read (Err Read) = true
is_err_read other = false

-- ---- what the reader of records takes from its input, by what it returns

-- the octets are the rest of an input that has `left` left: they begin with no whole record, and the input ends after
-- them unless a header in them states too much
pub record EndsAt (left : Option (List ℕ)) (octets : List ℕ) : Type 0 where
  pub rest : IsRest octets
  pub seen : StatesNoExcess octets → IsAtEnd left

-- a call took octets from an input, of which `old` was left before and `new` is left after it, raised the number of
-- octets taken in all from `before` to `after`, and `AreSo` holds of `new`, of `after` and of these octets
abbrev pub TakesOctets : (Option (List ℕ) → ℕ → List ℕ → Type 0) → Option (List ℕ) → Option (List ℕ) → ℕ → ℕ → Type 0
TakesOctets AreSo old new before after = (octets : List ℕ) × Takes old new before after octets × AreSo new after octets

-- `octets` are those taken by a call that reads a header and returned this result: those of the header; or what is
-- read of the input after its last whole record, with its fault; or, on error, the beginning of a record. `left` is
-- what the input has left then; an error fits `limit` and `taken`, the number of octets taken in all (`MayFailAt`).
abbrev pub AreOctetsOfHeaderOrRest : ℕ → Result NextHeader SourceFault → Option (List ℕ) → ℕ → List ℕ → Type 0
AreOctetsOfHeaderOrRest limit (Ok (start.Header header)) left taken octets = FitsHeader header.seconds header.kind header.subtype header.size × (octets ≡ header_octets header.seconds header.kind header.subtype header.size)
AreOctetsOfHeaderOrRest limit (Ok (start.Rest kind)) left taken octets = EndsAt left octets × (kind ≡ rest_fault octets)
AreOctetsOfHeaderOrRest limit (Err fault) left taken octets = IsUnfinished octets × MayFailAt fault taken limit

-- `octets` are those taken by a call that reads a body of `size` octets into the start of `buffer` and returned this
-- result: the whole body on `true`, and fewer octets otherwise, to the end of the input on `false`. `left` is what
-- the input has left then; an error fits `limit` and `taken`, the number of octets taken in all (`MayFailAt`).
abbrev pub AreOctetsOfBody : ℕ → List ℕ → ℕ → Result Bool SourceFault → Option (List ℕ) → ℕ → List ℕ → Type 0
AreOctetsOfBody limit buffer size (Ok true) left taken octets = (octets ≡ take size buffer) × (length octets ≡ size)
AreOctetsOfBody limit buffer size (Ok false) left taken octets = IsAtEnd left × (length octets < size)
AreOctetsOfBody limit buffer size (Err fault) left taken octets = (length octets < size) × MayFailAt fault taken limit

-- `octets` are those taken by a call that skips a body of `size` octets and returned this result: the whole body on
-- `true`, and fewer octets otherwise, to the end of the input on `false`. `left` is what the input has left then; an
-- error fits `limit` and `taken`, the number of octets taken in all (`MayFailAt`).
abbrev pub AreOctetsOfSkippedBody : ℕ → ℕ → Result Bool SourceFault → Option (List ℕ) → ℕ → List ℕ → Type 0
AreOctetsOfSkippedBody limit size result left taken octets = AreOctetsOfBody limit octets size result left taken octets

-- `octets` are those taken by a call that reads a record and returned this result: those of a record for whose type
-- and subtype `format_at` has a format, and whose body is at the start of `buffer`; those of a record without a
-- format, which was skipped; what is read of the input after its last whole record, with its fault; or, on error, the
-- beginning of a record. `left` is what the input has left then; an error fits `limit` and `taken`, the number of
-- octets taken in all (`MayFailAt`).
abbrev pub AreOctetsOfRecordOrRest : {F : Type 0} → (ℕ → ℕ → Option F) → ℕ → List ℕ → Result (NextRecord F) SourceFault → Option (List ℕ) → ℕ → List ℕ → Type 0
AreOctetsOfRecordOrRest format_at limit buffer (Ok (front.Record header form)) left taken octets =
    (format_at header.kind header.subtype ≡ Some form) × (length (take header.size buffer) ≡ header.size) × IsRecord (record_in_buffer header buffer) × (octets ≡ spelling (record_in_buffer header buffer))
AreOctetsOfRecordOrRest format_at limit buffer (Ok (front.Skipped header)) left taken octets =
    (format_at header.kind header.subtype ≡ None) × ((body : List ℕ) × IsRecord (record_with_header header body) × (octets ≡ spelling (record_with_header header body)))
AreOctetsOfRecordOrRest format_at limit buffer (Ok (front.Rest kind)) left taken octets = EndsAt left octets × (kind ≡ rest_fault octets)
AreOctetsOfRecordOrRest format_at limit buffer (Err fault) left taken octets = IsUnfinished octets × MayFailAt fault taken limit

-- ---- what reads take from a buffer that has enough

-- a call that fills the first `size` octets of a slice, whose octets then are `octets`, from an input that had `old`
-- buffered before and has `new` then: if `old` has at least `size`, no read of the input fails, and on `Ok` all
-- `size` are filled, with the first of `old`, after which `new` is left
abbrev pub FillsBuffered : List ℕ → List ℕ → List ℕ → ℕ → Result ℕ SourceFault → Type 0
FillsBuffered old new octets size result =
    size ≤ length old → (is_err_read result ≡ false) × IfOk result (λ count. (count ≡ size) × (old ≡ take size octets ++ new))

-- a call that reads a header, from an input that had `old` buffered before and has `new` then, returned this result:
-- a header, whose octets and then `new` make up `old`; or an error, but not `Read`; never a rest
abbrev pub StartsBuffered : List ℕ → List ℕ → Result NextHeader SourceFault → Type 0
StartsBuffered old new (Ok (start.Header header)) = old ≡ header_octets header.seconds header.kind header.subtype header.size ++ new
StartsBuffered old new (Ok (start.Rest kind)) = ⊥
StartsBuffered old new (Err fault) = is_err_read {A = NextHeader} (Err fault) ≡ false
