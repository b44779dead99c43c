-- MRT records, their octets, and what may be left of an input after its last whole record (RFC 6396, section 2).
use Rattle.std.specs.Prelude.{◌≡◌, ℕ, ◌<◌, ◌≤◌, ◌^◌, List, ◌++◌, length, Option, Some, None, [], ◌∷◌, take, drop, nat_lt, if◌then◌else◌, ◌⊎◌}
use Rattle.std.specs.Int.{to_be_bytes, w16, w32, from_be_bytes}
use Rattle.mrt_frames.specs.declared.header.TheConstants.{LONGEST_BODY, HEADER_SIZE}
use Rattle.mrt_frames.specs.declared.fault.RecordKind.{RecordKind}
use Rattle.mrt_frames.specs.declared.fault.RecordKind.TheVariants.{CutRecord, TooLong}

-- ---- MRT records and their octets (RFC 6396, section 2)

-- an MRT record: its timestamp in seconds, its type (`kind`), its subtype, and its body, whose length its header
-- states too
pub record Record : Type 0 where
  pub seconds : ℕ
  pub kind : ℕ
  pub subtype : ℕ
  pub body : List ℕ

-- the octets of a header with this timestamp, type, subtype and length of the body, each a big-endian number of 4, 2,
-- 2 and 4 octets
abbrev pub header_octets : ℕ → ℕ → ℕ → ℕ → List ℕ
header_octets seconds kind subtype size = to_be_bytes w32 seconds ++ (to_be_bytes w16 kind ++ (to_be_bytes w16 subtype ++ to_be_bytes w32 size))

-- the timestamp, type, subtype and length of a header each fit the octets that they have there
pub record FitsHeader (seconds kind subtype size : ℕ) : Type 0 where
  pub seconds_fit : seconds < 2 ^ 32
  pub kind_fits : kind < 2 ^ 16
  pub subtype_fits : subtype < 2 ^ 16
  pub size_fits : size < 2 ^ 32

-- the octets of a record: its header, and then its body
abbrev pub spelling : Record → List ℕ
spelling r = header_octets r.seconds r.kind r.subtype (length r.body) ++ r.body

-- the fields of the record fit its header, and its body has at most 16,777,216 octets
pub record IsRecord (r : Record) : Type 0 where
  pub header : FitsHeader r.seconds r.kind r.subtype (length r.body)
  pub size : length r.body ≤ LONGEST_BODY

-- the octets begin with no whole record whose body has at most 16,777,216 octets; they may begin with a part of one,
-- or be empty
abbrev pub BeginsWithNoRecord : List ℕ → Type 0
BeginsWithNoRecord octets = (r : Record) (more : List ℕ) → IsRecord r → octets ≡ spelling r ++ more → ⊥

-- ---- the rest: the octets after the last whole record, and their fault

-- the length of the body that a header states, where the octets begin with that header: their octets 8 to 11 as a
-- big-endian number. It means nothing of fewer than 12 octets
abbrev pub stated_body_size : List ℕ → ℕ
stated_body_size octets = from_be_bytes w32 (take 4 (drop 8 octets))

-- the fault of `rest`, the octets after the last whole record of an input: `TooLong`, with the stated length, if they
-- begin with a header that states more than 16,777,216 octets, and `CutRecord` otherwise. An empty `rest` has no
-- fault (`rest_fault`), though this is `CutRecord` of it
abbrev pub rest_fault_kind : List ℕ → RecordKind
rest_fault_kind rest =
    if nat_lt (length rest) HEADER_SIZE then CutRecord
    else (if nat_lt LONGEST_BODY (stated_body_size rest) then TooLong (stated_body_size rest) else CutRecord)

-- the fault of the octets after the last whole record of an input, `TooLong` or `CutRecord`, as `rest_fault_kind`
-- says; `None` if there are no such octets, which is the proper end of the input
abbrev pub rest_fault : List ℕ → Option RecordKind
rest_fault [] = None
rest_fault (octet ∷ octets) = Some (rest_fault_kind (octet ∷ octets))

-- no length above the limit is stated: the octets begin with no whole header, or with one that states at most
-- 16,777,216 octets
abbrev pub StatesNoExcess : List ℕ → Type 0
StatesNoExcess octets = rest_fault_kind octets ≡ CutRecord

-- ---- what the reader of records took without reading a whole record

-- the octets may be all that is read after the last whole record of an input: they begin with no whole record, and if
-- they begin with a header that states more than 16,777,216 octets, they are just this header
pub record IsRest (octets : List ℕ) : Type 0 where
  pub none : BeginsWithNoRecord octets
  pub stops : StatesNoExcess octets ⊎ (length octets ≡ HEADER_SIZE)

-- the octets, maybe none, may become a whole record as more octets follow: they begin with no whole record, and not
-- with a header that states more than 16,777,216 octets
pub record IsUnfinished (octets : List ℕ) : Type 0 where
  pub none : BeginsWithNoRecord octets
  pub cut : StatesNoExcess octets
