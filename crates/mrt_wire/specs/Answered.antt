-- Private.
-- What a source returns: from one state to another, and in a call of `next`.
use Rattle.std.specs.Prelude.{◌≡◌, ℕ, ◌+◌, Bool, true, false, List, [], ◌∷◌, ◌++◌, length, Option, ◌⊎◌, Result, Ok, Err, take}
use Rattle.std.specs.Io.KnownBytes.{Consumes}
use Rattle.mrt_wire.specs.declared.next.Phase.{Phase}
use Rattle.mrt_wire.specs.declared.next.Phase.TheVariants.{Reading, Ended, Spent}
use Rattle.mrt_wire.specs.Results.{Frame, ReadsAs, PeerTable, AreFrames, spellings, RecordResult, SourceState, state_after, results, Found, Bad, record_result, fault_if_any, TakesFront, Splits}
use Rattle.mrt_frames.specs.Taken.{EndsAt, MayFailAt}
use Rattle.mrt_frames.specs.declared.fault.RecordKind.TheVariants.{CutRecord}
use Rattle.mrt_frames.specs.declared.fault.SourceFault.{SourceFault}
use Rattle.mrt_frames.specs.declared.fault.SourceFault.TheVariants.{Memory}
use Rattle.mrt_frames.specs.Record.{Record, spelling, IsRecord, rest_fault, IsUnfinished}
use Rattle.mrt_wire.specs.declared.next.Next.{Next}
use Rattle.mrt_events.specs.declared.stamp.Stamp.{Stamp}
use Rattle.mrt_wire.specs.declared.next.Next.TheVariants as next

-- ---- what calls of `next` returned from one state of a source to another

-- the state of a source that was in state `old` after the records of these frames (with their outcomes), in order
abbrev pub state_after_all : SourceState → List Frame → SourceState
state_after_all old [] = old
state_after_all old (frame ∷ frames) = state_after_all (state_after old frame) frames

-- `rest` is what a source in this phase may have taken after the last whole record, with `left` left of its input
-- then: no octets while it reads, and what is read up to its end (`EndsAt`) where it has ended. It holds of no octets
-- where the source has failed.
abbrev pub MayBeRestIn : Phase → Option (List ℕ) → List ℕ → Type 0
MayBeRestIn Reading left rest = rest ≡ []
MayBeRestIn Ended left rest = EndsAt left rest
MayBeRestIn Spent left rest = ⊥

-- from state `old` to state `new` calls of `next` returned the results `found`, and took the octets of frames and
-- maybe of a rest off the front of an input, which had `left` before and has `left_after` afterwards
pub record HasAnswered (old new : SourceState) (left left_after : Option (List ℕ)) (found : List RecordResult) : Type 0 where
  pub frames : List Frame
  pub rest : List ℕ
  pub are_frames : AreFrames old.stamp old.index frames
  pub consumed : Consumes left left_after (spellings frames ++ rest)
  pub found_is : found ≡ results old frames rest
  pub index : new.index ≡ (state_after_all old frames).index
  pub number : new.number ≡ (state_after_all old frames).number
  pub offset : new.offset ≡ old.offset + length (spellings frames ++ rest)
  pub limit : new.limit ≡ old.limit
  pub stamp : new.stamp ≡ old.stamp
  pub rest_is : MayBeRestIn new.phase left_after rest

-- true of an empty list of results
abbrev pub is_nothing : List RecordResult → Bool
is_nothing [] = true
is_nothing (record_result ∷ found) = false

-- ---- what one call of `next` returns

-- what `next` returned as a list of results: its event or its fault alone, and none where it returned the end
abbrev pub answer_results : Next → List RecordResult
answer_results (next.Event event) = Found event ∷ []
answer_results (next.Bad fault) = Bad fault ∷ []
answer_results next.End = []

-- the state of a source that took these octets in state `old`, read no whole record, and is then in phase `phase`:
-- the offset is greater by their number, and all else is as in `old`
abbrev pub stopped_state : Phase → SourceState → List ℕ → SourceState
stopped_state phase old octets =
    record { index = old.index; number = old.number; offset = old.offset + length octets; limit = old.limit; stamp = old.stamp; phase = phase }

-- the state `new`, or, where the call returned an error, `new` with phase `Spent`
abbrev pub state_after_call : SourceState → Result Next SourceFault → SourceState
state_after_call new (Ok answer) = new
state_after_call new (Err fault) = record { index = new.index; number = new.number; offset = new.offset; limit = new.limit; stamp = new.stamp; phase = Spent }

-- in state `old` a call took `octets`, those of the record of `frame`, returned `answer`, its event or fault, and
-- left state `new`
pub record AnswersFrame (old new : SourceState) (answer : Next) (octets : List ℕ) (frame : Frame) : Type 0 where
  pub whole : octets ≡ spelling frame.mrt
  pub is_record : IsRecord frame.mrt
  pub reads : ReadsAs old.stamp old.index frame.mrt frame.outcome
  pub tells : answer_results answer ≡ record_result (old.number + 1) old.offset frame.outcome ∷ []
  pub state : new ≡ state_after old frame

-- in state `old` a call took `octets`, the rest of the input, returned its fault, or the end where it is empty, and
-- left state `new`. The input, which has `left` left, ends there, unless a header states too much.
pub record AnswersRest (old new : SourceState) (left : Option (List ℕ)) (answer : Next) (octets : List ℕ) : Type 0 where
  pub ends : EndsAt left octets
  pub tells : answer_results answer ≡ fault_if_any (old.number + 1) old.offset (rest_fault octets)
  pub state : new ≡ stopped_state Ended old octets

-- `octets` may be all that a call of `next` took before it failed with this error: the beginning of a record, maybe
-- empty, or, if memory allocation failed, maybe those of a whole record, whose outcome is open
abbrev pub IsUndecided : SourceFault → List ℕ → Type 0
IsUndecided fault octets = IsUnfinished octets ⊎ ((fault ≡ Memory) × ((r : Record) × IsRecord r × (octets ≡ spelling r)))

-- a call of `next` in phase `Reading` took `octets` from an input that has `left` left then, returned this result,
-- and changed the state from `old` to `new`: it read a whole record, or what is after the last one, or failed
abbrev pub NextReturns : SourceState → SourceState → Option (List ℕ) → List ℕ → Result Next SourceFault → Type 0
NextReturns old new left octets (Ok answer) = ((frame : Frame) × AnswersFrame old new answer octets frame) ⊎ AnswersRest old new left answer octets
NextReturns old new left octets (Err fault) = IsUndecided fault octets × MayFailAt fault new.offset old.limit × (new ≡ stopped_state Spent old octets)

-- a call of `next` in phase `Reading`, of an input that had `left` before and has `left_after` afterwards, took the
-- octets between, returned this result, and changed the state from `old` to `new` (`NextReturns`)
abbrev pub IsNextCall : SourceState → SourceState → Option (List ℕ) → Option (List ℕ) → Result Next SourceFault → Type 0
IsNextCall old new left left_after result = (octets : List ℕ) × Consumes left left_after octets × NextReturns old new left_after octets result

-- `more` may be the octets after those taken by a call that returned this: none after the end or the fault
-- `CutRecord`, which the end of the input makes, and any after another
abbrev pub MayBeLeftAfter : Next → List ℕ → Type 0
MayBeLeftAfter (next.Event event) more = Unit {0}
MayBeLeftAfter (next.Bad fault) more = fault.kind ≡ CutRecord → more ≡ []
MayBeLeftAfter next.End more = more ≡ []

-- what `next` returned in state `old` is the first of the results, from `old` on, of the octets that it took and then
-- any octets that may follow (`MayBeLeftAfter`), however these split into frames and a rest; where it returned the end,
-- there are no results. The input had `left` before and has `left_after` afterwards; of one that doesn't know its
-- octets this always holds.
abbrev pub IsFirstResult : SourceState → Option (List ℕ) → Option (List ℕ) → Next → Type 0
IsFirstResult old left left_after answer =
    (taken after more : List ℕ) (frames : List Frame) (rest : List ℕ) → TakesFront left left_after taken after → MayBeLeftAfter answer more
    → Splits old.stamp old.index (taken ++ more) frames rest → take 1 (results old frames rest) ≡ answer_results answer

-- the octets split in at most one way into frames, which are whole records with their outcomes, and a rest, with peer
-- index table `index` before the first; `stamp` chooses the times of table entries
abbrev pub SplitsOneWay : Stamp → PeerTable → List ℕ → Type 0
SplitsOneWay stamp index octets =
    (frames frames' : List Frame) (rest rest' : List ℕ) → Splits stamp index octets frames rest → Splits stamp index octets frames' rest' → (frames ≡ frames') × (rest ≡ rest')
