-- Private.
-- What holds whichever octets an input may hold also holds for the octets that an input shows.
use Rattle.std.specs.Prelude.{ℕ, List, ◌++◌, ◌≡◌, Option, Some, None}
use Rattle.std.proofs.Common.{ap, refl}
use Rattle.std.specs.Io.KnownBytes.{Consumes}
use Rattle.mrt_events.specs.declared.stamp.Stamp.{Stamp}
use Rattle.mrt_wire.specs.Results.{Frame, RecordResult, TakesFront}
use Rattle.bgpdump_lines.specs.declared.outcome.Outcome.{Outcome}
use Rattle.bgpdump_lines.specs.Run.{EndsOnKnownInput, EndsForAllContents, MayHold, Outputs, Texts}

-- Of an input that shows `octets`, what is left after `taken` are taken: the octets after these.
taken_of : (old new : Option (List ℕ)) (octets taken : List ℕ) → old ≡ Some octets → Consumes old new taken → (after : List ℕ) × TakesFront old new taken after × (octets ≡ taken ++ after)
taken_of None new octets taken is consumed = cc
taken_of (Some xs) None octets taken is consumed = absurd consumed
taken_of (Some xs) (Some ys) octets taken is consumed = (ys, record { before = ap (λ o. Some o) consumed; now = refl }, cc)

-- The octets that an input shows are octets that it may hold in all, in the sense of `MayHold`.
held_octets : (stamp : Stamp) (Saw : List Frame → List ℕ → Type 0) (old new : Option (List ℕ)) (octets taken : List ℕ) → old ≡ Some octets → Consumes old new taken → MayHold stamp Saw old new octets
held_octets stamp Saw old new octets taken is consumed =
    let known = taken_of old new octets taken is consumed in
    record { taken = taken; after = known.0; more = known.0; took = known.1; whole = known.2; follows = λ frames rest splits saw none. none }

-- A theorem: what `EndsForAllContents` says of a run, for all octets that its input may hold, implies what
-- `EndsOnKnownInput` says of it, for the octets `left` that the input showed before it. The run took the octets
-- `taken`, and left `left_after`.
pub ends_on_octets : (stamp : Stamp) (outcome : Outcome) (Saw : List Frame → List ℕ → Type 0) (texts : List RecordResult → Texts) (left left_after : Option (List ℕ)) (old new : Outputs) (taken : List ℕ)
    → Consumes left left_after taken → EndsForAllContents stamp outcome Saw texts left left_after old new → EndsOnKnownInput stamp outcome texts left old new
ends_on_octets stamp outcome Saw texts left left_after old new taken consumed ends octets frames rest is splits =
    ends octets frames rest (held_octets stamp Saw left left_after octets taken is consumed) splits
