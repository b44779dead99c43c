-- What a run writes goes through the buffers to the writers.
use Rattle.std.proofs.Common.{◌≡◌, ◌∙◌, ◌⊎◌, ap, sym, refl, subst, inl, inr, IsNone, List, [], ◌++◌, ℕ, Option, Some, None, IfSome}
use Rattle.std.specs.Io.KnownBytes.{Appends, Keeps}
use Rattle.std.proofs.KnownBytes.{Appends-kept}
use Rattle.mrt_wire.specs.declared.Stamp.{Stamp}
use Rattle.bgpdump_tool.specs.Run.{AppendsPrefix, EndedByInputFault, EndsWithTexts, Outputs, Texts, Writes, WritesPrefixes, outputs_of}
use Rattle.bgpdump_tool.specs.declared.Outcome.{Outcome}
use Rattle.bgpdump_tool.specs.declared.Outcome.TheVariants.{Done, Reported, ReadFault, WriteFault, InputTooLong, ScriptTooLong, Memory}
use Rattle.mrt_wire.specs.Results.{RecordResult}
use Rattle.bgpdump_tool.specs.Run.{all_results}
use Rattle.bgpdump.specs.declared.run.Devices.{Devices}
use Rattle.bgpdump.specs.declared.run.FinishedRun.{FinishedRun}
use Rattle.bgpdump.specs.Endings.{outcome_without_writers, KeepsBoth, HoldsForWriters, LeavesTexts, WritersHoldTexts}

-- ---- what stays behind a text

AppendsPrefix-kept : (a b c : Option (List ℕ)) (text : List ℕ) → AppendsPrefix a b text → Keeps b c → AppendsPrefix a c text
AppendsPrefix-kept a b c text appended kept = record { front = appended.front; back = appended.back; whole = appended.whole; appended = Appends-kept a b c appended.front appended.appended kept }

Writes-kept : (texts : Texts) (old mid new : Outputs) → Writes texts old mid → KeepsBoth mid new → Writes texts old new
Writes-kept texts old mid new wrote kept = (Appends-kept old.out mid.out new.out texts.out wrote.0 kept.0, Appends-kept old.err mid.err new.err texts.err wrote.1 kept.1)

fronts_kept : (texts : Texts) (old mid new : Outputs) → WritesPrefixes texts old mid → KeepsBoth mid new → WritesPrefixes texts old new
fronts_kept texts old mid new wrote kept = (AppendsPrefix-kept old.out mid.out new.out texts.out wrote.0 kept.0, AppendsPrefix-kept old.err mid.err new.err texts.err wrote.1 kept.1)

EndsWithTexts-kept : (outcome : Outcome) (texts : Texts) (old mid new : Outputs) → EndsWithTexts outcome texts old mid → KeepsBoth mid new → EndsWithTexts outcome texts old new
EndsWithTexts-kept Done texts old mid new ends kept = (ends.0, Writes-kept texts old mid new ends.1 kept)
EndsWithTexts-kept Reported texts old mid new ends kept = (ends.0, Writes-kept texts old mid new ends.1 kept)
EndsWithTexts-kept ReadFault texts old mid new ends kept = fronts_kept texts old mid new ends kept
EndsWithTexts-kept WriteFault texts old mid new ends kept = fronts_kept texts old mid new ends kept
EndsWithTexts-kept InputTooLong texts old mid new ends kept = fronts_kept texts old mid new ends kept
EndsWithTexts-kept Memory texts old mid new ends kept = fronts_kept texts old mid new ends kept
EndsWithTexts-kept ScriptTooLong texts old mid new ends kept = absurd ends

-- ---- what the writers are left with

-- a run that ended so is told as such, unless the writers are gone
abbrev pub IsTold : {W : Type 0} → Outcome → Outcome → Option W → Type 0
IsTold outcome told writers = IfSome writers (λ both. told ≡ outcome)

pub leaves_ended : {O E : Type 0} (contents : O → Option (List ℕ)) (contents' : E → Option (List ℕ)) (before old mid : Outputs) (outcome told : Outcome) (texts : Texts) (writers : Option (O × E))
    → old ≡ before → EndsWithTexts outcome texts old mid → IsTold outcome told writers → HoldsForWriters contents contents' (KeepsBoth mid) writers → HoldsForWriters contents contents' (EndsWithTexts told texts before) writers
leaves_ended contents contents' before old mid outcome told texts None is ends same kept = tt
leaves_ended contents contents' before old mid outcome told texts (Some both) is ends same kept =
    let new = outputs_of contents contents' both.0 both.1 in
    subst (λ o. EndsWithTexts told texts o new) is (subst (λ t. EndsWithTexts t texts old new) (sym same) (EndsWithTexts-kept outcome texts old mid new ends kept))

pub leaves_written : {O E : Type 0} (contents : O → Option (List ℕ)) (contents' : E → Option (List ℕ)) (before old mid : Outputs) (outcome told : Outcome) (texts : Texts) (writers : Option (O × E))
    → old ≡ before → EndedByInputFault told → (EndedByInputFault outcome → Writes texts old mid) → IsTold outcome told writers → HoldsForWriters contents contents' (KeepsBoth mid) writers → HoldsForWriters contents contents' (Writes texts before) writers
leaves_written contents contents' before old mid outcome told texts None is by wrote same kept = tt
leaves_written contents contents' before old mid outcome told texts (Some both) is by wrote same kept =
    let new = outputs_of contents contents' both.0 both.1 in
    subst (λ o. Writes texts o new) is (Writes-kept texts old mid new (wrote (subst EndedByInputFault same by)) kept)

-- a run that wrote nothing
pub leaves_untouched : {O E : Type 0} (contents : O → Option (List ℕ)) (contents' : E → Option (List ℕ)) (before old mid : Outputs) (writers : Option (O × E))
    → old ≡ before → mid ≡ old → HoldsForWriters contents contents' (KeepsBoth mid) writers → HoldsForWriters contents contents' (KeepsBoth before) writers
leaves_untouched contents contents' before old mid writers is stays kept = subst (λ o. HoldsForWriters contents contents' (KeepsBoth o) writers) (stays ∙ is) kept

-- what holds of an input that came back
pub of_input : {I : Type 0} (P : I → Type 0) (input : Option I) (left : I) → input ≡ Some left → P left → IfSome input P
of_input P input left is holds = subst (λ i. IfSome i P) (sym is) holds

-- without writers a run is told as one of these two
pub lost_outcomes : (outcome : Outcome) → (outcome_without_writers outcome ≡ WriteFault) ⊎ (outcome_without_writers outcome ≡ Memory)
lost_outcomes Done = inl refl
lost_outcomes Reported = inl refl
lost_outcomes ReadFault = inl refl
lost_outcomes WriteFault = inl refl
lost_outcomes InputTooLong = inl refl
lost_outcomes ScriptTooLong = inl refl
lost_outcomes Memory = inr refl

-- a run that the input ended is told as such
pub told_by_input : {W : Type 0} (outcome told : Outcome) (writers : Option W) → IsTold outcome told writers → (IsNone writers → told ≡ outcome_without_writers outcome) → EndedByInputFault told → told ≡ outcome
told_by_input outcome told (Some both) same lost by = same
told_by_input outcome told None same lost by = elim (lost_outcomes outcome) [
  | inl fault ↦ absurd (subst EndedByInputFault (lost refl ∙ fault) by)
  | inr memory ↦ absurd (subst EndedByInputFault (lost refl ∙ memory) by)
]

-- and it is, unless the writers are gone
pub told_unless_lost : {W : Type 0} (outcome told ended : Outcome) (writers : Option W) → IsTold outcome told writers → outcome ≡ ended → (told ≡ ended) ⊎ IsNone writers
told_unless_lost outcome told ended (Some both) same is = inl (same ∙ is)
told_unless_lost outcome told ended None same is = inr refl

-- ---- what writers hold that held nothing before

-- over known octets a run leaves just its texts
pub hold_texts : {R O E : Type 0} (devices : Devices R O E) (ended : FinishedRun R O E) (remaining : R → Option (List ℕ)) (contents : O → Option (List ℕ)) (contents' : E → Option (List ℕ)) (stamp : Stamp) (texts : List RecordResult → Texts) (octets : List ℕ)
    → remaining devices.reader ≡ Some octets → contents devices.out ≡ Some [] → contents' devices.err ≡ Some [] → LeavesTexts remaining contents contents' stamp texts devices ended → WritersHoldTexts contents contents' stamp texts octets ended
hold_texts devices ended remaining contents contents' stamp texts octets known none none' leaves frames rest splits =
    let with_out : Option (List ℕ) → Outputs = λ out. record { out = out; err = contents' devices.err } in
    let with_err : Option (List ℕ) → Outputs = λ err. record { out = Some []; err = err } in
    let same : outputs_of contents contents' devices.out devices.err ≡ with_err (Some []) = ap with_out none ∙ ap with_err none' in
    subst (λ outputs. HoldsForWriters contents contents' (EndsWithTexts ended.outcome (texts (all_results stamp frames rest)) outputs) ended.writers) same (leaves octets frames rest known splits)
