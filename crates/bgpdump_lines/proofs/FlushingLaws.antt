-- Where a read failed, both outputs were flushed before it.
use Rattle.std.proofs.Common.{◌≡◌, ℕ, List, Option, Bool, true, false, IsTrue, Result, Ok, Err, inl, inr, refl}
use Rattle.mrt_wire.specs.declared.SourceFault.{SourceFault}
use Rattle.mrt_wire.specs.declared.SourceFault.TheVariants.{Read, InputTooLong, Memory, Spent}
use Rattle.mrt_wire.specs.declared.next.Next.{Next}
use Rattle.mrt_wire.specs.declared.next.Next.TheVariants.{End}
use Rattle.mrt_wire.specs.declared.next.Phase.{Phase}
use Rattle.mrt_wire.specs.declared.next.Phase.TheVariants as phase
use Rattle.mrt_wire.specs.Taken.{is_err_read}
use Rattle.mrt_wire.specs.Buffered.{HoldsRecord}
use Rattle.bgpdump_lines.specs.declared.outcome.Outcome.{Outcome}
use Rattle.bgpdump_lines.specs.Flushing.{AreFlushed}
use Rattle.bgpdump_lines.specs.WrittenSoFar.{IsReadyToRead, is_read_fault, outcome_of_source_fault}

-- a read that failed was one of a record that isn't buffered, so both outputs were flushed before it
pub AreFlushed-failed : (A : Type 0) → (buffered : List ℕ) (out err : Option (List ℕ)) (fault : SourceFault) (answer : Result Next SourceFault) → answer ≡ Err fault → IsReadyToRead buffered out err
    → (HoldsRecord buffered → is_err_read answer ≡ false) → IsTrue (is_read_fault {A = A} (Err (outcome_of_source_fault fault))) → AreFlushed out err
AreFlushed-failed A buffered out err Read answer is (inl holds) sound failed = absurd (cc (rw is at (sound holds)))
AreFlushed-failed A buffered out err Read answer is (inr flushed) sound failed = flushed
AreFlushed-failed A buffered out err InputTooLong answer is ready sound failed = absurd (cc failed)
AreFlushed-failed A buffered out err Memory answer is ready sound failed = absurd (cc failed)
AreFlushed-failed A buffered out err Spent answer is ready sound failed = absurd (cc failed)

-- a source that reads no more has no failed read
pub AreFlushed-phase : (A : Type 0) → (at : Phase) (buffered : List ℕ) (out err : Option (List ℕ)) (fault : SourceFault) (answer : Result Next SourceFault) → answer ≡ Err fault
    → (at ≡ phase.Reading → IsReadyToRead buffered out err) → (HoldsRecord buffered → is_err_read answer ≡ false) → (at ≡ phase.Ended → answer ≡ Ok End) → (at ≡ phase.Spent → answer ≡ Err Spent)
    → IsTrue (is_read_fault {A = A} (Err (outcome_of_source_fault fault))) → AreFlushed out err
AreFlushed-phase A phase.Reading buffered out err fault answer is ready sound ended spent failed = AreFlushed-failed A buffered out err fault answer is (ready refl) sound failed
AreFlushed-phase A phase.Ended buffered out err fault answer is ready sound ended spent failed = absurd (cc (is, ended refl))
AreFlushed-phase A phase.Spent buffered out err fault answer is ready sound ended spent failed =
    let same : fault ≡ Spent = cc (is, spent refl) in
    absurd (cc (rw same at failed))
