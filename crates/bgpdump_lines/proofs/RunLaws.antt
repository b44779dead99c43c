-- A run goes on.
use Rattle.std.proofs.Common.{◌≡◌, inl, inr, ℕ, ◌+◌, ◌≤◌, length, Result, Ok, Err, arith, append-nil, Bool, true, false, List, [], ◌∷◌, ◌++◌, ◌||◌, Option, Some, None, sym, ap, ◌∙◌, refl, subst}
use Rattle.std.proofs.KnownBytes.{Appends-nil}
use Rattle.mrt_wire.specs.declared.next.Next.{Next}
use Rattle.std.specs.Io.KnownBytes.{Consumes, Keeps}
use Rattle.mrt_wire.specs.declared.SourceFault.{SourceFault}
use Rattle.mrt_wire.specs.declared.next.Next.TheVariants as next
use Rattle.mrt_wire.specs.declared.next.Phase.{Phase}
use Rattle.mrt_wire.specs.declared.next.Phase.TheVariants.{Reading, Ended, Spent}
use Rattle.mrt_wire.specs.Taken.{MayFailAt}
use Rattle.mrt_wire.specs.declared.RecordKind.{RecordKind}
use Rattle.mrt_wire.specs.declared.RecordFault.{RecordFault}
use Rattle.mrt_wire.specs.Results.{RecordResult, Found, Bad, fault_if_any, SourceState}
use Rattle.mrt_wire.specs.Answered.{answer_results, NextReturns, HasAnswered, MayBeRestIn, is_nothing}
use Rattle.mrt_wire.proofs.SoFarLaws.{no_rest, HasAnswered-start, HasAnswered-answer, ends_with_none, Promises}
use Rattle.bgpdump_lines.specs.declared.fault.WriteFault.{WriteFault}
use Rattle.bgpdump_lines.specs.declared.fault.WriteFault.TheVariants.{Write, Memory}
use Rattle.bgpdump_lines.specs.Run.{dump_texts, Outputs, Writes, WritesPrefixes}
use Rattle.bgpdump_lines.specs.WrittenSoFar.{PutsResults, has_fault, WrittenSoFar, TookWithoutResult, TookUntilSourceFault, StopsAtSource, StopsAtPrefixes, StopsAtWriting}
use Rattle.bgpdump_lines.proofs.WritingLaws.{dump_texts-append, Writes-append, Writes-kept, WritesPrefixes-behind, WritesPrefixes-whole}

pub has_fault-append : (found more : List RecordResult) → has_fault (found ++ more) ≡ (has_fault found || has_fault more)
has_fault-append [] more = refl
has_fault-append (Found event ∷ found) more = has_fault-append found more
has_fault-append (Bad fault ∷ found) more = refl

pub WrittenSoFar-start : (p q : SourceState) (left : Option (List ℕ)) (outputs : Outputs) → q ≡ p → p.phase ≡ Reading → p.offset ≤ p.limit → WrittenSoFar p q left left outputs outputs false
WrittenSoFar-start p q left outputs same reading within = subst (λ q. WrittenSoFar p q left left outputs outputs false) (sym same) (record {
  found = [];
  so_far = HasAnswered-start p left reading;
  written = (Appends-nil outputs.out, Appends-nil outputs.err);
  reported_is = refl;
  within = within;
})

-- outputs that passed on what they held have what they had
pub WrittenSoFar-kept : (p q : SourceState) (left left' : Option (List ℕ)) (a b c : Outputs) (reported : Bool) → WrittenSoFar p q left left' a b reported → Keeps b.out c.out → Keeps b.err c.err → WrittenSoFar p q left left' a c reported
WrittenSoFar-kept p q left left' a b c reported g out err = record {
  found = g.found;
  so_far = g.so_far;
  written = Writes-kept (dump_texts g.found) a b c g.written out err;
  reported_is = g.reported_is;
  within = g.within;
}

-- or the run stops there
pub Stops-waiting : (p q : SourceState) (left left' : Option (List ℕ)) (a b : Outputs) (reported : Bool) → WrittenSoFar p q left left' a b reported → StopsAtWriting p left left' a b Write
Stops-waiting p q left left' a b reported g = record {
  place = q;
  found = g.found;
  so_far = g.so_far;
  within = g.within;
  fronts = WritesPrefixes-whole (dump_texts g.found) a b g.written;
}

-- an answer more was written
pub WrittenSoFar-answer : (p q q' : SourceState) (left left' left'' : Option (List ℕ)) (a b c : Outputs) (reported now : Bool) (answer : Next) → WrittenSoFar p q left left' a b reported → Promises q q' left' left'' answer
    → Writes (dump_texts (answer_results answer)) b c → now ≡ has_fault (answer_results answer) → q'.offset ≤ q'.limit → WrittenSoFar p q' left left'' a c (reported || now)
WrittenSoFar-answer p q q' left left' left'' a b c reported now answer g promised writes is_now within =
    let so_far = HasAnswered-answer p q q' left left' left'' g.found answer g.so_far promised in
    record {
      found = g.found ++ answer_results answer;
      so_far = so_far;
      written = subst (λ t. Writes t a c) (dump_texts-append g.found (answer_results answer)) (Writes-append (dump_texts g.found) (dump_texts (answer_results answer)) a b c g.written writes);
      reported_is = (λ i. g.reported_is i || is_now i) ∙ sym (has_fault-append g.found (answer_results answer));
      within = omega (arith, within, so_far.limit);
    }

-- an answer that tells nothing ends the run
pub WrittenSoFar-end : (p q q' : SourceState) (left left' left'' : Option (List ℕ)) (a b : Outputs) (reported : Bool) (answer : Next) → WrittenSoFar p q left left' a b reported → Promises q q' left' left'' answer
    → is_nothing (answer_results answer) ≡ true → q'.offset ≤ q'.limit → (x : SourceState) × (x.phase ≡ Ended) × WrittenSoFar p x left left'' a b reported
WrittenSoFar-end p q q' left left' left'' a b reported answer g promised none within =
    let nothing : answer_results answer ≡ [] = none_told (answer_results answer) none in
    let so_far = subst (λ f. HasAnswered p q' left left'' f) (ap (λ l. g.found ++ l) nothing ∙ append-nil g.found) (HasAnswered-answer p q q' left left' left'' g.found answer g.so_far promised) in (
      q',
      ends_with_none p q q' left left' left'' g.found answer g.so_far promised none,
      record { found = g.found; so_far = so_far; written = g.written; reported_is = g.reported_is; within = omega (arith, within, so_far.limit) },
    )
  where
    none_told : (found : List RecordResult) → is_nothing found ≡ true → found ≡ []
    none_told [] e = refl
    none_told (f ∷ found) e = cc

-- octets more were taken, of which nothing is told
abbrev pub TookWithoutResult-behind : (p q : SourceState) (left left' left'' : Option (List ℕ)) (found : List RecordResult) (octets : List ℕ) → HasAnswered p q left left' found → q.phase ≡ Reading → Consumes left' left'' octets
    → q.offset + length octets ≤ p.limit → TookWithoutResult p left left'' found
TookWithoutResult-behind p q left left' left'' found octets s reading taken within = record {
  place = q;
  mid = left';
  so_far = s;
  reading = reading;
  octets = octets;
  consumed = taken;
  within = within;
}

-- the source stops
pub TookUntilSourceFault-behind : (p q q' : SourceState) (left left' left'' : Option (List ℕ)) (found : List RecordResult) (fault : SourceFault) → HasAnswered p q left left' found
    → (q.phase ≡ Reading → (octets : List ℕ) × Consumes left' left'' octets × NextReturns q q' left'' octets (Err fault)) → (q.phase ≡ Ended → ◌≡◌ {A = Result Next SourceFault} (Err fault) (Ok next.End)) → q'.offset ≤ q'.limit
    → TookUntilSourceFault p left left'' found fault
TookUntilSourceFault-behind p q q' left left' left'' found fault s promised ended within = by_phase q.phase refl s.rest_is
  where
    at : q.phase ≡ Reading → (octets : List ℕ) × Consumes left' left'' octets × NextReturns q q' left'' octets (Err fault) → TookUntilSourceFault p left left'' found fault
    at is (octets, taken, (left_over, stops, place)) = record {
      untold = TookWithoutResult-behind p q left left' left'' found octets s is taken (omega (arith, within, ap (λ x. x.offset) place, ap (λ x. x.limit) place, s.limit));
      left_over = left_over;
      full = subst (λ n. MayFailAt fault n p.limit) (ap (λ x. x.offset) place) (subst (λ n. MayFailAt fault q'.offset n) s.limit stops);
    }

    by_phase : (phase : Phase) → q.phase ≡ phase → MayBeRestIn phase left' s.rest → TookUntilSourceFault p left left'' found fault
    by_phase Reading is rest = at is (promised is)
    by_phase Ended is rest = absurd (clash (ended is))
      where
        clash : ◌≡◌ {A = Result Next SourceFault} (Err fault) (Ok next.End) → ⊥
        clash e = cc
    by_phase Spent is rest = absurd rest

-- and with it the run
pub Stops-source : (p q q' : SourceState) (left left' left'' : Option (List ℕ)) (a b : Outputs) (reported : Bool) (fault : SourceFault) → WrittenSoFar p q left left' a b reported
    → (q.phase ≡ Reading → (octets : List ℕ) × Consumes left' left'' octets × NextReturns q q' left'' octets (Err fault)) → (q.phase ≡ Ended → ◌≡◌ {A = Result Next SourceFault} (Err fault) (Ok next.End)) → q'.offset ≤ q'.limit
    → StopsAtSource p left left'' a b fault
Stops-source p q q' left left' left'' a b reported fault g promised ended within = record {
  found = g.found;
  faulty = TookUntilSourceFault-behind p q q' left left' left'' g.found fault g.so_far promised ended within;
  written = g.written;
}

-- fronts of what an answer tells are written
abbrev Stops-fronts : (p q q' : SourceState) (left left' left'' : Option (List ℕ)) (a b c : Outputs) (reported : Bool) (answer : Next) → WrittenSoFar p q left left' a b reported → Promises q q' left' left'' answer
    → WritesPrefixes (dump_texts (answer_results answer)) b c → q'.offset ≤ q'.limit → StopsAtPrefixes p left left'' a c
Stops-fronts p q q' left left' left'' a b c reported answer g promised fronts within =
    let so_far = HasAnswered-answer p q q' left left' left'' g.found answer g.so_far promised in
    record {
      place = q';
      found = g.found ++ answer_results answer;
      so_far = so_far;
      within = omega (arith, within, so_far.limit);
      fronts = subst (λ t. WritesPrefixes t a c) (dump_texts-append g.found (answer_results answer)) (WritesPrefixes-behind (dump_texts g.found) (dump_texts (answer_results answer)) a b c g.written fronts);
    }

-- an answer that tells something is one of a source that reads
told_reading : (p q q' : SourceState) (left left' left'' : Option (List ℕ)) (found : List RecordResult) (answer : Next) → HasAnswered p q left left' found → Promises q q' left' left'' answer → is_nothing (answer_results answer) ≡ false → q.phase ≡ Reading
told_reading p q q' left left' left'' found answer s promised some = by_phase q.phase refl s.rest_is
  where
    none : true ≡ false → ⊥
    none e = cc

    by_phase : (phase : Phase) → q.phase ≡ phase → MayBeRestIn phase left' s.rest → q.phase ≡ Reading
    by_phase Reading is rest = is
    by_phase Ended is rest = absurd (none (sym (ap is_nothing (promised.1 is).0) ∙ some))
    by_phase Spent is rest = absurd rest

-- the writing stops the run, at an answer that tells something
pub Stops-writing : (p q q' : SourceState) (left left' left'' : Option (List ℕ)) (a b c : Outputs) (reported : Bool) (answer : Next) (fault : WriteFault) → WrittenSoFar p q left left' a b reported → Promises q q' left' left'' answer
    → is_nothing (answer_results answer) ≡ false → PutsResults {A = Bool} (answer_results answer) b c (Err fault) → q'.offset ≤ q'.limit → StopsAtWriting p left left'' a c fault
Stops-writing p q q' left left' left'' a b c reported answer Write g promised some fronts within = Stops-fronts p q q' left left' left'' a b c reported answer g promised fronts within
Stops-writing p q q' left left' left'' a b c reported answer Memory g promised some (inl same) within = subst (λ x. StopsAtWriting p left left'' a x Memory) (sym same) (by_answer reading (promised.0 reading))
  where
    reading : q.phase ≡ Reading
    reading = told_reading p q q' left left' left'' g.found answer g.so_far promised some

    by_answer : q.phase ≡ Reading → (octets : List ℕ) × Consumes left' left'' octets × NextReturns q q' left'' octets (Ok answer) → StopsAtWriting p left left'' a b Memory
    by_answer is (octets, taken, inl (frame, at)) = inl (
      record { found = g.found; untold = TookWithoutResult-behind p q left left' left'' g.found octets g.so_far is taken (omega (arith, within, ap length at.whole, ap (λ x. x.offset) at.state, ap (λ x. x.limit) at.state, g.so_far.limit)); written = g.written },
      inr (frame.mrt, at.is_record, at.whole),
    )
    by_answer is (octets, taken, inr at) = inl (
      record { found = g.found; untold = TookWithoutResult-behind p q left left' left'' g.found octets g.so_far is taken (omega (arith, within, ap (λ x. x.offset) at.state, ap (λ x. x.limit) at.state, g.so_far.limit)); written = g.written },
      inl at.ends.rest,
    )
Stops-writing p q q' left left' left'' a b c reported answer Memory g promised some (inr (event, is_event, fronts)) within =
    let reading = told_reading p q q' left left' left'' g.found answer g.so_far promised some in
    let stop = Stops-fronts p q q' left left' left'' a b c reported answer g promised fronts within in
    inr (stop, no_rest p q' left left'' stop.found stop.so_far (by_answer reading (promised.0 reading)))
  where
    by_findings : (found : List RecordResult) (number offset : ℕ) (kind : Option RecordKind) → found ≡ Found event ∷ [] → found ≡ fault_if_any number offset kind → ⊥
    by_findings found number offset None e f = clash (sym e ∙ f)
      where
        clash : ◌≡◌ {A = List RecordResult} (Found event ∷ []) [] → ⊥
        clash e = cc
    by_findings found number offset (Some kind) e f = clash _ (sym e ∙ f)
      where
        clash : (bad : RecordFault) → ◌≡◌ {A = List RecordResult} (Found event ∷ []) (Bad bad ∷ []) → ⊥
        clash bad e = cc

    by_answer : q.phase ≡ Reading → (octets : List ℕ) × Consumes left' left'' octets × NextReturns q q' left'' octets (Ok answer) → q'.phase ≡ Reading
    by_answer is (octets, taken, inl (frame, at)) = ap (λ x. x.phase) at.state ∙ is
    by_answer is (octets, taken, inr at) = absurd (by_findings (answer_results answer) _ _ _ is_event at.tells)
