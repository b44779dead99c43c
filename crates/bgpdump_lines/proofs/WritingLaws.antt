-- What lines and reports do to two outputs.
use Rattle.std.proofs.Common.{◌≡◌, inl, inr, ℕ, Bool, ◌+◌, ◌<◌, List, [], ◌∷◌, ◌++◌, length, take, drop, get_or, Option, Result, Ok, Err, sym, ap, ◌∙◌, refl, subst, append-nil, flat_map}
use Rattle.std.proofs.lemmas.List.{append_assoc, take_more, take-append-drop}
use Rattle.std.proofs.lemmas.Grind.{flat_map-append}
use Rattle.std.specs.Io.KnownBytes.{Appends, Keeps}
use Rattle.std.proofs.KnownBytes.{Appends-kept, Appends-nil, Appends-trans}
use Rattle.mrt_events.specs.declared.event.Event.{Event}
use Rattle.mrt_wire.specs.declared.RecordFault.{RecordFault}
use Rattle.mrt_wire.specs.Results.{RecordResult, Found, Bad}
use Rattle.bgpdump_lines.specs.declared.fault.WriteFault.{WriteFault}
use Rattle.bgpdump_lines.specs.declared.fault.WriteFault.TheVariants.{Write, Memory}
use Rattle.bgpdump_lines.specs.Run.{AppendsPrefix, Texts, joined_texts, Outputs, Writes, WritesPrefixes, fault_report, result_lines, result_report, dump_texts}
use Rattle.bgpdump_lines.specs.Lines.{event_lines}
use Rattle.bgpdump_lines.specs.WrittenSoFar.{Puts, PutsResults, PutsAllOrFront, PutsThroughBuffer, PutsThroughBufferOrFront}

-- an output that was left alone has a front of any text
pub AppendsPrefix-none : (known : Option (List ℕ)) (text : List ℕ) → AppendsPrefix known known text
AppendsPrefix-none known text = record { front = []; back = text; whole = refl; appended = Appends-nil known }

-- the texts of what was found first, and of what was found then
pub dump_texts-append : (found more : List RecordResult) → joined_texts (dump_texts found) (dump_texts more) ≡ dump_texts (found ++ more)
dump_texts-append found more = λ i. record { out = sym (flat_map-append result_lines found more) i; err = sym (flat_map-append result_report found more) i }

pub Writes-report : (out err err' : Option (List ℕ)) (fault : RecordFault) → Appends err err' (fault_report fault)
    → Writes (dump_texts (Bad fault ∷ [])) (record { out = out; err = err }) (record { out = out; err = err' })
Writes-report out err err' fault appended = (Appends-nil out, subst (Appends err err') (sym (append-nil (fault_report fault))) appended)

-- the lines of an event that a fault stopped
pub PutsResults-lines : (out out' err : Option (List ℕ)) (event : Event) (fault : WriteFault) → PutsAllOrFront {A = Unit {0}} out out' (event_lines event) (Err fault)
    → PutsResults {A = Bool} (Found event ∷ []) (record { out = out; err = err }) (record { out = out'; err = err }) (Err fault)
PutsResults-lines out out' err event Write put = (subst (AppendsPrefix out out') (sym (append-nil (event_lines event))) put, AppendsPrefix-none err [])
PutsResults-lines out out' err event Memory put = inr (event, refl, (subst (AppendsPrefix out out') (sym (append-nil (event_lines event))) put, AppendsPrefix-none err []))

-- the report of a record's fault that a fault of the writing stopped
pub PutsResults-report : (out err err' : Option (List ℕ)) (bad : RecordFault) (fault : WriteFault) → Puts {A = Unit {0}} err err' (fault_report bad) (Err fault)
    → PutsResults {A = Bool} (Bad bad ∷ []) (record { out = out; err = err }) (record { out = out; err = err' }) (Err fault)
PutsResults-report out err err' bad Write put = (AppendsPrefix-none out [], subst (AppendsPrefix err err') (sym (append-nil (fault_report bad))) put)
PutsResults-report out err err' bad Memory same = inl (ap (λ known. record { out = out; err = known }) same)

-- texts that were written one behind the other
pub Writes-append : (t u : Texts) (a b c : Outputs) → Writes t a b → Writes u b c → Writes (joined_texts t u) a c
Writes-append t u a b c p q = (Appends-trans a.out b.out c.out t.out u.out p.0 q.0, Appends-trans a.err b.err c.err t.err u.err p.1 q.1)

-- a front behind a whole text
pub AppendsPrefix-behind : (a b c : Option (List ℕ)) (text more : List ℕ) → Appends a b text → AppendsPrefix b c more → AppendsPrefix a c (text ++ more)
AppendsPrefix-behind a b c text more p q = record {
  front = text ++ q.front;
  back = q.back;
  whole = ap (λ l. text ++ l) q.whole ∙ sym (append_assoc text q.front q.back);
  appended = Appends-trans a b c text q.front p q.appended;
}

-- fronts behind whole texts
pub WritesPrefixes-behind : (t u : Texts) (a b c : Outputs) → Writes t a b → WritesPrefixes u b c → WritesPrefixes (joined_texts t u) a c
WritesPrefixes-behind t u a b c p q = (AppendsPrefix-behind a.out b.out c.out t.out u.out p.0 q.0, AppendsPrefix-behind a.err b.err c.err t.err u.err p.1 q.1)

-- a front of a text is one of a longer text
pub AppendsPrefix-longer : (a b : Option (List ℕ)) (text more : List ℕ) → AppendsPrefix a b text → AppendsPrefix a b (text ++ more)
AppendsPrefix-longer a b text more p = record {
  front = p.front;
  back = p.back ++ more;
  whole = ap (λ l. l ++ more) p.whole ∙ append_assoc p.front p.back more;
  appended = p.appended;
}

-- fronts of texts are fronts of longer ones
pub WritesPrefixes-longer : (t u : Texts) (a b : Outputs) → WritesPrefixes t a b → WritesPrefixes (joined_texts t u) a b
WritesPrefixes-longer t u a b p = (AppendsPrefix-longer a.out b.out t.out u.out p.0, AppendsPrefix-longer a.err b.err t.err u.err p.1)

-- outputs that passed on what they held have what they had
pub Writes-kept : (t : Texts) (a b c : Outputs) → Writes t a b → Keeps b.out c.out → Keeps b.err c.err → Writes t a c
Writes-kept t a b c p out err = (Appends-kept a.out b.out c.out t.out p.0 out, Appends-kept a.err b.err c.err t.err p.1 err)

-- whole texts are fronts
pub WritesPrefixes-whole : (t : Texts) (a b : Outputs) → Writes t a b → WritesPrefixes t a b
WritesPrefixes-whole t a b p = (
  record { front = t.out; back = []; whole = sym (append-nil t.out); appended = p.0 },
  record { front = t.err; back = []; whole = sym (append-nil t.err); appended = p.1 },
)

-- ---- texts that are written as they are made

-- one behind the other
pub PutsThroughBuffer-trans : (a b c : Option (List ℕ)) (before mid after more then : List ℕ) → PutsThroughBuffer a b before mid more → PutsThroughBuffer b c mid after then → PutsThroughBuffer a c before after (more ++ then)
PutsThroughBuffer-trans a b c before mid after more then p q = record {
  front = p.front ++ q.front;
  appended = Appends-trans a b c p.front q.front p.appended q.appended;
  whole = append_assoc p.front q.front after ∙ ap (λ l. p.front ++ l) q.whole ∙ sym (append_assoc p.front mid then) ∙ ap (λ l. l ++ then) p.whole ∙ append_assoc before more then;
}

-- a fault behind it
pub PutsThroughBuffer-stops : (a b c : Option (List ℕ)) (before mid more then : List ℕ) → PutsThroughBuffer a b before mid more → AppendsPrefix b c (mid ++ then) → AppendsPrefix a c (before ++ (more ++ then))
PutsThroughBuffer-stops a b c before mid more then p q =
    subst (AppendsPrefix a c) (sym (append_assoc p.front mid then) ∙ ap (λ l. l ++ then) p.whole ∙ append_assoc before more then) (AppendsPrefix-behind a b c p.front (mid ++ then) p.appended q)

-- a front of a text and the first of what follows is one of the text and all of it
pub AppendsPrefix-first : (old new : Option (List ℕ)) (text one more all : List ℕ) → all ≡ one ++ more → AppendsPrefix old new (text ++ one) → AppendsPrefix old new (text ++ all)
AppendsPrefix-first old new text one more all is put =
    subst (AppendsPrefix old new) (append_assoc text one more ∙ ap (λ l. text ++ l) (sym is)) (AppendsPrefix-longer old new (text ++ one) more put)

-- three parts, one behind the other
pub PutsThroughBuffer-three : (a b c d : Option (List ℕ)) (before x y after one two three all : List ℕ) → all ≡ one ++ (two ++ three) → PutsThroughBuffer a b before x one → PutsThroughBuffer b c x y two → PutsThroughBuffer c d y after three → PutsThroughBuffer a d before after all
PutsThroughBuffer-three a b c d before x y after one two three all is p q r =
    subst (PutsThroughBuffer a d before after) (sym is) (PutsThroughBuffer-trans a b d before x after one (two ++ three) p (PutsThroughBuffer-trans b c d x y after two three q r))

-- a fault at the third
pub PutsThroughBuffer-two-stops : (a b c d : Option (List ℕ)) (before x y one two three all : List ℕ) → all ≡ one ++ (two ++ three) → PutsThroughBuffer a b before x one → PutsThroughBuffer b c x y two → AppendsPrefix c d (y ++ three) → AppendsPrefix a d (before ++ all)
PutsThroughBuffer-two-stops a b c d before x y one two three all is p q r =
    subst (λ l. AppendsPrefix a d (before ++ l)) (sym is) (PutsThroughBuffer-stops a b d before x one (two ++ three) p (PutsThroughBuffer-stops b c d x y two three q r))

-- a fault at the second
pub PutsThroughBuffer-one-stops : (a b d : Option (List ℕ)) (before x one two three all : List ℕ) → all ≡ one ++ (two ++ three) → PutsThroughBuffer a b before x one → AppendsPrefix b d (x ++ two) → AppendsPrefix a d (before ++ all)
PutsThroughBuffer-one-stops a b d before x one two three all is p q =
    subst (λ l. AppendsPrefix a d (before ++ l)) (sym is) (PutsThroughBuffer-stops a b d before x one (two ++ three) p (AppendsPrefix-first b d x two three (two ++ three) refl q))

-- the text itself behind what was passed
pub PutsThroughBuffer-end : (a b c : Option (List ℕ)) (text more : List ℕ) → PutsThroughBuffer a b [] text more → Appends b c text → Appends a c more
PutsThroughBuffer-end a b c text more p q = subst (Appends a c) p.whole (Appends-trans a b c p.front text p.appended q)

-- or a front of it
pub PutsThroughBuffer-end-stops : (a b c : Option (List ℕ)) (text more : List ℕ) → PutsThroughBuffer a b [] text more → AppendsPrefix b c text → AppendsPrefix a c more
PutsThroughBuffer-end-stops a b c text more p q = subst (AppendsPrefix a c) p.whole (AppendsPrefix-behind a b c p.front text p.appended q)

-- what was written so far is a front, whatever follows
pub AppendsPrefix-passed : (old new : Option (List ℕ)) (before after more : List ℕ) → PutsThroughBuffer old new before after [] → AppendsPrefix old new (before ++ more)
AppendsPrefix-passed old new before after more p = record {
  front = p.front;
  back = after ++ more;
  whole = ap (λ l. l ++ more) (sym (p.whole ∙ append-nil before)) ∙ append_assoc p.front after more;
  appended = p.appended;
}

-- one more item's line
lines_next : {A : Type 0} (line : A → List ℕ) (items : List A) (i : ℕ) (d : A) → i < length items
    → flat_map line (take (i + 1) items) ≡ flat_map line (take i items) ++ line (get_or items i d)
lines_next line items i d lt =
    ap (flat_map line) (take_more items i d lt) ∙ flat_map-append line (take i items) (get_or items i d ∷ []) ∙ ap (λ l. flat_map line (take i items) ++ l) (append-nil (line (get_or items i d)))

-- a fault behind what was passed leaves a front of all
pub PutsThroughBuffer-stopped : (a b c : Option (List ℕ)) (before mid done later all : List ℕ) → PutsThroughBuffer a b before mid done → all ≡ done ++ later → AppendsPrefix b c (mid ++ []) → AppendsPrefix a c (before ++ all)
PutsThroughBuffer-stopped a b c before mid done later all p is q =
    subst (λ l. AppendsPrefix a c (before ++ l)) (sym is) (PutsThroughBuffer-stops a b c before mid done later p (AppendsPrefix-longer b c mid later (subst (AppendsPrefix b c) (append-nil mid) q)))

-- a fault at an item leaves a front of all items' lines
pub PutsThroughBuffer-items : {A : Type 0} (line : A → List ℕ) (items : List A) (i : ℕ) (a b c : Option (List ℕ)) (before mid : List ℕ) → PutsThroughBuffer a b before mid (flat_map line (take i items)) → AppendsPrefix b c (mid ++ [])
    → AppendsPrefix a c (before ++ flat_map line items)
PutsThroughBuffer-items line items i a b c before mid p q =
    PutsThroughBuffer-stopped a b c before mid (flat_map line (take i items)) (flat_map line (drop i items)) (flat_map line items) p (sym (ap (flat_map line) (take-append-drop i items)) ∙ flat_map-append line (take i items) (drop i items)) q

-- a text behind it
pub PutsThroughBuffer-text : (a b c : Option (List ℕ)) (before mid after new done more : List ℕ) → PutsThroughBuffer a b before mid done → PutsThroughBuffer b c mid after [] → new ≡ after ++ more → PutsThroughBuffer a c before new (done ++ more)
PutsThroughBuffer-text a b c before mid after new done more p q e =
    PutsThroughBuffer-trans a b c before mid new done more p
    (record { front = q.front; appended = q.appended; whole = ap (λ l. q.front ++ l) e ∙ sym (append_assoc q.front after more) ∙ ap (λ l. l ++ more) (q.whole ∙ append-nil mid) })

-- the line of an item more
pub PutsThroughBuffer-next : {A : Type 0} (line : A → List ℕ) (items : List A) (i : ℕ) (d : A) (a b c : Option (List ℕ)) (before mid after new : List ℕ) → i < length items → PutsThroughBuffer a b before mid (flat_map line (take i items))
    → PutsThroughBuffer b c mid after [] → new ≡ after ++ line (get_or items i d) → PutsThroughBuffer a c before new (flat_map line (take (i + 1) items))
PutsThroughBuffer-next line items i d a b c before mid after new lt p q e =
    subst (PutsThroughBuffer a c before new) (sym (lines_next line items i d lt)) (PutsThroughBuffer-text a b c before mid after new (flat_map line (take i items)) (line (get_or items i d)) p q e)

-- a text with more behind it, of which nothing was written
pub PutsThroughBuffer-printed : (a b : Option (List ℕ)) (before text more : List ℕ) → b ≡ a → text ≡ before ++ more → PutsThroughBuffer a b before text more
PutsThroughBuffer-printed a b before text more same e = record { front = []; appended = subst (λ known. Appends a known []) (sym same) (Appends-nil a); whole = e }

-- two texts that were written whole
pub PutsThroughBuffer-whole : (a b c : Option (List ℕ)) (text more : List ℕ) → Appends a b text → Appends b c more → PutsThroughBuffer a c text [] more
PutsThroughBuffer-whole a b c text more p q = record { front = text ++ more; appended = Appends-trans a b c text more p q; whole = append-nil (text ++ more) }

-- more behind what was passed, or a fault
pub PutsThroughBufferOrFront-then : {A : Type 0} (a b c : Option (List ℕ)) (before mid after more then : List ℕ) (result : Result A WriteFault) → PutsThroughBuffer a b before mid more → PutsThroughBufferOrFront b c mid after then result → PutsThroughBufferOrFront a c before after (more ++ then) result
PutsThroughBufferOrFront-then a b c before mid after more then (Ok done) p q = PutsThroughBuffer-trans a b c before mid after more then p q
PutsThroughBufferOrFront-then a b c before mid after more then (Err fault) p q = PutsThroughBuffer-stops a b c before mid more then p q
