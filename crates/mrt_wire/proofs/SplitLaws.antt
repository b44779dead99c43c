-- Octets split into frames in one way, and frames found in front are the first of any splitting.
use Rattle.std.proofs.Common.{◌≡◌, inl, inr, ℕ, List, [], ◌∷◌, ◌++◌, Option, Some, None, sym, ap, ◌∙◌, refl, subst, append_assoc, append-nil}
use Rattle.mrt_frames.specs.declared.fault.RecordKind.{RecordKind}
use Rattle.mrt_events.specs.declared.event.Event.{Event}
use Rattle.mrt_events.specs.declared.stamp.Stamp.{Stamp}
use Rattle.mrt_frames.specs.Record.{Record, spelling, BeginsWithNoRecord}
use Rattle.mrt_wire.specs.Content.{Content, IsBody}
use Rattle.mrt_wire.specs.Results.{content_fault, HasFault, MakesEvent, RecordOutcome, Accepted, Refused, Frame, PeerTable, ReadsAs, index_after, event_of, AreFrames, Splits, spellings}
use Rattle.mrt_wire.proofs.ContentLaws.{same_content}
use Rattle.mrt_frames.proofs.RecordLaws.{same_front}

-- one content has one fault
same_content_fault : (index : PeerTable) (r : Record) (a b : Content) → IsBody r.kind r.subtype a r.body → IsBody r.kind r.subtype b r.body → content_fault index a ≡ content_fault index b
same_content_fault index r a b p q = ap (content_fault index) (same_content r.kind r.subtype r.body a b p q)

-- a record has one fault
same_fault : (index : PeerTable) (r : Record) (a b : RecordKind) → HasFault index r a → HasFault index r b → a ≡ b
same_fault index r a b (inl p) (inl q) = p.1 ∙ sym q.1
same_fault index r a b (inl p) (inr (inl q)) = absurd (p.0 q.0)
same_fault index r a b (inl p) (inr (inr q)) = absurd (p.0 (q.1.0, q.1.1))
same_fault index r a b (inr (inl p)) (inl q) = absurd (q.0 p.0)
same_fault index r a b (inr (inl p)) (inr (inl q)) = p.2 ∙ sym q.2
same_fault index r a b (inr (inl p)) (inr (inr q)) = absurd (p.1 q.0 q.1)
same_fault index r a b (inr (inr p)) (inl q) = absurd (q.0 (p.1.0, p.1.1))
same_fault index r a b (inr (inr p)) (inr (inl q)) = absurd (q.1 p.0 p.1)
same_fault index r a b (inr (inr p)) (inr (inr q)) =
    let e : Some a ≡ Some b = sym p.2 ∙ same_content_fault index r p.0 q.0 p.1 q.1 ∙ q.2 in
    cc

-- one that makes an event has no fault
no_fault : (stamp : Stamp) (index : PeerTable) (r : Record) (content : Content) (event : Event) (kind : RecordKind) → MakesEvent stamp index r content event → HasFault index r kind → ⊥
no_fault stamp index r content event kind made (inl p) = p.0 (made.is_body.0, made.is_body.1)
no_fault stamp index r content event kind made (inr (inl p)) = p.1 content made.is_body
no_fault stamp index r content event kind made (inr (inr p)) =
    let e : ◌≡◌ {A = Option RecordKind} None (Some kind) = sym made.sound ∙ same_content_fault index r content p.0 made.is_body p.1 ∙ p.2 in
    cc

-- one thing becomes of a record
pub same_verdict : (stamp : Stamp) (index : PeerTable) (r : Record) (a b : RecordOutcome) → ReadsAs stamp index r a → ReadsAs stamp index r b → a ≡ b
same_verdict stamp index r (Accepted content e) (Accepted content' f) p q =
    let same = same_content r.kind r.subtype r.body content content' p.is_body q.is_body in
    λ i. Accepted (same i) ((p.made ∙ ap (event_of stamp index r) same ∙ sym q.made) i)
same_verdict stamp index r (Accepted content e) (Refused kind) p q = absurd (no_fault stamp index r content e kind p q)
same_verdict stamp index r (Refused kind) (Accepted content f) p q = absurd (no_fault stamp index r content f kind q p)
same_verdict stamp index r (Refused kind) (Refused kind') p q = ap Refused (same_fault index r kind kind' p q)

-- the frames that are left of a splitting behind those found in front
pub record SpellsAfter (stamp : Stamp) (found frames : List Frame) (more rest : List ℕ) : Type 0 where
  pub later : List Frame
  pub frames_are : frames ≡ found ++ later
  pub octets_are : more ≡ spellings later ++ rest
  pub index : PeerTable
  pub are_frames : AreFrames stamp index later

-- frames found in front are the first of any splitting
pub frames_first : (stamp : Stamp) (index : PeerTable) (found frames : List Frame) (more rest : List ℕ) → AreFrames stamp index found → AreFrames stamp index frames → BeginsWithNoRecord rest
    → spellings found ++ more ≡ spellings frames ++ rest → SpellsAfter stamp found frames more rest
frames_first stamp index [] frames more rest p q none e = record { later = frames; frames_are = refl; octets_are = e; index = index; are_frames = q }
frames_first stamp index (a ∷ found) [] more rest p q none e =
    absurd (none a.mrt (spellings found ++ more) p.0 (sym e ∙ append_assoc (spelling a.mrt) (spellings found) more))
frames_first stamp index (a ∷ found) (b ∷ frames) more rest p q none e =
    let regrouped : spelling a.mrt ++ (spellings found ++ more) ≡ spelling b.mrt ++ (spellings frames ++ rest) =
    sym (append_assoc (spelling a.mrt) (spellings found) more) ∙ e ∙ append_assoc (spelling b.mrt) (spellings frames) rest in
    let same = same_front a.mrt b.mrt _ _ p.0 q.0 regrouped in
    let outcome = same_verdict stamp index a.mrt a.outcome b.outcome p.1 (subst (λ r. ReadsAs stamp index r b.outcome) (sym same.0) q.1) in
    let one : a ≡ b = λ i. record { mrt = same.0 i; outcome = outcome i } in
    let behind = frames_first stamp (index_after index a.outcome) found frames more rest p.2 (subst (λ v. AreFrames stamp (index_after index v) frames) (sym outcome) q.2) none same.1 in
    record {
      later = behind.later;
      frames_are = ap (λ f. f ∷ frames) (sym one) ∙ ap (λ l. a ∷ l) behind.frames_are;
      octets_are = behind.octets_are;
      index = behind.index;
      are_frames = behind.are_frames;
    }

-- where they end at no record, they are all
pub frames_all : (stamp : Stamp) (index : PeerTable) (found frames : List Frame) (more rest : List ℕ) → AreFrames stamp index found → AreFrames stamp index frames → BeginsWithNoRecord more → BeginsWithNoRecord rest
    → spellings found ++ more ≡ spellings frames ++ rest → (frames ≡ found) × (rest ≡ more)
frames_all stamp index found frames more rest p q end none e =
    let behind = frames_first stamp index found frames more rest p q none e in
    nothing_behind behind.later behind.index behind.frames_are behind.octets_are behind.are_frames
  where
    nothing_behind : (later : List Frame) (index : PeerTable) → frames ≡ found ++ later → more ≡ spellings later ++ rest → AreFrames stamp index later → (frames ≡ found) × (rest ≡ more)
    nothing_behind [] index are octets records = (are ∙ append-nil found, sym octets)
    nothing_behind (f ∷ later) index are octets records = absurd (end f.mrt (spellings later ++ rest) records.0 (octets ∙ append_assoc (spelling f.mrt) (spellings later) rest))

-- octets split in one way
pub law_input_splits_in_one_way : (stamp : Stamp) (index : PeerTable) (octets : List ℕ) (frames frames' : List Frame) (rest rest' : List ℕ) → Splits stamp index octets frames rest
    → Splits stamp index octets frames' rest' → (frames ≡ frames') × (rest ≡ rest')
law_input_splits_in_one_way stamp index octets frames frames' rest rest' p q =
    frames_all stamp index frames' frames rest' rest q.are_frames p.are_frames q.none p.none (sym q.whole ∙ p.whole)
