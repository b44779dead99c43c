-- What becomes of a record, by what its body was read as.
use Rattle.std.proofs.Common.{◌≡◌, inl, inr, List, ℕ, Result, Ok, Err, refl, sym, subst, IsErrAnd}
use Rattle.bgp_wire.specs.declared.WireFault.{WireFault}
use Rattle.bgp_wire.specs.declared.WireFault.TheVariants.{Malformed, Memory}
use Rattle.bgp_wire.specs.Readers.{Refuses}
use Rattle.mrt_events.specs.declared.event.Event.{Event}
use Rattle.mrt_events.specs.declared.stamp.Stamp.{Stamp}
use Rattle.mrt_wire.specs.declared.decoding.DecodeError.{DecodeError}
use Rattle.mrt_wire.specs.declared.record_types.BodyFormat.{BodyFormat}
use Rattle.mrt_frames.specs.Record.{Record}
use Rattle.mrt_wire.specs.RecordTypes.{HasBodyFormat}
use Rattle.mrt_wire.specs.Content.{Content, SpellsContent}
use Rattle.mrt_wire.specs.Results.{PeerTable}
use Rattle.mrt_wire.specs.Decoding.{Decodes, body_error}
use Rattle.mrt_wire.proofs.ContentLaws.{same_form}

-- a record is refused whose body has no part that each content of its form has
refused : {B : Type 0} (stamp : Stamp) (index : PeerTable) (r : Record) (form : BodyFormat) (Part : B → List ℕ → Type 0) (fault : WireFault) → HasBodyFormat r.kind r.subtype form
    → ((content : Content) → SpellsContent form content r.body → (part : B) × Part part r.body) → Refuses Part r.body fault → Decodes stamp index index r (Err (body_error fault))
refused stamp index r form Part Malformed has part none = (
  inr (inl (
    (form, has),
    (λ content is_body.
        let its = part content (subst (λ f. SpellsContent f content r.body) (same_form r.kind r.subtype is_body.0 form is_body.1 has) is_body.2) in
        none its.0 its.1),
    refl,
  )),
  refl,
)
refused stamp index r form Part Memory has part none = refl

-- and so by an answer that hands the fault on
pub refused_body : {B : Type 0} (stamp : Stamp) (index : PeerTable) (r : Record) (form : BodyFormat) (Part : B → List ℕ → Type 0) (fault : WireFault) (answer : Result Event DecodeError)
    → IsErrAnd answer (λ why. why ≡ body_error fault) → HasBodyFormat r.kind r.subtype form
    → ((content : Content) → SpellsContent form content r.body → (part : B) × Part part r.body) → Refuses Part r.body fault → Decodes stamp index index r answer
refused_body stamp index r form Part fault (Ok event) is has part none = absurd is
refused_body stamp index r form Part fault (Err why) is has part none = subst (λ w. Decodes stamp index index r (Err w)) (sym is) (refused stamp index r form Part fault has part none)
