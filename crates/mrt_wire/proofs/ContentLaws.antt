-- Laws of contents.
use Rattle.std.proofs.Common.{◌≡◌, ◌∙◌, ℕ, List, Some, sym, ap, subst}
use Rattle.ip_prefix.specs.Fronts.{IsUnambiguous}
use Rattle.mrt_wire.specs.declared.record_types.BodyFormat.{BodyFormat}
use Rattle.mrt_wire.specs.declared.record_types.BodyFormat.TheVariants as form
use Rattle.mrt_wire.specs.RecordTypes.{HasBodyFormat}
use Rattle.mrt_wire.specs.Content.{Content, Entry, Peers, Entries, Session, SpellsContent, IsBody}
use Rattle.mrt_wire.proofs.PeerIndexLaws.{one_peer_index}
use Rattle.mrt_wire.proofs.RibLaws.{one_rib}
use Rattle.mrt_wire.proofs.SessionLaws.{one_session_body}
use Rattle.mrt_wire.proofs.TableDumpLaws.{one_peer_entry}

-- bodies of a type and subtype have one form
pub same_form : (kind subtype : ℕ) (a b : BodyFormat) → HasBodyFormat kind subtype a → HasBodyFormat kind subtype b → a ≡ b
same_form kind subtype a b p q = let e : Some a ≡ Some b = sym p ∙ q in cc

-- no octets are of two contents of one form
pub one_content_of : (form : BodyFormat) → IsUnambiguous (SpellsContent form)
one_content_of (form.Entry family) a b octets s t = s.1 ∙ ap Entry (one_peer_entry family s.0 t.0 octets s.2 t.2) ∙ sym t.1
one_content_of form.Peers a b octets s t = s.1 ∙ ap Peers (one_peer_index s.0 t.0 octets s.2 t.2) ∙ sym t.1
one_content_of (form.Entries family) a b octets s t = s.1 ∙ ap Entries (one_rib family s.0 t.0 octets s.2 t.2) ∙ sym t.1
one_content_of (form.Session session) a b octets s t = s.1 ∙ ap Session (one_session_body session s.0 t.0 octets s.2 t.2) ∙ sym t.1

-- a body has one content
pub same_content : (kind subtype : ℕ) (body : List ℕ) (a b : Content) → IsBody kind subtype a body → IsBody kind subtype b body → a ≡ b
same_content kind subtype body a b (f, has, p) (g, has', q) =
    one_content_of g a b body (subst (λ f. SpellsContent f a body) (same_form kind subtype f g has has') p) q
