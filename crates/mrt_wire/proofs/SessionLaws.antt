-- What happened in a session, and what didn't.
use Rattle.std.proofs.Common.{arith, ◌≡◌, ℕ, Bool, true, false, Some, List, ◌∷◌, ◌++◌, ap, sym, ◌∙◌}
use Rattle.ip_prefix.specs.declared.addr.Family.{Family}
use Rattle.ip_prefix.specs.Network.{Address, octet_count}
use Rattle.ip_prefix.specs.Sequences.{Begins}
use Rattle.ip_prefix.specs.Fronts.{BeginsWithNone, HasOneFront, IsUnambiguous}
use Rattle.ip_prefix.specs.Fields.{SpellsPair}
use Rattle.octet_forms.proofs.Fields.{both_front, then_front, then_one, more_one, none_first, none_second}
use Rattle.bgp_wire.specs.declared.AsWidth.{AsWidth}
use Rattle.bgp_wire.specs.Path.{asn_size}
use Rattle.bgp_wire.specs.Reach.{family_code}
use Rattle.bgp_wire.proofs.OneContent.{one_message_of}
use Rattle.bgp_wire.proofs.Reaching.{same_family}
use Rattle.mrt_events.specs.declared.peer.Peer.{Peer}
use Rattle.mrt_wire.specs.declared.record_types.Bgp4mpRecordKind.{Bgp4mpRecordKind}
use Rattle.mrt_wire.specs.declared.record_types.Bgp4mpRecordKind.TheVariants.{StateChange, Message}
use Rattle.mrt_wire.specs.declared.record_types.Bgp4mpFormat.{Bgp4mpFormat}
use Rattle.mrt_wire.specs.declared.session.TheConstants.{INTERFACE_SIZE}
use Rattle.mrt_wire.specs.Session.{Change, Receipt, SpellsFamily, AreAsnFields, AreAddressFields, SpellsSessionPeer, SpellsStateChange, SpellsPeerMessage, SpellsSessionContent, SpellsMicros, SpellsSessionBody}
use Rattle.mrt_wire.proofs.FieldFronts.{octets_front, address_front, asn_front, short_front, word_front}

pub family_front : HasOneFront SpellsFamily
family_front a b x y octets p q =
    let one : 0 ∷ family_code a ∷ x ≡ 0 ∷ family_code b ∷ y = sym (p.whole ∙ ap (λ l. l ++ x) p.spelled) ∙ (q.whole ∙ ap (λ l. l ++ y) q.spelled) in
    let codes : family_code a ≡ family_code b = cc in
    let rests : x ≡ y = cc in
    (same_family family_code (λ e. omega (arith, e)) a b codes, rests)

systems_front : (width : AsWidth) → HasOneFront (AreAsnFields width)
systems_front width = then_front _ _ (asn_front width) (λ asn. then_front _ _ (octets_front (asn_size width)) (λ local. octets_front INTERFACE_SIZE))

addresses_front : HasOneFront AreAddressFields
addresses_front = then_front _ _ family_front (λ family. then_front _ _ (address_front family) (λ address. octets_front (octet_count family)))

-- octets that begin with a session begin with its systems and addresses
session_fields : (width : AsWidth) (peer : Peer) (rest octets : List ℕ) (b : Begins (SpellsSessionPeer width) peer rest octets)
    → Begins (SpellsPair (AreAsnFields width) (λ systems. AreAddressFields)) ((peer.asn, (b.spelled.0, b.spelled.1)), (b.spelled.2, (peer.addr, b.spelled.3))) rest octets
session_fields width peer rest octets b = record { front = b.front; spelled = b.spelled.4; whole = b.whole }

pub session_front : (width : AsWidth) → HasOneFront (SpellsSessionPeer width)
session_front width a b x y octets p q =
    let one = then_front _ _ (systems_front width) (λ systems. addresses_front) _ _ x y octets (session_fields width a x octets p) (session_fields width b y octets q) in
    ((λ i. record { addr = (one.0 i).1.1.0; asn = (one.0 i).0.0 }), one.1)

-- where the systems and addresses don't stand in front no session does
no_session : (width : AsWidth) (octets : List ℕ) → BeginsWithNone (SpellsPair (AreAsnFields width) (λ systems. AreAddressFields)) octets → BeginsWithNone (SpellsSessionPeer width) octets
no_session width octets none peer rest b = none _ rest (session_fields width peer rest octets b)

pub no_systems : (width : AsWidth) (octets : List ℕ) → BeginsWithNone (AreAsnFields width) octets → BeginsWithNone (SpellsSessionPeer width) octets
no_systems width octets none = no_session width octets (none_first _ _ octets none)

pub no_addresses : (width : AsWidth) (systems : ℕ × (List ℕ × List ℕ)) (more octets : List ℕ) → Begins (AreAsnFields width) systems more octets → BeginsWithNone AreAddressFields more → BeginsWithNone (SpellsSessionPeer width) octets
no_addresses width systems more octets b none = no_session width octets (none_second _ _ (systems_front width) systems more octets b none)

pub a_session : (width : AsWidth) (asn : ℕ) (number interface : List ℕ) (family : Family) (addr : Address) (local more rest octets : List ℕ) → Begins (AreAsnFields width) (asn, (number, interface)) more octets
    → Begins AreAddressFields (family, (addr, local)) rest more → Begins (SpellsSessionPeer width) record { addr = addr; asn = asn } rest octets
a_session width asn number interface family addr local more rest octets p q =
    let b = both_front (AreAsnFields width) (λ systems. AreAddressFields) (asn, (number, interface)) (family, (addr, local)) more rest octets p q in
    record { front = b.front; spelled = (number, interface, family, local, b.spelled); whole = b.whole }

-- no octets are of two state changes
one_state_change : (width : AsWidth) → IsUnambiguous (SpellsStateChange width)
one_state_change width a b octets s t =
    let one = then_one _ _ (session_front width) (λ peer. then_one _ _ short_front (λ old. more_one _ short_front)) (a.peer, (a.old, a.new)) (b.peer, (b.old, b.new)) octets s t in
    λ i. record { peer = (one i).0; old = (one i).1.0; new = (one i).1.1 }

-- nor of two messages
one_peer_message : (width : AsWidth) → IsUnambiguous (SpellsPeerMessage width)
one_peer_message width a b octets s t =
    let one = then_one _ _ (session_front width) (λ peer m n l. one_message_of width l m n) (a.peer, a.message) (b.peer, b.message) octets s t in
    λ i. record { message = (one i).1; peer = (one i).0 }

one_happening : (kind : Bgp4mpRecordKind) (width : AsWidth) → IsUnambiguous (SpellsSessionContent kind width)
one_happening StateChange width a b octets s t = s.1 ∙ ap Change (one_state_change width s.0 t.0 octets s.2 t.2) ∙ sym t.1
one_happening Message width a b octets s t = s.1 ∙ ap Receipt (one_peer_message width s.0 t.0 octets s.2 t.2) ∙ sym t.1

pub micros_front : (timed : Bool) → HasOneFront (SpellsMicros timed)
micros_front false a b x y octets p q =
    (p.spelled.0 ∙ sym q.spelled.0, sym (p.whole ∙ ap (λ l. l ++ x) p.spelled.1) ∙ (q.whole ∙ ap (λ l. l ++ y) q.spelled.1))
micros_front true a b x y octets p q =
    let one = word_front p.spelled.0 q.spelled.0 x y octets record { front = p.front; spelled = p.spelled.3; whole = p.whole } record { front = q.front; spelled = q.spelled.3; whole = q.whole } in
    (p.spelled.1 ∙ ap Some one.0 ∙ sym q.spelled.1, one.1)

-- no octets are of two bodies of one form
pub one_session_body : (form : Bgp4mpFormat) → IsUnambiguous (SpellsSessionBody form)
one_session_body form a b octets s t =
    let one = then_one _ _ (micros_front form.timed) (λ micros. one_happening form.kind form.width) (a.micros, a.content) (b.micros, b.content) octets s t in
    λ i. record { content = (one i).1; micros = (one i).0 }
