-- What is a peer, and what isn't.
use Rattle.std.proofs.Common.{ℕ, List, [], refl}
use Rattle.ip_prefix.specs.Sequences.{Begins}
use Rattle.ip_prefix.specs.Fronts.{BeginsWithNone, HasOneFront, IsSelfDelimiting, IsUnambiguous}
use Rattle.octet_forms.proofs.Fields.{then_front, more_one, behind_one}
use Rattle.octet_forms.proofs.Counts.{counted_code}
use Rattle.mrt_events.specs.declared.peer.Peer.{Peer}
use Rattle.mrt_wire.specs.declared.peer_index.TheConstants.{ID_SIZE}
use Rattle.mrt_wire.specs.Rib.{peer_family, peer_as_width, SpellsPeerFields, SpellsPeer, SpellsView, SpellsPeerIndex}
use Rattle.mrt_wire.proofs.FieldFronts.{octet_front, octets_front, peer_of_front, sized_front, nothing_octet}

-- the fields of a peer
peer_fields_front : HasOneFront SpellsPeerFields
peer_fields_front =
    then_front _ _ octet_front (λ kind. then_front _ _ (octets_front ID_SIZE) (λ id. peer_of_front (peer_family kind) (peer_as_width kind)))

-- octets that begin with a peer begin with its fields
peer_fields : (peer : Peer) (rest octets : List ℕ) (b : Begins SpellsPeer peer rest octets) → Begins SpellsPeerFields (b.spelled.0, (b.spelled.1, peer)) rest octets
peer_fields peer rest octets b = record { front = b.front; spelled = b.spelled.2; whole = b.whole }

pub peer_code : IsSelfDelimiting SpellsPeer
peer_code = record { some = some; same = same }
  where
    some : (peer : Peer) → SpellsPeer peer [] → ⊥
    some peer s = nothing_octet s.0 s.2.rest [] s.2.first refl

    same : HasOneFront SpellsPeer
    same a b x y octets p q =
        let one = peer_fields_front (p.spelled.0, (p.spelled.1, a)) (q.spelled.0, (q.spelled.1, b)) x y octets (peer_fields a x octets p) (peer_fields b y octets q) in
        ((λ i. (one.0 i).1.1), one.1)

pub view_front : HasOneFront SpellsView
view_front = then_front _ _ (octets_front ID_SIZE) (λ id. sized_front)

-- no octets are of two lists of peers
pub one_peer_index : IsUnambiguous SpellsPeerIndex
one_peer_index = behind_one _ _ view_front (λ view. more_one _ (counted_code SpellsPeer peer_code).same)

-- where the fields of a peer don't stand in front no peer does
pub no_peer : (octets : List ℕ) → BeginsWithNone SpellsPeerFields octets → BeginsWithNone SpellsPeer octets
no_peer octets none peer rest b = none (b.spelled.0, (b.spelled.1, peer)) rest (peer_fields peer rest octets b)
