-- What is an entry with its peer, and what isn't.
use Rattle.std.proofs.Common.{◌≡◌, ℕ, ◌<◌, ◌≤◌, List, sym, subst, ◌∙◌, arith}
use Rattle.ip_prefix.specs.declared.addr.Family.{Family}
use Rattle.ip_prefix.specs.Network.{Address, bit_count, Network, network_of}
use Rattle.ip_prefix.specs.Sequences.{Begins}
use Rattle.ip_prefix.specs.Fronts.{BeginsWithNone, HasOneFront, IsUnambiguous}
use Rattle.ip_prefix.specs.Fields.{SpellsPair}
use Rattle.octet_forms.proofs.Fields.{both_front, then_front}
use Rattle.bgp_wire.specs.declared.WireFault.{WireFault}
use Rattle.bgp_wire.specs.declared.WireFault.TheVariants.{Malformed, Memory}
use Rattle.bgp_wire.specs.declared.AsWidth.TheVariants.{Two}
use Rattle.bgp_wire.specs.Content.{SpellsRibAttrs}
use Rattle.bgp_wire.specs.Readers.{Refuses}
use Rattle.bgp_wire.proofs.OneContent.{one_rib_attrs}
use Rattle.mrt_events.specs.declared.peer.Peer.{Peer}
use Rattle.mrt_wire.specs.declared.table_dump.TheConstants.{NUMBERS_SIZE, STATUS_SIZE}
use Rattle.mrt_wire.specs.Fields.{SpellsOctet, SpellsAddressOf}
use Rattle.mrt_wire.specs.Rib.{SpellsAddressAndLength, AreTableDumpFields, SpellsTableDump}
use Rattle.mrt_wire.proofs.FieldFronts.{octet_front, octets_front, word_front, address_front, peer_of_front, sized_front}

-- ---- the prefix

prefix_fields_front : (family : Family) → HasOneFront (SpellsPair (SpellsAddressOf family) (λ address. SpellsOctet))
prefix_fields_front family = then_front _ _ (address_front family) (λ address. octet_front)

-- octets that begin with a prefix begin with its address and length
prefix_fields : (family : Family) (prefix : Network) (rest octets : List ℕ) (b : Begins (SpellsAddressAndLength family) prefix rest octets)
    → Begins (SpellsPair (SpellsAddressOf family) (λ address. SpellsOctet)) (b.spelled.address, b.spelled.len) rest octets
prefix_fields family prefix rest octets b = record { front = b.front; spelled = b.spelled.fields; whole = b.whole }

pub prefix_front : (family : Family) → HasOneFront (SpellsAddressAndLength family)
prefix_front family a b x y octets p q =
    let one = prefix_fields_front family (p.spelled.address, p.spelled.len) (q.spelled.address, q.spelled.len) x y octets (prefix_fields family a x octets p) (prefix_fields family b y octets q) in
    (p.spelled.first_bits ∙ (λ i. network_of (one.0 i).0 (one.0 i).1) ∙ sym q.spelled.first_bits, one.1)

pub no_prefix : (family : Family) (octets : List ℕ) → BeginsWithNone (SpellsPair (SpellsAddressOf family) (λ address. SpellsOctet)) octets → BeginsWithNone (SpellsAddressAndLength family) octets
no_prefix family octets none prefix rest b = none (b.spelled.address, b.spelled.len) rest (prefix_fields family prefix rest octets b)

-- there is none with more bits than the address has
pub no_such_length : (family : Family) (address : Address) (len : ℕ) (after rest octets : List ℕ) → Begins (SpellsAddressOf family) address after octets → Begins SpellsOctet len rest after
    → bit_count address.family < len → BeginsWithNone (SpellsAddressAndLength family) octets
no_such_length family address len after rest octets p q less prefix more b =
    let s = b.spelled in
    let one = prefix_fields_front family (s.address, s.len) (address, len) more rest octets (prefix_fields family prefix more octets b) (both_front _ _ address len after rest octets p q) in
    let lens : s.len ≡ len = λ i. (one.0 i).1 in
    let longer : bit_count family < len = subst (λ f. bit_count f < len) p.spelled.of_family less in
    let fits : s.len ≤ bit_count family = s.fits in
    omega (arith, lens, longer, fits)

pub a_prefix : (family : Family) (address : Address) (len : ℕ) (prefix : Network) (after rest octets : List ℕ) → Begins (SpellsAddressOf family) address after octets → Begins SpellsOctet len rest after
    → len ≤ bit_count address.family → prefix ≡ network_of address len → Begins (SpellsAddressAndLength family) prefix rest octets
a_prefix family address len prefix after rest octets p q fits is =
    let b = both_front (SpellsAddressOf family) (λ address. SpellsOctet) address len after rest octets p q in
    record {
      front = b.front;
      spelled = record { address = address; len = len; fields = b.spelled; fits = subst (λ f. len ≤ bit_count f) p.spelled.of_family fits; first_bits = is };
      whole = b.whole;
    }

-- ---- the entry

entry_fields_front : (family : Family) → HasOneFront (AreTableDumpFields family)
entry_fields_front family =
    then_front _ _ (octets_front NUMBERS_SIZE) (λ numbers. then_front _ _ (prefix_front family) (λ prefix.
    then_front _ _ (octets_front STATUS_SIZE) (λ status. then_front _ _ word_front (λ time.
    then_front _ _ (peer_of_front family Two) (λ peer. sized_front)))))

-- no octets are of two entries
pub one_peer_entry : (family : Family) → IsUnambiguous (SpellsTableDump family)
one_peer_entry family a b octets (numbers, status, body, more, fields, attrs) (numbers', status', body', more', fields', attrs') =
    let one = entry_fields_front family (numbers, (a.prefix, (status, (a.time, (a.peer, body))))) (numbers', (b.prefix, (status', (b.time, (b.peer, body'))))) more more' octets fields fields' in
    let bodies : body ≡ body' = λ i. (one.0 i).1.1.1.1.1 in
    let same = one_rib_attrs family Two body' a.attrs b.attrs (subst (SpellsRibAttrs family Two a.attrs) bodies attrs) attrs' in
    λ i. record { prefix = (one.0 i).1.0; peer = (one.0 i).1.1.1.1.0; attrs = same i; time = (one.0 i).1.1.1.0 }

-- where the attributes are refused so is the entry
pub refused_attrs : (family : Family) (numbers : List ℕ) (prefix : Network) (status : List ℕ) (time : ℕ) (peer : Peer) (body more octets : List ℕ) (fault : WireFault)
    → Begins (AreTableDumpFields family) (numbers, (prefix, (status, (time, (peer, body))))) more octets
    → Refuses (SpellsRibAttrs family Two) body fault → Refuses (SpellsTableDump family) octets fault
refused_attrs family numbers prefix status time peer body more octets Malformed b none = λ entry s.
    let one = entry_fields_front family (s.0, (entry.prefix, (s.1, (entry.time, (entry.peer, s.2))))) (numbers, (prefix, (status, (time, (peer, body))))) s.3 more octets s.4 b in
    none entry.attrs (subst (SpellsRibAttrs family Two entry.attrs) (λ i. (one.0 i).1.1.1.1.1) s.5)
refused_attrs family numbers prefix status time peer body more octets Memory b none = tt
