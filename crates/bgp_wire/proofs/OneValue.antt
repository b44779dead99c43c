-- No octets are spellings of two values of an attribute.
use Rattle.std.proofs.Common.{◌≡◌, ◌⊎◌, inl, inr, ℕ, ◌+◌, List, ◌++◌, length, drop, get_or, Some, None, refl, ap, sym, subst, ◌∙◌, arith, length-append}
use Rattle.ip_prefix.specs.declared.addr.Family.{Family}
use Rattle.ip_prefix.specs.declared.addr.Family.TheVariants.{V6}
use Rattle.ip_prefix.specs.Network.{octet_count, SpellsNetwork}
use Rattle.ip_prefix.specs.Sequences.{SpellsAll}
use Rattle.octet_forms.proofs.Lists.{append_parts}
use Rattle.octet_forms.proofs.Sequences.{one_list}
use Rattle.ip_prefix.proofs.Wires.{network_code}
use Rattle.bgp_paths.specs.declared.numbers.AsWidth.{AsWidth}
use Rattle.bgp_paths.specs.declared.numbers.AsWidth.TheVariants.{Two, Four}
use Rattle.bgp_wire.specs.declared.attrs.Origin.{Origin}
use Rattle.bgp_wire.specs.declared.attrs.Aggregator.{Aggregator}
use Rattle.bgp_wire.specs.declared.values.TheConstants.{IPV4_SIZE}
use Rattle.bgp_paths.specs.Path.{asn_size, SpellsAsn, SpellsU32}
use Rattle.bgp_wire.specs.Attribute.{SpellsOptional, SpellsPresence, origin_code, SpellsOrigin, SpellsAddressOctets, SpellsIPv4, SpellsAggregatorAt, SpellsAggregator}
use Rattle.bgp_wire.specs.Reach.{MayTrailHop, SpellsNextHop, SpellsSizedHop, SpellsRibHopInEitherForm, BeginsWithHop, SpellsAfterUnicast, SpellsReach, SpellsMpReach, SpellsMpUnreach}
use Rattle.bgp_wire.specs.Content.{SpellsIfWellFormed}
use Rattle.bgp_paths.proofs.HasOneFront.{number_code, length-number}
use Rattle.bgp_wire.proofs.Hops.{length-hop}
use Rattle.bgp_wire.proofs.Reaching.{same_family, same_unicast, same_stand, not_another}
use Rattle.ip_prefix.specs.Fronts.{IsUnambiguous}
use Rattle.octet_forms.proofs.Fields.{one_of_code}

pub one_optional : {A : Type 0} (Spells : A → List ℕ → Type 0) → IsUnambiguous Spells → IsUnambiguous (SpellsOptional Spells)
one_optional Spells one a b value s t = grind (arith, one)

pub one_where_formed : {A : Type 0} (Spells : A → List ℕ → Type 0) → IsUnambiguous Spells → IsUnambiguous (SpellsIfWellFormed Spells)
one_where_formed Spells one a b value s t = grind (arith, one)

pub one_presence : IsUnambiguous SpellsPresence
one_presence a b value s t = grind arith

same_origin : (a b : Origin) → origin_code a ≡ origin_code b → a ≡ b
same_origin a b e = grind arith

pub one_origin : IsUnambiguous SpellsOrigin
one_origin a b octets s t = same_origin a b (ap (λ l. get_or l 0 0) (sym s ∙ t))

pub one_word : IsUnambiguous SpellsU32
one_word = one_of_code SpellsU32 (number_code Four)

pub one_words : IsUnambiguous (SpellsAll SpellsU32)
one_words a b octets s t = one_list SpellsU32 (number_code Four) octets a b s t

-- ---- addresses

pub one_address : IsUnambiguous SpellsAddressOctets
one_address a b octets s t =
    let families = same_family octet_count (λ e. omega (arith, e)) a.family b.family (sym s.size ∙ t.size) in
    let bits = s.bits ∙ sym t.bits in
    λ i. record { family = families i; bits = bits i }

pub one_ipv4 : IsUnambiguous SpellsIPv4
one_ipv4 a b octets s t = one_address a b octets s.spelled t.spelled

pub one_aggregator_at : (width : AsWidth) → IsUnambiguous (SpellsAggregatorAt width)
one_aggregator_at width a b octets s t =
    let sizes = length-number width a.asn s.number s.spelled ∙ sym (length-number width b.asn t.number t.spelled) in
    let parts = append_parts s.number t.number s.address t.address sizes (sym s.whole ∙ t.whole) in
    let numbers = one_of_code (SpellsAsn width) (number_code width) a.asn b.asn t.number (subst (SpellsAsn width a.asn) parts.0 s.spelled) t.spelled in
    let addresses = one_ipv4 a.addr b.addr t.address (subst (SpellsIPv4 a.addr) parts.1 s.addressed) t.addressed in
    λ i. record { addr = addresses i; asn = numbers i }

length-aggregator : (width : AsWidth) (a : Aggregator) (octets : List ℕ) → SpellsAggregatorAt width a octets → length octets ≡ asn_size width + IPV4_SIZE
length-aggregator width a octets s =
    let address : length s.address ≡ IPV4_SIZE = s.addressed.spelled.size ∙ ap octet_count s.addressed.of_family in
    omega (arith, ap length s.whole, length-append s.number s.address, length-number width a.asn s.number s.spelled, address)

pub one_aggregator : IsUnambiguous SpellsAggregator
one_aggregator a b octets (Two, s) (Two, t) = one_aggregator_at Two a b octets s t
one_aggregator a b octets (Two, s) (Four, t) = absurd (omega (arith, length-aggregator Two a octets s, length-aggregator Four b octets t))
one_aggregator a b octets (Four, s) (Two, t) = absurd (omega (arith, length-aggregator Four a octets s, length-aggregator Two b octets t))
one_aggregator a b octets (Four, s) (Four, t) = one_aggregator_at Four a b octets s t

-- ---- next hops

-- a next hop has 4 octets, 16 or 32
hop_size : (family : Family) (address link octets : List ℕ) → length address ≡ octet_count family → MayTrailHop family link → octets ≡ address ++ link
    → (length octets ≡ octet_count family) ⊎ ((family ≡ V6) × (length octets ≡ 32))
hop_size family address link octets size linked e = grind (arith, length-append address link)

one_family : (family other : Family) (size : ℕ) → ((size ≡ octet_count family) ⊎ ((family ≡ V6) × (size ≡ 32))) → ((size ≡ octet_count other) ⊎ ((other ≡ V6) × (size ≡ 32))) → family ≡ other
one_family family other size s t = grind arith

pub one_next_hop : IsUnambiguous SpellsNextHop
one_next_hop a b octets s t =
    let families = one_family a.family b.family (length octets) (hop_size a.family s.address s.link_local octets s.spelled.size s.linked s.whole) (hop_size b.family t.address t.link_local octets t.spelled.size t.linked t.whole) in
    let sizes : length s.address ≡ length t.address = s.spelled.size ∙ ap octet_count families ∙ sym t.spelled.size in
    let parts = append_parts s.address t.address s.link_local t.link_local sizes (sym s.whole ∙ t.whole) in
    one_address a b t.address (subst (SpellsAddressOctets a) parts.0 s.spelled) t.spelled

pub one_hop_alone : IsUnambiguous SpellsSizedHop
one_hop_alone a b octets s t =
    let one = sym s.whole ∙ t.whole in
    let parts = append_parts s.front t.front s.more t.more (ap (λ l. get_or l 0 0) one) (ap (drop 1) one) in
    one_next_hop a b t.front (subst (SpellsNextHop a) parts.0 s.spelled) t.spelled

pub one_rib_hop : IsUnambiguous SpellsRibHopInEitherForm
one_rib_hop a b octets (inl s) (inl t) = one_hop_alone a b octets s t
one_rib_hop a b octets (inl s) (inr t) = absurd (omega (arith, length-hop a s.front s.spelled, ap (λ l. get_or l 0 0) (sym s.whole ∙ t.whole)))
one_rib_hop a b octets (inr s) (inl t) = absurd (omega (arith, length-hop b t.front t.spelled, ap (λ l. get_or l 0 0) (sym t.whole ∙ s.whole)))
one_rib_hop a b octets (inr s) (inr t) = one_hop_alone a b t.rest (subst (SpellsSizedHop a) (ap (drop 3) (sym s.whole ∙ t.whole)) s.spelled) t.spelled

-- ---- what is announced and withdrawn

one_reached : IsUnambiguous (SpellsAfterUnicast SpellsReach)
one_reached a b octets s t =
    let same = same_unicast s.family t.family s.rest t.rest octets s.whole t.whole in
    let u = subst (λ f. SpellsReach f a s.rest) same.0 s.spelled in
    let stands = subst (BeginsWithHop a.hop u.body) same.1 u.stands in
    let stood = same_stand a.hop b.hop u.body t.spelled.body t.rest stands t.spelled.stands in
    let hops = one_next_hop a.hop b.hop t.spelled.stands.front (subst (SpellsNextHop a.hop) stood.0 stands.spelled) t.spelled.stands.spelled in
    let prefixes = one_list (SpellsNetwork t.family) (network_code t.family) t.spelled.body a.prefixes b.prefixes (subst (SpellsAll (SpellsNetwork t.family) a.prefixes) stood.1 u.spelled) t.spelled.spelled in
    λ i. record { hop = hops i; prefixes = prefixes i }

pub one_reach : IsUnambiguous SpellsMpReach
one_reach None None octets s t = refl
one_reach None (Some b) None s t = absurd t
one_reach None (Some b) (Some octets) s t = absurd (not_another t.family t.rest octets t.whole s)
one_reach (Some a) None None s t = absurd s
one_reach (Some a) None (Some octets) s t = absurd (not_another s.family s.rest octets s.whole t)
one_reach (Some a) (Some b) None s t = absurd s
one_reach (Some a) (Some b) (Some octets) s t = ap Some (one_reached a b octets s t)

pub one_unreach : IsUnambiguous SpellsMpUnreach
one_unreach a b None s t = s ∙ sym t
one_unreach a b (Some octets) (inl s) (inl t) = s.1 ∙ sym t.1
one_unreach a b (Some octets) (inl s) (inr t) = absurd (not_another t.family t.rest octets t.whole s.0)
one_unreach a b (Some octets) (inr s) (inl t) = absurd (not_another s.family s.rest octets s.whole t.0)
one_unreach a b (Some octets) (inr s) (inr t) =
    let same = same_unicast s.family t.family s.rest t.rest octets s.whole t.whole in
    let u = subst (λ f. SpellsAll (SpellsNetwork f) a s.rest) same.0 s.spelled in
    one_list (SpellsNetwork t.family) (network_code t.family) t.rest a b (subst (SpellsAll (SpellsNetwork t.family) a) same.1 u) t.spelled
