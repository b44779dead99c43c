-- No octets begin with two fields of a kind.
use Rattle.std.proofs.Common.{◌≡◌, ℕ, List, [], ◌∷◌, ◌++◌, length, take, drop, refl, ap, ap₂, sym, ◌∙◌, append_assoc, take-append-drop}
use Rattle.std.specs.Int.{to_be_bytes, w16}
use Rattle.ip_prefix.specs.declared.addr.Family.{Family}
use Rattle.ip_prefix.specs.Network.{octet_count}
use Rattle.ip_prefix.specs.Bits.{bits_of_octets}
use Rattle.ip_prefix.specs.Sequences.{Begins}
use Rattle.ip_prefix.specs.Fronts.{BeginsWithNone, HasOneFront}
use Rattle.octet_forms.proofs.Fields.{then_front}
use Rattle.octet_forms.proofs.Lists.{append_parts}
use Rattle.bgp_wire.specs.declared.AsWidth.{AsWidth}
use Rattle.bgp_wire.specs.declared.AsWidth.TheVariants.{Two, Four}
use Rattle.bgp_wire.specs.Path.{SpellsAsn, SpellsU32}
use Rattle.bgp_paths.proofs.HasOneFront.{number_code}
use Rattle.bgp_wire.proofs.Reaching.{same_sized}
use Rattle.mrt_wire.specs.Fields.{SpellsOctet, SpellsShort, AreOctets, AreSized, SpellsAddressOf, SpellsPeerOf}

-- octets that are cut in two are both parts
pub cut_whole : {octets front rest : List ℕ} (size : ℕ) → front ≡ take size octets → rest ≡ drop size octets → octets ≡ front ++ rest
cut_whole {octets = octets} size first then = sym (ap₂ (λ front rest. front ++ rest) first then ∙ take-append-drop size octets)

pub octet_front : HasOneFront SpellsOctet
octet_front a b x y octets p q =
    let one : a ∷ x ≡ b ∷ y = sym (p.whole ∙ ap (λ l. l ++ x) p.spelled.whole) ∙ (q.whole ∙ ap (λ l. l ++ y) q.spelled.whole) in
    let firsts : a ≡ b = cc in
    let rests : x ≡ y = cc in
    (firsts, rests)

pub octets_front : (size : ℕ) → HasOneFront (AreOctets size)
octets_front size a b x y octets p q =
    let parts = append_parts p.front q.front x y (p.spelled.long ∙ sym q.spelled.long) (sym p.whole ∙ q.whole) in
    (sym p.spelled.whole ∙ parts.0 ∙ q.spelled.whole, parts.1)

pub sized_front : HasOneFront AreSized
sized_front a b x y octets p q =
    same_sized a b x y p.spelled.fits q.spelled.fits (sym (p.whole ∙ ap (λ l. l ++ x) p.spelled.whole) ∙ (q.whole ∙ ap (λ l. l ++ y) q.spelled.whole))

pub address_front : (family : Family) → HasOneFront (SpellsAddressOf family)
address_front family a b x y octets p q =
    let s = p.spelled in
    let t = q.spelled in
    let families : a.family ≡ b.family = s.of_family ∙ sym t.of_family in
    let parts = append_parts p.front q.front x y (s.spelled.size ∙ (λ i. octet_count (families i)) ∙ sym t.spelled.size) (sym p.whole ∙ q.whole) in
    let bits = s.spelled.bits ∙ ap bits_of_octets parts.0 ∙ sym t.spelled.bits in
    ((λ i. record { family = families i; bits = bits i }), parts.1)

pub asn_front : (width : AsWidth) → HasOneFront (SpellsAsn width)
asn_front width = (number_code width).same

pub short_front : HasOneFront SpellsShort
short_front = asn_front Two

pub word_front : HasOneFront SpellsU32
word_front = asn_front Four

pub peer_of_front : (family : Family) (width : AsWidth) → HasOneFront (SpellsPeerOf family width)
peer_of_front family width a b x y octets p q =
    let one = then_front (SpellsAddressOf family) (λ address. SpellsAsn width) (address_front family) (λ address. asn_front width) (a.addr, a.asn) (b.addr, b.asn) x y octets
    record { front = p.front; spelled = p.spelled; whole = p.whole } record { front = q.front; spelled = q.spelled; whole = q.whole } in
    ((λ i. record { addr = (one.0 i).0; asn = (one.0 i).1 }), one.1)

-- no octet begins nothing
pub nothing_octet : (n : ℕ) (rest octets : List ℕ) → Begins SpellsOctet n rest octets → octets ≡ [] → ⊥
nothing_octet n rest octets b e = let f : [] ≡ n ∷ rest = sym e ∙ (b.whole ∙ ap (λ l. l ++ rest) b.spelled.whole) in cc

-- where no number stands in front no length does
pub no_size : (octets : List ℕ) → BeginsWithNone SpellsShort octets → BeginsWithNone AreSized octets
no_size octets none value rest b = none (length value) (value ++ rest) record {
  front = to_be_bytes w16 (length value);
  spelled = record { fits = b.spelled.fits; whole = refl };
  whole = b.whole ∙ ap (λ l. l ++ rest) b.spelled.whole ∙ append_assoc (to_be_bytes w16 (length value)) value rest;
}
