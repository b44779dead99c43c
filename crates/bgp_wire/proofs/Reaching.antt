-- Octets of MP_REACH_NLRI, of MP_UNREACH_NLRI, and of messages.
use Rattle.std.proofs.Common.{◌≡◌, ℕ, ◌<◌, ◌≤◌, ◌^◌, List, ◌∷◌, ◌++◌, length, take, drop, get_or, Option, Some, None, refl, ap, sym, subst, ◌∙◌, arith, length-append, length-take-le, take-append-drop}
use Rattle.std.specs.Int.{w16, to_be_bytes}
use Rattle.std.proofs.Math.Seq.{get_or-append_seam}
use Rattle.ip_prefix.specs.declared.addr.Family.{Family}
use Rattle.ip_prefix.specs.declared.addr.Family.TheVariants.{V4, V6}
use Rattle.ip_prefix.specs.Network.{Address}
use Rattle.octet_forms.proofs.Numbers.{same_w16}
use Rattle.octet_forms.proofs.Lists.{append_parts}
use Rattle.bgp_wire.specs.declared.message.TheConstants.{MARKER_SIZE}
use Rattle.bgp_wire.specs.declared.lengths.TheConstants.{LENGTH_SIZE}
use Rattle.bgp_wire.specs.Reach.{SpellsNextHop, Reach, family_code, unicast_octets, HasOtherAfiSafi, BeginsWithHop, SpellsReach, SpellsMpReach}
use Rattle.bgp_wire.specs.Update.{with_u16_length, IsUpdate, IsMessage}

-- a next hop whose length stands in front is spelled by as many octets, and another stands behind them
pub hop_here : (hop : Address) (rest octets : List ℕ) (len : ℕ) (after : List ℕ) → octets ≡ len ∷ after → BeginsWithHop hop rest octets → SpellsNextHop hop (take len after)
hop_here hop rest octets len after e s =
    let one : len ∷ after ≡ length s.front ∷ (s.front ++ s.reserved ∷ rest) = sym e ∙ s.whole in
    let lengths : len ≡ length s.front = ap (λ l. get_or l 0 0) one in
    let rests : after ≡ s.front ++ s.reserved ∷ rest = ap (drop 1) one in
    let within : len ≤ length after = omega (arith, lengths, ap length rests, length-append s.front (s.reserved ∷ rest)) in
    let parts = append_parts (take len after) s.front (drop len after) (s.reserved ∷ rest) (length-take-le len after within ∙ lengths) (take-append-drop len after ∙ rests) in
    subst (SpellsNextHop hop) (sym parts.0) s.spelled

-- what stands behind two next hops of one list is one
pub same_stand : (hop other : Address) (rest more octets : List ℕ) (s : BeginsWithHop hop rest octets) (t : BeginsWithHop other more octets) → (s.front ≡ t.front) × (rest ≡ more)
same_stand hop other rest more octets s t =
    let one : length s.front ∷ (s.front ++ s.reserved ∷ rest) ≡ length t.front ∷ (t.front ++ t.reserved ∷ more) = sym s.whole ∙ t.whole in
    let parts = append_parts s.front t.front (s.reserved ∷ rest) (t.reserved ∷ more) (ap (λ l. get_or l 0 0) one) (ap (drop 1) one) in
    (parts.0, ap (drop 1) parts.1)

-- where two families have different numbers, those of one number are one
pub same_family : (number : Family → ℕ) → (number V4 ≡ number V6 → ⊥) → (family other : Family) → number family ≡ number other → family ≡ other
same_family number differ family other e = grind arith

-- octets begin with unicast of one family at most
pub same_unicast : (family other : Family) (rest more octets : List ℕ) → octets ≡ unicast_octets family ++ rest → octets ≡ unicast_octets other ++ more → (family ≡ other) × (rest ≡ more)
same_unicast family other rest more octets p q =
    let one = sym p ∙ q in
    (same_family family_code (λ e. omega (arith, e)) family other (ap (λ l. get_or l 1 0) one), ap (drop 3) one)

-- and with another then not
pub not_another : (family : Family) (rest octets : List ℕ) → octets ≡ unicast_octets family ++ rest → HasOtherAfiSafi octets → ⊥
not_another family rest octets e a = a.other family (ap (take 3) (sym a.whole ∙ e))

-- behind unicast of a family stand the prefixes that are announced
pub reach_part : (family : Family) (rest octets : List ℕ) → octets ≡ unicast_octets family ++ rest → (value : Option Reach) → SpellsMpReach value (Some octets) → (reach : Reach) × SpellsReach family reach rest
reach_part family rest octets e None s = absurd (not_another family rest octets e s)
reach_part family rest octets e (Some reach) s =
    let same = same_unicast s.family family s.rest rest octets s.whole e in
    (reach, subst (SpellsReach family reach) same.1 (subst (λ f. SpellsReach f reach s.rest) same.0 s.spelled))

-- octets behind their length are those in front of one list
pub same_sized : (front other rest more : List ℕ) → length front < 2 ^ 16 → length other < 2 ^ 16 → with_u16_length front ++ rest ≡ with_u16_length other ++ more → (front ≡ other) × (rest ≡ more)
same_sized front other rest more p q e =
    let one : to_be_bytes w16 (length front) ++ (front ++ rest) ≡ to_be_bytes w16 (length other) ++ (other ++ more) = e in
    let parts = append_parts (to_be_bytes w16 (length front)) (to_be_bytes w16 (length other)) (front ++ rest) (other ++ more) refl one in
    append_parts front other rest more (same_w16 (length front) (length other) p q parts.0) parts.1

-- ---- messages

-- behind the marker of a message stands its length, and then its type and its body
pub message_parts : (kind : ℕ) (body octets : List ℕ) (len after : List ℕ) → length len ≡ LENGTH_SIZE → drop MARKER_SIZE octets ≡ len ++ after → IsMessage kind body octets
    → (len ≡ to_be_bytes w16 (length octets)) × (after ≡ kind ∷ body)
message_parts kind body octets len after size e s =
    let within : MARKER_SIZE ≤ length octets = omega (arith, ap length s.whole, length-append s.marker (to_be_bytes w16 (length octets) ++ (kind ∷ body)), s.marker_size) in
    let parts = append_parts (take MARKER_SIZE octets) s.marker (drop MARKER_SIZE octets) (to_be_bytes w16 (length octets) ++ (kind ∷ body)) (length-take-le MARKER_SIZE octets within ∙ sym s.marker_size) (take-append-drop MARKER_SIZE octets ∙ s.whole) in
    append_parts len (to_be_bytes w16 (length octets)) after (kind ∷ body) size (sym e ∙ parts.1)

-- an octet that stands in octets is one
pub octet_behind : (octets front rest : List ℕ) (x : ℕ) → ((i : ℕ) → get_or octets i 0 < 256) → octets ≡ front ++ x ∷ rest → x < 256
octet_behind octets front rest x each e = omega (arith, each (length front), ap (λ l. get_or l (length front) 0) e, get_or-append_seam front x rest 0)

-- the parts of an UPDATE's body are one way
pub same_update : (withdrawn attributes announced other_withdrawn other_attributes other_announced body : List ℕ) → IsUpdate withdrawn attributes announced body → IsUpdate other_withdrawn other_attributes other_announced body
    → (withdrawn ≡ other_withdrawn) × (attributes ≡ other_attributes) × (announced ≡ other_announced)
same_update withdrawn attributes announced other_withdrawn other_attributes other_announced body s t =
    let first = same_sized withdrawn other_withdrawn (with_u16_length attributes ++ announced) (with_u16_length other_attributes ++ other_announced) s.withdrawn_fits t.withdrawn_fits (sym s.whole ∙ t.whole) in
    let second = same_sized attributes other_attributes announced other_announced s.attributes_fit t.attributes_fit first.1 in
    (first.0, second.0, second.1)

-- octets are a message of one type and body
pub same_message : (kind other : ℕ) (body more octets : List ℕ) → IsMessage kind body octets → IsMessage other more octets → (kind ≡ other) × (body ≡ more)
same_message kind other body more octets s t =
    let parts = append_parts s.marker t.marker (to_be_bytes w16 (length octets) ++ (kind ∷ body)) (to_be_bytes w16 (length octets) ++ (other ∷ more)) (s.marker_size ∙ sym t.marker_size) (sym s.whole ∙ t.whole) in
    (ap (λ l. get_or l 2 0) parts.1, ap (drop 3) parts.1)
