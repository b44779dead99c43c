-- Octets of next hops.
use Rattle.std.proofs.Common.{◌≡◌, ◌⊎◌, inl, inr, ℕ, ◌<◌, ◌≤◌, List, ◌∷◌, ◌++◌, length, take, drop, get_or, ap, sym, subst, ◌∙◌, refl, arith, length-drop}
use Rattle.std.proofs.lemmas.List.{length-append, length-take-le, take-append-drop, nil_from_length}
use Rattle.ip_prefix.specs.declared.addr.Family.{Family}
use Rattle.ip_prefix.specs.declared.addr.Family.TheVariants.{V6}
use Rattle.ip_prefix.specs.Network.{Address, octet_count}
use Rattle.ip_prefix.specs.Bits.{bits_of_octets}
use Rattle.octet_forms.proofs.Lists.{append_parts}
use Rattle.bgp_wire.specs.declared.next_hop.TheConstants.{FAMILY_SIZE, IPV6_SIZE, BOTH_SIZE}
use Rattle.bgp_wire.specs.Reach.{MayTrailHop, SpellsNextHop, SpellsSizedHop, SpellsRibHopInEitherForm}

-- the octets behind the first sixteen are none, or a link-local address
link_local_size : (octets : List ℕ) → ((length octets ≡ IPV6_SIZE) ⊎ (length octets ≡ BOTH_SIZE)) → MayTrailHop V6 (drop IPV6_SIZE octets)
link_local_size octets (inl e) = inl (nil_from_length (drop IPV6_SIZE octets) (omega (arith, length-drop IPV6_SIZE octets, e)))
link_local_size octets (inr e) = inr (omega (arith, length-drop IPV6_SIZE octets, e))

-- the first sixteen of 16 or 32 octets are the next hop
pub global_hop : (hop : Address) (octets : List ℕ) → ((length octets ≡ IPV6_SIZE) ⊎ (length octets ≡ BOTH_SIZE)) → hop ≡ record { family = V6; bits = bits_of_octets (take IPV6_SIZE octets) } → SpellsNextHop hop octets
global_hop hop octets size e = subst (λ hop. SpellsNextHop hop octets) (sym e) record {
  address = take IPV6_SIZE octets;
  spelled = record { size = length-take-le IPV6_SIZE octets (enough size); bits = refl };
  link_local = drop IPV6_SIZE octets;
  linked = link_local_size octets size;
  whole = sym (take-append-drop IPV6_SIZE octets);
}
  where
    enough : ((length octets ≡ IPV6_SIZE) ⊎ (length octets ≡ BOTH_SIZE)) → IPV6_SIZE ≤ length octets
    enough (inl e) = omega (arith, e)
    enough (inr e) = omega (arith, e)

some_octets : (family : Family) → 0 < octet_count family
some_octets family = grind arith

-- a next hop has octets
pub length-hop : (hop : Address) (octets : List ℕ) → SpellsNextHop hop octets → 0 < length octets
length-hop hop octets s = omega (arith, some_octets hop.family, s.spelled.size, ap length s.whole, length-append s.address s.link_local)

-- a next hop whose length stands in front is spelled by as many octets
pub hop_in_front : (hop : Address) (len : ℕ) (rest octets : List ℕ) → octets ≡ len ∷ rest → SpellsSizedHop hop octets → (len ≤ length rest) × SpellsNextHop hop (take len rest)
hop_in_front hop len rest octets e s =
    let one : len ∷ rest ≡ length s.front ∷ (s.front ++ s.more) = sym e ∙ s.whole in
    let lengths : len ≡ length s.front = ap (λ l. get_or l 0 0) one in
    let rests : rest ≡ s.front ++ s.more = ap (drop 1) one in
    let within : len ≤ length rest = omega (arith, lengths, ap length rests, length-append s.front s.more) in
    let parts = append_parts (take len rest) s.front (drop len rest) s.more (length-take-le len rest within ∙ lengths) (take-append-drop len rest ∙ rests) in
    (within, subst (SpellsNextHop hop) (sym parts.0) s.spelled)

pub hop_alone : (hop : Address) (len : ℕ) (rest octets : List ℕ) → octets ≡ len ∷ rest → len ≤ length rest → SpellsNextHop hop (take len rest) → SpellsSizedHop hop octets
hop_alone hop len rest octets e within s = record {
  front = take len rest;
  spelled = s;
  more = drop len rest;
  whole = e ∙ (λ i. sym (length-take-le len rest within) i ∷ sym (take-append-drop len rest) i);
}

-- ---- RIB entries

-- a first octet that isn't 0 tells the abbreviated form
pub abbreviated : (hop : Address) (first : ℕ) (rest octets : List ℕ) → octets ≡ first ∷ rest → (first ≡ 0 → ⊥) → SpellsRibHopInEitherForm hop octets → SpellsSizedHop hop octets
abbreviated hop first rest octets e other (inl s) = s
abbreviated hop first rest octets e other (inr s) = absurd (other (ap (λ l. get_or l 0 0) (sym e ∙ s.whole)))

-- and one that is 0 the full form
pub in_full : (hop : Address) (first : ℕ) (rest octets : List ℕ) → octets ≡ first ∷ rest → first ≡ 0 → SpellsRibHopInEitherForm hop octets → (FAMILY_SIZE ≤ length octets) × SpellsSizedHop hop (drop FAMILY_SIZE octets)
in_full hop first rest octets e zero (inl s) =
    absurd (omega (arith, ap (λ l. get_or l 0 0) (sym e ∙ s.whole), zero, length-hop hop s.front s.spelled))
in_full hop first rest octets e zero (inr s) = (omega (arith, ap length s.whole), subst (SpellsSizedHop hop) (sym (ap (drop FAMILY_SIZE) s.whole)) s.spelled)

pub full_form : (hop : Address) (first : ℕ) (rest octets : List ℕ) → octets ≡ first ∷ rest → first ≡ 0 → FAMILY_SIZE ≤ length octets → SpellsSizedHop hop (drop FAMILY_SIZE octets) → SpellsRibHopInEitherForm hop octets
full_form hop first rest octets e zero size s = inr record {
  family_end = get_or octets 1 0;
  subsequent = get_or octets 2 0;
  rest = drop FAMILY_SIZE octets;
  spelled = s;
  whole = three octets size ∙ ap (λ n. n ∷ get_or octets 1 0 ∷ get_or octets 2 0 ∷ drop FAMILY_SIZE octets) (ap (λ l. get_or l 0 0) e ∙ zero);
}
  where
    three : (l : List ℕ) → 3 ≤ length l → l ≡ get_or l 0 0 ∷ get_or l 1 0 ∷ get_or l 2 0 ∷ drop 3 l
    three (x ∷ y ∷ z ∷ l) h = refl
    three l h = absurd (omega (arith, h))
