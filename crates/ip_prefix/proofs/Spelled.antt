-- Which addresses and prefixes texts spell.
use Rattle.std.proofs.Common.{◌≡◌, ℕ, zero, suc, ◌+◌, ◌-◌, ◌^◌, ◌<◌, ◌≤◌, Bool, false, List, [], ◌∷◌, ◌++◌, length, take, drop, get_or, replicate, decimal, Option, Some, None, refl, sym, ap, ap₂, subst, ◌∙◌, arith, take_at, length-append, length-take-le, append_assoc, take-append-drop, map, All, ◌==◌, ne_eqb, MatchOption}
use Rattle.std.proofs.lemmas.List.{length-replicate, drop_more, get_or_at}
use Rattle.std.proofs.lemmas.List.Folds.{list_any_none}
use Rattle.std.proofs.lemmas.Fmt.{decimal_injective}
use Rattle.std.specs.Net.Addr.{octets_of}
use Rattle.std.specs.Net.Text.{hex_groups_text, ipv4_text}
use Rattle.std.specs.Net.Grammar.{IsDotted, IsColonHex, IsIpv4Text, IsIpv6Text}
use Rattle.std.specs.declared.net.ipv4_addr.Ipv4Addr.{Ipv4Addr}
use Rattle.std.specs.declared.net.ipv6_addr.Ipv6Addr.{Ipv6Addr}
use Rattle.std.proofs.NetLemmas.Theorems.{IsIpv4Text_unique, IsIpv6Text_unique}
use Rattle.std.proofs.NetLemmas.Ipv6.{IsDotted-not_colon_hex}
use Rattle.std.proofs.NetLemmas.Texts.{AllSegments, IsDotted-ipv4_text, IsColonHex-hex_groups_text}
use Rattle.std.proofs.NetLemmas.Alphabet.{IsHexOrColon, All-hex_groups_text}
use Rattle.ip_prefix.specs.declared.addr.Family.{Family}
use Rattle.ip_prefix.specs.declared.addr.Family.TheVariants.{V4, V6}
use Rattle.ip_prefix.specs.Bits.{bits_of_octets}
use Rattle.ip_prefix.specs.Network.{Address, IsAddress, bit_count, octet_at, group_at, groups_of, Network, IsNetwork, network_of, least_address}
use Rattle.ip_prefix.specs.Text.{v4_text, v6_text, address_text, network_text, octets_of_v4, HasNoDot, SpellsAddress, SpellsPrefix}
use Rattle.ip_prefix.specs.Marks.{HasNoSlash, IsLastSlash}
use Rattle.ip_prefix.proofs.Chunks.{octets_back, groups_back, four_octets, eight_groups, octet_fits, group_fits, bits_from_octets, bits_from_groups}
use Rattle.ip_prefix.proofs.Lengths.{IsNoLength, split_at_slash, slash_inside, digits_behind}

-- ---- addresses

-- a dotted text spells the address of its octets
pub spells_octets : (text octets : List ℕ) → ((k : ℕ) → get_or octets k 0 < 256) → IsDotted text octets → SpellsAddress (record { family = V4; bits = bits_of_octets octets }) text
spells_octets text octets fits h =
    let four : length octets ≡ 4 = ap length h.value in
    (four_octets octets four, subst (IsDotted text) (sym (octets_back octets four fits)) h)

-- numbers of two octets fit
segments_fit : (groups : List ℕ) → ((k : ℕ) → get_or (octets_of groups) k 0 < 256) → AllSegments groups
segments_fit [] h k = omega arith
segments_fit (g ∷ groups) h zero = omega (arith, h 0)
segments_fit (g ∷ groups) h (suc k) = segments_fit groups (λ j. h (suc (suc j))) k

-- a text of groups without a dot spells the address of these
pub spells_groups : (text groups : List ℕ) → length groups ≡ 8 → ((k : ℕ) → get_or (octets_of groups) k 0 < 256) → HasNoDot text → IsColonHex text groups
    → SpellsAddress (record { family = V6; bits = bits_of_octets (octets_of groups) }) text
spells_groups text groups eight fits none h = (eight_groups groups eight, (subst (IsColonHex text) (sym (groups_back groups eight (segments_fit groups fits))) h, none))

-- a text that has neither form spells no address
no_form : (family : Family) (bits : List Bool) (text : List ℕ) → ((a : Ipv4Addr) → ¬ (IsIpv4Text text a)) → ((a : Ipv6Addr) → HasNoDot text → ¬ (IsIpv6Text text a))
    → ¬ (SpellsAddress (record { family = family; bits = bits }) text)
no_form V4 bits text no_four no_six h = no_four (record { octets = octets_of_v4 (record { family = V4; bits = bits }) }) h.1
no_form V6 bits text no_four no_six h = no_six (record { segments = groups_of (record { family = V6; bits = bits }) }) h.1.1 h.1.0

-- the same of an address as a whole
pub none_spells_none : (a : Address) (text : List ℕ) → ((b : Ipv4Addr) → ¬ (IsIpv4Text text b)) → ((b : Ipv6Addr) → HasNoDot text → ¬ (IsIpv6Text text b)) → ¬ (SpellsAddress a text)
none_spells_none a text no_four no_six = no_form a.family a.bits text no_four no_six

-- one text spells one address
same_spelled : (f g : Family) (a b : List Bool) (text : List ℕ) → SpellsAddress (record { family = f; bits = a }) text → SpellsAddress (record { family = g; bits = b }) text
    → ◌≡◌ {A = Address} (record { family = f; bits = a }) (record { family = g; bits = b })
same_spelled V4 V4 a b text h k =
    let one : Ipv4Addr = record { octets = octets_of_v4 (record { family = V4; bits = a }) } in
    let two : Ipv4Addr = record { octets = octets_of_v4 (record { family = V4; bits = b }) } in
    let same = bits_from_octets a b h.0 k.0 (ap (λ x. x.octets) (IsIpv4Text_unique text one two h.1 k.1)) in
    λ i. record { family = V4; bits = same i }
same_spelled V6 V6 a b text h k =
    let one : Ipv6Addr = record { segments = groups_of (record { family = V6; bits = a }) } in
    let two : Ipv6Addr = record { segments = groups_of (record { family = V6; bits = b }) } in
    let same = bits_from_groups a b h.0 k.0 (ap (λ x. x.segments) (IsIpv6Text_unique text one two h.1.0 k.1.0)) in
    λ i. record { family = V6; bits = same i }
same_spelled V4 V6 a b text h k = absurd (IsDotted-not_colon_hex text _ _ h.1 k.1.0)
same_spelled V6 V4 a b text h k = absurd (IsDotted-not_colon_hex text _ _ k.1 h.1.0)

-- the same of addresses as wholes
pub one_address : (a b : Address) (text : List ℕ) → SpellsAddress a text → SpellsAddress b text → a ≡ b
one_address a b text h k = same_spelled a.family b.family a.bits b.bits text h k

-- numbers that are answered fit where each answer does
each_fits : (f : ℕ → ℕ) (most : ℕ) → 0 < most → ((i : ℕ) → f i < most) → (places : List ℕ) (k : ℕ) → get_or (map f places) k 0 < most
each_fits f most some h [] k = some
each_fits f most some h (i ∷ places) zero = h i
each_fits f most some h (i ∷ places) (suc k) = each_fits f most some h places k

-- digits and colons are no dots
no_dot : (text : List ℕ) → All IsHexOrColon text → HasNoDot text
no_dot text h = list_any_none (λ octet. octet == 46) text (λ k d within. ne_eqb _ 46 (λ dot. omega (arith, h k d within)))

-- the text of an address is a spelling of it
text_spelled : (family : Family) (bits : List Bool) → length bits ≡ bit_count family → SpellsAddress (record { family = family; bits = bits }) (address_text (record { family = family; bits = bits }))
unfolding address_text v4_text v6_text
text_spelled V4 bits long =
    let a : Address = record { family = V4; bits = bits } in
    let same : ipv4_text (octets_of_v4 a) ≡ v4_text a = simp append_assoc in
    let fits = each_fits (octet_at a) 256 (omega arith) (octet_fits a) (0 ∷ 1 ∷ 2 ∷ 3 ∷ []) in
    (long, subst (λ t. IsDotted t (octets_of_v4 a)) same (IsDotted-ipv4_text (octets_of_v4 a) refl fits))
text_spelled V6 bits long =
    let a : Address = record { family = V6; bits = bits } in
    let groups = groups_of a in
    let fits = each_fits (group_at a) (2 ^ 16) (omega arith) (group_fits a) (0 ∷ 1 ∷ 2 ∷ 3 ∷ 4 ∷ 5 ∷ 6 ∷ 7 ∷ []) in
    (long, (IsColonHex-hex_groups_text groups refl fits, no_dot (hex_groups_text groups) (All-hex_groups_text groups fits)))

-- the same of an address as a whole
pub address_text_spells : (a : Address) → IsAddress a → SpellsAddress a (address_text a)
address_text_spells a h = text_spelled a.family a.bits h

-- ---- prefixes

-- no prefix has more than 128 bits
length_small : (family : Family) (n : ℕ) → n ≤ bit_count family → n < 256
length_small V4 n h = omega arith
length_small V6 n h = omega arith

-- the text of a prefix is a spelling of it
pub network_text_spells : (n : Network) → IsNetwork n → SpellsPrefix n (network_text n)
unfolding network_text
network_text_spells n h =
    let least = least_address n in
    let rest = replicate (bit_count n.family - length n.bits) false in
    let long : length least.bits ≡ bit_count n.family = omega (arith, length-append n.bits rest, length-replicate (bit_count n.family - length n.bits) false) in
    record {
      fits = h;
      address = least;
      address_text = address_text least;
      spelled = address_text_spells least long;
      of_family = refl;
      begins = take_at n.bits rest (length n.bits) refl;
      whole = refl;
    }

-- what stands on each side of it where the text spells a prefix
sides : (n : Network) (text : List ℕ) (at : ℕ) → IsLastSlash text at → (h : SpellsPrefix n text)
    → (take at text ≡ h.address_text) × (drop (at + 1) text ≡ decimal (length n.bits))
sides n text at s h = split_at_slash text h.address_text (length n.bits) at (length_small n.family (length n.bits) h.fits) h.whole s.within s.slash s.last

-- a text without a slash spells no prefix
pub no_slash : (n : Network) (text : List ℕ) → HasNoSlash text → ¬ (SpellsPrefix n text)
no_slash n text none h = slash_inside text h.address_text (length n.bits) h.whole none

-- nor does one with no address before the slash
pub no_address : (n : Network) (text : List ℕ) (at : ℕ) → IsLastSlash text at → ((a : Address) → ¬ (SpellsAddress a (take at text))) → ¬ (SpellsPrefix n text)
no_address n text at s none h = none h.address (subst (SpellsAddress h.address) (sym (sides n text at s h).0) h.spelled)

-- nor one with no length behind it
pub no_length : (n : Network) (text : List ℕ) (at : ℕ) → IsLastSlash text at → IsNoLength (drop (at + 1) text) → ¬ (SpellsPrefix n text)
no_length n text at s none h = none (length n.bits) (length_small n.family (length n.bits) h.fits) (sides n text at s h).1

-- nor one with a length above that of the address
pub length_above : (n : Network) (text : List ℕ) (at : ℕ) (a : Address) (len : ℕ) → IsLastSlash text at → SpellsAddress a (take at text) → len < 256
    → drop (at + 1) text ≡ decimal len → bit_count a.family < len → ¬ (SpellsPrefix n text)
length_above n text at a len s spelled small e above h =
    let parts = sides n text at s h in
    let same = one_address a h.address (take at text) spelled (subst (SpellsAddress h.address) (sym parts.0) h.spelled) in
    let family : a.family ≡ n.family = ap (λ x. x.family) same ∙ h.of_family in
    let fits = length_small n.family (length n.bits) h.fits in
    let lengths : len ≡ length n.bits = decimal_injective len (length n.bits) (omega arith) (omega arith) (sym e ∙ parts.1) in
    omega (arith, h.fits, ap bit_count family)

-- and any other text does: of the bits of the address, as many as are named
pub spells_prefix : (text : List ℕ) (at : ℕ) (a : Address) (len : ℕ) → IsLastSlash text at → SpellsAddress a (take at text)
    → drop (at + 1) text ≡ decimal len → len ≤ bit_count a.family → SpellsPrefix (network_of a len) text
spells_prefix text at a len s spelled e within =
    let long : length (take len a.bits) ≡ len = length-take-le len a.bits (omega (arith, spelled.0)) in
    let split : text ≡ take at text ++ 47 ∷ decimal len =
    sym (take-append-drop at text) ∙ ap (λ t. take at text ++ t) (drop_more text at 0 s.within ∙ ap₂ (λ (c : ℕ) (t : List ℕ). c ∷ t) s.slash e) in
    record {
      fits = omega (arith, long);
      address = a;
      address_text = take at text;
      spelled = spelled;
      of_family = refl;
      begins = ap (λ k. take k a.bits) long;
      whole = split ∙ ap (λ k. take at text ++ 47 ∷ decimal k) (sym long);
    }

-- what `Prefix::new` answers is the prefix that the text spells
pub parsed : (text : List ℕ) (at : ℕ) (a : Address) (len : ℕ) (r : Option Network) → IsLastSlash text at → SpellsAddress a (take at text) → len < 256
    → drop (at + 1) text ≡ decimal len
    → MatchOption r (bit_count a.family < len) (λ prefix. (len ≤ bit_count a.family) × (prefix ≡ network_of a len))
    → MatchOption r ((n : Network) → SpellsPrefix n text → ⊥) (λ prefix. SpellsPrefix prefix text)
parsed text at a len None s spelled small e h = λ n. length_above n text at a len s spelled small e h
parsed text at a len (Some prefix) s spelled small e h = subst (λ n. SpellsPrefix n text) (sym h.1) (spells_prefix text at a len s spelled e h.0)

-- behind the slash of a spelling none follows
pub slash_of : (n : Network) (text : List ℕ) → (h : SpellsPrefix n text) → IsLastSlash text (length h.address_text)
slash_of n text h =
    let at = length h.address_text in
    let small = length_small n.family (length n.bits) h.fits in
    let long = ap length h.whole ∙ length-append h.address_text (47 ∷ decimal (length n.bits)) in
    record {
      within = omega (arith, long);
      slash = ap (λ t. get_or t at 0) h.whole ∙ get_or_at h.address_text 47 (decimal (length n.bits)) 0 at refl;
      last = λ k behind inside e. digits_behind h.address_text (length n.bits) k small behind (omega (arith, long)) (sym (ap (λ t. get_or t k 0) h.whole) ∙ e);
    }

-- no text spells two prefixes
pub one_prefix : (m n : Network) (text : List ℕ) → SpellsPrefix m text → SpellsPrefix n text → m ≡ n
one_prefix m n text h k =
    let at = length h.address_text in
    let slash = slash_of m text h in
    let one = sides m text at slash h in
    let two = sides n text at slash k in
    let same = one_address h.address k.address (take at text) (subst (SpellsAddress h.address) (sym one.0) h.spelled) (subst (SpellsAddress k.address) (sym two.0) k.spelled) in
    let small_m = length_small m.family (length m.bits) h.fits in
    let small_n = length_small n.family (length n.bits) k.fits in
    let lengths : length m.bits ≡ length n.bits = decimal_injective (length m.bits) (length n.bits) (omega arith) (omega arith) (sym one.1 ∙ two.1) in
    let families = sym h.of_family ∙ ap (λ a. a.family) same ∙ k.of_family in
    let bits = sym h.begins ∙ (λ i. take (lengths i) (same i).bits) ∙ k.begins in
    λ i. record { family = families i; bits = bits i }
