-- Octets that spell prefixes.
use Rattle.std.proofs.Common.{◌≡◌, ℕ, ◌+◌, ◌-◌, ◌*◌, ◌^◌, ◌/◌, ◌<◌, ◌≤◌, Bool, List, [], ◌∷◌, ◌++◌, length, take, drop, refl, ap, sym, ◌∙◌, arith, length-drop, take_at, length-append, length-take-le, take-append-drop}
use Rattle.std.specs.Int.{w128, from_be_bytes}
use Rattle.ip_prefix.specs.declared.addr.Family.{Family}
use Rattle.ip_prefix.specs.Network.{bit_count, Network, SpellsNetwork}
use Rattle.ip_prefix.specs.Bits.{bits_of, bits_of_octets}
use Rattle.octet_forms.specs.Sequences.{Begins}
use Rattle.octet_forms.specs.Fronts.{IsSelfDelimiting}
use Rattle.ip_prefix.proofs.BitLists.{take-bits_of}
use Rattle.octet_forms.proofs.Lists.{append_parts}
use Rattle.ip_prefix.proofs.Masks.{first_bits}
use Rattle.ip_prefix.proofs.Octets.{AllOctets, length-bits_of_octets, bits_of_octets-append, bits_of-from_be_bytes}

-- ---- one spelling each

-- the bits of the octets behind the length are the prefix's and the spare ones
body_size : (kind : Family) (n : Network) (octets : List ℕ) (s : SpellsNetwork kind n octets) → 8 * length s.body ≡ length n.bits + length s.spare
body_size kind n octets s = sym (length-bits_of_octets s.body) ∙ ap length s.held ∙ length-append n.bits s.spare

-- octets that begin with a spelling of a prefix are its length, the octets that hold it, and the rest
begun : (kind : Family) (n : Network) (rest octets : List ℕ) (b : Begins (SpellsNetwork kind) n rest octets) → octets ≡ length n.bits ∷ (b.spelled.body ++ rest)
begun kind n rest octets b = b.whole ∙ ap (λ front. front ++ rest) b.spelled.whole

-- no prefix is spelled by nothing, and no octets begin with spellings of two
pub network_code : (kind : Family) → IsSelfDelimiting (SpellsNetwork kind)
network_code kind = record { some = some; same = same }
  where
    some : (n : Network) → SpellsNetwork kind n [] → ⊥
    some n s = let e = s.whole in cc

    same : (a b : Network) (x y octets : List ℕ) → Begins (SpellsNetwork kind) a x octets → Begins (SpellsNetwork kind) b y octets → (a ≡ b) × (x ≡ y)
    same a b x y octets p q =
        let s = p.spelled in
        let t = q.spelled in
        let joined : length a.bits ∷ (s.body ++ x) ≡ length b.bits ∷ (t.body ++ y) = sym (begun kind a x octets p) ∙ begun kind b y octets q in
        let lengths : length a.bits ≡ length b.bits = cc in
        let bodies : s.body ++ x ≡ t.body ++ y = cc in
        let sizes : length s.body ≡ length t.body = omega (arith, body_size kind a p.front s, body_size kind b q.front t, s.least, t.least) in
        let parts = append_parts s.body t.body x y sizes bodies in
        let bits = append_parts a.bits b.bits s.spare t.spare lengths (sym s.held ∙ ap bits_of_octets parts.0 ∙ t.held) in
        ((λ i. record { family = (s.of_family ∙ sym t.of_family) i; bits = bits.0 i }), parts.1)

-- ---- octets that are read

-- octets that begin with a spelling have as many bits behind the first as the first says
pub enough_octets : (kind : Family) (n : Network) (rest octets : List ℕ) (len : ℕ) (more : List ℕ) → Begins (SpellsNetwork kind) n rest octets → octets ≡ len ∷ more → len ≤ 8 * length more
enough_octets kind n rest octets len more b e =
    let s = b.spelled in
    let joined : len ∷ more ≡ length n.bits ∷ (s.body ++ rest) = sym e ∙ begun kind n rest octets b in
    let first : len ≡ length n.bits = cc in
    let others : more ≡ s.body ++ rest = cc in
    omega (arith, first, ap length others, length-append s.body rest, body_size kind n b.front s)

-- the highest bits of the number that sixteen octets are, of which the first are those of a list
pub bits_in_front : (size : ℕ) (octets all : List ℕ) → length all ≡ 16 → AllOctets all → size ≤ 16 → take size all ≡ take size octets
    → bits_of (8 * size) (from_be_bytes w128 all / 2 ^ (128 - 8 * size)) ≡ bits_of_octets (take size octets)
bits_in_front size octets all long each within same =
    let n : ℕ = from_be_bytes w128 all in
    let j : ℕ = 8 * size in
    let whole : j + (128 - j) ≡ 128 = omega arith in
    let one : n / 1 ≡ n = omega arith in
    let held : length (bits_of_octets (take size all)) ≡ j = omega (arith, length-bits_of_octets (take size all), length-take-le size all (omega (arith, long, within))) in
    sym (take-bits_of j (128 - j) n) ∙ ap (λ k. take j (bits_of k n)) whole
    ∙ ap (λ m. take j (bits_of 128 m)) (sym one)
    ∙ ap (take j) (bits_of-from_be_bytes all long each ∙ ap bits_of_octets (sym (take-append-drop size all)) ∙ bits_of_octets-append (take size all) (drop size all))
    ∙ take_at (bits_of_octets (take size all)) (bits_of_octets (drop size all)) j held
    ∙ ap bits_of_octets same

-- the first of these bits, of the number whose lower bits are cleared
pub bits_read : (len n : ℕ) (body : List ℕ) → len ≤ 8 * length body → 8 * length body ≤ 128
    → bits_of (8 * length body) (n / 2 ^ (128 - 8 * length body)) ≡ bits_of_octets body
    → bits_of len (n / 2 ^ (128 - len) * 2 ^ (128 - len) / 2 ^ (128 - len)) ≡ take len (bits_of_octets body)
bits_read len n body within held e = first_bits (8 * length body) n len within held ∙ ap (take len) e

-- the first bits of the least octets that hold them are spelled by their number and those octets
pub spelled_by : (kind : Family) (len : ℕ) (body : List ℕ) (bits : List Bool) → len ≤ bit_count kind → AllOctets body → len ≤ 8 * length body → 8 * length body < len + 8
    → bits ≡ take len (bits_of_octets body) → SpellsNetwork kind record { family = kind; bits = bits } (len ∷ body)
spelled_by kind len body bits within each enough least e =
    let held : len ≤ length (bits_of_octets body) = omega (arith, length-bits_of_octets body) in
    let size : length bits ≡ len = ap length e ∙ length-take-le len (bits_of_octets body) held in
    record {
      of_family = refl;
      fits = omega arith;
      body = body;
      spare = drop len (bits_of_octets body);
      each = each;
      held = sym (take-append-drop len (bits_of_octets body)) ∙ ap (λ l. l ++ drop len (bits_of_octets body)) (sym e);
      least = omega (arith, length-drop len (bits_of_octets body), length-bits_of_octets body);
      whole = ap (λ n. n ∷ body) (sym size);
    }
