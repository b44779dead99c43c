-- A prefix that isn't covered lies outside; of one that is the bit behind tells. It is covered where the numbers that the bits in front spell are the same.
use Rattle.std.proofs.Common.{◌≡◌, ℕ, ◌+◌, ◌-◌, ◌/◌, ◌^◌, ◌<◌, ◌≤◌, ◌++◌, ◌==◌, false, List, length, take, replicate, sym, ap, subst, ◌∙◌, arith, rules, length-take-le, pow-add, div-lt_iff_lt-mul, mod-eq_of_lt, pow_pos, ne_eqb, true≢false}
use Rattle.std.proofs.lemmas.Bool.{eqb-true, eq-eqb}
use Rattle.std.proofs.lemmas.List.{take-append-le}
use Rattle.ip_prefix.specs.Bits.{bits_of, bits_of_octets, number_of}
use Rattle.ip_prefix.specs.Kept.{number_of-bits_of}
use Rattle.ip_prefix.specs.Turns.{covers}
use Rattle.ip_prefix.specs.Network.{Network, begin_with}
use Rattle.ip_prefix.specs.declared.addr.Family.TheVariants.{V4}
use Rattle.octet_forms.proofs.Booleans.{same_tests}
use Rattle.ip_prefix.proofs.BitLists.{take-bits_of}
use Rattle.ip_prefix.proofs.Highest.{bits_of_be}
use Rattle.ip_prefix.proofs.Octets.{length-bits_of_octets}
use Rattle.ip_prefix.proofs.Beginning.{family_same, covers_same, covers_other, begin_from, front_of, begin_longer}
use Rattle.ip_prefix.proofs.Turns.{turn-outside}
use Rattle.ip_prefix.proofs.prefix.Prefix.turn_from_v4.Goals as goal
use Rattle.ip_prefix.proofs.prefix.Prefix.turn_from_v4.Goals.{else-eq-via-then-eq+then-len+else-from-below, else-eq-via-then-eq+else-len, else-eq-via-else-eq}

-- the first bits of a number of 32 bits are those of its front
front_bits : (len n : ℕ) → len ≤ 32 → take len (bits_of 32 n) ≡ bits_of len (n / 2 ^ (32 - len))
front_bits len n within =
    let all : len + (32 - len) ≡ 32 = omega (arith, within) in
    (λ i. take len (bits_of (sym all i) n)) ∙ take-bits_of len (32 - len) n

-- which spell the front
front_again : (len n : ℕ) → len ≤ 32 → n < 2 ^ 32 → number_of (take len (bits_of 32 n)) ≡ n / 2 ^ (32 - len)
front_again len n within fits =
    let all : len + (32 - len) ≡ 32 = omega (arith, within) in
    let short : n / 2 ^ (32 - len) < 2 ^ len =
    (div-lt_iff_lt-mul (pow_pos (32 - len))).1 (subst (λ m. n < m) (ap (λ k. 2 ^ k) (sym all) ∙ pow-add 2 len (32 - len)) fits) in
    ap number_of (front_bits len n within) ∙ number_of-bits_of len (n / 2 ^ (32 - len)) ∙ mod-eq_of_lt short

-- the prefix of an IPv4 address's first bits
abbrev from_v4 : List ℕ → ℕ → Network
from_v4 octets len = record { family = V4; bits = take len (bits_of_octets octets) }

size_of : (octets : List ℕ) (len : ℕ) → length octets ≡ 4 → len ≤ 32 → length (from_v4 octets len).bits ≡ len
size_of octets len four within = length-take-le len (bits_of_octets octets) (omega (arith, length-bits_of_octets octets, four, within))

same_front : (n : Network) (octets : List ℕ) (len a b : ℕ) → length octets ≡ 4 → len ≤ 32 → len ≤ length n.bits → V4 ≡ n.family → a < 2 ^ 32 → b < 2 ^ 32
    → bits_of 32 a ≡ n.bits ++ replicate (32 - length n.bits) false → bits_of 32 b ≡ bits_of_octets octets → (a / 2 ^ (32 - len) == b / 2 ^ (32 - len)) ≡ covers (from_v4 octets len) n
same_front n octets len a b four within long family a_fits b_fits own other =
    let m = from_v4 octets len in
    let spelled : take len (bits_of 32 b) ≡ m.bits = ap (take len) other in
    let front : take len (bits_of 32 a) ≡ take (length m.bits) n.bits =
    ap (take len) own ∙ take-append-le len n.bits _ long ∙ ap (λ k. take k n.bits) (sym (size_of octets len four within)) in
    same_tests (a / 2 ^ (32 - len) == b / 2 ^ (32 - len)) (begin_with m.bits n.bits)
    (λ same. begin_from m.bits n.bits (sym front ∙ front_bits len a within ∙ ap (bits_of len) (eqb-true _ _ same) ∙ sym (front_bits len b within) ∙ spelled))
    (λ begins. eq-eqb _ _ (sym (front_again len a within a_fits) ∙ ap number_of (front ∙ front_of m.bits n.bits begins ∙ sym spelled) ∙ front_again len b within b_fits))
    ∙ sym (covers_same m n family)

pub returns-then-from-below : goal.returns-then-from-below
returns-then-from-below c =
    let n = c.args.self.now in
    let octets = c.args.octets in
    let len = c.args.len in
    let four : length octets ≡ 4 = search rules in
    let family : V4 ≡ n.family = sym (sym c.family.ensures ∙ family_same c.family.result V4 (sym c.eq.ensures ∙ c.if-eq.true)) in
    let same = same_front n octets len c.from.result c.from-then-len.result four c.requires (omega (arith, c.if-len.true, c.len.ensures.value)) family (omega arith) (omega arith)
    (ap (bits_of 32) c.from.ensures ∙ c.v4_number.ensures) (ap (bits_of 32) (c.from-then-len.ensures ∙ c.from_be_bytes.ensures) ∙ bits_of_be octets (search rules) (search rules)) in
    c.turn_under.ensures (from_v4 octets len) (size_of octets len four c.requires)
    (λ outside. true≢false (sym (eq-eqb _ _ c.if-from-below.true) ∙ same ∙ (turn-outside (from_v4 octets len) n).0 outside))

pub returns : goal.returns
returns c =
    let n = c.args.self.now in
    let octets = c.args.octets in
    let len = c.args.len in
    let m = from_v4 octets len in
    let four : length octets ≡ 4 = search rules in
    let none : covers m n ≡ false = elim c.else-eq.branch [
      | else-eq-via-then-eq+then-len+else-from-below w ↦
          let family : V4 ≡ n.family = sym (sym c.family.ensures ∙ family_same c.family.result V4 (sym c.eq.ensures ∙ w.if-eq.true)) in
          sym (same_front n octets len w.from.result w.from-then-len.result four c.requires (omega (arith, w.if-len.true, w.len.ensures.value)) family (omega arith) (omega arith)
          (ap (bits_of 32) w.from.ensures ∙ w.v4_number.ensures) (ap (bits_of 32) (w.from-then-len.ensures ∙ w.from_be_bytes.ensures) ∙ bits_of_be octets (search rules) (search rules)))
          ∙ ne_eqb _ _ w.if-from-below.false
      | else-eq-via-then-eq+else-len w ↦
          let family : V4 ≡ n.family = sym (sym c.family.ensures ∙ family_same c.family.result V4 (sym c.eq.ensures ∙ w.if-eq.true)) in
          covers_same m n family ∙ begin_longer m.bits n.bits (omega (arith, w.if-len.false, w.len.ensures.value, size_of octets len four c.requires))
      | else-eq-via-else-eq w ↦ grind (arith, covers_other m n)
    ] in
    sym ((turn-outside m n).1 none)
