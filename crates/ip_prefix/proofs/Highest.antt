-- The bits, octets and groups of an address whose bits are the w highest of a number of 128 bits.
use Rattle.std.proofs.Common.{◌≡◌, ℕ, ◌+◌, ◌-◌, ◌*◌, ◌^◌, ◌/◌, ◌%◌, ◌<◌, ◌≤◌, ◌==◌, Some, bit_and, take, drop, length, List, [], ◌∷◌, get_or, ap, ◌∙◌, arith, append-nil}
use Rattle.std.specs.Prelude.{slice_get}
use Rattle.std.proofs.lemmas.Nat.{shr-shr, and_mask}
use Rattle.std.proofs.lemmas.Nat.Bits.{shr_and_one}
use Rattle.ip_prefix.specs.declared.addr.Family.{Family}
use Rattle.ip_prefix.specs.Network.{bit_count, octet_count}
use Rattle.ip_prefix.specs.Bits.{number_of, bits_of, bits_of_octets}
use Rattle.ip_prefix.specs.Kept.{number_of-bits_of}
use Rattle.ip_prefix.proofs.BitLists.{drop-bits_of, take-bits_of, slice_get-bits_of, bits_of-append}

-- the octets of an address are all of its bits
pub octets_fill : (family : Family) → 8 * octet_count family ≡ bit_count family
octets_fill family = grind arith

-- a bit of the w highest ones is found by a shift
pub bit_of_highest : (w i n : ℕ) → w ≤ 128 → i < w
    → slice_get (bits_of w (n / 2 ^ (128 - w))) i ≡ Some (bit_and (n / 2 ^ (127 - i)) 1 == 1)
bit_of_highest w i n w_le i_in =
    let s : (128 - w) + (w - 1 - i) ≡ 127 - i = omega arith in
    rw (slice_get-bits_of w (n / 2 ^ (128 - w)) i i_in, shr-shr n (128 - w) (w - 1 - i), s, shr_and_one n (127 - i))

-- k bits with r below them spell the number shifted by r, modulo 2 ^ k
field_above : (k i r n : ℕ) → number_of (take k (drop i (bits_of (i + (k + r)) n))) ≡ n / 2 ^ r % 2 ^ k
field_above k i r n =
    rw (drop-bits_of i (k + r) n, take-bits_of k r n) (number_of-bits_of k (n / 2 ^ r))

-- k of the w highest bits, from the place i on, are found by a shift
field_of_highest : (k w i n : ℕ) → w ≤ 128 → i + k ≤ w
    → number_of (take k (drop i (bits_of w (n / 2 ^ (128 - w))))) ≡ n / 2 ^ (128 - k - i) % 2 ^ k
field_of_highest k w i n w_le i_in =
    let r : ℕ = w - (i + k) in
    let e : w ≡ i + (k + r) = omega arith in
    let s : (128 - w) + r ≡ 128 - k - i = omega arith in
    ap (λ j. number_of (take k (drop i (bits_of j (n / 2 ^ (128 - w)))))) e
    ∙ field_above k i r (n / 2 ^ (128 - w))
    ∙ ap (λ q. q % 2 ^ k) (shr-shr n (128 - w) r)
    ∙ ap (λ j. n / 2 ^ j % 2 ^ k) s

-- an octet of the w highest bits is found by a shift
pub octet_of_highest : (w i n : ℕ) → w ≤ 128 → 8 * i + 8 ≤ w
    → number_of (take 8 (drop (8 * i) (bits_of w (n / 2 ^ (128 - w))))) ≡ n / 2 ^ (120 - 8 * i) % 2 ^ 8
octet_of_highest w i n w_le i_in = field_of_highest 8 w (8 * i) n w_le i_in

-- and so is a group of 16 bits
pub group_of_highest : (w i n : ℕ) → w ≤ 128 → 16 * i + 16 ≤ w
    → number_of (take 16 (drop (16 * i) (bits_of w (n / 2 ^ (128 - w))))) ≡ n / 2 ^ (112 - 16 * i) % 2 ^ 16
group_of_highest w i n w_le i_in = field_of_highest 16 w (16 * i) n w_le i_in

-- the bits of a number of four octets, the first of them the highest
bits_of_four : (a b c d : ℕ) → b < 256 → c < 256 → d < 256
    → bits_of 32 (a * 16777216 + b * 65536 + c * 256 + d) ≡ bits_of_octets (a ∷ b ∷ c ∷ d ∷ [])
bits_of_four a b c d b_in c_in d_in =
    let e : a * 16777216 + b * 65536 + c * 256 + d ≡ a * 2 ^ 24 + (b * 2 ^ 16 + (c * 2 ^ 8 + d)) = omega arith in
    let low_24 : b * 2 ^ 16 + (c * 2 ^ 8 + d) < 2 ^ 24 = omega arith in
    let low_16 : c * 2 ^ 8 + d < 2 ^ 16 = omega arith in
    rw (e, bits_of-append 8 24 a _ low_24, bits_of-append 8 16 b _ low_16, bits_of-append 8 8 c d d_in, append-nil (bits_of 8 d))

-- the bits of that number, read from a list of four octets
pub bits_of_be : (octets : List ℕ) → length octets ≡ 4 → ((i : ℕ) → get_or octets i 0 < 256)
    → bits_of 32 (get_or octets 0 0 * 16777216 + get_or octets 1 0 * 65536 + get_or octets 2 0 * 256 + get_or octets 3 0) ≡ bits_of_octets octets
bits_of_be (a ∷ b ∷ c ∷ d ∷ []) e h = bits_of_four a b c d (h 1) (h 2) (h 3)
bits_of_be _ e h = absurd (omega arith)

-- the mask 255 leaves the lowest eight bits
pub low_octet : (n : ℕ) → bit_and n 255 ≡ n % 2 ^ 8
low_octet n = and_mask n 8

-- and the mask 65535 the lowest sixteen
pub low_group : (n : ℕ) → bit_and n 65535 ≡ n % 2 ^ 16
low_group n = and_mask n 16
