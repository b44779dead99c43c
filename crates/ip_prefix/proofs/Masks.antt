-- The bits of kept prefixes.
use Rattle.std.proofs.Common.{◌≡◌, ℕ, ◌+◌, ◌-◌, ◌*◌, ◌^◌, ◌/◌, ◌%◌, ◌<◌, ◌≤◌, false, ◌++◌, length, replicate, take, sym, ap, ◌∙◌, arith, mul-div_cancel}
use Rattle.std.proofs.lemmas.Nat.{mod-pow-add, field_of, mod_low, pow_pos, shr_le, shr_split, shr-shr}
use Rattle.ip_prefix.specs.declared.addr.Family.{Family}
use Rattle.ip_prefix.specs.Network.{bit_count}
use Rattle.ip_prefix.specs.Kept.{IsAligned, IsMasked, bit_count_le, length-bits_of}
use Rattle.ip_prefix.specs.Bits.{bits_of}
use Rattle.ip_prefix.proofs.BitLists.{take-bits_of}
use Rattle.ip_prefix.proofs.Comparing.{bits_of-filled}

-- ---- a number's w highest bits of 128, and the first of them

-- what stands below the first bits, in two parts: the others of the w, and what stands below those
split_below : (w size : ℕ) → size ≤ w → w ≤ 128 → 128 - size ≡ (w - size) + (128 - w)
split_below w size within w_le = omega arith

-- where nothing stands below the first bits, nothing stands below the w
none_below : (w number size : ℕ) → size ≤ w → w ≤ 128 → number % 2 ^ (128 - size) ≡ 0 → number % 2 ^ (128 - w) ≡ 0
none_below w number size within w_le none =
    let parts = ap (λ k. number % 2 ^ k) (split_below w size within w_le) ∙ mod-pow-add number (w - size) (128 - w) in
    omega (arith, none, parts)

-- and the others of the w are zeros
none_between : (w number size : ℕ) → size ≤ w → w ≤ 128 → number % 2 ^ (128 - size) ≡ 0 → number / 2 ^ (128 - w) % 2 ^ (w - size) ≡ 0
none_between w number size within w_le none =
    let low = sym (ap (λ k. number % 2 ^ k) (split_below w size within w_le)) ∙ none in
    let nothing : 0 / 2 ^ (128 - w) ≡ 0 = omega (arith, shr_le 0 (128 - w)) in
    sym (field_of number (w - size) (128 - w)) ∙ ap (λ n. n / 2 ^ (128 - w)) low ∙ nothing

-- the w highest bits without all but the first
shifted : (w number size : ℕ) → size ≤ w → w ≤ 128 → number / 2 ^ (128 - w) / 2 ^ (w - size) ≡ number / 2 ^ (128 - size)
shifted w number size within w_le =
    let e : (128 - w) + (w - size) ≡ 128 - size = omega arith in
    shr-shr number (128 - w) (w - size) ∙ ap (λ k. number / 2 ^ k) e

-- where nothing stands below the first bits, zeros fill them up to w
pub filled : (w number size : ℕ) → size ≤ w → w ≤ 128 → number % 2 ^ (128 - size) ≡ 0
    → bits_of w (number / 2 ^ (128 - w)) ≡ bits_of size (number / 2 ^ (128 - size)) ++ replicate (w - size) false
filled w number size within w_le none =
    let all : size + (w - size) ≡ w = omega arith in
    let between = none_between w number size within w_le none in
    sym (ap (λ k. bits_of k (number / 2 ^ (128 - w))) all) ∙ sym (bits_of-filled size (w - size) (number / 2 ^ (128 - w)) between)
    ∙ ap (λ n. bits_of size n ++ replicate (w - size) false) (shifted w number size within w_le)

-- the first bits are those of the number with zeros below them
pub first_bits : (w number size : ℕ) → size ≤ w → w ≤ 128
    → bits_of size (number / 2 ^ (128 - size) * 2 ^ (128 - size) / 2 ^ (128 - size)) ≡ take size (bits_of w (number / 2 ^ (128 - w)))
first_bits w number size within w_le =
    let all : size + (w - size) ≡ w = omega arith in
    ap (bits_of size) (mul-div_cancel (number / 2 ^ (128 - size)) (pow_pos (128 - size)))
    ∙ ap (bits_of size) (sym (shifted w number size within w_le))
    ∙ sym (take-bits_of size (w - size) (number / 2 ^ (128 - w)))
    ∙ ap (λ k. take size (bits_of k (number / 2 ^ (128 - w)))) all

-- that number has nothing below them
pub highest_none : (number size : ℕ) → number < 2 ^ 128
    → (number / 2 ^ (128 - size) * 2 ^ (128 - size) < 2 ^ 128) × (number / 2 ^ (128 - size) * 2 ^ (128 - size) % 2 ^ (128 - size) ≡ 0)
highest_none number size fits =
    let k : ℕ = 128 - size in
    let high : ℕ = number / 2 ^ k * 2 ^ k in
    let below : high < 2 ^ 128 = omega (arith, shr_split number k) in
    let whole : high + 0 ≡ high = omega arith in
    (below, ap (λ n. n % 2 ^ k) (sym whole) ∙ mod_low (number / 2 ^ k) k 0 (pow_pos k))

-- ---- addresses and prefixes of either family

-- the number of a prefix is one of an address
pub IsAligned-masked : (family : Family) (number size : ℕ) → IsMasked family number size → IsAligned family number
IsAligned-masked family number size h = (h.0, omega arith, none_below (bit_count family) number size h.1 (bit_count_le family) h.2)

-- a number with zeros below the prefix's bits is that of a prefix
pub IsMasked-highest : (family : Family) (number size : ℕ) → number < 2 ^ 128 → size ≤ bit_count family
    → IsMasked family (number / 2 ^ (128 - size) * 2 ^ (128 - size)) size
IsMasked-highest family number size fits within =
    let kept = highest_none number size fits in
    (kept.0, within, kept.1)

-- the bits of the least address of a prefix
pub bits_of-least : (family : Family) (number size : ℕ) → IsMasked family number size
    → bits_of (bit_count family) (number / 2 ^ (128 - bit_count family))
    ≡ bits_of size (number / 2 ^ (128 - size)) ++ replicate (bit_count family - length (bits_of size (number / 2 ^ (128 - size)))) false
bits_of-least family number size h =
    filled (bit_count family) number size h.1 (bit_count_le family) h.2
    ∙ ap (λ k. bits_of size (number / 2 ^ (128 - size)) ++ replicate (bit_count family - k) false) (sym (length-bits_of size (number / 2 ^ (128 - size))))

-- the first bits of an address are those of its highest bits
pub bits_of-highest : (family : Family) (number size : ℕ) → size ≤ bit_count family
    → bits_of size (number / 2 ^ (128 - size) * 2 ^ (128 - size) / 2 ^ (128 - size)) ≡ take size (bits_of (bit_count family) (number / 2 ^ (128 - bit_count family)))
bits_of-highest family number size within = first_bits (bit_count family) number size within (bit_count_le family)
