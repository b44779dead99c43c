-- Octets that are buffered: what reads take of them.
use Rattle.std.proofs.Common.{◌≡◌, ℕ, ◌+◌, ◌-◌, ◌≤◌, ◌<◌, List, ◌++◌, length, take, sym, ap, ◌∙◌, arith, length-append, length-take-le, append_assoc}
use Rattle.std.proofs.Math.Seq.{take-length}
use borrow.Rule.Slice.PartMut.{put_mid}
use Rattle.mrt_frames.proofs.Buffers.{take-put_mid}

-- what is read next is buffered, where all octets of a buffer were and the first of them are filled
pub part_buffered : (old now buffer part : List ℕ) (at stop size : ℕ) → old ≡ take at buffer ++ now → at ≤ length buffer → at < stop → stop ≤ size → size ≤ length old → length part ≡ stop - at
    → (0 < length part) × (length part ≤ length now)
part_buffered old now buffer part at stop size split within ahead in_size enough len =
    let all : length old ≡ at + length now = ap length split ∙ (length-append (take at buffer) now ∙ ap (λ n. n + length now) (length-take-le at buffer within)) in
    (omega (arith, len, ahead), omega (arith, all, len, in_size, enough, ahead))

-- one more read leaves the octets after it buffered
pub filled_more : (old now new buffer part : List ℕ) (at room n : ℕ) → at ≤ length buffer → n ≡ length part → old ≡ take at buffer ++ now → now ≡ part ++ new
    → old ≡ take (at + n) (put_mid at room buffer part) ++ new
filled_more old now new buffer part at room n within all split read =
    let fits : n ≤ length part = omega (arith, all) in
    let whole : take n part ≡ part = ap (λ k. take k part) all ∙ take-length part in
    split ∙ (ap (λ l. take at buffer ++ l) read ∙ (sym (append_assoc (take at buffer) part new)
    ∙ ap (λ l. l ++ new) (sym (take-put_mid at room n buffer part within fits ∙ ap (λ l. take at buffer ++ l) whole))))

-- how many octets are buffered after a read that all of them were buffered for
pub length_read : (now new octets : List ℕ) (size : ℕ) → size ≤ length octets → now ≡ take size octets ++ new → length now ≡ size + length new
length_read now new octets size fits read = ap length read ∙ (length-append (take size octets) new ∙ ap (λ n. n + length new) (length-take-le size octets fits))
