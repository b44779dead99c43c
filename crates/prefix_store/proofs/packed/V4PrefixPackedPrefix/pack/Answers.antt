use Rattle.std.proofs.Common.{◌≡◌, [], ◌++◌, length, take, sym, ap, ◌∙◌}
use Rattle.std.proofs.Math.Seq.{take-append_seam}
use Rattle.ip_prefix.specs.Network.{bit_count}
use Rattle.ip_prefix.specs.Bits.{bits_of}
use Rattle.prefix_store.proofs.PackedLaws.{v4_bits}
use Rattle.prefix_store.proofs.packed.V4PrefixPackedPrefix.pack.Goals as goal

pub returns : goal.returns
returns c =
    let n = c.args.prefix.now in
    let long : length c.addr-addr.result.bits ≡ 32 = c.addr-addr.ensures.whole ∙ ap (λ a. bit_count a.family) c.addr-addr.ensures.value ∙ ap bit_count c.requires in
    let whole : take c.len.result (bits_of 8 c.octet.result ++ (bits_of 8 c.octet-2.result ++ (bits_of 8 c.octet-3.result ++ (bits_of 8 c.octet-4.result ++ [])))) ≡ n.bits =
    (λ j. take (c.len.ensures.value j) (bits_of 8 (c.octet.ensures j) ++ (bits_of 8 (c.octet-2.ensures j) ++ (bits_of 8 (c.octet-3.ensures j) ++ (bits_of 8 (c.octet-4.ensures j) ++ [])))))
    ∙ ap (take (length n.bits)) (v4_bits c.addr-addr.result long)
    ∙ ap (λ a. take (length n.bits) a.bits) c.addr-addr.ensures.value
    ∙ take-append_seam n.bits _ in
    λ i. record { family = sym c.requires i; bits = whole i }
