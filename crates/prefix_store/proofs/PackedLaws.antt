-- The octets of an address hold its bits.
use Rattle.std.proofs.Common.{◌≡◌, ℕ, ◌+◌, ◌≤◌, Bool, List, [], ◌++◌, length, take, drop, sym, ap, ◌∙◌, arith, length-drop, length-take-le}
use Rattle.std.proofs.lemmas.List.{drop_all}
use Rattle.ip_prefix.specs.Network.{Address, octet_at}
use Rattle.ip_prefix.specs.Bits.{number_of, bits_of, bits_of_octets}
use Rattle.ip_prefix.proofs.Octets.{length-bits_of_octets}
use Rattle.prefix_store.specs.declared.packed.V4Prefix.{V4Prefix}
use Rattle.prefix_store.specs.Contents.{v4_network}
use Rattle.ip_prefix.proofs.Chunks.{bits_of-number_of}
use Rattle.octet_forms.proofs.Lists.{drop_in_parts}

part : (bits : List Bool) (i : ℕ) → i + 8 ≤ length bits → bits_of 8 (number_of (take 8 (drop i bits))) ≡ take 8 (drop i bits)
part bits i within =
    let long : length (take 8 (drop i bits)) ≡ 8 = length-take-le 8 (drop i bits) (omega (arith, length-drop i bits)) in
    ap (λ k. bits_of k (number_of (take 8 (drop i bits)))) (sym long) ∙ bits_of-number_of (take 8 (drop i bits))

pub v4_bits : (a : Address) → length a.bits ≡ 32
    → bits_of 8 (octet_at a 0) ++ (bits_of 8 (octet_at a 1) ++ (bits_of 8 (octet_at a 2) ++ (bits_of 8 (octet_at a 3) ++ []))) ≡ a.bits
unfolding octet_at
v4_bits a all =
    let b = a.bits in
    (λ i. part b 0 (omega (arith, all)) i ++ (part b 8 (omega (arith, all)) i ++ (part b 16 (omega (arith, all)) i ++ (part b 24 (omega (arith, all)) i ++ []))))
    ∙ sym (drop_in_parts 0 8 b ∙ ap (λ l. take 8 (drop 0 b) ++ l) (drop_in_parts 8 8 b ∙ ap (λ l. take 8 (drop 8 b) ++ l) (drop_in_parts 16 8 b ∙ ap (λ l. take 8 (drop 16 b) ++ l) (drop_in_parts 24 8 b ∙ ap (λ l. take 8 (drop 24 b) ++ l) (drop_all 32 b (omega (arith, all)))))))

-- a prefix of IPv4 has as many bits as its length says
pub v4_length : (p : V4Prefix) → length p.octets ≡ 4 → p.len ≤ 32 → length (v4_network p).bits ≡ p.len
v4_length p four within = length-take-le p.len (bits_of_octets p.octets) (omega (arith, length-bits_of_octets p.octets, four, within))
