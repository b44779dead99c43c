-- How many numbers octets hold.
use Rattle.std.proofs.Common.{◌≡◌, ℕ, ◌+◌, ◌*◌, ◌/◌, ◌%◌, List, length, ap, ◌∙◌, arith}
use Rattle.ip_prefix.specs.Sequences.{SpellsAll}
use Rattle.bgp_paths.specs.declared.numbers.AsWidth.{AsWidth}
use Rattle.bgp_paths.specs.Path.{asn_size, SpellsAsn}
use Rattle.bgp_paths.proofs.HasOneFront.{length-numbers}

-- with one less it is still whole
pub less_one : (width : AsWidth) (size left : ℕ) → size % asn_size width ≡ 0 → left + asn_size width ≡ size → left % asn_size width ≡ 0
less_one width size left e h = grind arith

-- and has a number less
pub number_less : (width : AsWidth) (size left : ℕ) → left + asn_size width ≡ size → size / asn_size width ≡ left / asn_size width + 1
number_less width size left h = grind arith

whole_count : (width : AsWidth) (count : ℕ) → (asn_size width * count) % asn_size width ≡ 0
whole_count width count = grind arith

-- octets that spell numbers hold a whole number of them
pub whole_numbers : (width : AsWidth) (ns : List ℕ) (octets : List ℕ) → SpellsAll (SpellsAsn width) ns octets → length octets % asn_size width ≡ 0
whole_numbers width ns octets s = ap (λ n. n % asn_size width) (length-numbers width ns octets s) ∙ whole_count width (length ns)
