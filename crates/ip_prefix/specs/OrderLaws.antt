-- Private.
-- The orders of addresses and of prefixes are total, and only equal ones compare as equal.
use Rattle.std.specs.Prelude.{◌≡◌, Bool, List, refl}
use Rattle.std.proofs.Common.{arith, Ordering, Less, Equal, Greater}
use Rattle.std.specs.Ordering.{bool_cmp, ordering_then, ordering_reverse}
use Rattle.std.specs.Cmp.{IsTotalOrder, bool_cmp_total, on_total, then_total}
use Rattle.std.specs.Cmp.Lexicographic.{lists_total}
use Rattle.std.specs.FinMap.{IsAntisymmetric, slice_cmp-IsAntisymmetric}
use Rattle.ip_prefix.specs.declared.addr.Family.{Family}
use Rattle.ip_prefix.specs.Network.{family_cmp, bits_cmp, address_cmp, network_cmp}

-- the order of families is total
family_cmp_total : IsTotalOrder family_cmp
family_cmp_total = record { antisymm = antisymm; trans = trans; congr = congr }
  where
    antisymm : (x y : Family) → family_cmp x y ≡ ordering_reverse (family_cmp y x)
    antisymm x y = grind arith

    trans : (x y z : Family) → family_cmp x y ≡ Less → family_cmp y z ≡ Less → family_cmp x z ≡ Less
    trans x y z e f = grind arith

    congr : (x y z : Family) → family_cmp x y ≡ Equal → family_cmp x z ≡ family_cmp y z
    congr x y z e = grind arith

-- the order of lists of bits is total
bits_cmp_total : IsTotalOrder bits_cmp
bits_cmp_total = lists_total bool_cmp_total

-- `address_cmp` is a total order: swapping two addresses reverses it, `Less` is transitive, and those that
-- compare as equal compare alike with others
pub address_cmp_total : IsTotalOrder address_cmp
address_cmp_total = then_total (on_total (λ a. a.family) family_cmp_total) (on_total (λ a. a.bits) bits_cmp_total)

-- `network_cmp` is a total order: swapping two prefixes reverses it, `Less` is transitive, and those that
-- compare as equal compare alike with others
pub network_cmp_total : IsTotalOrder network_cmp
network_cmp_total = then_total (on_total (λ n. n.family) family_cmp_total) (on_total (λ n. n.bits) bits_cmp_total)

-- families that compare as equal are equal
family_cmp-IsAntisymmetric : IsAntisymmetric family_cmp
family_cmp-IsAntisymmetric f g e = grind arith

-- lists of bits that compare as equal are equal
bits_cmp-IsAntisymmetric : IsAntisymmetric bits_cmp
bits_cmp-IsAntisymmetric = slice_cmp-IsAntisymmetric booleans
  where
    booleans : IsAntisymmetric bool_cmp
    booleans x y e = grind arith

-- `ordering_then r s`, which is `s` if `r` is `Equal` and `r` otherwise, is `Equal` only if both are
pub both_tie : (r s : Ordering) → ordering_then r s ≡ Equal → (r ≡ Equal) × (s ≡ Equal)
both_tie Less s e = cc
both_tie Equal s e = (refl, e)
both_tie Greater s e = cc

-- if families and then bits compare as equal, the families are equal and the bits are
same_parts : (f g : Family) (xs ys : List Bool) → ordering_then (family_cmp f g) (bits_cmp xs ys) ≡ Equal → (f ≡ g) × (xs ≡ ys)
same_parts f g xs ys e =
    let ties = both_tie (family_cmp f g) (bits_cmp xs ys) e in
    (family_cmp-IsAntisymmetric f g ties.0, bits_cmp-IsAntisymmetric xs ys ties.1)

-- addresses that compare as equal are equal
pub address_cmp-IsAntisymmetric : IsAntisymmetric address_cmp
address_cmp-IsAntisymmetric a b e =
    let same = same_parts a.family b.family a.bits b.bits e in
    λ i. record { family = same.0 i; bits = same.1 i }

-- prefixes that compare as equal are equal
pub network_cmp-IsAntisymmetric : IsAntisymmetric network_cmp
network_cmp-IsAntisymmetric a b e =
    let same = same_parts a.family b.family a.bits b.bits e in
    λ i. record { family = same.0 i; bits = same.1 i }
