-- Prefixes compare as their least addresses do, and then their lengths.
use Rattle.std.proofs.Common.{◌≡◌, ◌-◌, ◌≤◌, Bool, List, length, refl, arith}
use Rattle.ip_prefix.specs.declared.addr.Family.{Family}
use Rattle.ip_prefix.specs.declared.addr.Family.TheVariants.{V4, V6}
use Rattle.ip_prefix.specs.Network.{bit_count, Network, IsNetwork, network_cmp}
use Rattle.ip_prefix.specs.Kept.{least_address_cmp}
use Rattle.ip_prefix.proofs.Comparing.{bits_cmp-filled}

-- the order of prefixes is that of their bits filled with zeros, and then of their lengths
pub network_cmp-filled : (m n : Network) → IsNetwork m → IsNetwork n → network_cmp m n ≡ least_address_cmp m n
network_cmp-filled m n p q = decided m.family n.family m.bits n.bits p q
  where
    decided : (f g : Family) (a b : List Bool) → length a ≤ bit_count f → length b ≤ bit_count g
        → network_cmp record { family = f; bits = a } record { family = g; bits = b } ≡ least_address_cmp record { family = f; bits = a } record { family = g; bits = b }
    decided V4 V4 a b p q = bits_cmp-filled a b (32 - length a) (32 - length b) (omega arith)
    decided V4 V6 a b p q = refl
    decided V6 V4 a b p q = refl
    decided V6 V6 a b p q = bits_cmp-filled a b (128 - length a) (128 - length b) (omega arith)
