-- Private.
-- Families, addresses and prefixes as plain data (`Coded`): a code of each, from which types that contain
-- them make theirs.
use Rattle.std.specs.Prelude.{◌≡◌, Bool, true, false, List, refl}
use Rattle.std.specs.Coded.{Coded, code_by, coded×, coded_bool, coded_list}
use Rattle.ip_prefix.specs.declared.addr.Family.{Family}
use Rattle.ip_prefix.specs.declared.addr.Family.TheVariants.{V4, V6}
use Rattle.ip_prefix.specs.Network.{Address, Network}
use Rattle.ip_prefix.specs.Turns.{family_bit}

-- the family whose `family_bit` this is
abbrev family_of : Bool → Family
family_of false = V4
family_of true = V6

-- a family is the one of its bit
abbrev family_again : (family : Family) → family_of (family_bit family) ≡ family
family_again V4 = refl
family_again V6 = refl

-- an encoding of families as plain data, for keys and values of finite maps: the bit `family_bit`
abbrev pub coded_family : Coded Family
coded_family = code_by Bool coded_bool family_bit family_of family_again

-- an encoding of addresses as plain data, for keys and values of finite maps: the pair of family and bits
abbrev pub coded_address : Coded Address
coded_address =
    code_by (Family × List Bool) (coded× coded_family (coded_list coded_bool))
    (λ a. (a.family, a.bits)) (λ p. record { family = p.0; bits = p.1 }) (λ _. refl)

-- an encoding of prefixes as plain data, for keys and values of finite maps: the pair of family and bits
abbrev pub coded_network : Coded Network
coded_network =
    code_by (Family × List Bool) (coded× coded_family (coded_list coded_bool))
    (λ n. (n.family, n.bits)) (λ p. record { family = p.0; bits = p.1 }) (λ _. refl)
