-- Private.
-- The contents of a store as one value, walks over them, and the prefixes that compact forms represent.
use Rattle.ip_prefix.specs.declared.addr.Family.TheVariants.{V4}
use Rattle.ip_prefix.specs.Bits.{bits_of_octets}
use Rattle.ip_prefix.specs.Network.{Network, network_of}
use Rattle.prefix_store.specs.declared.packed.V4Prefix.{V4Prefix}
use Rattle.std.specs.Prelude.{refl, List, Option, slice_get}
use Rattle.std.specs.Coded.{Coded, code_by, coded×}
use Rattle.std.specs.FinMap.{entries}
use Rattle.ip_prefix.specs.Codes.{coded_network}
use Rattle.prefix_store.specs.Stored.{Keys, Routes}
use Rattle.prefix_store.specs.Lookups.{above}
use Rattle.std.specs.FinMap as finite
use Rattle.std.specs.FinSet as set

-- ---- the prefixes that compact forms represent

-- the prefix that `p`, a compact form of an IPv4 prefix, represents: the first `p.len` bits of its
-- octets
abbrev pub v4_network : V4Prefix → Network
v4_network p = network_of (record { family = V4; bits = bits_of_octets p.octets }) p.len

-- the prefix that a key of an IPv6 tree represents: `n` itself, since IPv6 prefixes have no compact
-- form
abbrev pub v6_network : Network → Network
v6_network n = n

-- ---- a store as one value

-- the contents of a store as one value: its keys, and the routes at some of them
pub record Contents (R : Type 0) : Type 0 where
  pub keys : Keys
  pub routes : Routes R

-- a one-to-one encoding (`Coded`) of a store's contents as the pair of its set of keys and its map
-- of routes, made from `route`, an encoding of routes
abbrev pub coded_contents : {R : Type 0} → Coded R → Coded (Contents R)
coded_contents {R} route =
    code_by (Keys × Routes R) (coded× (set.code coded_network) (finite.code coded_network route))
    (λ s. (s.keys, s.routes)) (λ p. record { keys = p.0; routes = p.1 }) (λ _. refl)

-- ---- walks

-- the entries of the map whose prefix is greater than the bound, in ascending order; all if the
-- bound is `None`
abbrev pub routes_above : {R : Type 0} → Routes R → Option Network → List (Network × R)
routes_above routes low = above low (entries routes)

-- the entry of the map with the least prefix greater than the bound, or with the least prefix of
-- all if the bound is `None`; `None` if there is no such entry
abbrev pub first_above : {R : Type 0} → Routes R → Option Network → Option (Network × R)
first_above routes low = slice_get (routes_above routes low) 0
