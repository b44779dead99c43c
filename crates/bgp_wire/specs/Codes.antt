-- Private.
-- Path attributes as plain data (`Coded`): a code of them and their values, from which types that contain
-- them make theirs.
use Rattle.std.specs.Prelude.{◌≡◌, ℕ, ◌==◌, if◌then◌else◌, Bool, List, Option, refl}
use Rattle.std.specs.Coded.{Coded, code_by, coded×, coded_ℕ, coded_bool, coded_list, coded_option}
use Rattle.ip_prefix.specs.Network.{Address}
use Rattle.ip_prefix.specs.Codes.{coded_address}
use Rattle.bgp_paths.specs.Codes.{coded_as_path}
use Rattle.bgp_paths.specs.declared.path.AsPath.{AsPath}
use Rattle.bgp_wire.specs.declared.attrs.Origin.{Origin}
use Rattle.bgp_wire.specs.declared.attrs.Origin.TheVariants.{Igp, Egp, Incomplete}
use Rattle.bgp_wire.specs.declared.attrs.Aggregator.{Aggregator}
use Rattle.bgp_wire.specs.declared.attrs.Attrs.{Attrs}
use Rattle.bgp_wire.specs.declared.values.TheConstants.{ORIGIN_IGP, ORIGIN_EGP}
use Rattle.bgp_wire.specs.Attribute.{origin_code}

-- the origin with this number; of other numbers `Incomplete`
abbrev origin_of : ℕ → Origin
origin_of n = if n == ORIGIN_IGP then Igp else if n == ORIGIN_EGP then Egp else Incomplete

-- an origin is the one of its number
abbrev same_origin : (origin : Origin) → origin_of (origin_code origin) ≡ origin
same_origin Igp = refl
same_origin Egp = refl
same_origin Incomplete = refl

-- an encoding of origins as plain data, for keys and values of finite maps: the number of the origin
-- (`origin_code`)
abbrev pub coded_origin : Coded Origin
coded_origin = code_by ℕ coded_ℕ origin_code origin_of same_origin

-- an encoding of aggregators as plain data, for keys and values of finite maps: the pair of address and AS number
abbrev pub coded_aggregator : Coded Aggregator
coded_aggregator = code_by (Address × ℕ) (coded× coded_address coded_ℕ) (λ a. (a.addr, a.asn)) (λ p. record { addr = p.0; asn = p.1 }) (λ _. refl)

-- an encoding of a route's attributes as plain data, for keys and values of finite maps: the tuple of all their
-- fields
abbrev pub coded_attrs : Coded Attrs
coded_attrs =
    code_by ((AsPath × (Option Aggregator × Option Address)) × ((List ℕ × Bool) × (Option ℕ × (Option ℕ × Option Origin))))
    (coded× (coded× coded_as_path (coded× (coded_option coded_aggregator) (coded_option coded_address)))
    (coded× (coded× (coded_list coded_ℕ) coded_bool) (coded× (coded_option coded_ℕ) (coded× (coded_option coded_ℕ) (coded_option coded_origin)))))
    (λ a. ((a.path, (a.aggregator, a.next_hop)), ((a.communities, a.atomic), (a.med, (a.local_pref, a.origin)))))
    (λ p. record {
      path = p.0.0;
      aggregator = p.0.1.0;
      next_hop = p.0.1.1;
      communities = p.1.0.0;
      atomic = p.1.0.1;
      med = p.1.1.0;
      local_pref = p.1.1.1.0;
      origin = p.1.1.1.1;
    })
    (λ _. refl)
