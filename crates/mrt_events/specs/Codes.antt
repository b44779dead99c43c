-- Private.
-- Peers and routes as values of types that std has codes for, so that finite maps can have them as keys and values.
use Rattle.std.specs.Prelude.{ℕ, refl}
use Rattle.std.specs.Coded.{Coded, code_by, coded×, coded_ℕ}
use Rattle.ip_prefix.specs.Network.{Address}
use Rattle.ip_prefix.specs.Codes.{coded_address}
use Rattle.bgp_wire.specs.declared.attrs.Attrs.{Attrs}
use Rattle.bgp_wire.specs.Codes.{coded_attrs}
use Rattle.mrt_events.specs.declared.peer.Peer.{Peer}
use Rattle.mrt_events.specs.declared.event.Route.{Route}

-- a one-to-one encoding (`Coded`) of peers as tuples of address and AS number, for keys and values of finite maps
abbrev pub coded_peer : Coded Peer
coded_peer = code_by (Address × ℕ) (coded× coded_address coded_ℕ) (λ p. (p.addr, p.asn)) (λ p. record { addr = p.0; asn = p.1 }) (λ _. refl)

-- an encoding of routes as plain data, for keys and values of finite maps: the pair of attributes and time
abbrev pub route_as_pair : Coded Route
route_as_pair = code_by (Attrs × ℕ) (coded× coded_attrs coded_ℕ) (λ r. (r.attrs, r.time)) (λ p. record { attrs = p.0; time = p.1 }) (λ _. refl)
