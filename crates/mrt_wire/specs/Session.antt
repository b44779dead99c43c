-- State changes and messages of sessions, and the octets that spell them (RFC 6396, section 4.4), after microseconds
-- or not (section 3).
use Rattle.std.specs.Prelude.{◌≡◌, ℕ, ◌<◌, Bool, true, false, List, [], ◌∷◌, Option, Some, None}
use Rattle.ip_prefix.specs.declared.addr.Family.{Family}
use Rattle.ip_prefix.specs.Network.{Address, octet_count}
use Rattle.ip_prefix.specs.Fields.{SpellsPair, SpellsFront}
use Rattle.bgp_wire.specs.declared.AsWidth.{AsWidth}
use Rattle.bgp_wire.specs.declared.message.Message.{Message}
use Rattle.bgp_wire.specs.Path.{SpellsAsn, SpellsU32, asn_size}
use Rattle.bgp_wire.specs.Reach.{family_code}
use Rattle.bgp_wire.specs.Update.{SpellsMessage}
use Rattle.mrt_events.specs.declared.peer.Peer.{Peer}
use Rattle.mrt_wire.specs.declared.record_types.Bgp4mpRecordKind.{Bgp4mpRecordKind}
use Rattle.mrt_wire.specs.declared.record_types.Bgp4mpRecordKind.TheVariants as kind
use Rattle.mrt_wire.specs.declared.record_types.Bgp4mpFormat.{Bgp4mpFormat}
use Rattle.mrt_wire.specs.declared.session.TheConstants.{INTERFACE_SIZE, MICROS_PER_SECOND}
use Rattle.mrt_wire.specs.Fields.{SpellsShort, AreOctets, SpellsAddressOf}

-- the change of a session with a peer from an old state to a new one, by their numbers (RFC 4271, section 8.2.2)
pub record StateChange : Type 0 where
  pub peer : Peer
  pub old : ℕ
  pub new : ℕ

-- a BGP message, and the peer that sent it
pub record PeerMessage : Type 0 where
  pub message : Message
  pub peer : Peer

-- what a BGP4MP record holds: a state change, or a message
pub data SessionContent : Type 0 where
  Change : StateChange → SessionContent
  Receipt : PeerMessage → SessionContent

-- what the body of a BGP4MP record holds, and the microseconds, which are `None` where the body doesn't begin with
-- them
pub record TimedSessionContent : Type 0 where
  pub content : SessionContent
  pub micros : Option ℕ

-- the octets are the two of an address family: 0 and 1 for IPv4, 0 and 2 for IPv6
abbrev pub SpellsFamily : Family → List ℕ → Type 0
SpellsFamily family octets = octets ≡ 0 ∷ family_code family ∷ []

-- the octets are those of Peer AS Number, Local AS Number and Interface Index (two octets), with AS numbers of this
-- width. The value is the peer's number, and the octets of the other two, which may be any
abbrev pub AreAsnFields : AsWidth → ℕ × (List ℕ × List ℕ) → List ℕ → Type 0
AreAsnFields width =
    SpellsPair (SpellsAsn width) (λ asn. SpellsPair (AreOctets (asn_size width)) (λ local_asn. AreOctets INTERFACE_SIZE))

-- the octets are those of Address Family, Peer IP Address and Local IP Address, both of this family. The value is the
-- family, the peer's address, and the octets of the local address, which may be any
abbrev pub AreAddressFields : Family × (Address × List ℕ) → List ℕ → Type 0
AreAddressFields =
    SpellsPair SpellsFamily (λ family. SpellsPair (SpellsAddressOf family) (λ address. AreOctets (octet_count family)))

-- the octets are the session fields in front of a state change or a message, from Peer AS Number to Local IP Address,
-- with this peer, and AS numbers of this width. The local AS number, the interface index and the local address may be
-- any
abbrev pub SpellsSessionPeer : AsWidth → Peer → List ℕ → Type 0
SpellsSessionPeer width peer octets =
    (local_asn interface : List ℕ) × (family : Family) × (local_address : List ℕ)
    × SpellsPair (AreAsnFields width) (λ systems. AreAddressFields)
    ((peer.asn, (local_asn, interface)), (family, (peer.addr, local_address))) octets

-- the octets are a state change, of BGP4MP_STATE_CHANGE or, with AS numbers of four octets, of
-- BGP4MP_STATE_CHANGE_AS4: the session fields (`SpellsSessionPeer`), Old State and New State, of two octets each, and
-- then any octets
abbrev pub SpellsStateChange : AsWidth → StateChange → List ℕ → Type 0
SpellsStateChange width change octets =
    SpellsPair (SpellsSessionPeer width) (λ peer. SpellsPair SpellsShort (λ old. SpellsFront SpellsShort)) (change.peer, (change.old, change.new)) octets

-- the octets are a message of a peer, of BGP4MP_MESSAGE or, with AS numbers of four octets, of BGP4MP_MESSAGE_AS4:
-- the session fields (`SpellsSessionPeer`), and then the BGP message, which takes all octets that are left
abbrev pub SpellsPeerMessage : AsWidth → PeerMessage → List ℕ → Type 0
SpellsPeerMessage width m octets =
    SpellsPair (SpellsSessionPeer width) (λ peer. SpellsMessage width) (m.peer, m.message) octets

-- the octets are a BGP4MP body without microseconds: a state change or a message, as the kind says, with AS numbers
-- of this width
abbrev pub SpellsSessionContent : Bgp4mpRecordKind → AsWidth → SessionContent → List ℕ → Type 0
SpellsSessionContent kind.StateChange width said octets =
    (change : StateChange) × (said ≡ Change change) × SpellsStateChange width change octets
SpellsSessionContent kind.Message width said octets =
    (message : PeerMessage) × (said ≡ Receipt message) × SpellsPeerMessage width message octets

-- the octets are the microseconds at the start of a body, if the first argument is true: four, with a number below
-- 1,000,000. If it is false there are no octets, and `micros` is `None`
abbrev pub SpellsMicros : Bool → Option ℕ → List ℕ → Type 0
SpellsMicros false micros octets = (micros ≡ None) × (octets ≡ [])
SpellsMicros true micros octets = (n : ℕ) × (micros ≡ Some n) × (n < MICROS_PER_SECOND) × SpellsU32 n octets

-- the octets are the body of a BGP4MP or BGP4MP_ET record of this format: the microseconds, if `form.timed`, and then
-- a state change or a message, as `form.kind` says, with AS numbers of `form.width`
abbrev pub SpellsSessionBody : Bgp4mpFormat → TimedSessionContent → List ℕ → Type 0
SpellsSessionBody form body octets =
    SpellsPair (SpellsMicros form.timed) (λ micros. SpellsSessionContent form.kind form.width) (body.micros, body.content) octets
