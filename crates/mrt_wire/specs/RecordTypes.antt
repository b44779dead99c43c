-- The types and subtypes of records that are supported, and the formats of their bodies (RFC 6396, section 4).
use Rattle.std.specs.Prelude.{◌≡◌, ℕ, ◌==◌, if◌then◌else◌, Bool, true, false, Option, Some, None}
use Rattle.ip_prefix.specs.declared.addr.Family.TheVariants.{V4, V6}
use Rattle.bgp_wire.specs.declared.AsWidth.TheVariants.{Two, Four}
use Rattle.mrt_wire.specs.declared.record_types.BodyFormat.{BodyFormat}
use Rattle.mrt_wire.specs.declared.record_types.BodyFormat.TheVariants.{Entry, Peers, Entries, Session}
use Rattle.mrt_wire.specs.declared.record_types.Bgp4mpRecordKind.TheVariants.{StateChange, Message}
use Rattle.mrt_wire.specs.declared.record_types.TheConstants.{TABLE_DUMP, AFI_IPV4, AFI_IPV6, TABLE_DUMP_V2, BGP4MP, BGP4MP_ET, PEER_INDEX_TABLE, RIB_IPV4_UNICAST, RIB_IPV6_UNICAST, BGP4MP_STATE_CHANGE, BGP4MP_MESSAGE, BGP4MP_MESSAGE_AS4, BGP4MP_STATE_CHANGE_AS4}
use Rattle.mrt_frames.specs.Record.{Record}

-- the format of the bodies of BGP4MP records of this subtype, and `None` where it isn't supported (RFC 6396, section
-- 4.4); `timed` says whether the bodies begin with microseconds, as in BGP4MP_ET (section 3)
abbrev pub session_format : Bool → ℕ → Option BodyFormat
session_format timed subtype =
    if subtype == BGP4MP_STATE_CHANGE then Some (Session record { kind = StateChange; width = Two; timed = timed })
    else if subtype == BGP4MP_MESSAGE then Some (Session record { kind = Message; width = Two; timed = timed })
    else if subtype == BGP4MP_MESSAGE_AS4 then Some (Session record { kind = Message; width = Four; timed = timed })
    else if subtype == BGP4MP_STATE_CHANGE_AS4 then Some (Session record { kind = StateChange; width = Four; timed = timed })
    else None

-- the format of the bodies of records of this type and subtype, and `None` where these aren't supported (RFC 6396,
-- sections 4.2, 4.3 and 4.4)
abbrev pub body_format : ℕ → ℕ → Option BodyFormat
body_format kind subtype =
    if kind == TABLE_DUMP then
    (if subtype == AFI_IPV4 then Some (Entry V4) else if subtype == AFI_IPV6 then Some (Entry V6) else None)
    else if kind == TABLE_DUMP_V2 then
    (if subtype == PEER_INDEX_TABLE then Some Peers
    else if subtype == RIB_IPV4_UNICAST then Some (Entries V4)
    else if subtype == RIB_IPV6_UNICAST then Some (Entries V6)
    else None)
    else if kind == BGP4MP then session_format false subtype
    else if kind == BGP4MP_ET then session_format true subtype
    else None

-- the type and subtype are supported, and their bodies have this format
abbrev pub HasBodyFormat : ℕ → ℕ → BodyFormat → Type 0
HasBodyFormat kind subtype form = body_format kind subtype ≡ Some form

-- the type and subtype of record `r` are supported: they have a format of bodies (`body_format`)
abbrev pub IsSupported : Record → Type 0
IsSupported r = (form : BodyFormat) × HasBodyFormat r.kind r.subtype form
