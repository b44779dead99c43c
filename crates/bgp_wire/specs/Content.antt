-- The content of a list of path attributes, with the merge of AS4_PATH and AS4_AGGREGATOR (RFC 6793, section
-- 4.2.3).
use Rattle.std.specs.Prelude.{◌≡◌, ◌⊎◌, ◌==◌, ℕ, Bool, true, false, not, if◌then◌else◌, List, Option, Some, None}
use Rattle.bgp_wire.specs.declared.as4.TheConstants.{AS_TRANS}
use Rattle.bgp_wire.specs.declared.framing.TheConstants.{AS_PATH, AGGREGATOR, AS4_PATH, AS4_AGGREGATOR, ORIGIN, NEXT_HOP, MULTI_EXIT_DISC, LOCAL_PREF, ATOMIC_AGGREGATE, COMMUNITIES, MP_REACH_NLRI}
use Rattle.bgp_paths.specs.declared.numbers.AsWidth.{AsWidth}
use Rattle.bgp_paths.specs.declared.numbers.AsWidth.TheVariants.{Two, Four}
use Rattle.bgp_paths.specs.declared.path.AsPath.{AsPath}
use Rattle.bgp_wire.specs.declared.attrs.Aggregator.{Aggregator}
use Rattle.bgp_wire.specs.Attribute.{Attribute, first_value, SpellsAttribute, repeats, SpellsOptional, octets_or_empty, SpellsAggregatorAt, SpellsAggregator, SpellsPresence, SpellsOrigin, SpellsIPv4}
use Rattle.bgp_paths.specs.Path.{SpellsPath, IsNoSpelling, SpellsU32}
use Rattle.bgp_paths.specs.Merge.{IsMerge}
use Rattle.ip_prefix.specs.declared.addr.Family.{Family}
use Rattle.ip_prefix.specs.Network.{Address}
use Rattle.ip_prefix.specs.Sequences.{SpellsAll}
use Rattle.bgp_wire.specs.declared.attrs.Attrs.{Attrs}
use Rattle.bgp_wire.specs.Reach.{SpellsRibHopInEitherForm, rib_hop}

-- ---- AS4_PATH and AS4_AGGREGATOR where AS_PATH and AGGREGATOR have AS numbers of two octets (RFC 6793,
-- section 4.2.3)

-- the octets spell the content if both are present; otherwise the content is absent, and the octets are
-- absent or spell none
abbrev pub SpellsIfWellFormed : {A : Type 0} → (A → List ℕ → Type 0) → Option A → Option (List ℕ) → Type 0
SpellsIfWellFormed Spells None None = Unit {0}
SpellsIfWellFormed Spells (Some content) (Some octets) = Spells content octets
SpellsIfWellFormed Spells None (Some octets) = IsNoSpelling Spells octets
SpellsIfWellFormed Spells (Some content) None = ⊥

-- whether AS4_PATH and AS4_AGGREGATOR are ignored, by the contents of AGGREGATOR (`own`) and AS4_AGGREGATOR
-- (`as4`): both are present, and the AS number of AGGREGATOR isn't AS_TRANS
abbrev pub ignores_as4 : Option Aggregator → Option Aggregator → Bool
ignores_as4 (Some own) (Some as4) = not (own.asn == AS_TRANS)
ignores_as4 (Some own) None = false
ignores_as4 None as4 = false

-- the aggregator of a route, by the contents of AGGREGATOR (`own`) and AS4_AGGREGATOR (`as4`): AS4_AGGREGATOR
-- if both are present and AGGREGATOR has AS_TRANS, or else AGGREGATOR
abbrev pub merged_aggregator : Option Aggregator → Option Aggregator → Option Aggregator
merged_aggregator (Some own) (Some as4) = Some (if own.asn == AS_TRANS then as4 else own)
merged_aggregator (Some own) None = Some own
merged_aggregator None as4 = None

-- `path` is `own`, the path of AS_PATH, merged (`IsMerge`) with that of AS4_PATH, whose value is the third
-- argument; it is `own` itself if the first argument is true (AS4_PATH is ignored), or if AS4_PATH is absent
-- or malformed
abbrev pub IsMergedUnlessIgnored : Bool → AsPath → Option (List ℕ) → AsPath → Type 0
IsMergedUnlessIgnored true own value path = path ≡ own
IsMergedUnlessIgnored false own None path = path ≡ own
IsMergedUnlessIgnored false own (Some octets) path =
    ((as4 : AsPath) × SpellsPath Four as4 octets × IsMerge own as4 path)
    ⊎ (IsNoSpelling (SpellsPath Four) octets × (path ≡ own))

-- `path` and `aggregator` are those of the attributes `list`, whose AS_PATH has AS numbers of two octets (RFC
-- 6793, section 4.2.3): AS_PATH merged with AS4_PATH, and AGGREGATOR or AS4_AGGREGATOR. An absent AS_PATH has
-- no segments; AS4_PATH or AS4_AGGREGATOR counts as absent if it is malformed
pub record AreMergedWithAs4 (path : AsPath) (aggregator : Option Aggregator) (list : List Attribute) : Type 0 where
  pub own_path : AsPath
  pub path_spelled : SpellsPath Two own_path (octets_or_empty (first_value AS_PATH list))
  pub own : Option Aggregator
  pub own_spelled : SpellsOptional SpellsAggregator own (first_value AGGREGATOR list)
  pub as4 : Option Aggregator
  pub as4_spelled : SpellsIfWellFormed (SpellsAggregatorAt Four) as4 (first_value AS4_AGGREGATOR list)
  pub path_joined : IsMergedUnlessIgnored (ignores_as4 own as4) own_path (first_value AS4_PATH list) path
  pub aggregator_joined : aggregator ≡ merged_aggregator own as4

-- `path` and `aggregator` are AS_PATH and AGGREGATOR of the attributes `list`, whose AS_PATH has AS numbers
-- of four octets; AS4_PATH and AS4_AGGREGATOR are ignored. An absent AS_PATH has no segments
pub record AreAsSent (path : AsPath) (aggregator : Option Aggregator) (list : List Attribute) : Type 0 where
  pub path_spelled : SpellsPath Four path (octets_or_empty (first_value AS_PATH list))
  pub own_spelled : SpellsOptional SpellsAggregator aggregator (first_value AGGREGATOR list)

-- `path` and `aggregator` are those of the attributes `list`, whose AS_PATH has AS numbers of this width:
-- AS_PATH and AGGREGATOR, which for two octets are merged with AS4_PATH and AS4_AGGREGATOR (RFC 6793, section
-- 4.2.3); for four octets these two are ignored
abbrev pub ArePathAndAggregatorOf : AsWidth → AsPath → Option Aggregator → List Attribute → Type 0
ArePathAndAggregatorOf Two path aggregator list = AreMergedWithAs4 path aggregator list
ArePathAndAggregatorOf Four path aggregator list = AreAsSent path aggregator list

-- ---- the content of a list of path attributes (RFC 4271, section 5; RFC 1997; RFC 4760; RFC 6396, section
-- 4.3.4; RFC 6793)

-- the values that count in a list of attributes: for the number of each type the value of the first attribute
-- of this type, or `None` if there is none
abbrev pub FirstValues : Type 0
FirstValues = ℕ → Option (List ℕ)

-- for the number of each type (`kind`) the value of the first attribute of this type in `list`, or `None` if
-- there is none
abbrev pub first_values : List Attribute → FirstValues
first_values list kind = first_value kind list

-- ORIGIN, MULTI_EXIT_DISC, LOCAL_PREF and ATOMIC_AGGREGATE of `attrs` are what their values in `first` spell;
-- where `first` has none, they are `None`, and false for ATOMIC_AGGREGATE
abbrev pub AreScalarAttrsOf : Attrs → FirstValues → Type 0
AreScalarAttrsOf attrs first =
    SpellsOptional SpellsOrigin attrs.origin (first ORIGIN)
    × SpellsOptional SpellsU32 attrs.med (first MULTI_EXIT_DISC)
    × SpellsOptional SpellsU32 attrs.local_pref (first LOCAL_PREF)
    × SpellsPresence attrs.atomic (first ATOMIC_AGGREGATE)

-- `attrs`, but for the next hop, is the content of `list`, whose AS_PATH has AS numbers of this width: of
-- each type the first attribute counts. Absent communities are empty
pub record AreAttrsOf (width : AsWidth) (attrs : Attrs) (list : List Attribute) : Type 0 where
  pub short : AreScalarAttrsOf attrs (first_values list)
  pub passed : ArePathAndAggregatorOf width attrs.path attrs.aggregator list
  pub communities : SpellsAll SpellsU32 attrs.communities (octets_or_empty (first_value COMMUNITIES list))

-- `hop` is the next hop of a RIB entry with the attributes `list`, for a prefix of this family: that of
-- NEXT_HOP or of MP_REACH_NLRI, as `rib_hop` chooses, or `None` if neither is there. The list has
-- MP_REACH_NLRI at most once
pub record IsRibNextHopOf (family : Family) (hop : Option Address) (list : List Attribute) : Type 0 where
  -- the next hops of NEXT_HOP (`own`) and of MP_REACH_NLRI (`reached`)
  pub own : Option Address
  pub reached : Option Address
  pub own_spelled : SpellsOptional SpellsIPv4 own (first_value NEXT_HOP list)
  pub reached_spelled : SpellsOptional SpellsRibHopInEitherForm reached (first_value MP_REACH_NLRI list)
  pub once : repeats MP_REACH_NLRI list ≡ false
  pub chosen : hop ≡ rib_hop family own reached

-- the octets are a list of path attributes of which `attrs` is the content, as those of a RIB entry for a
-- prefix of this family, with AS numbers of this width in AS_PATH
pub record SpellsRibAttrs (family : Family) (width : AsWidth) (attrs : Attrs) (octets : List ℕ) : Type 0 where
  pub list : List Attribute
  pub spelled : SpellsAll SpellsAttribute list octets
  pub said : AreAttrsOf width attrs list
  pub hop_said : IsRibNextHopOf family attrs.next_hop list
