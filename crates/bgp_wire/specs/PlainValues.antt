-- Private.
-- What the parser of a list of path attributes has found: values that are parsed by themselves, values that
-- are kept for later, and the types that were seen.
use Rattle.std.specs.Prelude.{◌≡◌, ℕ, ◌<◌, Bool, false, List, slice_index_or, is_some, if◌then◌else◌, ◌==◌, Option, Some, None}
use Rattle.bgp_wire.specs.declared.framing.TheConstants.{KINDS, AS_PATH, NEXT_HOP, AGGREGATOR, COMMUNITIES, MP_REACH_NLRI, MP_UNREACH_NLRI, AS4_PATH, AS4_AGGREGATOR}
use Rattle.bgp_wire.specs.Attribute.{Attribute, first_value, repeats, SpellsAttribute, SpellsOptional, octets_or_empty, SpellsIPv4, SpellsAggregator}
use Rattle.std.specs.Borrow.{Bor}
use Rattle.ip_prefix.specs.Sequences.{SpellsAll}
use Rattle.bgp_paths.specs.declared.numbers.AsWidth.{AsWidth}
use Rattle.bgp_wire.specs.declared.attrs.Attrs.{Attrs}
use Rattle.bgp_wire.specs.declared.attribute_list.DeferredValues.{DeferredValues}
use Rattle.bgp_wire.specs.Content.{FirstValues, first_values, AreScalarAttrsOf}
use Rattle.bgp_paths.specs.Path.{SpellsU32, SpellsPath}

-- ---- the types of attributes that were seen

-- at the index of each type of attribute below `KINDS`, 19: whether one of it was seen in a list (`seen`),
-- and whether more than one was (`again`)
pub record SeenFlags : Type 0 where
  pub seen : List Bool
  pub again : List Bool

-- `types` are those of the attributes of `list`, and those that repeat in it; types from `KINDS` on don't
-- count
pub record AreTypesOf (types : SeenFlags) (list : List Attribute) : Type 0 where
  pub each : (kind : ℕ) → kind < KINDS → slice_index_or types.seen kind false ≡ is_some (first_value kind list)
  pub repeated : (kind : ℕ) → kind < KINDS → slice_index_or types.again kind false ≡ repeats kind list

-- ---- attributes before AS4_PATH and AS4_AGGREGATOR are merged into them

-- the octets of a borrowed slice, or `None` if there is no slice
abbrev pub lent_octets : Option (Bor (List ℕ)) → Option (List ℕ)
lent_octets None = None
lent_octets (Some octets) = Some octets.now

-- each of `attrs` is what its first value spells: the path that of AS_PATH, with AS numbers of this width,
-- the aggregator that of AGGREGATOR, and the next hop that of NEXT_HOP. AS4_PATH and AS4_AGGREGATOR aren't
-- merged. Absent values give `None`, false or nothing
pub record AreUnmergedAttrsOf (width : AsWidth) (attrs : Attrs) (first : FirstValues) : Type 0 where
  pub short : AreScalarAttrsOf attrs first
  pub path : SpellsPath width attrs.path (octets_or_empty (first AS_PATH))
  pub next_hop : SpellsOptional SpellsIPv4 attrs.next_hop (first NEXT_HOP)
  pub aggregator : SpellsOptional SpellsAggregator attrs.aggregator (first AGGREGATOR)
  pub communities : SpellsAll SpellsU32 attrs.communities (octets_or_empty (first COMMUNITIES))

-- the octets are a list of path attributes of which `attrs` is the content, without the merge of AS4_PATH and
-- AS4_AGGREGATOR
pub record SpellsUnmergedAttrs (width : AsWidth) (attrs : Attrs) (octets : List ℕ) : Type 0 where
  pub list : List Attribute
  pub spelled : SpellsAll SpellsAttribute list octets
  pub said : AreUnmergedAttrsOf width attrs (first_values list)

-- `later` has the values of MP_REACH_NLRI, MP_UNREACH_NLRI, AS4_PATH and AS4_AGGREGATOR, which aren't parsed
-- by themselves
pub record AreDeferredValuesOf (later : DeferredValues) (first : FirstValues) : Type 0 where
  pub reach : lent_octets later.reach ≡ first MP_REACH_NLRI
  pub unreach : lent_octets later.unreach ≡ first MP_UNREACH_NLRI
  pub as4_path : lent_octets later.as4_path ≡ first AS4_PATH
  pub as4_aggregator : lent_octets later.as4_aggregator ≡ first AS4_AGGREGATOR

-- what the parser returns for the octets: they are a list of path attributes of which `attrs` is the content
-- without the merge, `later` has the values that are kept for later, and `types` the types
pub record ReadsList (width : AsWidth) (attrs : Attrs) (later : DeferredValues) (types : SeenFlags) (octets : List ℕ) : Type 0 where
  pub list : List Attribute
  pub spelled : SpellsAll SpellsAttribute list octets
  pub said : AreUnmergedAttrsOf width attrs (first_values list)
  pub values : AreDeferredValuesOf later (first_values list)
  pub seen : AreTypesOf types list

-- ---- while a list is parsed

-- `octets` spell `content` if they are present; if they are absent (`None`), it may be any
abbrev pub SpellsIfPresent : {A : Type 0} → (A → List ℕ → Type 0) → A → Option (List ℕ) → Type 0
SpellsIfPresent {A} Spells content None = Unit {0}
SpellsIfPresent {A} Spells content (Some octets) = Spells content octets

-- `attrs` and `later` have what these first values spell; where AS_PATH or COMMUNITIES is absent, the path or
-- the communities may be any
pub record ReadSoFar (width : AsWidth) (attrs : Attrs) (later : DeferredValues) (first : FirstValues) : Type 0 where
  pub short : AreScalarAttrsOf attrs first
  pub path : SpellsIfPresent (SpellsPath width) attrs.path (first AS_PATH)
  pub next_hop : SpellsOptional SpellsIPv4 attrs.next_hop (first NEXT_HOP)
  pub aggregator : SpellsOptional SpellsAggregator attrs.aggregator (first AGGREGATOR)
  pub communities : SpellsIfPresent (SpellsAll SpellsU32) attrs.communities (first COMMUNITIES)
  pub kept : AreDeferredValuesOf later first

-- the first of two values if it is present, or else the second
abbrev pub value_or : Option (List ℕ) → Option (List ℕ) → Option (List ℕ)
value_or old None = old
value_or None (Some octets) = Some octets
value_or (Some first) (Some octets) = Some first

-- for an attribute of type `kind` with value `octets`: its value if `wanted` is its type, or else `None`
abbrev pub value_at : ℕ → List ℕ → ℕ → Option (List ℕ)
value_at kind octets wanted = if kind == wanted then Some octets else None

-- for each type the value of its first attribute in a list that ends with one of type `kind` and value
-- `octets`, where `first` has those of the list without it: only that of `kind` may change, if it was `None`
abbrev pub with_value : ℕ → List ℕ → FirstValues → FirstValues
with_value kind octets first wanted = value_or (first wanted) (value_at kind octets wanted)

-- `New` holds of a list with one attribute more at its end, of type `kind` and value `octets`, if `Old` holds
-- of the list without it, which has none of `kind` if that is below `KINDS`. Both are of `first_values`, by
-- type the value of the first attribute
abbrev pub AddingGives : ℕ → List ℕ → (FirstValues → Type 0) → (FirstValues → Type 0) → Type 0
AddingGives kind octets Old New = (first : FirstValues) → (kind < KINDS → first kind ≡ None) → Old first → New (with_value kind octets first)

-- `new` is the content, before AS4_PATH and AS4_AGGREGATOR are merged, of any list with these types of which
-- `old` is the content but for a path or communities left over where the list has no AS_PATH or COMMUNITIES;
-- `new` has none there
abbrev pub ClearsAbsentLists : SeenFlags → Attrs → Attrs → Type 0
ClearsAbsentLists types old new =
    (width : AsWidth) (later : DeferredValues) (list : List Attribute) → AreTypesOf types list
    → ReadSoFar width old later (first_values list) → AreUnmergedAttrsOf width new (first_values list)
