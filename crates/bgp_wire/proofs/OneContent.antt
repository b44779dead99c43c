-- No octets are spellings of two attributes of a RIB entry, or of two messages.
use Rattle.std.proofs.Common.{◌≡◌, inl, inr, ℕ, Bool, true, false, List, Option, Some, None, ap, sym, subst, ◌∙◌}
use Rattle.ip_prefix.specs.declared.addr.Family.{Family}
use Rattle.ip_prefix.specs.declared.addr.Family.TheVariants.{V4}
use Rattle.ip_prefix.specs.Network.{Address, SpellsNetwork}
use Rattle.ip_prefix.specs.Sequences.{SpellsAll}
use Rattle.octet_forms.proofs.Sequences.{one_list}
use Rattle.ip_prefix.proofs.Wires.{network_code}
use Rattle.bgp_wire.specs.declared.framing.TheConstants.{ORIGIN, AS_PATH, NEXT_HOP, MULTI_EXIT_DISC, LOCAL_PREF, ATOMIC_AGGREGATE, AGGREGATOR, COMMUNITIES, MP_REACH_NLRI, MP_UNREACH_NLRI, AS4_PATH, AS4_AGGREGATOR}
use Rattle.bgp_paths.specs.declared.numbers.AsWidth.{AsWidth}
use Rattle.bgp_paths.specs.declared.numbers.AsWidth.TheVariants.{Two, Four}
use Rattle.bgp_paths.specs.declared.path.AsPath.{AsPath}
use Rattle.bgp_wire.specs.declared.attrs.Aggregator.{Aggregator}
use Rattle.bgp_wire.specs.declared.attrs.Attrs.{Attrs}
use Rattle.bgp_wire.specs.declared.message.TheConstants.{UPDATE}
use Rattle.bgp_wire.specs.declared.parts.Update.{Update}
use Rattle.bgp_wire.specs.declared.message.Message.{Message}
use Rattle.bgp_wire.specs.declared.message.Message.TheVariants as messages
use Rattle.bgp_wire.specs.Attribute.{Attribute, SpellsAttribute, first_value, octets_or_empty, SpellsOrigin, SpellsIPv4, SpellsAggregatorAt, SpellsAggregator}
use Rattle.bgp_paths.specs.Path.{SpellsU32}
use Rattle.bgp_wire.specs.Reach.{SpellsRibHopInEitherForm, rib_hop, reach_prefixes, reach_attrs}
use Rattle.bgp_wire.specs.Content.{ignores_as4, merged_aggregator, IsMergedUnlessIgnored, ArePathAndAggregatorOf, AreAttrsOf, IsRibNextHopOf, SpellsRibAttrs}
use Rattle.bgp_paths.specs.Merge.{IsMerge}
use Rattle.bgp_wire.specs.Update.{IsUpdateOf, SpellsUpdate, SpellsMessage}
use Rattle.bgp_wire.proofs.OneAttribute.{attribute_code}
use Rattle.bgp_paths.proofs.Merging.{one_merged}
use Rattle.bgp_paths.proofs.HasOneFront.{one_path_of}
use Rattle.bgp_wire.proofs.Reaching.{same_update, same_message}
use Rattle.bgp_wire.proofs.OneValue.{one_optional, one_where_formed, one_presence, one_origin, one_word, one_words, one_ipv4, one_aggregator, one_aggregator_at, one_rib_hop, one_reach, one_unreach}

-- paths are joined in one way
one_joined : (ignored : Bool) (own : AsPath) (value : Option (List ℕ)) (path other : AsPath) → IsMergedUnlessIgnored ignored own value path → IsMergedUnlessIgnored ignored own value other → path ≡ other
one_joined true own value path other s t = s ∙ sym t
one_joined false own None path other s t = s ∙ sym t
one_joined false own (Some octets) path other (inl s) (inl t) =
    one_merged own t.0 path other (subst (λ as4. IsMerge own as4 path) (one_path_of Four octets s.0 t.0 s.1 t.1) s.2) t.2
one_joined false own (Some octets) path other (inl s) (inr t) = absurd (t.0 s.0 s.1)
one_joined false own (Some octets) path other (inr s) (inl t) = absurd (s.0 t.0 t.1)
one_joined false own (Some octets) path other (inr s) (inr t) = s.1 ∙ sym t.1

one_passed : (width : AsWidth) (path other : AsPath) (aggregator another : Option Aggregator) (list : List Attribute) → ArePathAndAggregatorOf width path aggregator list → ArePathAndAggregatorOf width other another list
    → (path ≡ other) × (aggregator ≡ another)
one_passed Two path other aggregator another list s t =
    let paths = one_path_of Two (octets_or_empty (first_value AS_PATH list)) s.own_path t.own_path s.path_spelled t.path_spelled in
    let own = one_optional SpellsAggregator one_aggregator s.own t.own (first_value AGGREGATOR list) s.own_spelled t.own_spelled in
    let as4 = one_where_formed (SpellsAggregatorAt Four) (one_aggregator_at Four) s.as4 t.as4 (first_value AS4_AGGREGATOR list) s.as4_spelled t.as4_spelled in
    let first = subst (λ p. IsMergedUnlessIgnored (ignores_as4 t.own t.as4) p (first_value AS4_PATH list) path) paths
    (subst (λ ignored. IsMergedUnlessIgnored ignored s.own_path (first_value AS4_PATH list) path) (λ i. ignores_as4 (own i) (as4 i)) s.path_joined) in (
      one_joined (ignores_as4 t.own t.as4) t.own_path (first_value AS4_PATH list) path other first t.path_joined,
      s.aggregator_joined ∙ (λ i. merged_aggregator (own i) (as4 i)) ∙ sym t.aggregator_joined,
    )
one_passed Four path other aggregator another list s t = (
  one_path_of Four (octets_or_empty (first_value AS_PATH list)) path other s.path_spelled t.path_spelled,
  one_optional SpellsAggregator one_aggregator aggregator another (first_value AGGREGATOR list) s.own_spelled t.own_spelled,
)

-- attributes with one next hop say one thing
one_says : (width : AsWidth) (attrs other : Attrs) (list : List Attribute) → attrs.next_hop ≡ other.next_hop → AreAttrsOf width attrs list → AreAttrsOf width other list → attrs ≡ other
one_says width attrs other list hops s t =
    let passed = one_passed width attrs.path other.path attrs.aggregator other.aggregator list s.passed t.passed in
    λ i. record {
      next_hop = hops i;
      aggregator = passed.1 i;
      path = passed.0 i;
      communities = one_words attrs.communities other.communities (octets_or_empty (first_value COMMUNITIES list)) s.communities t.communities i;
      med = one_optional SpellsU32 one_word attrs.med other.med (first_value MULTI_EXIT_DISC list) s.short.1 t.short.1 i;
      local_pref = one_optional SpellsU32 one_word attrs.local_pref other.local_pref (first_value LOCAL_PREF list) s.short.2 t.short.2 i;
      origin = one_optional SpellsOrigin one_origin attrs.origin other.origin (first_value ORIGIN list) s.short.0 t.short.0 i;
      atomic = one_presence attrs.atomic other.atomic (first_value ATOMIC_AGGREGATE list) s.short.3 t.short.3 i;
    }

one_hop : (family : Family) (hop other : Option Address) (list : List Attribute) → IsRibNextHopOf family hop list → IsRibNextHopOf family other list → hop ≡ other
one_hop family hop other list s t =
    let own = one_optional SpellsIPv4 one_ipv4 s.own t.own (first_value NEXT_HOP list) s.own_spelled t.own_spelled in
    let reached = one_optional SpellsRibHopInEitherForm one_rib_hop s.reached t.reached (first_value MP_REACH_NLRI list) s.reached_spelled t.reached_spelled in
    s.chosen ∙ (λ i. rib_hop family (own i) (reached i)) ∙ sym t.chosen

pub one_rib_attrs : (family : Family) (width : AsWidth) (octets : List ℕ) (attrs other : Attrs) → SpellsRibAttrs family width attrs octets → SpellsRibAttrs family width other octets → attrs ≡ other
one_rib_attrs family width octets attrs other s t =
    let lists = one_list SpellsAttribute attribute_code octets s.list t.list s.spelled t.spelled in
    one_says width attrs other t.list
    (one_hop family attrs.next_hop other.next_hop t.list (subst (IsRibNextHopOf family attrs.next_hop) lists s.hop_said) t.hop_said)
    (subst (AreAttrsOf width attrs) lists s.said) t.said

-- ---- messages

pub one_update : (width : AsWidth) (body : List ℕ) (update other : Update) → SpellsUpdate width update body → SpellsUpdate width other body → update ≡ other
one_update width body update other s t =
    let parts = same_update s.withdrawn s.attributes s.announced t.withdrawn t.attributes t.announced body s.whole t.whole in
    let withdrawn = one_list (SpellsNetwork V4) (network_code V4) t.withdrawn update.withdrawn other.withdrawn (subst (SpellsAll (SpellsNetwork V4) update.withdrawn) parts.0 s.withdrawn_spelled) t.withdrawn_spelled in
    let announced = one_list (SpellsNetwork V4) (network_code V4) t.announced update.announced other.announced (subst (SpellsAll (SpellsNetwork V4) update.announced) parts.2 s.announced_spelled) t.announced_spelled in
    let lists = one_list SpellsAttribute attribute_code t.attributes s.list t.list (subst (SpellsAll SpellsAttribute s.list) parts.1 s.spelled) t.spelled in
    let said = subst (IsUpdateOf width update) lists s.said in
    let a = said.together in
    let b = t.said.together in
    let attrs = one_says width update.attrs other.attrs t.list (one_optional SpellsIPv4 one_ipv4 update.attrs.next_hop other.attrs.next_hop (first_value NEXT_HOP t.list) a.hop b.hop) a.said b.said in
    let reach = one_reach said.reach t.said.reach (first_value MP_REACH_NLRI t.list) a.reached b.reached in
    let unreached = one_unreach update.mp_withdrawn other.mp_withdrawn (first_value MP_UNREACH_NLRI t.list) a.unreached b.unreached in
    let mp_announced = said.announced ∙ ap reach_prefixes reach ∙ sym t.said.announced in
    let mp_attrs = said.attrs ∙ (λ i. reach_attrs (attrs i) (reach i)) ∙ sym t.said.attrs in
    λ i. record {
      withdrawn = withdrawn i;
      mp_withdrawn = unreached i;
      attrs = attrs i;
      announced = announced i;
      mp_attrs = mp_attrs i;
      mp_announced = mp_announced i;
    }

pub one_message_of : (width : AsWidth) (octets : List ℕ) (message other : Message) → SpellsMessage width message octets → SpellsMessage width other octets → message ≡ other
one_message_of width octets (messages.Update update) (messages.Update other) s t =
    let bodies = (same_message UPDATE UPDATE s.0 t.0 octets s.1 t.1).1 in
    ap messages.Update (one_update width t.0 update other (subst (SpellsUpdate width update) bodies s.2) t.2)
one_message_of width octets (messages.Update update) (messages.Other kind) s t = absurd (t.0 (sym (same_message UPDATE kind s.0 t.1 octets s.1 t.2).0))
one_message_of width octets (messages.Other kind) (messages.Update update) s t = absurd (s.0 (same_message kind UPDATE s.1 t.0 octets s.2 t.1).0)
one_message_of width octets (messages.Other kind) (messages.Other other) s t = ap messages.Other (same_message kind other s.1 t.1 octets s.2 t.2).0
