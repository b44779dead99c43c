-- What is an entry of a table, and what isn't.
use Rattle.std.proofs.Common.{◌≡◌, ℕ, List, [], refl, subst}
use Rattle.ip_prefix.specs.declared.addr.Family.{Family}
use Rattle.ip_prefix.specs.Sequences.{Begins}
use Rattle.ip_prefix.specs.Fronts.{HasOneFront, IsSelfDelimiting, IsUnambiguous}
use Rattle.ip_prefix.specs.Network.{SpellsNetwork}
use Rattle.octet_forms.proofs.Fields.{then_front, then_one, more_one, behind_one}
use Rattle.octet_forms.proofs.Counts.{counted_code}
use Rattle.octet_forms.proofs.Sequences.{never_begins}
use Rattle.ip_prefix.proofs.Wires.{network_code}
use Rattle.bgp_wire.specs.declared.WireFault.{WireFault}
use Rattle.bgp_wire.specs.declared.WireFault.TheVariants.{Malformed, Memory}
use Rattle.bgp_wire.specs.declared.AsWidth.TheVariants.{Two, Four}
use Rattle.bgp_wire.specs.Content.{SpellsRibAttrs}
use Rattle.bgp_wire.specs.Path.{SpellsAsn}
use Rattle.bgp_wire.specs.Readers.{Refuses, MayRefuseFront}
use Rattle.bgp_wire.proofs.OneContent.{one_rib_attrs}
use Rattle.bgp_paths.proofs.HasOneFront.{number_code}
use Rattle.mrt_wire.specs.declared.rib.TheConstants.{SEQUENCE_SIZE}
use Rattle.mrt_wire.specs.Rib.{RibEntry, AreEntryFields, SpellsEntry, SpellsEntries, SpellsPrefixAndEntries, SpellsRib}
use Rattle.mrt_wire.proofs.FieldFronts.{octets_front, sized_front, short_front, word_front}

entry_fields_front : HasOneFront AreEntryFields
entry_fields_front = then_front _ _ short_front (λ index. then_front _ _ word_front (λ time. sized_front))

-- octets that begin with an entry begin with its fields
pub entry_fields : (family : Family) (entry : RibEntry) (rest octets : List ℕ) (b : Begins (SpellsEntry family) entry rest octets) → Begins AreEntryFields (entry.index, (entry.time, b.spelled.0)) rest octets
entry_fields family entry rest octets b = record { front = b.front; spelled = b.spelled.1; whole = b.whole }

pub entry_code : (family : Family) → IsSelfDelimiting (SpellsEntry family)
entry_code family = record { some = some; same = same }
  where
    some : (entry : RibEntry) → SpellsEntry family entry [] → ⊥
    some entry s = never_begins (SpellsAsn Two) (number_code Two) entry.index s.1.rest [] s.1.first refl

    same : HasOneFront (SpellsEntry family)
    same a b x y octets p q =
        let one = entry_fields_front (a.index, (a.time, p.spelled.0)) (b.index, (b.time, q.spelled.0)) x y octets (entry_fields family a x octets p) (entry_fields family b y octets q) in
        let bodies : p.spelled.0 ≡ q.spelled.0 = λ i. (one.0 i).1.1 in
        let attrs = one_rib_attrs family Four q.spelled.0 a.attrs b.attrs (subst (SpellsRibAttrs family Four a.attrs) bodies p.spelled.2) q.spelled.2 in
        ((λ i. record { attrs = attrs i; time = (one.0 i).1.0; index = (one.0 i).0 }), one.1)

pub network_front : (family : Family) → HasOneFront (SpellsNetwork family)
network_front family = (network_code family).same

one_entries : (family : Family) → IsUnambiguous (SpellsEntries family)
one_entries family = more_one _ (counted_code (SpellsEntry family) (entry_code family)).same

one_prefixed : (family : Family) → IsUnambiguous (SpellsPrefixAndEntries family)
one_prefixed family a b octets s t =
    let one = then_one _ _ (network_front family) (λ prefix. one_entries family) (a.prefix, a.entries) (b.prefix, b.entries) octets s t in
    λ i. record { prefix = (one i).0; entries = (one i).1 }

-- no octets are of two tables for a prefix
pub one_rib : (family : Family) → IsUnambiguous (SpellsRib family)
one_rib family = behind_one _ _ (octets_front SEQUENCE_SIZE) (λ number. one_prefixed family)

-- where the attributes are refused so is the entry
pub refused_attrs : (family : Family) (index time : ℕ) (body rest octets : List ℕ) (fault : WireFault) → Begins AreEntryFields (index, (time, body)) rest octets
    → Refuses (SpellsRibAttrs family Four) body fault → MayRefuseFront (SpellsEntry family) octets fault
refused_attrs family index time body rest octets Malformed b none = λ entry more p.
    let one = entry_fields_front (entry.index, (entry.time, p.spelled.0)) (index, (time, body)) more rest octets (entry_fields family entry more octets p) b in
    none entry.attrs (subst (SpellsRibAttrs family Four entry.attrs) (λ i. (one.0 i).1.1) p.spelled.2)
refused_attrs family index time body rest octets Memory b none = tt
