-- What attributes say is said plainly first.
use Rattle.std.proofs.Common.{ℕ, List, Option}
use Rattle.ip_prefix.specs.declared.addr.Family.{Family}
use Rattle.ip_prefix.specs.Network.{Address}
use Rattle.bgp_paths.specs.declared.path.AsPath.{AsPath}
use Rattle.bgp_paths.specs.Path.{SpellsPath}
use Rattle.bgp_wire.specs.declared.attrs.Aggregator.{Aggregator}
use Rattle.bgp_wire.specs.declared.attrs.Attrs.{Attrs}
use Rattle.bgp_wire.specs.Content.{ArePathAndAggregatorOf, AreAttrsOf, SpellsRibAttrs, first_values}
use Rattle.bgp_wire.specs.declared.framing.TheConstants.{AS_PATH, NEXT_HOP, AGGREGATOR}
use Rattle.bgp_wire.specs.declared.parts.UpdateBuffer.{UpdateBuffer}
use Rattle.bgp_paths.specs.declared.numbers.AsWidth.{AsWidth}
use Rattle.bgp_paths.specs.declared.numbers.AsWidth.TheVariants.{Two, Four}
use Rattle.bgp_wire.specs.Attribute.{Attribute, first_value, SpellsOptional, SpellsIPv4, SpellsAggregator, octets_or_empty}
use Rattle.bgp_wire.specs.Parts.{SpellsParts}
use Rattle.bgp_wire.specs.PlainValues.{AreUnmergedAttrsOf, SpellsUnmergedAttrs}

-- the path and the aggregator as they were before they were joined
passed_plainly : (width : AsWidth) (path : AsPath) (aggregator : Option Aggregator) (list : List Attribute) → ArePathAndAggregatorOf width path aggregator list
    → (own_path : AsPath) × (own : Option Aggregator) × SpellsPath width own_path (octets_or_empty (first_value AS_PATH list)) × SpellsOptional SpellsAggregator own (first_value AGGREGATOR list)
passed_plainly Two path aggregator list s = (s.own_path, s.own, s.path_spelled, s.own_spelled)
passed_plainly Four path aggregator list s = (path, aggregator, s.path_spelled, s.own_spelled)

-- with these, and with a next hop of NEXT_HOP
said_plainly : (width : AsWidth) (hop : Option Address) (attrs : Attrs) (list : List Attribute) → AreAttrsOf width attrs list → SpellsOptional SpellsIPv4 hop (first_value NEXT_HOP list)
    → (plain : Attrs) × AreUnmergedAttrsOf width plain (first_values list)
said_plainly width hop attrs list s h =
    let passed = passed_plainly width attrs.path attrs.aggregator list s.passed in (
      record attrs { next_hop = hop; path = passed.0; aggregator = passed.1 },
      record { short = s.short; path = passed.2; next_hop = h; aggregator = passed.3; communities = s.communities },
    )

-- octets of a RIB entry's attributes spell plain ones
pub rib_plainly : (family : Family) (width : AsWidth) (attrs : Attrs) (octets : List ℕ) → SpellsRibAttrs family width attrs octets → (plain : Attrs) × SpellsUnmergedAttrs width plain octets
rib_plainly family width attrs octets s =
    let plain = said_plainly width s.hop_said.own attrs s.list s.said s.hop_said.own_spelled in
    (plain.0, record { list = s.list; spelled = s.spelled; said = plain.1 })

-- and so do those of an UPDATE's
pub parts_plainly : (width : AsWidth) (parts : UpdateBuffer) (octets : List ℕ) → SpellsParts width parts octets → (plain : Attrs) × SpellsUnmergedAttrs width plain octets
parts_plainly width parts octets s =
    let plain = said_plainly width parts.attrs.next_hop parts.attrs s.list s.said.together.said s.said.together.hop in
    (plain.0, record { list = s.list; spelled = s.spelled; said = plain.1 })
