use Rattle.std.proofs.Common.{List, length}
use Rattle.ip_prefix.specs.Sequences.{Begins, SpellsAll}
use Rattle.bgp_wire.specs.Attribute.{Attribute, SpellsAttribute}
use Rattle.bgp_wire.specs.PlainValues.{ReadSoFar, AreTypesOf}
use Rattle.bgp_wire.specs.Content.{first_values}
use Rattle.bgp_wire.proofs.attribute_list.read_attribute_list.Given as goal

-- the attributes before the rest were read
abbrev pub invariant-loop-rest : goal.invariant-loop-rest
invariant-loop-rest l =
    (list : List Attribute) × Begins (SpellsAll SpellsAttribute) list l.rest l.sent.octets.now
    × ReadSoFar l.sent.width l.attrs l.later (first_values list) × AreTypesOf l.types list

abbrev pub decreases-loop-rest : goal.decreases-loop-rest
decreases-loop-rest l = length l.rest
