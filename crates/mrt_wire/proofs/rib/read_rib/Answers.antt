use Rattle.std.proofs.Common.{sym, subst}
use Rattle.ip_prefix.specs.Fields.{SpellsPair}
use Rattle.ip_prefix.specs.Sequences.{Begins}
use Rattle.ip_prefix.specs.Network.{SpellsNetwork}
use Rattle.bgp_wire.specs.declared.WireFault.TheVariants.{Malformed}
use Rattle.bgp_wire.specs.Readers.{Refuses}
use Rattle.bgp_paths.proofs.Refusing.{refused_part}
use Rattle.mrt_wire.specs.declared.rib.TheConstants.{SEQUENCE_SIZE}
use Rattle.mrt_wire.specs.Rib.{SpellsEntries, SpellsPrefixAndEntries, SpellsRib}
use Rattle.mrt_wire.proofs.FieldFronts.{octets_front}
use Rattle.mrt_wire.proofs.ReadingLaws.{refused_behind, refused_none, refused_unkept, refused_so}
use Rattle.mrt_wire.proofs.RibLaws.{network_front}
use Rattle.mrt_wire.proofs.rib.read_rib.Goals as goal

pub returns-in_err-rest-clause-refused : goal.returns-in_err-rest-clause-refused
returns-in_err-rest-clause-refused c =
    refused_none (SpellsRib c.args.context.family) c.args.octets.now c.from_residual.result (λ rib s. (rw c.in_err-rest.ensures.ok_part at c.skip.ensures.none) s.0 s.1.rest s.1.first)

pub returns-in_err-prefix-clause-refused : goal.returns-in_err-prefix-clause-refused
returns-in_err-prefix-clause-refused c =
    let number = rw c.in_ok-rest.ensures.ok_part at c.skip.ensures.some in
    refused_none (SpellsRib c.args.context.family) c.args.octets.now c.from_residual-in_err-prefix.result
    (refused_unkept _ _ (octets_front SEQUENCE_SIZE) number.0 c.in_ok-rest.rest.now c.args.octets.now Malformed number.1 (λ rib s. (rw c.in_err-prefix.ensures.ok_part at c.read.ensures.none) rib.prefix s.rest s.first))

pub returns-clause-refused : goal.returns-clause-refused
returns-clause-refused c =
    let family = c.args.context.family in
    let octets = c.args.octets.now in
    let rest = c.in_ok-rest.rest.now in
    let entries = c.split_at.result.1.now in
    let number = rw c.in_ok-rest.ensures.ok_part at c.skip.ensures.some in
    let found = rw c.in_ok-prefix.ensures.ok_part at c.read.ensures.some in
    let prefix = c.in_ok-prefix.prefix in
    let front : Begins (SpellsNetwork family) prefix entries rest =
    record { front = c.split_at.result.0.now; spelled = subst (SpellsNetwork family prefix) (sym c.split_at.ensures.front) found.1; whole = c.split_at.ensures.by_index.0 } in
    refused_so c.read_entries.result (Refuses (SpellsEntries family) entries) (Refuses (SpellsRib family) octets) (λ fault none.
    refused_unkept _ _ (octets_front SEQUENCE_SIZE) number.0 rest octets fault number.1
    (refused_part (SpellsPrefixAndEntries family) (SpellsPair (SpellsNetwork family) (λ prefix. SpellsEntries family)) rest rest fault (λ rib s. ((rib.prefix, rib.entries), s))
    (refused_behind _ _ (network_front family) prefix entries rest fault front none))) c.read_entries.ensures.refused
