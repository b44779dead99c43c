use Rattle.std.proofs.Common.{Err, ap, sym, subst, ◌∙◌, arith}
use Rattle.std.specs.Prelude.{IfErr}
use Rattle.std.proofs.lemmas.Result.{err_from_is_err_and}
use Rattle.bgp_wire.specs.Readers.{Refuses}
use Rattle.mrt_wire.specs.Rib.{SpellsEntry, SpellsEntries}
use Rattle.mrt_wire.specs.Decoding.{entry_value}
use Rattle.mrt_wire.proofs.ReadingLaws.{no_count, counted_refused, counted, refused_none}
use Rattle.mrt_wire.proofs.RibLaws.{entry_code}
use Rattle.mrt_wire.proofs.TellingLaws.{ItemsSoFar-push}
use Rattle.mrt_wire.proofs.rib.read_entries.Goals as goal

pub returns-in_err-count-clause-refused : goal.returns-in_err-count-clause-refused
returns-in_err-count-clause-refused c =
    let family = c.args.context.family in
    refused_none (SpellsEntries family) c.args.octets.now c.from_residual.result (no_count (SpellsEntry family) c.args.octets.now (rw c.in_err-count.ensures.ok_part at c.split_u16.ensures))

pub returns-in_err-entry-clause-refused : goal.returns-in_err-entry-clause-refused
returns-in_err-entry-clause-refused c =
    let octets = c.args.octets.now in
    let count = c.in_ok-count.count in
    let s = c.loop.invariant in
    let p = err_from_is_err_and c.from_residual-in_err-entry.result c.from_residual-in_err-entry.ensures.1 in
    subst (λ answer. IfErr answer (Refuses (SpellsEntries c.args.context.family) octets)) (sym (p.1 ∙ ap Err p.2))
    (counted_refused (SpellsEntry c.args.context.family) (entry_code c.args.context.family) s.entries count.value c.loop.rest.now count.rest.now octets c.in_err-entry.field-0.0
    (rw c.in_ok-count.ensures.ok_part at c.split_u16.ensures) (omega (arith, s.size, c.loop-test.true)) s.read c.in_err-entry.ensures.refused)

pub loop-preserved : goal.loop-preserved
loop-preserved c =
    ItemsSoFar-push c.args.context c.args.prefix c.loop.counter c.loop.parsed c.add.new.self c.loop.rest.now c.in_ok-entry.more.now c.in_ok-count.count.rest.now (entry_value c.in_ok-entry.entry)
    c.loop.invariant c.in_ok-entry.ensures.found c.in_ok-add.ensures.items c.in_ok-add.ensures.unknown

pub returns-clause-parsed : goal.returns-clause-parsed
returns-clause-parsed c =
    let count = c.in_ok-count.count in
    let s = c.loop.invariant in (
      s.entries,
      (
        c.loop.rest.now,
        counted (SpellsEntry c.args.context.family) s.entries count.value c.loop.rest.now count.rest.now c.args.octets.now (rw c.in_ok-count.ensures.ok_part at c.split_u16.ensures)
            (omega (arith, s.size, c.loop-test.false, c.loop.auto.counter-end)) s.read,
      ),
      s.tells,
    )
