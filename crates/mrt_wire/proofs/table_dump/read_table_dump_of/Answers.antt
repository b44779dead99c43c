use Rattle.std.proofs.Common.{◌∷◌, [], map, Err, ap, sym, subst, ◌∙◌}
use Rattle.std.proofs.lemmas.Result.{err_from_is_err_and}
use Rattle.bgp_wire.specs.Readers.{ParsesOrFails}
use Rattle.bgp_paths.proofs.Refusing.{refused_part}
use Rattle.mrt_events.specs.Event.{Announced, item_value}
use Rattle.mrt_wire.specs.Items.{table_dump_items, route_of}
use Rattle.mrt_wire.specs.Decoding.{SpellsMapped}
use Rattle.mrt_wire.specs.Rib.{SpellsTableDump}
use Rattle.mrt_wire.proofs.TableDumpLaws.{refused_attrs}
use Rattle.mrt_wire.proofs.table_dump.read_table_dump_of.Goals as goal

pub returns-in_default : goal.returns-in_default
returns-in_default c items s =
    let t = s.1 in
    c.in_default.ensures.none (t.0, (s.0.prefix, (t.1, (s.0.time, (s.0.peer, t.2))))) t.3 t.4

pub returns-in_err-route : goal.returns-in_err-route
returns-in_err-route c =
    let family = c.args.family in
    let octets = c.args.octets.now in
    let entry = c.in-Some.entry in
    let framed = c.in-Some.ensures.some in
    let fault = c.in_err-route.field-0.0 in
    let Whole = SpellsMapped (SpellsTableDump family) (table_dump_items c.args.choice.stamp c.args.choice.seconds) in
    let p = err_from_is_err_and c.from_residual.result c.from_residual.ensures.1 in
    subst (ParsesOrFails Whole octets) (sym (p.1 ∙ ap Err p.2))
    (refused_part Whole (SpellsTableDump family) octets octets fault (λ items s. (s.0, s.1))
    (refused_attrs family framed.0 entry.prefix framed.1 entry.time entry.peer entry.attributes.now framed.2 octets fault framed.3 c.in_err-route.ensures.refused))

pub returns : goal.returns
returns c =
    let entry = c.in-Some.entry in
    let framed = c.in-Some.ensures.some in
    let route = c.in_ok-route.route in (
      record { prefix = entry.prefix; peer = entry.peer; attrs = route.value.attrs; time = entry.time },
      (framed.0, framed.1, entry.attributes.now, framed.2, framed.3, c.in_ok-route.ensures.read.0),
      c.with_shared_ranges.ensures ∙ ap (map item_value) (rw c.take_items-items.ensures.items at c.in_ok-push.ensures.items) ∙ ap (λ time. Announced entry.peer entry.prefix (route_of route.value.attrs time) ∷ []) (c.in_ok-route.ensures.read.1 ∙ c.route_time-time.ensures),
    )
