use Rattle.std.proofs.Common.{inr, None, Some, ap, map, sym, ◌∙◌, refl}
use Rattle.mrt_events.specs.declared.event.Tag.TheVariants.{TableDump, TableDump2}
use Rattle.mrt_events.specs.Event.{item_value}
use Rattle.mrt_frames.specs.Taken.{record_with_header}
use Rattle.mrt_wire.specs.declared.record_types.BodyFormat.TheVariants as form
use Rattle.mrt_wire.specs.Content.{Entry, Peers, Entries, Session}
use Rattle.mrt_wire.specs.Items.{first_unknown, entries_items, table_dump_items}
use Rattle.mrt_wire.specs.Decoding.{SpellsMapped, parsed_session}
use Rattle.mrt_wire.specs.Rib.{SpellsPeerIndex, SpellsRib, SpellsTableDump}
use Rattle.mrt_wire.specs.Session.{SpellsSessionBody}
use Rattle.mrt_wire.specs.Results.{entries_fault, event_at, session_tag}
use Rattle.mrt_wire.proofs.DecodingLaws.{refused_body}
use Rattle.mrt_wire.proofs.decoding.decode_record.Goals as goal

pub returns-in_err-items-in-Entry : goal.returns-in_err-items-in-Entry
returns-in_err-items-in-Entry c =
    let family = c.in-Entry.family in
    let says = table_dump_items c.args.stamp c.args.raw.header.seconds in
    refused_body c.args.stamp c.args.index.now (record_with_header c.args.raw.header c.args.raw.body.now) (form.Entry family) (SpellsMapped (SpellsTableDump family) says)
    c.in_err-items-in-Entry.field-0.0 c.from_residual.result c.from_residual.ensures.1
    (c.requires ∙ ap Some c.in-Entry.is) (λ content s. (says s.0, (s.0, s.2, refl))) c.in_err-items-in-Entry.ensures

pub returns-in_err-read_peer_index-in-Peers : goal.returns-in_err-read_peer_index-in-Peers
returns-in_err-read_peer_index-in-Peers c =
    refused_body c.args.stamp c.args.index.now (record_with_header c.args.raw.header c.args.raw.body.now) form.Peers SpellsPeerIndex
    c.in_err-read_peer_index-in-Peers.field-0.0 c.from_residual-in_err-read_peer_index-in-Peers.result c.from_residual-in_err-read_peer_index-in-Peers.ensures.1
    (c.requires ∙ ap Some c.in-Peers.is) (λ content s. (s.0, s.2)) c.in_err-read_peer_index-in-Peers.ensures

pub returns-in_err-parsed-in-Entries : goal.returns-in_err-parsed-in-Entries
returns-in_err-parsed-in-Entries c =
    let family = c.in-Entries.family in
    refused_body c.args.stamp c.args.index.now (record_with_header c.args.raw.header c.args.raw.body.now) (form.Entries family) (SpellsRib family)
    c.in_err-parsed-in-Entries.field-0.0 c.from_residual-in_err-parsed-in-Entries.result c.from_residual-in_err-parsed-in-Entries.ensures.1
    (c.requires ∙ ap Some c.in-Entries.is) (λ content s. (s.0, s.2)) c.in_err-parsed-in-Entries.ensures.refused

pub returns-in_err-session-in-Session : goal.returns-in_err-session-in-Session
returns-in_err-session-in-Session c =
    let session = c.in-Session.form in
    let says = parsed_session c.args.raw.header.seconds in
    refused_body c.args.stamp c.args.index.now (record_with_header c.args.raw.header c.args.raw.body.now) (form.Session session) (SpellsMapped (SpellsSessionBody session) says)
    c.in_err-session-in-Session.field-0.0 c.from_residual-in_err-session-in-Session.result c.from_residual-in_err-session-in-Session.ensures.1
    (c.requires ∙ ap Some c.in-Session.is) (λ content s. (says s.0, (s.0, s.2, refl))) c.in_err-session-in-Session.ensures

pub returns-in-Some : goal.returns-in-Some
returns-in-Some c =
    let has = c.requires ∙ ap Some c.in-Entries.is in
    let (rib, spelled, tells) = c.in_ok-parsed-in-Entries.ensures.parsed in
    let unknown = tells.unknown ∙ ap (λ peers. first_unknown peers rib.entries) c.peers_in.ensures in
    let is = ap (entries_fault c.args.index.now) (sym unknown) ∙ sym c.entries_fault.ensures ∙ c.in-Some.is in
    (inr (inr (Entries rib, (form.Entries c.in-Entries.family, has, (rib, refl, spelled)), is)), refl)

pub returns-in_ok-items-in-Entry : goal.returns-in_ok-items-in-Entry
returns-in_ok-items-in-Entry c =
    let has = c.requires ∙ ap Some c.in-Entry.is in
    let (entry, spelled, parsed) = c.in_ok-items-in-Entry.ensures in
    (Entry entry, record { is_body = (form.Entry c.in-Entry.family, has, (entry, refl, spelled)); sound = refl; made = ap (event_at c.args.raw.header.seconds None TableDump) parsed }, refl)

pub returns-in_ok-read_peer_index-in-Peers : goal.returns-in_ok-read_peer_index-in-Peers
returns-in_ok-read_peer_index-in-Peers c =
    let has = c.requires ∙ ap Some c.in-Peers.is in
    let peers = c.in_ok-read_peer_index-in-Peers.field-0 in (
      Peers peers,
      record {
        is_body = (form.Peers, has, (peers, refl, c.in_ok-read_peer_index-in-Peers.ensures));
        sound = refl;
        made = ap (event_at c.args.raw.header.seconds None TableDump2) (c.from_vec-items.ensures ∙ ap (map item_value) c.new.ensures.items);
      },
      refl,
    )

pub returns-in_default : goal.returns-in_default
returns-in_default c =
    let seconds = c.args.raw.header.seconds in
    let has = c.requires ∙ ap Some c.in-Entries.is in
    let (rib, spelled, tells) = c.in_ok-parsed-in-Entries.ensures.parsed in
    let unknown = tells.unknown ∙ ap (λ peers. first_unknown peers rib.entries) c.peers_in.ensures in
    let items = c.from_vec-items-in-Entries.ensures ∙ tells.items ∙ ap (λ peers. entries_items peers c.args.stamp seconds rib) c.peers_in.ensures in (
      Entries rib,
      record {
        is_body = (form.Entries c.in-Entries.family, has, (rib, refl, spelled));
        sound = ap (entries_fault c.args.index.now) (sym unknown) ∙ sym c.entries_fault.ensures ∙ c.in_default.is;
        made = ap (event_at seconds None TableDump2) items;
      },
      refl,
    )

pub returns-in_ok-session-in-Session : goal.returns-in_ok-session-in-Session
returns-in_ok-session-in-Session c =
    let seconds = c.args.raw.header.seconds in
    let has = c.requires ∙ ap Some c.in-Session.is in
    let session = c.in_ok-session-in-Session.session in
    let (body, spelled, parsed) = c.in_ok-session-in-Session.ensures in (
      Session body,
      record {
        is_body = (form.Session c.in-Session.form, has, (body, refl, spelled));
        sound = refl;
        made = ap (λ tag. event_at seconds session.micros tag session.items) c.session_tag-tag.ensures ∙ ap (λ s. event_at seconds s.micros (session_tag s.micros) s.items) parsed;
      },
      refl,
    )
