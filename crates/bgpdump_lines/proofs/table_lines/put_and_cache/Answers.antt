use Rattle.std.proofs.Common.{◌≡◌, ◌++◌, ◌∙◌, ap, sym}
use Rattle.bgpdump_lines.specs.Heading.{peer_fields, first_three_fields, fields_after_prefix}
use Rattle.bgpdump_lines.specs.CachedLines.{table_line_head}
use Rattle.bgpdump_lines.proofs.TableLaws.{first_three_fields-tables}
use Rattle.bgpdump_lines.proofs.table_lines.put_and_cache.Goals as goal

pub insert-requires : goal.insert-requires
insert-requires c =
    let line = c.in_ok-line.line in
    let announcement = c.in_ok-line.ensures.announcement in
    let same = ap (λ s. s.route.now) announcement ∙ sym c.requires.same in
    let head : first_three_fields c.args.heading.now line.announcement.route.now ≡ table_line_head c.args.route.now.value.time = first_three_fields-tables c.args.heading.now line.announcement.route.now c.requires.tables ∙ ap (λ route. table_line_head route.time) same in
    record {
      start = record {
        within = c.prefixless_last_line.ensures.within;
        head = c.prefixless_last_line.ensures.head ∙ c.in_ok-line.ensures.last.head ∙ head;
        front = c.prefixless_last_line.ensures.front ∙ c.in_ok-line.ensures.last.front ∙ (λ i. head i ++ peer_fields (announcement i).peer.now);
      };
      tail = c.prefixless_last_line.ensures.tail ∙ c.in_ok-line.ensures.last.tail ∙ ap fields_after_prefix same;
    }
