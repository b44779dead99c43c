use Rattle.std.proofs.Common.{◌++◌, drop, take, ◌+◌, ◌<◌, length, get_or, arith, ap, sym, subst, ◌∙◌, drop-drop, drop-set-lt}
use Rattle.rib_player.specs.Journal.{sides_of, routes_across}
use Rattle.rib_player.specs.Sides.{sides_across, AreDistinctKeys, marks_of, mark_of}
use Rattle.rib_player.proofs.JournalLaws.{rest_of_entries, kept-tail, entries-more}
use Rattle.rib_player.proofs.MarkLaws.{turn-more}
use Rattle.std.proofs.lemmas.Grind.{common_steps}
use Rattle.rib_player.proofs.journal.swap_routes.Goals as goal

pub entries-preserved : goal.entries-preserved
entries-preserved g c =
    let i = c.entries.index in
    let first = c.args.entries.now in
    let entry = get_or c.entries.entries i c.index-entries-index.result in
    let known = c.entries.invariant in
    let within : i < length c.entries.entries = omega arith in
    let rest = rest_of_entries i c.entries.entries first c.index-entries-index.result within known.unchanged in
    let kept = subst (λ es. AreDistinctKeys c.entries.table.keys (sides_of es)) rest known.kept in
    record {
      unchanged = drop-set-lt (i + 1) c.entries.entries i _ (omega arith) ∙ sym (drop-drop 1 i c.entries.entries) ∙ ap (drop 1) known.unchanged ∙ drop-drop 1 i first;
      keys = c.exchange.ensures.keys ∙ known.keys;
      kept = subst (λ k. AreDistinctKeys k (sides_of (drop (i + 1) first))) (sym c.exchange.ensures.keys) (kept-tail c.entries.table.keys _ (sides_of (drop (i + 1) first)) kept);
      routes = ap (routes_across (sides_of (drop (i + 1) first))) c.exchange.ensures.routes ∙ ap (λ es. routes_across (sides_of es) c.entries.table.routes) (sym rest) ∙ known.routes;
      entries = entries-more c.entries.table.keys c.entries.table.routes c.exchange.new.table.routes c.entries.entries (drop (i + 1) first) i entry _ _ within kept c.exchange.ensures.routes
          (λ k. (c.exchange.ensures.pair k, c.exchange.ensures.taken_out k))
          (ap (λ es. sides_of (take i c.entries.entries) ++ sides_across c.entries.table.routes (sides_of es)) (sym rest) ∙ known.entries);
      marks = turn-more mark_of c.entries.entries i _ (mark_of entry) (marks_of (drop (i + 1) first)) _ within (λ k. record { pair = c.exchange.ensures.pair k; before = c.exchange.ensures.before k; after = c.exchange.ensures.after k })
          (ap (λ es. marks_of (take i c.entries.entries) ++ marks_of es) (sym rest) ∙ known.marks);
    }

pub returns-clause-routes : goal.returns-clause-routes
returns-clause-routes g c = grind (arith, common_steps)

pub returns-clause-entries : goal.returns-clause-entries
returns-clause-entries g c = grind (arith, common_steps)
