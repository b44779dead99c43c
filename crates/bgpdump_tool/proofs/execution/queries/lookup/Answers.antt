use Rattle.std.proofs.Common.{◌≡◌, ℕ, List, Some, None, sym, ap, subst, ◌∙◌, option_map}
use Rattle.ip_prefix.specs.Network.{Network}
use Rattle.mrt_events.specs.declared.event.Route.{Route}
use Rattle.bgpdump_lines.specs.Lines.{rib_reply_line}
use Rattle.bgpdump_tool.specs.Replies.{found_text, longest_match}
use Rattle.bgpdump_lines.specs.WrittenSoFar.{Puts}
use Rattle.bgpdump_tool.proofs.BestLaws.{one_best}
use Rattle.bgpdump_tool.proofs.execution.queries.lookup.Goals as goal

pub returns-in-Some-clause-text : goal.returns-in-Some-clause-text
returns-in-Some-clause-text g c =
    let found : Some (c.in-Some.found.0, c.in-Some.found.1.now.value) ≡ longest_match c.args.table.now.routes c.args.peer.now c.args.addr.now =
    sym (ap (option_map {U = Network × Route} (λ f. (f.0, f.1.now.value))) c.in-Some.is) ∙ one_best c.args.table.now.routes c.args.peer.now c.args.addr.now _ c.longest.ensures in
    let puts = λ (text : List ℕ). Puts (g.O.Output.written c.args.out.now) (g.O.Output.written c.write_rib_line.new.out) text c.write_rib_line.result in
    subst puts (ap (found_text c.args.peer.now) found)
    (subst (λ (route : Route). puts (rib_reply_line c.args.peer.now (c.in-Some.found.0, route))) c.deref.ensures c.write_rib_line.ensures.text)

pub returns-in-None-clause-text : goal.returns-in-None-clause-text
returns-in-None-clause-text g c =
    let found : None ≡ longest_match c.args.table.now.routes c.args.peer.now c.args.addr.now =
    sym (ap (option_map {U = Network × Route} (λ f. (f.0, f.1.now.value))) c.in-None.is) ∙ one_best c.args.table.now.routes c.args.peer.now c.args.addr.now _ c.longest.ensures in
    subst (λ text. Puts (g.O.Output.written c.args.out.now) (g.O.Output.written c.write_none.new.out) text c.write_none.result) (ap (found_text c.args.peer.now) found) c.write_none.ensures.text
