use Rattle.std.proofs.Common.{◌≡◌, ◌+◌, rules, refl, sym, ap, ◌∙◌, arith}
use Rattle.std.proofs.lemmas.Result.{err_from_is_err_and}
use Rattle.bgpdump_lines.specs.declared.fault.WriteFault.TheVariants.{Memory}
use Rattle.bgpdump_tool.specs.declared.command.Command.TheVariants.{Back, Peers, Table, Route, Lookup, Forget}
use Rattle.bgpdump_tool.specs.Replies.{peers_text, table_text, found_text, route_text, longest_match}
use Rattle.bgpdump_tool.proofs.WalkLaws.{PutsAllOrFront-put}
use Rattle.bgpdump_tool.proofs.CarryLaws.{HasRoom-up, HasRoom-forget, Execution-back, Execution-position, Execution-question, Execution-lose, Execution-forget, Execution-refused}
use Rattle.bgpdump_tool.proofs.execution.execute_command.Goals as goal

pub returns-in-Next-clause-room : goal.returns-in-Next-clause-room
returns-in-Next-clause-room g c = λ lost room. HasRoom-up _ _ lost (lost + 1) (omega arith) (c.next.ensures.room lost room)

pub returns-in-Goto-clause-room : goal.returns-in-Goto-clause-room
returns-in-Goto-clause-room g c = λ lost room. HasRoom-up _ _ lost (lost + 1) (omega arith) (c.goto.ensures.room lost room)

pub returns-in-Back-clause-carries_out : goal.returns-in-Back-clause-carries_out
returns-in-Back-clause-carries_out g c = λ from left s stands.
    rw (c.in-Back.is ∙ ap Back (sym c.from.ensures), c.replied.ensures) (Execution-back c.from.result from left s _ c.back.new.player _ _ c.back.result stands c.back.ensures.player c.back.ensures.text)

pub returns-in-Position-clause-carries_out : goal.returns-in-Position-clause-carries_out
returns-in-Position-clause-carries_out g c = λ from left s stands.
    rw (c.in-Position.is, c.replied-in-Position.ensures) (Execution-position from left s _ _ _ c.at.result c.ahead.result c.write_labelled_numbers.result stands c.at.ensures.cursor c.ahead.ensures c.write_labelled_numbers.ensures.text)

pub returns-in-Peers-clause-carries_out : goal.returns-in-Peers-clause-carries_out
returns-in-Peers-clause-carries_out g c = λ from left s stands.
    rw (c.in-Peers.is, c.replied-in-Peers.ensures) (Execution-question Peers from left s _ _ _ c.table-table.result.now.routes peers_text c.peers.result stands (λ more. refl) c.table-table.ensures.routes c.peers.ensures.text)

pub returns-in-Table-clause-carries_out : goal.returns-in-Table-clause-carries_out
returns-in-Table-clause-carries_out g c = λ from left s stands.
    let peer = c.in-Table.peer in
    rw (c.in-Table.is, c.replied-in-Table.ensures) (Execution-question (Table peer) from left s _ _ _ c.table-table.result.now.routes (λ routes. table_text routes peer) c.table.result stands (λ more. refl) c.table-table.ensures.routes c.table.ensures.text)

pub returns-in-Route-clause-carries_out : goal.returns-in-Route-clause-carries_out
returns-in-Route-clause-carries_out g c = λ from left s stands.
    let peer = c.in-Route.peer in
    let prefix = c.in-Route.prefix in
    rw (c.in-Route.is, c.replied-in-Route.ensures) (Execution-question (Route peer prefix) from left s _ _ _ c.table-table.result.now.routes (λ routes. route_text routes peer prefix) c.route.result stands (λ more. refl) c.table-table.ensures.routes (PutsAllOrFront-put _ _ _ c.route.result c.route.ensures.text))

pub returns-in-Lookup-clause-carries_out : goal.returns-in-Lookup-clause-carries_out
returns-in-Lookup-clause-carries_out g c = λ from left s stands.
    let peer = c.in-Lookup.peer in
    let addr = c.in-Lookup.addr in
    rw (c.in-Lookup.is, c.replied-in-Lookup.ensures) (Execution-question (Lookup peer addr) from left s _ _ _ c.table-table.result.now.routes (λ routes. found_text peer (longest_match routes peer addr)) c.lookup.result stands (λ more. refl) c.table-table.ensures.routes (PutsAllOrFront-put _ _ _ c.lookup.result c.lookup.ensures.text))

pub returns-in_err-dropped-in-Lose-clause-carries_out :
    goal.returns-in_err-dropped-in-Lose-clause-carries_out
returns-in_err-dropped-in-Lose-clause-carries_out g c = λ from left s stands.
    let p = err_from_is_err_and c.from_residual.result c.from_residual.ensures.1 in
    let memory : c.in_err-dropped-in-Lose.field-0.0 ≡ Memory = search rules in
    rw (p.1, p.2, memory) (Execution-refused c.args.command from left s _ c.play_session_loss.new.player _ Memory stands c.in_err-dropped-in-Lose.ensures.refused.0)

pub returns-in_ok-dropped-in-Lose-clause-carries_out :
    goal.returns-in_ok-dropped-in-Lose-clause-carries_out
returns-in_ok-dropped-in-Lose-clause-carries_out g c = λ from left s stands.
    rw (c.in-Lose.is, c.replied-in-Lose.ensures) (Execution-lose c.in-Lose.peer from left s _ c.play_session_loss.new.player _ _ c.at-in-Lose.result c.in_ok-dropped-in-Lose.dropped c.write_labelled_numbers-in-Lose.result stands c.in_ok-dropped-in-Lose.ensures.played.0
    c.at-in-Lose.ensures.cursor c.in_ok-dropped-in-Lose.ensures.played.1 c.write_labelled_numbers-in-Lose.ensures.text)

pub returns-in-Forget-clause-carries_out : goal.returns-in-Forget-clause-carries_out
returns-in-Forget-clause-carries_out g c = λ from left s stands.
    rw (c.in-Forget.is ∙ ap Forget (sym c.from-in-Forget.ensures), c.replied-in-Forget.ensures) (Execution-forget c.from-in-Forget.result from left s _ c.forget-forgotten.new.self _ _ c.at-in-Forget.result c.floor.result c.forget-forgotten.result c.write_labelled_numbers-in-Forget.result stands
    c.forget-forgotten.ensures.after_forget c.at-in-Forget.ensures.cursor c.floor.ensures c.forget-forgotten.ensures.forgotten c.write_labelled_numbers-in-Forget.ensures.text)

pub returns-in-Forget-clause-room : goal.returns-in-Forget-clause-room
returns-in-Forget-clause-room g c = λ lost room.
    HasRoom-up _ _ lost (lost + 1) (omega arith) (HasRoom-forget _ c.forget-forgotten.new.self _ _ lost c.forget-forgotten.ensures.after_forget room)
