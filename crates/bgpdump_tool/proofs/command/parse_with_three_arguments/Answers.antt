use Rattle.bgpdump_tool.proofs.CommandLaws.{route_none}
use Rattle.bgpdump_tool.proofs.command.parse_with_three_arguments.Goals as goal

pub returns-in_err-parse : goal.returns-in_err-parse
returns-in_err-parse c =
    rw c.from_residual-in_err-parse.ensures
    (route_none c.args.name.now c.args.address.now c.args.number.now c.args.sought.now (c.equals.ensures.same c.if-equals.true) c.in_err-parse.ensures)
