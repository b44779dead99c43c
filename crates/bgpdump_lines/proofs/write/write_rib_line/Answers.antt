use Rattle.std.proofs.Common.{◌++◌, ◌∙◌, subst}
use Rattle.std.specs.Io.KnownBytes.{Appends}
use Rattle.bgpdump_lines.proofs.write.write_rib_line.Goals as goal

pub returns-clause-text : goal.returns-clause-text
returns-clause-text g c =
    subst (Appends (g.O.Output.written c.args.out.now) (g.O.Output.written c.put_all.new.output))
    (c.as_slice.ensures ∙ c.in_ok-put_route_line.ensures.printed.0 ∙ (λ i. c.clear.ensures i ++ c.for_rib_lines.ensures c.args.peer.now c.args.prefix.now c.args.route.now i))
    c.in_ok-put_all.ensures.all

pub returns-clause-failed : goal.returns-clause-failed
returns-clause-failed g c = c.in_ok-put_all.ensures.failed
