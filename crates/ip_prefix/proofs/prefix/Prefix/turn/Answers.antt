-- A prefix that isn't covered lies outside; of one that is the bit behind tells.
use Rattle.std.proofs.Common.{sym, ◌∙◌, true≢false}
use Rattle.ip_prefix.proofs.Turns.{turn-outside}
use Rattle.ip_prefix.proofs.prefix.Prefix.turn.Goals as goal

pub returns-then-covers : goal.returns-then-covers
returns-then-covers c =
    c.turn_under.ensures c.args.self.now (sym c.len.ensures.value)
    (λ outside. true≢false (sym c.if-covers.true ∙ c.covers.ensures ∙ (turn-outside c.args.self.now c.args.other.now).0 outside))

pub returns : goal.returns
returns c = sym ((turn-outside c.args.self.now c.args.other.now).1 (sym c.covers.ensures ∙ c.if-covers.false))
