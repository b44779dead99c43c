use Rattle.std.proofs.Common.{rules, tests, ◌∷◌, ◌+◌, take, sym, ap, ◌∙◌}
use Rattle.std.proofs.lemmas.Iterator.{IsFirst-from_position, YieldsList-from_slice}
use Rattle.std.proofs.lemmas.List.{take_rest}
use Rattle.std.proofs.option.Match.{if_some, if_none}
use Rattle.bgpdump_tool.specs.Script.{split_at_marks}
use Rattle.bgpdump_tool.proofs.WordLaws.{IsMark, IsNoMark, pieces_alone, pieces_split}
use Rattle.bgpdump_tool.proofs.words.split_once.Goals as goal

pub returns-in_err-at-clause-split_at_marks : goal.returns-in_err-at-clause-split_at_marks
returns-in_err-at-clause-split_at_marks c =
    let none = if_none _ _ c.in_err-at.was (IsFirst-from_position _ _ _ (IsMark c.args.mark) (IsNoMark c.args.mark) c.position.ensures.ran (YieldsList-from_slice _ c.iter.ensures.rest) (λ x q k. search (rules, tests)) (λ x q k. search (rules, tests))) in
    rw c.from_residual.ensures
    (pieces_alone c.args.mark c.args.text.now none)

pub returns-clause-split_at_marks : goal.returns-clause-split_at_marks
returns-clause-split_at_marks c =
    let text = c.args.text.now in
    let at = c.in_ok-at.at in
    let first = if_some _ _ _ c.in_ok-at.was (IsFirst-from_position _ _ _ (IsMark c.args.mark) (IsNoMark c.args.mark) c.position.ensures.ran (YieldsList-from_slice _ c.iter.ensures.rest) (λ x q k. search (rules, tests)) (λ x q k. search (rules, tests))) in
    pieces_split c.args.mark text at first.0 first.1 first.2 ∙ ap (λ l. take at text ∷ split_at_marks c.args.mark l) (sym (take_rest text (at + 1)))
