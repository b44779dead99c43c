-- The last slash parts the address from the length.
use Rattle.std.proofs.Common.{◌≡◌, ◌+◌, ◌∙◌, drop, decimal, sym, subst, rules}
use Rattle.std.proofs.lemmas.List.{take_rest}
use Rattle.ip_prefix.proofs.Lengths.{IsNoLength}
use Rattle.ip_prefix.proofs.Spelled.{no_slash, no_address, no_length, parsed}
use Rattle.ip_prefix.proofs.prefix.Prefix.parse.Goals as goal

pub returns-in_err-at : goal.returns-in_err-at
returns-in_err-at c = rw c.from_residual.ensures (λ n. no_slash n c.args.text.now c.in_err-at.ensures)

pub returns-in_err-addr : goal.returns-in_err-addr
returns-in_err-addr c =
    let text = c.args.text.now in
    let at = c.in_ok-at.at in
    rw c.from_residual-in_err-addr.ensures (λ n. no_address n text at c.in_ok-at.ensures c.in_err-addr.ensures)

pub returns-in_err-len : goal.returns-in_err-len
returns-in_err-len c =
    let text = c.args.text.now in
    let at = c.in_ok-at.at in
    let none : IsNoLength (drop (at + 1) text) = subst IsNoLength (take_rest text (at + 1)) c.in_err-len.ensures in
    rw c.from_residual-in_err-len.ensures (λ n. no_length n text at c.in_ok-at.ensures none)

pub returns : goal.returns
returns c =
    let text = c.args.text.now in
    let at = c.in_ok-at.at in
    let behind : drop (at + 1) text ≡ decimal c.in_ok-len.len = sym (take_rest text (at + 1)) ∙ c.in_ok-len.ensures in
    parsed text at c.in_ok-addr.addr c.in_ok-len.len c.new.result c.in_ok-at.ensures c.in_ok-addr.ensures (search rules) behind c.new.ensures
