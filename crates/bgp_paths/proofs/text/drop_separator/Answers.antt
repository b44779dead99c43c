use Rattle.std.proofs.Common.{◌≡◌, ◌-◌, ◌++◌, length, take, max, ap, sym, ◌∙◌}
use Rattle.ip_prefix.specs.Written.{ended_words}
use Rattle.bgp_paths.proofs.Words.{dropped}
use Rattle.bgp_paths.proofs.text.drop_separator.Goals as goal

pub returns : goal.returns
returns c old separator words e h =
    let size : c.max-end.result ≡ max (length (old ++ ended_words separator words) - 1) (length old)
    = c.max-end.ensures ∙ (λ i. max (c.saturating_sub.ensures i) (sym e i)) ∙ ap (λ n. max (n - 1) (length old)) (c.len.ensures ∙ ap length h) in
    c.truncate.ensures ∙ ap (take c.max-end.result) h ∙ dropped old separator words c.max-end.result size
