use Rattle.std.proofs.Common.{◌++◌, ◌∷◌, decimal, subst, ◌∙◌, refl, arith}
use Rattle.ip_prefix.specs.Text.{address_text, network_text}
use Rattle.octet_text.specs.Written.{IsWritten}
use Rattle.octet_text.proofs.Writing.{written_marked}
use Rattle.ip_prefix.proofs.prefix.Prefix.write_text.Goals as goal

pub returns-clause-written : goal.returns-clause-written
unfolding network_text
returns-clause-written c =
    let marked = written_marked _ _ _ _ _ _ _ _ 47 _ c.write_text-slash.ensures.written (omega (arith, c.requires, c.write_text-slash.ensures.short, c.write_text-slash.ensures.written.size)) refl c.write_below_thousand.ensures.written in
    subst (λ t. IsWritten c.args.text.now c.args.at t c.write_below_thousand.new.text c.write_below_thousand.result)
    (λ i. address_text (c.addr.ensures.value i) ++ 47 ∷ decimal ((c.from.ensures ∙ c.len.ensures.value) i)) marked
