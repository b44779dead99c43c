use Rattle.std.proofs.Common.{◌≡◌, ◌++◌, ◌∷◌, OnOk, sym, subst, arith, rules}
use Rattle.std.proofs.lemmas.Fmt.{decimal_digit}
use Rattle.bgpdump_lines.specs.Lines.{bar, number_or_zero}
use Rattle.bgpdump_lines.proofs.fields.put_optional_u32_field.Goals as goal

pub returns-in-None : goal.returns-in-None
returns-in-None c =
    let text = c.extend_from_slice.new.self in
    let old = c.args.text.now in (
      subst (λ number. OnOk c.extend_from_slice.result (text ≡ old ++ bar ∷ number_or_zero number)) (sym c.in-None.is)
          (subst (λ digits. OnOk c.extend_from_slice.result (text ≡ old ++ bar ∷ digits)) (sym (decimal_digit 0 (omega arith))) c.extend_from_slice.ensures.appended),
      search (rules, c.extend_from_slice.ensures.unchanged),
    )
