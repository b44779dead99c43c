use Rattle.std.proofs.Common.{◌++◌, decimal, ap, ap₂, sym, ◌∙◌, codes, append_assoc}
use Rattle.mrt_wire.specs.declared.RecordKind.TheVariants.{Unsupported}
use Rattle.bgpdump_lines.specs.Run.{fault_kind_text}
use Rattle.bgpdump_lines.proofs.reports.put_fault_description.Goals as goal

pub returns-in_ok-put_labelled_number-in-Unsupported-2 : goal.returns-in_ok-put_labelled_number-in-Unsupported-2
returns-in_ok-put_labelled_number-in-Unsupported-2 c =
    let old = c.args.text.now in
    let kind = decimal c.from-in-Unsupported.result in
    let subtype = codes " subtype " ++ decimal c.from-in-Unsupported-2.result in
    c.in_ok-put_labelled_number-in-Unsupported-2.ensures ∙ ap (λ l. l ++ subtype) c.in_ok-put_labelled_number-in-Unsupported.ensures
    ∙ append_assoc old (codes "unsupported type " ++ kind) subtype
    ∙ ap (λ l. old ++ l) (append_assoc (codes "unsupported type ") kind subtype)
    ∙ ap₂ (λ kind subtype. old ++ fault_kind_text (Unsupported kind subtype)) c.from-in-Unsupported.ensures c.from-in-Unsupported-2.ensures
    ∙ ap (λ kind. old ++ fault_kind_text kind) (sym c.in-Unsupported.is)

pub returns-in_ok-extend_from_slice-in-NoIndex : goal.returns-in_ok-extend_from_slice-in-NoIndex
returns-in_ok-extend_from_slice-in-NoIndex c =
    c.in_ok-extend_from_slice-in-NoIndex.ensures.appended ∙ ap (λ kind. c.args.text.now ++ fault_kind_text kind) (sym c.in-NoIndex.is)
