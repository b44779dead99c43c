use Rattle.std.proofs.Common.{◌≡◌, ◌<◌, ◌∷◌, ◌++◌, length, get_or, ap, ap₂, sym, subst, ◌∙◌, arith, append_assoc, take-append-drop}
use Rattle.bgp_wire.specs.Attribute.{is_extended, length_octets, length_limit}
use Rattle.bgp_wire.proofs.framing.split_attribute.Goals as goal

pub returns-clause-some : goal.returns-clause-some
returns-clause-some c =
    let flags = c.in_ok-flags.field-0-0.now in
    let kind = c.in_ok-kind.field-0-0.now in
    let value = c.in_ok-value.value.now in
    let rest = c.in_ok-value.rest.now in
    let cut = c.in_ok-value.ensures.cases in
    let octets = c.args.octets.now in
    let extended = is_extended flags in
    let size : c.in_ok-len.len ≡ length value = sym cut.3 in
    let front : octets ≡ flags ∷ kind ∷ c.in_ok-kind.after_kind.now = c.in_ok-flags.ensures.cases.0 ∙ ap (λ l. flags ∷ l) c.in_ok-kind.ensures.cases.0 in
    let parts : c.in_ok-len.body.now ≡ value ++ rest = sym (ap₂ (λ front back. front ++ back) cut.1 cut.2 ∙ take-append-drop c.in_ok-len.len c.in_ok-len.body.now) in
    let body : c.in_ok-kind.after_kind.now ≡ length_octets extended (length value) ++ (value ++ rest)
    = c.in_ok-len.ensures.some.1 ∙ (λ i. length_octets extended (size i) ++ parts i) in (
      flags,
      record {
        front = flags ∷ kind ∷ (length_octets extended (length value) ++ value);
        spelled = record {
          flags_fit = omega (arith, c.type_inv.octets 0, ap (λ l. get_or l 0 0) front);
          kind_fits = omega (arith, c.type_inv.octets 1, ap (λ l. get_or l 1 0) front);
          length_fits = subst (λ n. n < length_limit extended) size c.in_ok-len.ensures.some.0;
          whole = λ _. flags ∷ kind ∷ (length_octets extended (length value) ++ value);
        };
        whole = front ∙ ap (λ l. flags ∷ kind ∷ l) (body ∙ sym (append_assoc (length_octets extended (length value)) value rest));
      },
    )
