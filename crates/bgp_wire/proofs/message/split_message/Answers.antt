use Rattle.std.proofs.Common.{◌≡◌, ◌∷◌, ◌++◌, length, ap, sym, ◌∙◌, arith, append_assoc}
use Rattle.std.specs.Int.{w16, to_be_bytes}
use Rattle.bgp_wire.proofs.Reaching.{message_parts, octet_behind}
use Rattle.bgp_wire.proofs.message.split_message.Goals as goal
use Rattle.octet_forms.proofs.Numbers.{same_w16}

pub returns-then-read_length-octets-clause-none : goal.returns-then-read_length-octets-clause-none
returns-then-read_length-octets-clause-none c kind body s =
    let octets = c.args.octets.now in
    let parts = message_parts kind body octets c.split_at-2.result.0.now c.split_at-2.result.1.now c.split_at-2.ensures.front_len (sym c.split_at.ensures.back ∙ c.split_at-2.ensures.by_index.0) s in
    c.if-read_length-octets.true (same_w16 c.read_length.result (length octets) c.read_length.ensures.fits s.length_fits (sym c.read_length.ensures.spelled ∙ parts.0))

pub returns-clause-some : goal.returns-clause-some
returns-clause-some c =
    let octets = c.args.octets.now in
    let len = c.split_at-2.result.0.now in
    let after = c.split_at-2.result.1.now in
    let kind = c.in_ok-kind.field-0-0.now in
    let body = c.in_ok-kind.body.now in
    let size : c.read_length.result ≡ length octets = c.if-read_length-octets.false in
    let whole : octets ≡ c.split_at.result.0.now ++ (to_be_bytes w16 (length octets) ++ (kind ∷ body))
    = c.split_at.ensures.by_index.0 ∙ ap (λ l. c.split_at.result.0.now ++ l) (c.split_at-2.ensures.by_index.0 ∙ (λ i. (c.read_length.ensures.spelled ∙ ap (to_be_bytes w16) size) i ++ c.in_ok-kind.ensures.cases.0 i)) in
    record {
      marker = c.split_at.result.0.now;
      marker_size = c.split_at.ensures.front_len;
      kind_fits = octet_behind octets (c.split_at.result.0.now ++ to_be_bytes w16 (length octets)) body kind (λ i. omega (arith, c.type_inv.octets i))
          (whole ∙ sym (append_assoc c.split_at.result.0.now (to_be_bytes w16 (length octets)) (kind ∷ body)));
      length_fits = omega (arith, c.read_length.ensures.fits, size);
      whole = whole;
    }
