use Rattle.std.proofs.Common.{◌≡◌, ◌++◌, ◌∷◌, [], decimal, sym, subst, ◌∙◌}
use Rattle.ip_prefix.specs.declared.addr.Family.TheVariants.{V4}
use Rattle.ip_prefix.specs.Network.{octet_at}
use Rattle.ip_prefix.specs.Text.{address_text, v4_text}
use Rattle.octet_text.specs.Written.{IsWritten}
use Rattle.octet_text.proofs.Writing.{written_then, four_marked}
use Rattle.ip_prefix.proofs.addr.Addr.write_text.Goals as goal

pub returns-in-V4-clause-written : goal.returns-in-V4-clause-written
unfolding v4_text address_text octet_at
returns-in-V4-clause-written c =
    let whole = four_marked (decimal c.octet.result) (decimal c.octet-in-V4.result) (decimal c.octet-in-V4-2.result) (decimal c.from.result) 46 in
    let family : c.args.self.now.family ≡ V4 = sym c.family.ensures.value ∙ c.in-V4.is in
    let spelled : (((decimal c.octet.result ++ 46 ∷ []) ++ (decimal c.octet-in-V4.result ++ 46 ∷ [])) ++ (decimal c.octet-in-V4-2.result ++ 46 ∷ [])) ++ decimal c.from.result ≡ address_text c.args.self.now =
    whole ∙ (λ i. decimal (c.octet.ensures i) ++ 46 ∷ decimal (c.octet-in-V4.ensures i) ++ 46 ∷ decimal (c.octet-in-V4-2.ensures i) ++ 46 ∷ decimal ((c.from.ensures ∙ c.octet-in-V4-3.ensures) i)) ∙ (λ i. address_text (record { family = sym family i; bits = c.args.self.now.bits })) in
    subst (λ t. IsWritten c.args.text.now c.args.at t c.write_below_thousand.new.text c.write_below_thousand.result) spelled
    (written_then _ _ _ _ _ _ _ _ (written_then _ _ _ _ _ _ _ _ (written_then _ _ _ _ _ _ _ _ c.write_octet_and_dot-second.ensures.written c.write_octet_and_dot-third.ensures.written) c.write_octet_and_dot-fourth.ensures.written) c.write_below_thousand.ensures.written)
