-- std reads the text, which has a dot only where it is an IPv4 address.
use Rattle.std.proofs.Common.{◌∙◌, rules, sym, subst, true≢false, ℕ, get_or, ◌<◌}
use Rattle.std.specs.Net.Addr.{ipv4_octets, ipv6_segments}
use Rattle.ip_prefix.specs.declared.addr.Family.TheVariants.{V4, V6}
use Rattle.ip_prefix.specs.Bits.{bits_of_octets}
use Rattle.ip_prefix.specs.Text.{SpellsAddress}
use Rattle.ip_prefix.proofs.Spelled.{spells_octets, spells_groups, none_spells_none}
use Rattle.ip_prefix.proofs.addr.Addr.parse.Goals as goal

pub returns-in-Ok : goal.returns-in-Ok
returns-in-Ok c =
    let spelled = spells_octets c.args.text.now (ipv4_octets c.in-Ok.addr) (search rules) c.in-Ok.ensures in
    subst (λ a. SpellsAddress a c.args.text.now) (sym (c.v4.ensures ∙ (λ i. record { family = V4; bits = bits_of_octets (c.octets.ensures i) }))) spelled

pub returns-then-contains : goal.returns-then-contains
returns-then-contains c = λ a. none_spells_none a c.args.text.now c.in_default.ensures (λ b none. absurd (true≢false (sym c.if-contains.true ∙ c.contains.ensures.value ∙ none)))

pub returns-in-Ok-parse_ascii : goal.returns-in-Ok-parse_ascii
returns-in-Ok-parse_ascii c =
    let groups = ipv6_segments c.in-Ok-parse_ascii.addr in
    let fits : (k : ℕ) → get_or c.octets-in-Ok-parse_ascii.result k 0 < 256 = search rules in
    let none = sym c.contains.ensures.value ∙ c.if-contains.false in
    let spelled = spells_groups c.args.text.now groups (search rules) (rw c.octets-in-Ok-parse_ascii.ensures at fits) none c.in-Ok-parse_ascii.ensures in
    subst (λ a. SpellsAddress a c.args.text.now) (sym (c.v6.ensures ∙ (λ i. record { family = V6; bits = bits_of_octets (c.octets-in-Ok-parse_ascii.ensures i) }))) spelled

pub returns-in-Err : goal.returns-in-Err
returns-in-Err c = λ a. none_spells_none a c.args.text.now c.in_default.ensures (λ b none. c.in-Err.ensures b)
