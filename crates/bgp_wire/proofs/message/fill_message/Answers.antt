use Rattle.std.proofs.Common.{◌≡◌, ℕ, List, subst, ◌∙◌}
use Rattle.bgp_paths.specs.declared.numbers.AsWidth.{AsWidth}
use Rattle.bgp_wire.specs.declared.message.Message.{Message}
use Rattle.bgp_wire.specs.declared.message.Message.TheVariants as messages
use Rattle.bgp_wire.specs.declared.message.TheConstants.{UPDATE}
use Rattle.bgp_wire.specs.declared.parts.Update.{Update}
use Rattle.bgp_wire.specs.Update.{IsMessage, SpellsUpdate, SpellsMessage}
use Rattle.bgp_paths.proofs.Refusing.{refused_on}
use Rattle.bgp_wire.proofs.Reaching.{same_message}
use Rattle.bgp_wire.proofs.message.fill_message.Goals as goal

-- where no message is framed, none is spelled
unframed : (width : AsWidth) (octets : List ℕ) → ((kind : ℕ) (body : List ℕ) → IsMessage kind body octets → ⊥) → (value : Message) → SpellsMessage width value octets → ⊥
unframed width octets none (messages.Update update) s = none UPDATE s.0 s.1
unframed width octets none (messages.Other kind) s = none kind s.1 s.2

-- the body of a message of the type of an UPDATE is an UPDATE's
update_part : (width : AsWidth) (kind : ℕ) (body octets : List ℕ) → kind ≡ UPDATE → IsMessage kind body octets → (value : Message) → SpellsMessage width value octets → (update : Update) × SpellsUpdate width update body
update_part width kind body octets e m (messages.Update update) s = (update, subst (SpellsUpdate width update) (same_message UPDATE kind s.0 body octets s.1 m).1 s.2)
update_part width kind body octets e m (messages.Other other) s = absurd (s.0 ((same_message other kind s.1 body octets s.2 m).0 ∙ e))

pub returns-in_default-clause-refused : goal.returns-in_default-clause-refused
returns-in_default-clause-refused c = unframed c.args.width c.args.octets.now c.in_default.ensures.none

pub returns-in_err-fill_update-clause-refused : goal.returns-in_err-fill_update-clause-refused
returns-in_err-fill_update-clause-refused c =
    let octets = c.args.octets.now in
    let width = c.args.width in
    let f = c.in-Some.framed in
    refused_on (SpellsMessage width) (SpellsUpdate width) octets f.body.now c.in_err-fill_update.field-0.0 c.from_residual.result c.from_residual.ensures.1
    (λ value s. update_part width f.kind f.body.now octets c.if-framed-ne-UPDATE.false c.in-Some.ensures.some value s)
    c.in_err-fill_update.ensures.refused
