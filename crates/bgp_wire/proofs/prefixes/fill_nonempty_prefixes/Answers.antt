use Rattle.std.proofs.Common.{◌≡◌, ◌≤◌, ℕ, List, [], length, take, IfSome, IfNone, IfErr, sym, subst, ◌∙◌}
use Rattle.std.proofs.lemmas.Result.{err_from_is_err_and}
use Rattle.ip_prefix.specs.Network.{Network, SpellsNetwork}
use Rattle.ip_prefix.specs.Sequences.{Begins, SpellsAll}
use Rattle.ip_prefix.proofs.Wires.{network_code}
use Rattle.octet_forms.proofs.Sequences.{one_more, none_at_all}
use Rattle.bgp_paths.specs.Readers.{Refuses}
use Rattle.bgp_paths.proofs.Refusing.{refused_always}
use Rattle.bgp_wire.proofs.prefixes.fill_nonempty_prefixes.Goals as goal
use Rattle.octet_forms.proofs.Lists.{nonempty}

pub returns-in_err-prefix-clause-refused : goal.returns-in_err-prefix-clause-refused
returns-in_err-prefix-clause-refused c =
    let family = c.args.family in
    let octets = c.args.octets.now in
    let rest = c.loop-list.rest.now in
    let some : rest ≡ [] → ⊥ = λ e. nonempty rest (sym c.is_empty.ensures ∙ c.loop-list-test.true) e in
    let none : (n : Network) (more : List ℕ) → Begins (SpellsNetwork family) n more rest → ⊥
    = subst (λ found. IfNone found ((n : Network) (more : List ℕ) → Begins (SpellsNetwork family) n more rest → ⊥)) c.in_err-prefix.ensures.ok_part c.read.ensures.none in
    let p = err_from_is_err_and c.from_residual.result c.from_residual.ensures.1 in
    subst (λ answer. IfErr answer (Refuses (SpellsAll (SpellsNetwork family)) octets)) (sym p.1)
    (refused_always (SpellsAll (SpellsNetwork family)) octets p.0
    (none_at_all (SpellsNetwork family) (network_code family) c.loop-list.list.items rest octets some c.loop-list.invariant none))

pub loop-list-preserved : goal.loop-list-preserved
loop-list-preserved c =
    let family = c.args.family in
    let octets = c.args.octets.now in
    let rest = c.loop-list.rest.now in
    let more = c.split_at.result.1.now in
    let prefix = c.in_ok-prefix.prefix in
    let size = c.in_ok-prefix.size in
    let found : (size ≤ length rest) × SpellsNetwork family prefix (take size rest)
    = subst (λ found. IfSome found (λ found. (found.1 ≤ length rest) × SpellsNetwork family found.0 (take found.1 rest))) c.in_ok-prefix.ensures.ok_part c.read.ensures.some in
    let front : Begins (SpellsNetwork family) prefix more rest =
    record { front = c.split_at.result.0.now; spelled = subst (SpellsNetwork family prefix) (sym c.split_at.ensures.front) found.1; whole = c.split_at.ensures.by_index.0 } in
    subst (λ prefixes. Begins (SpellsAll (SpellsNetwork family)) prefixes more octets) (sym c.in_ok-push.ensures.items)
    (one_more (SpellsNetwork family) c.loop-list.list.items prefix more rest octets c.loop-list.invariant front)
