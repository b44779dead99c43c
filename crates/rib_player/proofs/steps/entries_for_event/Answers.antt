use Rattle.std.proofs.Common.{rules, ◌≡◌, [], ◌∷◌, true, nat_eq, vec_len, sym, ap, ◌∙◌, arith}
use Rattle.std.proofs.lemmas.List.{nil_from_length}
use Rattle.std.specs.FinMap.{get}
use Rattle.std.proofs.lemmas.Fn.{filter_same}
use Rattle.rib_player.specs.Journal.{side_of, sides_of}
use Rattle.rib_player.proofs.EntryLaws.{IsStepFor-made, has_route, sides-filter}
use Rattle.rib_player.proofs.LostLaws.{IsStepFor-lost, lost-alone, only-first}
use Rattle.rib_player.proofs.steps.entries_for_event.Goals as goal

pub returns-clause-step : goal.returns-clause-step
returns-clause-step g c =
    let test = has_route (get c.args.table.now.routes) in
    IsStepFor-made c.args.table.now.routes c.args.event.now c.in_ok-changes.changes (sides_of c.in_ok-routed.routed.items) (sides_of c.shrink_to_fit.new.self.items)
    c.in_ok-changes.ensures (λ q. c.in_ok-routed.ensures.found q ∙ c.in_ok-then.ensures q) c.in_ok-routed.ensures.distinct
    (ap sides_of (c.shrink_to_fit.ensures.items ∙ filter_same _ (λ entry. test (side_of entry)) _ (λ x b f' k. search rules) _ _ c.retain.ensures.filtered)
    ∙ sides-filter test c.in_ok-routed.routed.items)

-- what the changes do is the loss alone
pub returns-in-Some-clause-step : goal.returns-in-Some-clause-step
returns-in-Some-clause-step g c =
    let changes = c.in_ok-changes.changes in
    let empty : nat_eq (vec_len changes.entries) 0 ≡ true = sym c.is_empty.ensures ∙ c.if-is_empty.true in
    let zero : vec_len changes.entries ≡ 0 = grind (arith, empty) in
    let none : changes.entries.items ≡ [] = nil_from_length _ (omega (arith, zero, changes.entries.ok)) in
    let one : changes.lost.keys ≡ c.in-Some.peer ∷ [] = only-first changes.lost.keys c.first.result c.in-Some.peer (omega (arith, c.len.ensures.len, c.if-len-eq1.true)) c.first.ensures.first c.in-Some.ensures in
    IsStepFor-lost c.args.table.now.routes c.args.event.now c.in-Some.peer
    (lost-alone c.args.event.now changes c.in-Some.peer c.in_ok-changes.ensures none one)
    (sides_of c.in_ok-entries.entries.items) c.in_ok-entries.ensures
