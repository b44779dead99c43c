use Rattle.std.proofs.Common.{◌≡◌, ◌||◌, Some, None, is_some, refl, sym, ap, ap₂, subst, ◌∙◌}
use Rattle.ip_prefix.specs.declared.turn.Turn.TheVariants.{Outside, Here}
use Rattle.ip_prefix.specs.Turns.{way, turn_of, shared}
use Rattle.rib_store.specs.Tree.{Empty, shape_of, leaf_route, has_routes, slot_of, select_by_turn, IsRooted}
use Rattle.rib_store.proofs.WayLaws.{way-shared}
use Rattle.rib_store.proofs.ShapeLaws.{rooted_leaf}
use Rattle.rib_store.proofs.GrowthLaws.{placed_over, is_key, is_branch, shared_covers}
use Rattle.rib_store.proofs.tree.puts.insert_above_root.Given.{Over}
use Rattle.rib_store.proofs.tree.puts.insert_above_root.Goals.{After-common-common}
use Rattle.rib_store.proofs.tree.puts.insert_above_root.Goals as goal

pub returns-in-Here-clause-placed : goal.returns-in-Here-clause-placed
returns-in-Here-clause-placed g c =
    let net = g.K.PackedPrefix.network in
    let key = c.args.key.now in
    let old = c.args.prefix.now in
    let top = net c.pack-in-Here.result in
    let side = c.turn_covered-side.result in
    let slot = slot_of c.leaf_to_slot.result in
    let above : top ≡ c.common-common.result = c.pack-in-Here.ensures in
    let shares : way top ≡ shared (way old) (way key) = ap way (above ∙ c.common-common.ensures) ∙ way-shared old key c.requires.family in
    let there : turn_of (way top) (way key) ≡ Here = cc in
    let turn : side ≡ turn_of (way top) (way old) = c.turn_covered-side.ensures ∙ (λ i. turn_of (way (sym above i)) (way old)) in
    placed_over key top (way old) c.args.route.now slot Empty side c.requires.outside c.requires.root c.requires.shaped shares turn
    (subst (λ t. IsRooted top slot (select_by_turn side Empty Empty (shape_of net t) Empty) (select_by_turn side (shape_of net t) (shape_of net t) Empty (shape_of net t)) (shape_of net c.set_root_with_child.new.tree))
    c.replace-below.ensures.value c.set_root_with_child.ensures.rooted)
    (is_key there (c.leaf_to_slot.ensures.slot ∙ ap Some c.new_leaf.ensures.slot) refl)

pub returns-in-Here-clause-routed : goal.returns-in-Here-clause-routed
returns-in-Here-clause-routed g c =
    c.set_root_with_child.ensures.routed
    ∙ ap₂ (λ filled t. filled || has_routes t) (c.leaf_to_slot.ensures.filled ∙ ap is_some c.new_leaf.ensures.slot) c.replace-below.ensures.value

pub returns-in-Ok-clause-placed : goal.returns-in-Ok-clause-placed
returns-in-Ok-clause-placed g c =
    let net = g.K.PackedPrefix.network in
    let key = c.args.key.now in
    let old = c.args.prefix.now in
    let top = net c.pack-3.result in
    let side = c.turn_covered-side.result in
    let leaf = c.new_leaf-leaf.result in
    let beside = shape_of net leaf in
    let above : top ≡ c.common-common.result = c.pack-3.ensures in
    let shares : way top ≡ shared (way old) (way key) = ap way (above ∙ c.common-common.ensures) ∙ way-shared old key c.requires.family in
    let apart : turn_of (way top) (way key) ≡ Here → ⊥ = λ e. c.in_default.not-Here (cc) in
    let turn : side ≡ turn_of (way top) (way old) = c.turn_covered-side.ensures ∙ (λ i. turn_of (way (sym above i)) (way old)) in
    placed_over key top (way old) c.args.route.now None beside side c.requires.outside c.requires.root c.requires.shaped shares turn c.in-Ok.ensures.rooted
    (is_branch apart refl
    (subst (λ r. IsRooted key (Some r) Empty Empty beside) c.new_leaf-leaf.ensures.slot
    (subst (λ n. IsRooted n (Some (leaf_route leaf)) Empty Empty beside) c.pack-2.ensures (rooted_leaf net leaf c.pack-2.result c.new_leaf-leaf.ensures.leaf))))

pub returns-in-Ok-clause-routed : goal.returns-in-Ok-clause-routed
returns-in-Ok-clause-routed g c =
    c.in-Ok.ensures.routed ∙ ap (λ new. new || has_routes c.args.tree.now) c.new_leaf-leaf.ensures.routed

-- what the prefix and the key share covers both
covers : (g : Over) (c : After-common-common g) → let old = way c.args.prefix.now in let key = way c.args.key.now in
    let common = way c.common-common.result in (turn_of common old ≡ Outside → ⊥) × (turn_of common key ≡ Outside → ⊥)
covers g c =
    let old = way c.args.prefix.now in
    let key = way c.args.key.now in
    subst (λ way. (turn_of way old ≡ Outside → ⊥) × (turn_of way key ≡ Outside → ⊥)) (sym (ap way c.common-common.ensures ∙ way-shared c.args.prefix.now c.args.key.now c.requires.family))
    (shared_covers old key c.requires.outside)

pub turn_covered-side-requires : goal.turn_covered-side-requires
turn_covered-side-requires g c = (covers g (goal.at.turn_covered-side-requires g c).After-common-common).0

pub turn_covered-requires : goal.turn_covered-requires
turn_covered-requires g c = (covers g (goal.at.turn_covered-requires g c).After-common-common).1
