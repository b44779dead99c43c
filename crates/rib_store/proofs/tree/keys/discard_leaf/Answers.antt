use Rattle.std.proofs.Common.{◌≡◌}
use Rattle.ip_prefix.specs.declared.turn.Turn.TheVariants.{Here}
use Rattle.ip_prefix.specs.Turns.{way, turn_of}
use Rattle.rib_store.proofs.ShapeLaws.{leaf_other, leaf_gone, shaped_leaf, marked_leaf}
use Rattle.rib_store.proofs.tree.keys.discard_leaf.Goals as goal

pub returns-in-Here-clause-slots : goal.returns-in-Here-clause-slots
returns-in-Here-clause-slots g c =
    let net = g.K.PackedPrefix.network in
    let turn : turn_of (way (net c.args.prefix)) (way c.args.key.now) ≡ Here = cc in
    leaf_gone net c.args.tree.now c.args.prefix (way c.args.key.now) c.requires turn

pub returns-in_default : goal.returns-in_default
returns-in_default g c =
    let net = g.K.PackedPrefix.network in
    let apart : turn_of (way (net c.args.prefix)) (way c.args.key.now) ≡ Here → ⊥ = λ e. c.in_default.not-Here (cc) in
    record {
      shaped = shaped_leaf net c.args.tree.now c.args.prefix c.requires;
      marked = marked_leaf c.args.tree.now c.args.prefix c.requires;
      slots = leaf_other net c.args.tree.now c.args.prefix (way c.args.key.now) c.requires apart;
      sides = λ from bit on. on;
    }
