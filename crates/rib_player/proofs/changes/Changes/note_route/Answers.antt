use Rattle.std.proofs.Common.{◌≡◌, ◌++◌, [], ◌∷◌, false, Some, sym, ap, ◌∙◌}
use Rattle.std.proofs.lemmas.List.{map-append}
use Rattle.rib_player.specs.Changes.{found, is_lost, effect_of}
use Rattle.rib_player.specs.History.{pair_of}
use Rattle.rib_player.specs.Journal.{Side, side_of, sides_of}
use Rattle.rib_player.specs.Tables.{pointed_route}
use Rattle.rib_player.proofs.ChangesLaws.{effect_of_changes-first, effect_of_changes-lost}
use Rattle.rib_player.proofs.changes.Changes.note_route.Goals as goal

pub returns : goal.returns
returns g c = λ q.
    let old = c.args.self.now in
    let pair = pair_of c.args.peer.now c.args.prefix.now in
    let sides = sides_of old.entries.items in
    let side : side_of c.in_ok-entry.entry ≡ (pair, pointed_route c.args.route) =
    ap side_of c.in_ok-entry.ensures ∙ ap (λ peer. (pair_of peer c.args.prefix.now, pointed_route c.args.route)) c.in_ok-shared.ensures in
    let pushed : sides_of c.push.new.self.items ≡ sides ++ (pair, pointed_route c.args.route) ∷ [] =
    ap sides_of c.in_ok-push.ensures.items ∙ map-append side_of old.entries.items (c.in_ok-entry.entry ∷ []) ∙ ap (λ (s : Side). sides ++ s ∷ []) side in
    ap (λ ss. effect_of (found ss q) (is_lost old.lost.keys q)) pushed
    ∙ effect_of_changes-first sides old.lost.keys (pair, pointed_route c.args.route) q (sym c.is_peer_lost.ensures ∙ c.if-is_peer_lost.false)

pub returns-then-is_peer_lost : goal.returns-then-is_peer_lost
returns-then-is_peer_lost g c =
    let old = c.args.self.now in
    λ q. effect_of_changes-lost (sides_of old.entries.items) old.lost.keys (pair_of c.args.peer.now c.args.prefix.now) (effect_of (Some (pointed_route c.args.route)) false) q (sym c.is_peer_lost.ensures ∙ c.if-is_peer_lost.true)
