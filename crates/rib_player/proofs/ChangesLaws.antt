-- What is noted of an event's items and of lost peers' pairs, step by step.
use Rattle.std.proofs.Common.{◌≡◌, ℕ, suc, ◌+◌, ◌-◌, ◌<◌, ◌≤◌, ◌++◌, Bool, true, false, cond, ◌&&◌, ◌||◌, List, [], ◌∷◌, map, take, get_or, length, drop, drop-cons, Option, Some, None, IfSome, slice_get, refl, sym, subst, ap, ap₂, ◌∙◌, arith, Bor, Global}
use Rattle.std.specs.List.{AllByRecursion, list_any}
use Rattle.std.proofs.lemmas.List.{drop-drop, take-append-drop, get_or-map, length-map}
use Rattle.std.proofs.lemmas.List.Elements.{All-get_or}
use Rattle.std.specs.Ordering.{eq_by_cmp}
use Rattle.std.specs.declared.rc.Rc.{Rc}
use Rattle.octet_forms.proofs.Lists.{AllByRecursion-from_get_or, AllByRecursion-get_or}
use Rattle.mrt_events.specs.declared.peer.Peer.{Peer}
use Rattle.rib_player.specs.declared.pair.Pair.{Pair}
use Rattle.mrt_events.specs.declared.event.Route.{Route}
use Rattle.mrt_events.specs.declared.event.Item.{Item}
use Rattle.mrt_events.specs.Event.{ItemValue, Announced, Withdrawn, Changed, item_value}
use Rattle.mrt_events.specs.SharedRoute.{Announces, AnnounceOneRoute}
use Rattle.rib_player.specs.History.{pair_cmp, Effect, Keep, Clear, effect_if, item_effect, later}
use Rattle.rib_player.specs.Journal.{Side, pairs_in}
use Rattle.rib_player.specs.Changes.{found, is_lost, effect_of, or_no_route, items_effect, HasRoute}
use Rattle.rib_player.proofs.PairLaws.{same_pair}

-- the first of two, where there is one
abbrev either_found : Option (Option Route) → Option (Option Route) → Option (Option Route)
either_found None second = second
either_found (Some kept) second = Some kept

-- an effect behind Keep stays
later-keep : (second : Effect) → later Keep second ≡ second
later-keep second = grind arith

-- what is appended to sides counts where none is of its pair
found-append : (sides more : List Side) (q : Pair) → found (sides ++ more) q ≡ either_found (found sides q) (found more q)
found-append [] more q = refl
found-append (first ∷ sides) more q = grind (arith, found-append sides more q)

-- where the peer isn't lost, what is appended for a pair comes before all that is noted
pub effect_of_changes-first : (sides : List Side) (peers : List Peer) (side : Side) (q : Pair) → is_lost peers side.0 ≡ false
    → effect_of (found (sides ++ side ∷ []) q) (is_lost peers q)
    ≡ later (effect_if (eq_by_cmp pair_cmp q side.0) (effect_of (Some side.1) false)) (effect_of (found sides q) (is_lost peers q))
effect_of_changes-first sides peers side q held =
    let one = same_pair q side.0 in
    let found_there = found-append sides (side ∷ []) q in
    grind arith

-- where the peer is lost, an earlier effect changes nothing
pub effect_of_changes-lost : (sides : List Side) (peers : List Peer) (pair : Pair) (first : Effect) (q : Pair) → is_lost peers pair ≡ true
    → effect_of (found sides q) (is_lost peers q) ≡ later (effect_if (eq_by_cmp pair_cmp q pair) first) (effect_of (found sides q) (is_lost peers q))
effect_of_changes-lost sides peers pair first q lost = let one = same_pair q pair in grind arith

-- what is found stays where the pair is not among those
pub or_no_route-false : (kept : Option (Option Route)) → kept ≡ or_no_route kept false
or_no_route-false kept = grind arith

-- of sides without a route each pair loses its own
found-lost : (sides : List Side) → AllByRecursion (λ side. side.1 ≡ None) sides → (q : Pair) → found sides q ≡ or_no_route None (list_any (eq_by_cmp pair_cmp q) (pairs_in sides))
found-lost [] absent q = refl
found-lost (side ∷ sides) absent q = grind (arith, found-lost sides absent.1 q, absent.0)

-- behind others they lose it where nothing is kept for it
pub found-absent : (sides lost : List Side) → AllByRecursion (λ side. side.1 ≡ None) lost → (q : Pair)
    → found (sides ++ lost) q ≡ or_no_route (found sides q) (list_any (eq_by_cmp pair_cmp q) (pairs_in lost))
found-absent sides lost absent q = grind (arith, found-append sides lost q, found-lost lost absent q)

-- of three effects it doesn't matter which two are taken together
later-together : (first second third : Effect) → later first (later second third) ≡ later (later first second) third
later-together first second third = grind arith

-- one more item, before those that are noted before what was noted at first
pub items_effect-more : (q : Pair) (items : List Item) (i rest : ℕ) (item : Item) (before old here : Effect) → i < length items → suc i ≡ rest → item ≡ get_or items i item
    → old ≡ later (items_effect q (drop rest items)) before → here ≡ later (item_effect q (item_value item)) old
    → here ≡ later (items_effect q (drop i items)) before
items_effect-more q items i rest item before old here h next at noted step =
    step
    ∙ ap₂ (λ a b. later (item_effect q (item_value a)) b) at (noted ∙ ap (λ n. later (items_effect q (drop n items)) before) (sym next))
    ∙ later-together (item_effect q (item_value (get_or items i item))) (items_effect q (drop (suc i) items)) before
    ∙ ap (λ xs. later (items_effect q xs) before) (sym (drop-cons items i item h))

-- what items do, and others behind them
items_effect-append : (q : Pair) (xs ys : List Item) → items_effect q (xs ++ ys) ≡ later (items_effect q xs) (items_effect q ys)
items_effect-append q [] ys = sym (later-keep (items_effect q ys))
items_effect-append q (x ∷ xs) ys =
    ap (later (item_effect q (item_value x))) (items_effect-append q xs ys)
    ∙ later-together (item_effect q (item_value x)) (items_effect q xs) (items_effect q ys)

-- what is noted of a range, in front of what is noted from its end on
noted-from : (q : Pair) (items : List Item) (a b : ℕ) (behind here : Effect) → a ≤ b → behind ≡ items_effect q (drop b items)
    → here ≡ later (items_effect q (take (b - a) (drop a items))) behind → here ≡ items_effect q (drop a items)
noted-from q items a b behind here le back front =
    let rest : drop (b - a) (drop a items) ≡ drop b items = drop-drop (b - a) a items ∙ ap (λ n. drop n items) {x = a + (b - a)} {y = b} (omega (arith, le)) in
    front
    ∙ ap (later (items_effect q (take (b - a) (drop a items)))) (back ∙ ap (items_effect q) (sym rest))
    ∙ sym (items_effect-append q (take (b - a) (drop a items)) (drop (b - a) (drop a items)))
    ∙ ap (items_effect q) (take-append-drop (b - a) (drop a items))

-- what is noted of four parts of the items, from the last to the first, is what all of them do
pub effect-parts : (q : Pair) (items : List Item) (a b c : ℕ) (fourth third second first : Effect) → a ≤ b → b ≤ c
    → fourth ≡ later (items_effect q (drop c items)) Keep
    → third ≡ later (items_effect q (take (c - b) (drop b items))) fourth
    → second ≡ later (items_effect q (take (b - a) (drop a items))) third
    → first ≡ later (items_effect q (take a items)) second
    → first ≡ items_effect q items
effect-parts q items a b c fourth third second first le le' back behind middle front =
    front
    ∙ ap (later (items_effect q (take a items))) (noted-from q items a b third second le (noted-from q items b c fourth third le' back behind) middle)
    ∙ sym (items_effect-append q (take a items) (drop a items))
    ∙ ap (items_effect q) (take-append-drop a items)

-- what announces with a route has it
announces-has : (peer : Peer) (route same : Route) (s : ItemValue) → same ≡ route → Announces peer same s → HasRoute route s
announces-has peer route same (Announced other network this) e is = is.1 ∙ e
announces-has peer route same (Withdrawn other network) e is = absurd is
announces-has peer route same (Changed other old new) e is = absurd is

-- of items that share a route each has that of the first
pub all-route_presence : (items : List Item) (route : Route) → AnnounceOneRoute (map item_value items) → IfSome (slice_get items 0) (λ first. HasRoute route (item_value first)) → AllByRecursion (λ item. HasRoute route (item_value item)) items
all-route_presence [] route one has = tt
all-route_presence (first ∷ rest) route one has = (has, by (item_value first) has one)
  where
    by : (s : ItemValue) → HasRoute route s → AnnounceOneRoute (s ∷ map item_value rest) → AllByRecursion (λ item. HasRoute route (item_value item)) rest
    by (Announced peer network same) e all =
        AllByRecursion-from_get_or (λ item. HasRoute route (item_value item)) rest first (λ i within.
        announces-has peer route same (item_value (get_or rest i first)) e
        (subst (Announces peer same) (get_or-map item_value rest i first (item_value first) within)
        (All-get_or (Announces peer same) (map item_value rest) i (item_value first) (omega (arith, within, length-map rest item_value)) all)))
    by (Withdrawn peer network) e all = absurd all
    by (Changed peer old new) e all = absurd all

-- so has each by itself
pub shared-at : (shared : Option (Bor (Rc Route Global))) (items : List Item) (i : ℕ) (item : Item) → i < length items → item ≡ get_or items i item
    → IfSome shared (λ r. AllByRecursion (λ x. HasRoute r.now.value (item_value x)) items) → IfSome shared (λ r. HasRoute r.now.value (item_value item))
shared-at None items i item within at all = tt
shared-at (Some r) items i item within at all =
    subst (λ x. HasRoute r.now.value (item_value x)) (sym at) (AllByRecursion-get_or (λ x. HasRoute r.now.value (item_value x)) items i item within all)

-- what items say has the effects of the items
pub effects-sayings : (q : Pair) (items : List Item) → map (item_effect q) (map item_value items) ≡ map (λ item. item_effect q (item_value item)) items
effects-sayings q [] = refl
effects-sayings q (item ∷ items) = ap (λ l. item_effect q (item_value item) ∷ l) (effects-sayings q items)

-- one more lost peer, before all that is noted
pub lost-noted : (kept : Option (Option Route)) (b lost : Bool) → effect_of kept (cond b true lost) ≡ later (effect_if b Clear) (effect_of kept lost)
lost-noted kept b lost = grind arith

-- a lost peer more, whose pairs that have a route lose it, is one less that is left
pub lost-more : (b left has : Bool) (kept old new : Option (Option Route)) → new ≡ or_no_route old (b && has) → or_no_route old ((b || left) && has) ≡ kept → or_no_route new (left && has) ≡ kept
lost-more b left has kept old new step before = grind arith
