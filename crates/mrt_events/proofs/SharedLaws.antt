-- What items in a range say.
use Rattle.std.proofs.Common.{◌≡◌, ℕ, map, take, drop, List, ap, sym, subst, ◌∙◌}
use Rattle.std.proofs.lemmas.List.{take-map, drop-map}
use Rattle.mrt_events.specs.declared.event.Item.{Item}
use Rattle.mrt_events.specs.Event.{ItemValue, item_value}
use Rattle.mrt_events.specs.SharedRoute.{AnnounceOneRoute}

-- what the items in a range say stands in that range of what all say
pub said_range : (items : List Item) (said : List ItemValue) (a n : ℕ) → map item_value items ≡ said → AnnounceOneRoute (take n (drop a said)) → AnnounceOneRoute (map item_value (take n (drop a items)))
said_range items said a n e one = subst AnnounceOneRoute (ap (λ l. take n (drop a l)) (sym e) ∙ ap (take n) (drop-map item_value a items) ∙ take-map item_value n (drop a items)) one
