-- An entry of a step as contracts see it.
use Rattle.std.specs.Prelude.{Bool, Option}
use Rattle.std.specs.declared.alloc.Global.{Global}
use Rattle.std.specs.declared.rc.Rc.{Rc}
use Rattle.mrt_events.specs.declared.event.Route.{Route}
use Rattle.rib_player.specs.declared.pair.Pair.{Pair}

-- what a step (a played event) keeps of one pair of a peer and a prefix that it sets or clears: the route on
-- the other side of the step, and whether the pair has one before and after the step
pub record Entry : Type 0 where
  -- the pair
  pub pair : Pair
  -- its route on the other side of the step, if any: before an applied step, after one that isn't applied
  pub other : Option (Rc Route Global)
  -- whether the pair has a route before the step
  pub before : Bool
  -- whether the pair has a route after the step
  pub after : Bool
