-- Private.
-- The sides of steps, what they must fulfil, and on which sides of its step each pair has a route.
use Rattle.std.specs.Prelude.{◌≡◌, ℕ, true, None, List, [], map, slice_index_or, Bool, false, ◌&&◌, ◌||◌, not, is_some, ◌∷◌, length}
use Rattle.std.specs.List.{AllByRecursion, IsDistinct, list_any}
use Rattle.std.specs.Ordering.{eq_by_cmp}
use Rattle.std.specs.FinMap.{get, keys}
use Rattle.std.specs.FinSet.{contains, from_list}
use Rattle.ip_prefix.specs.Network.{Network}
use Rattle.mrt_events.specs.declared.peer.Peer.{Peer}
use Rattle.mrt_events.specs.declared.event.Event.{Event}
use Rattle.rib_player.specs.History.{pair_cmp, pair_of}
use Rattle.rib_player.specs.Tables.{Routes, Pairs, table_after, named_pairs, peer_routes}
use Rattle.rib_player.specs.Journal.{Side, pairs_in}
use Rattle.rib_player.specs.declared.pair.Pair.{Pair}
use Rattle.rib_player.specs.declared.entry.Step.{Step}
use Rattle.rib_player.specs.declared.entry.JournalEnd.{JournalEnd}
use Rattle.rib_player.specs.declared.entry.JournalEnd.TheVariants.{First, Last}
use Rattle.rib_player.specs.Entries.{Entry}
use Rattle.rib_player.specs.Claims.{is_routed}

-- ---- the sides of steps, what they must fulfil, and those that an event makes

-- each pair of `sides`, in order, with the route that it has in `routes`, or none: if `routes` is the table
-- before a step is applied or undone, these are the step's sides afterwards
abbrev pub sides_across : Routes → List Side → List Side
sides_across routes sides = map (λ side. (side.0, get routes side.0)) sides

-- the pair of a peer and a prefix, with `None` for its route on the other side of a step
abbrev pub cleared_side : Peer → Network → Side
cleared_side peer prefix = (pair_of peer prefix, None)

-- the sides clear all routes that a peer has in `routes`: they are the pairs of the peer that have a route
-- there, in ascending order of prefixes, each with `None` for its route on the other side
abbrev pub ClearAllOf : Routes → Peer → List Side → Type 0
ClearAllOf routes peer sides = sides ≡ map (cleared_side peer) (keys (peer_routes routes peer))

-- no two sides are of one pair
abbrev pub AreDistinct : List Side → Type 0
AreDistinct sides = IsDistinct (eq_by_cmp pair_cmp) (pairs_in sides)

-- no two sides are of one pair, and each pair is a key
pub record AreDistinctKeys (all : Pairs) (sides : List Side) : Type 0 where
  pub distinct : AreDistinct sides
  pub among_keys : AllByRecursion (λ pair. contains all pair ≡ true) (pairs_in sides)

-- the sides of the step at an index; none past the end
abbrev pub sides_at : List (List Side) → ℕ → List Side
sides_at steps index = slice_index_or steps index []

-- the sides are those of the step that an event makes on a table, before it is applied: they name the pairs
-- that the event names, each once, with the routes after the event
pub record IsStepFor (routes : Routes) (event : Event) (sides : List Side) : Type 0 where
  pub distinct : AreDistinct sides
  pub after : sides ≡ sides_across (table_after routes event) sides
  pub names : from_list (pairs_in sides) ≡ named_pairs routes event

-- ---- on which sides of its step each pair has a route, as entries are marked

-- a pair, and whether it has a route before a step and after it
pub record Mark : Type 0 where
  pub pair : Pair
  pub before : Bool
  pub after : Bool

-- the pair of an entry, and whether, by the entry, it has a route before the step and after it
abbrev pub mark_of : Entry → Mark
mark_of entry = record { pair = entry.pair; before = entry.before; after = entry.after }

-- for each entry, in order, its pair, and whether that has a route before the step and after it
abbrev pub marks_of : List Entry → List Mark
marks_of entries = map mark_of entries

-- for each entry of a step, in order, its pair, and whether that has a route before the step and after it
abbrev pub step_marks : Step → List Mark
step_marks step = marks_of step.entries.items

-- for each step, in order, the list of the pairs of its entries, each with whether it has a route before the
-- step and after it
abbrev pub marks_by_step : List Step → List (List Mark)
marks_by_step steps = map step_marks steps

-- how many entries a step has
abbrev pub entry_count : Step → ℕ
entry_count step = length step.entries.items

-- whether `q` is the pair of one of `marks`
abbrev pub named_by : List Mark → Pair → Bool
named_by marks q = list_any (eq_by_cmp pair_cmp q) (map (λ mark. mark.pair) marks)

-- whether a pair loses a claim (a reason to keep it as a key) when a step is removed at an end of the
-- journal, given whether it has a route before and after the step: at `First` if it has one only before, at
-- `Last` if only after
abbrev pub releases_at : JournalEnd → Bool → Bool → Bool
releases_at First before after = before && not after
releases_at Last before after = not before && after

-- whether the pair of a mark loses a claim (a reason to keep it as a key) when its step is removed at an end
-- of the journal: at `First` if it has a route only before the step, at `Last` if only after it
abbrev pub releases_claim : JournalEnd → Mark → Bool
releases_claim end mark = releases_at end mark.before mark.after

-- whether the mark is of the pair `q`, which loses a claim (a reason to keep it as a key) when the step of
-- the mark is removed at this end of the journal
abbrev pub releases_claim_of : JournalEnd → Mark → Pair → Bool
releases_claim_of end mark q = releases_claim end mark && eq_by_cmp pair_cmp q mark.pair

-- whether the pair `q` loses a claim (a reason to keep it as a key) when a step with these marks is removed
-- at this end of the journal: whether one of the marks is of `q` and takes a claim from it
abbrev pub any_releases_claim_of : JournalEnd → List Mark → Pair → Bool
any_releases_claim_of end marks q = list_any (λ mark. releases_claim_of end mark q) marks

-- for each of `sides`, in order, its pair, and whether this has a route before a step and after it: before it
-- in the table `routes`, and after it in the side
abbrev pub marks_across : Routes → List Side → List Mark
marks_across routes sides = map (λ side. record { pair = side.0; before = is_routed side.0 routes; after = is_some side.1 }) sides

-- a mark is right for a step between these tables, and its pair has a route in one of them
pub record IsMarkOf (before after : Routes) (mark : Mark) : Type 0 where
  pub mark_before : mark.before ≡ is_routed mark.pair before
  pub mark_after : mark.after ≡ is_routed mark.pair after
  pub some : (mark.before || mark.after) ≡ true

-- all marks are right for a step between these tables, and each pair that isn't marked has a route in both of
-- them or in neither
pub record AreMarksOf (before after : Routes) (marks : List Mark) : Type 0 where
  pub right : AllByRecursion (IsMarkOf before after) marks
  pub unnamed : (q : Pair) → named_by marks q ≡ false → is_routed q before ≡ is_routed q after

-- for each step, its marks are right for the tables before and after it: each says in which of the two its
-- pair has a route, at least one of them, and pairs without a mark have one in both or in neither. The oldest
-- table is the first, and there is one more than steps
abbrev pub AreMarksOfSteps : List Routes → List (List Mark) → Type 0
AreMarksOfSteps (last ∷ []) [] = Unit {0}
AreMarksOfSteps (before ∷ after ∷ tables) (marks ∷ steps) = AreMarksOf before after marks × AreMarksOfSteps (after ∷ tables) steps
AreMarksOfSteps tables steps = ⊥
