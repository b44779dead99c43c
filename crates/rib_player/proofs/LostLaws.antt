-- The entries of a lost session alone are those of its step.
use Rattle.std.proofs.lemmas.Bool.{and_parts}
use Rattle.std.proofs.Common.{◌≡◌, Bool, true, false, cond, ◌&&◌, List, [], ◌∷◌, map, drop, length, slice_get, Option, Some, None, IfSome, option_copied, Bor, is_some, refl, sym, ap, ap₂, subst, ◌∙◌, arith, Less, Global}
use Rattle.std.specs.List.{AllByRecursion, list_any}
use Rattle.std.proofs.Math.Bool.{or-false}
use Rattle.std.specs.List.Sorted.{IsStrictlySortedBy}
use Rattle.std.specs.Ordering.{eq_by_cmp, ordering_then}
use Rattle.std.specs.Cmp.{Equal-is, eq_by_cmp_equiv}
use Rattle.std.specs.FinMap as finite
use Rattle.std.specs.FinSet.{from_list, contains-from_list}
use Rattle.ip_prefix.specs.Network.{Network, network_cmp}
use Rattle.mrt_events.specs.declared.peer.Peer.{Peer}
use Rattle.mrt_events.specs.declared.event.Event.{Event}
use Rattle.mrt_events.specs.Event.{peer_cmp}
use Rattle.mrt_events.proofs.PeerLaws.{peer_cmp_total}
use Rattle.std.proofs.lemmas.Map.Keys.{IsDistinct-from_sorted}
use Rattle.rib_player.specs.declared.pair.Pair.{Pair}
use Rattle.rib_player.specs.Entries.{Entry}
use Rattle.rib_player.specs.Representation.{cleared_entries}
use Rattle.rib_player.specs.Lookups.{value_of}
use Rattle.rib_player.specs.declared.changes.Changes.{Changes}
use Rattle.rib_player.specs.Changes.{found, is_lost, effect_of, effect_of_changes}
use Rattle.rib_player.specs.History.{pair_cmp, pair_of, effect, effect_if, Clear, route_after}
use Rattle.rib_player.specs.Tables.{Routes, table_after, is_named, named_pairs, peer_routes}
use Rattle.rib_player.specs.Journal.{Side, side_of, sides_of, pairs_in, routes_across}
use Rattle.rib_player.specs.Sides.{cleared_side, sides_across, ClearAllOf, AreDistinct, IsStepFor, marks_of, marks_across, any_releases_claim_of}
use Rattle.rib_player.specs.declared.entry.JournalEnd.TheVariants.{Last}
use Rattle.mrt_events.specs.declared.event.Route.{Route}
use Rattle.std.specs.declared.rc.Rc.{Rc}
use Rattle.prefix_store.proofs.AboveLaws.{keys-in_order}
use Rattle.rib_player.proofs.JournalLaws.{get-restored_crossed}
use Rattle.rib_player.proofs.PeerLaws.{any-of_peer, each-of_peer}
use Rattle.rib_player.proofs.PairLaws.{pair_cmp_total}
use Rattle.rib_player.proofs.MarkLaws.{all-among}
use Rattle.rib_player.proofs.StoreLaws.{same_pairs, same_peer}
use Rattle.rib_player.proofs.TableLaws.{same_routes, get-table_after, contains-named_pairs}

pairs-cleared : (peer : Peer) (prefixes : List Network) → pairs_in (map (cleared_side peer) prefixes) ≡ map (pair_of peer) prefixes
pairs-cleared peer [] = refl
pairs-cleared peer (n ∷ prefixes) = ap (λ ps. pair_of peer n ∷ ps) (pairs-cleared peer prefixes)

absent-cleared : (peer : Peer) (prefixes : List Network) → AllByRecursion (λ (side : Side). side.1 ≡ None) (map (cleared_side peer) prefixes)
absent-cleared peer [] = tt
absent-cleared peer (n ∷ prefixes) = (refl, absent-cleared peer prefixes)

-- pairs of one peer are ordered by their prefixes
pub of_one_peer : (peer : Peer) (a b : Network) → pair_cmp (pair_of peer a) (pair_of peer b) ≡ network_cmp a b
of_one_peer peer a b = ap (λ o. ordering_then o (network_cmp a b)) ((Equal-is (peer_cmp peer peer)).0 ((eq_by_cmp_equiv peer_cmp_total).refl peer))

below-cleared : (peer : Peer) (n : Network) (prefixes : List Network) → AllByRecursion (λ m. network_cmp n m ≡ Less) prefixes
    → AllByRecursion (λ q. pair_cmp (pair_of peer n) q ≡ Less) (pairs_in (map (cleared_side peer) prefixes))
below-cleared peer n [] below = tt
below-cleared peer n (m ∷ prefixes) below = (of_one_peer peer n m ∙ below.0, below-cleared peer n prefixes below.1)

ordered-cleared : (peer : Peer) (prefixes : List Network) → IsStrictlySortedBy network_cmp prefixes → IsStrictlySortedBy pair_cmp (pairs_in (map (cleared_side peer) prefixes))
unfolding IsStrictlySortedBy
ordered-cleared peer [] sorted = tt
ordered-cleared peer (n ∷ prefixes) sorted = (below-cleared peer n prefixes sorted.0, ordered-cleared peer prefixes sorted.1)

distinct-cleared : (peer : Peer) (prefixes : List Network) → IsStrictlySortedBy network_cmp prefixes → AreDistinct (map (cleared_side peer) prefixes)
distinct-cleared peer prefixes sorted = IsDistinct-from_sorted pair_cmp (pairs_in (map (cleared_side peer) prefixes)) (ordered-cleared peer prefixes sorted)

-- the sides of all pairs of a peer that have a route
module _ (routes : Routes) (peer : Peer) (sides : List Side) (cleared : ClearAllOf routes peer sides) where
  pub lost-named : (q : Pair) → list_any (eq_by_cmp pair_cmp q) (pairs_in sides) ≡ (same_peer q.peer peer && is_some (finite.get routes q))
  lost-named q =
      ap (list_any (eq_by_cmp pair_cmp q)) (ap pairs_in cleared ∙ pairs-cleared peer (finite.keys (peer_routes routes peer))) ∙ any-of_peer routes peer q

  pub lost-absent : AllByRecursion (λ (side : Side). side.1 ≡ None) sides
  lost-absent = subst (AllByRecursion (λ (side : Side). side.1 ≡ None)) (sym cleared) (absent-cleared peer (finite.keys (peer_routes routes peer)))

  pub lost-distinct : AreDistinct sides
  lost-distinct = subst AreDistinct (sym cleared) (distinct-cleared peer (finite.keys (peer_routes routes peer)) (keys-in_order (peer_routes routes peer)))

-- the sides of pairs that a peer loses are those of the step of an event that does nothing else
module _ (routes : Routes) (event : Event) (peer : Peer) (alone : (q : Pair) → effect q event ≡ effect_if (same_peer q.peer peer) Clear) where
  -- such a pair has no route then
  none_then : (q : Pair) → same_peer q.peer peer ≡ true → None ≡ finite.get (table_after routes event) q
  none_then q of_peer = sym (get-table_after routes event q ∙ ap (route_after (finite.get routes q)) (alone q ∙ ap (λ b. effect_if b Clear) of_peer))

  named-then : (b : Bool) (before : Option _) → (b && is_some before) ≡ is_named before (effect_if b Clear)
  named-then b before = grind arith

  -- all of them are the peer's
  across : (sides : List Side) → AllByRecursion (λ (side : Side). side.1 ≡ None) sides → AllByRecursion (λ q. same_peer q.peer peer ≡ true) (pairs_in sides) → sides ≡ sides_across (table_after routes event) sides
  across [] absent of_peer = refl
  across (side ∷ sides) absent of_peer = ap₂ (λ r ss. (side.0, r) ∷ ss) (absent.0 ∙ none_then side.0 of_peer.0) (across sides absent.1 of_peer.1)

  pub IsStepFor-lost : (sides : List Side) → ClearAllOf routes peer sides → IsStepFor routes event sides
  IsStepFor-lost sides cleared = record {
    distinct = lost-distinct routes peer sides cleared;
    after = across sides (lost-absent routes peer sides cleared) (all-among (λ q. same_peer q.peer peer ≡ true) (pairs_in sides) (λ q there. (and_parts (same_peer q.peer peer) (is_some (finite.get routes q)) (sym (lost-named routes peer sides cleared q) ∙ there)).0));
    names = same_pairs (from_list (pairs_in sides)) (named_pairs routes event) (λ q.
        contains-from_list pair_cmp_total (pairs_in sides) q ∙ lost-named routes peer sides cleared q ∙ named-then (same_peer q.peer peer) (finite.get routes q)
        ∙ ap (is_named (finite.get routes q)) (sym (alone q)) ∙ sym (contains-named_pairs routes event q));
  }

-- the first of a set is all of it, where it has one
pub only-first : (keys : List Peer) (first : Option (Bor Peer)) (peer : Peer) → length keys ≡ 1 → IfSome first (λ k. slice_get keys 0 ≡ Some k.now) → Some peer ≡ option_copied first
    → keys ≡ peer ∷ []
only-first [] first peer one is told = grind (arith, one)
only-first (key ∷ []) None peer one is told = grind (arith, told)
only-first (key ∷ []) (Some k) peer one is told = grind (arith, is, told)
only-first (key ∷ other ∷ keys) first peer one is told = grind (arith, one)

-- an event of which nothing but a loss is noted does just that
pub lost-alone : (event : Event) (changes : Changes) (peer : Peer) → ((q : Pair) → effect_of_changes changes q ≡ effect q event) → changes.entries.items ≡ [] → changes.lost.keys ≡ peer ∷ []
    → (q : Pair) → effect q event ≡ effect_if (same_peer q.peer peer) Clear
lost-alone event changes peer notes none one q =
    sym (notes q) ∙ ap₂ (λ (entries : List Entry) (peers : List Peer). effect_of (found (sides_of entries) q) (is_lost peers q)) none one
    ∙ ap (λ b. effect_if b Clear) (or-false (same_peer q.peer peer))

-- ---- the routes that they get

pub cleared-nil : (entries : List Entry) → cleared_entries entries [] ≡ entries
cleared-nil [] = refl
cleared-nil (entry ∷ entries) = refl

-- such entries cross with the routes that the peer had
pub record AreTaken (routes : Routes) (old new : List Entry) : Type 0 where
  pub sides : sides_of new ≡ sides_across routes (sides_of old)
  pub marks : marks_of new ≡ marks_across routes (sides_of old)
  pub unbrought : (q : Pair) → any_releases_claim_of Last (marks_of new) q ≡ false

taken : (routes : Routes) (peer : Peer) (own : List (Network × Route)) (entries : List Entry) (taken_out : List (Rc Route Global)) → AllByRecursion (λ e. finite.get routes (pair_of peer e.0) ≡ Some e.1) own
    → sides_of entries ≡ map (cleared_side peer) (map (λ (e : Network × Route). e.0) own) → map value_of taken_out ≡ map (λ (e : Network × Route). e.1) own → AreTaken routes entries (cleared_entries entries taken_out)
taken routes peer [] [] taken_out found same values = record { sides = refl; marks = refl; unbrought = λ q. refl }
taken routes peer [] (entry ∷ entries) taken_out found same values = cc
taken routes peer (e ∷ own) [] taken_out found same values = cc
taken routes peer (e ∷ own) (entry ∷ entries) [] found same values = cc
taken routes peer (e ∷ own) (entry ∷ entries) (route ∷ taken_out) found same values =
    let rest = taken routes peer own entries taken_out found.1 (ap (drop 1) same) (ap (drop 1) values) in
    let side : side_of entry ≡ cleared_side peer e.0 = (let first = same in cc) in
    let value : route.value ≡ e.1 = (let first = values in cc) in
    let route_then : Some route.value ≡ finite.get routes entry.pair = ap Some value ∙ sym found.0 ∙ ap (λ (s : Side). finite.get routes s.0) (sym side) in
    record {
      sides = ap₂ (λ r ss. (entry.pair, r) ∷ ss) route_then rest.sides;
      marks = λ i. record { pair = entry.pair; before = ap is_some route_then i; after = ap (λ (s : Side). is_some s.1) (sym side) i } ∷ rest.marks i;
      unbrought = rest.unbrought;
    }

pub taken-peer : (routes : Routes) (peer : Peer) (entries : List Entry) (taken_out : List (Rc Route Global)) → ClearAllOf routes peer (sides_of entries) → map value_of taken_out ≡ finite.values (peer_routes routes peer)
    → AreTaken routes entries (cleared_entries entries taken_out)
taken-peer routes peer entries taken_out cleared values = taken routes peer (finite.entries (peer_routes routes peer)) entries taken_out (each-of_peer routes peer) cleared values

-- and leave the routes of the others
across-taken : (new : Routes) (peer : Peer) (prefixes : List Network) → ((n : Network) → finite.get new (pair_of peer n) ≡ None) → map (cleared_side peer) prefixes ≡ sides_across new (map (cleared_side peer) prefixes)
across-taken new peer [] none = refl
across-taken new peer (n ∷ prefixes) none = ap₂ (λ r ss. (pair_of peer n, r) ∷ ss) (sym (none n)) (across-taken new peer prefixes none)

taken_or : {A : Type 0} (b : Bool) (found : Option A) → cond b None found ≡ cond (b && is_some found) (cond b None found) found
taken_or b found = grind arith

pub routes-cleared : (old new : Routes) (peer : Peer) (sides : List Side) → ClearAllOf old peer sides → ((q : Pair) → finite.get new q ≡ cond (same_peer q.peer peer) None (finite.get old q)) → new ≡ routes_across sides old
routes-cleared old new peer sides cleared is = same_routes new (routes_across sides old) (λ q.
    is q ∙ taken_or (same_peer q.peer peer) (finite.get old q)
    ∙ ap₂ (λ b r. cond b r (finite.get old q)) (sym (lost-named old peer sides cleared q)) (sym (is q))
    ∙ sym (ap (λ ss. finite.get (routes_across ss old) q) all ∙ get-restored_crossed new old sides q))
  where
    none : (n : Network) → finite.get new (pair_of peer n) ≡ None
    none n = is (pair_of peer n) ∙ ap (λ b. cond b None (finite.get old (pair_of peer n))) ((eq_by_cmp_equiv peer_cmp_total).refl peer)

    all : sides ≡ sides_across new sides
    all = subst (λ ss. ss ≡ sides_across new ss) (sym cleared) (across-taken new peer (finite.keys (peer_routes old peer)) none)
