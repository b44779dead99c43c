-- The list of the peers that have a route, by the numbers that are chosen.
use Rattle.std.proofs.Common.{◌≡◌, ℕ, zero, suc, ◌<◌, ◌≤◌, true, false, cond, T, ◌&&◌, nat_lt, List, [], ◌∷◌, ◌++◌, map, length, get_or, Option, Some, None, IfSome, refl, sym, ap, subst, ◌∙◌, arith, Less, Global}
use Rattle.std.specs.List.{AllByRecursion, Contains}
use Rattle.std.specs.List.Sorted.{IsStrictlySortedBy}
use Rattle.std.specs.Map.{lookup, keys_of}
use Rattle.std.specs.Ordering.{is_lt}
use Rattle.std.specs.FinMap as finite
use Rattle.std.specs.FinMap.Entries.{find, is_sorted, below_all, same_entries}
use Rattle.std.specs.declared.rc.Rc.{Rc}
use Rattle.std.proofs.lemmas.Map.Keys.{sorted_head, sorted_tail}
use Rattle.std.proofs.lemmas.Bool.{lt-ltb, le-ltb}
use Rattle.mrt_events.specs.declared.peer.Peer.{Peer}
use Rattle.mrt_events.specs.declared.event.Route.{Route}
use Rattle.mrt_events.specs.Event.{peer_cmp}
use Rattle.mrt_events.proofs.PeerLaws.{peer_cmp_total, peer_cmp-IsAntisymmetric}
use Rattle.prefix_store.specs.Stored as stored
use Rattle.prefix_store.specs.Stored.{saturated_count}
use Rattle.rib_player.specs.History.{pair_of}
use Rattle.rib_player.specs.Tables.{Routes, PeerStores, store_at, routes_in, peer_routes, routed_peers}
use Rattle.rib_player.specs.Lookups.{counted_peers}
use Rattle.rib_player.specs.Representation.{IsUpdatedAt, route_presence}
use Rattle.rib_player.specs.Indices.{ContainsEachChosen}
use Rattle.rib_player.specs.SparseSet.{choices}
use Rattle.rib_player.specs.StoresByPeer.{stores_in}
use Rattle.rib_player.specs.Noted.{routed_marks}
use Rattle.rib_player.specs.declared.stores.Stores as numbered
use Rattle.rib_player.proofs.ListLaws.{all-then}
use Rattle.rib_player.proofs.StoreLaws.{same_peer, one_peer, get-found, AreNoted}
use Rattle.rib_player.proofs.NumberLaws.{stored as standing, same_itself, at-stores_of, numbered-along}
use Rattle.rib_player.proofs.PeerLaws.{has_peer, has-routed_peers, peers-in_order, len-of_peer, some-routes_in}

-- ---- lists of peers in order

-- those that are written one behind the other
all-more : {A : Type 0} (P : A → Type 0) (xs : List A) (x : A) → AllByRecursion P xs → P x → AllByRecursion P (xs ++ x ∷ [])
all-more P [] x all this = (this, tt)
all-more P (y ∷ xs) x all this = (all.0, all-more P xs x all.1 this)

all-contained : {A : Type 0} (P : A → Type 0) (xs : List A) (x : A) → AllByRecursion P xs → Contains xs x → P x
all-contained P xs x all there = at xs all there.0 there.1 there.2
  where
    at : (xs : List _) → AllByRecursion P xs → (k : ℕ) → k < length xs → get_or xs k x ≡ x → P x
    at [] all k within is = absurd (omega (arith, within))
    at (y ∷ xs) all zero within is = subst P is all.0
    at (y ∷ xs) all (suc k) within is = at xs all.1 k (omega (arith, within)) is

module _ {A : Type 0} where
  below-of : (x : Peer) (es : List (Peer × A)) → AllByRecursion (λ y. peer_cmp x y ≡ Less) (keys_of es) → below_all peer_cmp x es ≡ true
  below-of x [] all = refl
  below-of x (e ∷ es) all = ap (λ r. is_lt r && below_all peer_cmp x es) all.0 ∙ below-of x es all.1

  sorted-of : (es : List (Peer × A)) → IsStrictlySortedBy peer_cmp (keys_of es) → is_sorted peer_cmp es ≡ true
  sorted-of [] sorted = refl
  sorted-of (e ∷ es) sorted =
      let low = below-of e.0 es (sorted_head peer_cmp e.0 (keys_of es) sorted) in
      let rest = sorted-of es (sorted_tail peer_cmp e.0 (keys_of es) sorted) in
      grind arith

  found-as : (p : Peer) (es : List (Peer × A)) → find peer_cmp p es ≡ lookup (same_peer p) es
  found-as p [] = refl
  found-as p (e ∷ es) = grind (arith, found-as p es)

  -- peers, each with what belongs to it
  paired : (Peer → A) → List Peer → List (Peer × A)
  paired f ps = map (λ p. (p, f p)) ps

  keys-paired : (f : Peer → A) (ps : List Peer) → keys_of (paired f ps) ≡ ps
  unfolding paired
  keys-paired f [] = refl
  keys-paired f (p ∷ ps) = ap (λ ps. p ∷ ps) (keys-paired f ps)

  lookup-paired : (f : Peer → A) (p : Peer) (ps : List Peer) → lookup (same_peer p) (paired f ps) ≡ cond (has_peer p ps) (Some (f p)) None
  unfolding paired
  lookup-paired f p [] = refl
  lookup-paired f p (q ∷ ps) = let one = one_peer p q in grind (arith, lookup-paired f p ps)

  -- lists in order in which the same is found are one
  same_found : (es fs : List (Peer × A)) → IsStrictlySortedBy peer_cmp (keys_of es) → IsStrictlySortedBy peer_cmp (keys_of fs) → ((p : Peer) → lookup (same_peer p) es ≡ lookup (same_peer p) fs) → es ≡ fs
  same_found es fs sorted sorted' same =
      same_entries peer_cmp peer_cmp_total peer_cmp-IsAntisymmetric es fs (subst T (sym (sorted-of es sorted)) tt) (subst T (sym (sorted-of fs sorted')) tt)
      (λ p. found-as p es ∙ same p ∙ sym (found-as p fs))

-- what holds of what is there
pub if_found : {A : Type 0} (P : A → Type 0) (o : Option A) (x : A) → o ≡ Some x → IfSome o P → P x
if_found P o x is holds = subst (λ o. IfSome o P) is holds

-- ---- what was found so far

module _ {S : Type 0} (routes : S → stored.Routes (Rc Route Global)) where
  -- what is listed of a store, if it has a route
  abbrev pub listed_count : Option S → Option ℕ
  listed_count None = None
  listed_count (Some store) = cond (nat_lt 0 (finite.len (routes store))) (Some (saturated_count (finite.len (routes store)))) None

  -- each peer of these numbers is listed if it has a route, and no others are
  pub record IsFound (stores : PeerStores S) (order : List (Peer × ℕ)) (done : List ℕ) (found : List (Peer × ℕ)) : Type 0 where
    pub true_of : (p : Peer) → IfSome (lookup (same_peer p) found) (λ n. Some n ≡ listed_count (store_at stores p))
    pub each : AllByRecursion (λ number. (p : Peer) → lookup (same_peer p) order ≡ Some number → lookup (same_peer p) found ≡ listed_count (store_at stores p)) done

  pub found-start : (stores : PeerStores S) (order : List (Peer × ℕ)) → IsFound stores order [] []
  found-start stores order = record { true_of = λ p. tt; each = tt }

  none-found : (o c : Option ℕ) → IfSome o (λ n. Some n ≡ c) → c ≡ None → o ≡ None
  none-found None c is none = refl
  none-found (Some n) c is none = is ∙ none

  module _ {stores : PeerStores S} {order : List (Peer × ℕ)} {done : List ℕ} {found : List (Peer × ℕ)} (so_far : IsFound stores order done found) (number : ℕ) where
    pub found-absent : ((p : Peer) → lookup (same_peer p) order ≡ Some number → ⊥) → IsFound stores order (done ++ number ∷ []) found
    found-absent none = record {
      true_of = so_far.true_of;
      each = all-more _ done number so_far.each (λ p is. absurd (none p is));
    }

    module _ (peer : Peer) (store : S) (there : store_at stores peer ≡ Some store) (named : (p : Peer) → lookup (same_peer p) order ≡ Some number → peer ≡ p)
        (n : ℕ) (is : n ≡ saturated_count (finite.len (routes store))) where
      pub found-empty : n ≤ 0 → IsFound stores order (done ++ number ∷ []) found
      found-empty none =
          let no : listed_count (Some store) ≡ None = ap (λ b. cond b (Some (saturated_count (finite.len (routes store)))) None) (le-ltb 0 (finite.len (routes store)) (omega (arith, is, none))) in
          record {
            true_of = so_far.true_of;
            each = all-more _ done number so_far.each (λ p at.
                let here : listed_count (store_at stores p) ≡ None = ap (λ q. listed_count (store_at stores q)) (sym (named p at)) ∙ ap listed_count there ∙ no in
                none-found (lookup (same_peer p) found) (listed_count (store_at stores p)) (so_far.true_of p) here ∙ sym here);
          }

      pub found-more : {found' : List (Peer × ℕ)} → 0 < n → IsUpdatedAt found found' peer (Some n) → IsFound stores order (done ++ number ∷ []) found'
      found-more {found' = found'} some written =
          let yes : Some n ≡ listed_count (Some store) =
          ap Some is ∙ sym (ap (λ b. cond b (Some (saturated_count (finite.len (routes store)))) None) (lt-ltb 0 (finite.len (routes store)) (omega (arith, is, some)))) in
          let here : Some n ≡ listed_count (store_at stores peer) = yes ∙ ap listed_count (sym there) in
          record {
            true_of = λ p. subst (λ o. IfSome o (λ n. Some n ≡ listed_count (store_at stores p))) (sym (written.each p))
                (elim (same_peer peer p) as (λ b. same_peer peer p ≡ b → IfSome (cond b (Some n) (lookup (same_peer p) found)) (λ n. Some n ≡ listed_count (store_at stores p))) [
                  | true ↦ λ same. here ∙ ap (λ q. listed_count (store_at stores q)) (one_peer peer p same)
                  | false ↦ λ differ. so_far.true_of p
                ] refl);
            each = all-more _ done number (all-then _ _ done (λ m was p at. rewritten p (was p at)) so_far.each)
                (λ p at. ap (λ q. lookup (same_peer q) found') (sym (named p at)) ∙ written.each peer ∙ ap (λ b. cond b (Some n) (lookup (same_peer peer) found)) (same_itself peer) ∙ here ∙ ap (λ q. listed_count (store_at stores q)) (named p at));
          }
        where
          rewritten : (p : Peer) → lookup (same_peer p) found ≡ listed_count (store_at stores p) → lookup (same_peer p) found' ≡ listed_count (store_at stores p)
          rewritten p was = written.each p ∙ (elim (same_peer peer p) as (λ b. same_peer peer p ≡ b → cond b (Some n) (lookup (same_peer p) found) ≡ listed_count (store_at stores p)) [
            | true ↦ λ same.
                ap Some is ∙ sym (ap (λ b. cond b (Some (saturated_count (finite.len (routes store)))) None) (lt-ltb 0 (finite.len (routes store)) (omega (arith, is, some))))
                ∙ ap listed_count (sym there) ∙ ap (λ q. listed_count (store_at stores q)) (one_peer peer p same)
            | false ↦ λ differ. was
          ] refl)

  -- all were looked at
  module _ (s : numbered.Stores S) {numbers : List ℕ} {found : List (Peer × ℕ)} (whole : IsFound (stores_in s) s.order.entries numbers found)
      (listed : ContainsEachChosen (choices s.routed) numbers) (noted : AreNoted routes (stores_in s) (routed_marks s)) where
    found-at : (p : Peer) → lookup (same_peer p) found ≡ listed_count (store_at (stores_in s) p)
    found-at p = at (store_at (stores_in s) p) refl
      where
        there : (store : S) → store_at (stores_in s) p ≡ Some store → nat_lt 0 (finite.len (routes store)) ≡ true → lookup (same_peer p) found ≡ listed_count (store_at (stores_in s) p)
        there store is has =
            let flag : standing (choices s.routed) (lookup (same_peer p) s.order.entries) ≡ Some true =
            sym (at-stores_of (numbered-along s.numbered (sym s.each)) p) ∙ noted p ∙ ap (route_presence routes) is ∙ ap Some has in
            elim (lookup (same_peer p) s.order.entries) as (λ o. lookup (same_peer p) s.order.entries ≡ o → standing (choices s.routed) o ≡ Some true → lookup (same_peer p) found ≡ listed_count (store_at (stores_in s) p)) [
              | None ↦ λ no lost. absurd cc
              | Some number ↦ λ at sparse_set. all-contained _ numbers number whole.each (listed number sparse_set) p at
            ] refl flag

        at : (o : Option S) → store_at (stores_in s) p ≡ o → lookup (same_peer p) found ≡ listed_count (store_at (stores_in s) p)
        at None is = none-found (lookup (same_peer p) found) (listed_count (store_at (stores_in s) p)) (whole.true_of p) (ap listed_count is) ∙ sym (ap listed_count is)
        at (Some store) is =
            elim (nat_lt 0 (finite.len (routes store))) as (λ b. nat_lt 0 (finite.len (routes store)) ≡ b → lookup (same_peer p) found ≡ listed_count (store_at (stores_in s) p)) [
              | true ↦ λ has. there store is has
              | false ↦ λ has_none.
                  let no : listed_count (store_at (stores_in s) p) ≡ None = ap listed_count is ∙ ap (λ b. cond b (Some (saturated_count (finite.len (routes store)))) None) has_none in
                  none-found (lookup (same_peer p) found) (listed_count (store_at (stores_in s) p)) (whole.true_of p) no ∙ sym no
            ] refl

    -- the count of a store is that of its peer's routes
    listed-routes : (all : Routes) (p : Peer) (store : Option S) → store ≡ store_at (stores_in s) p → routes_in routes (stores_in s) ≡ all
        → listed_count store ≡ cond (nat_lt 0 (finite.len (peer_routes all p))) (Some (saturated_count (finite.len (peer_routes all p)))) None
    listed-routes all p None is e =
        sym (ap (λ b. cond b (Some (saturated_count (finite.len (peer_routes all p)))) None) (some-routes_in routes (stores_in s) all p None is e))
    listed-routes all p (Some store) is e =
        let same = len-of_peer (routes store) all p (λ n. get-found routes (stores_in s) all (pair_of p n) (Some store) is e) in
        sym (ap (λ n. cond (nat_lt 0 n) (Some (saturated_count n)) None) same)

    pub found-saturated_count : (all : Routes) → routes_in routes (stores_in s) ≡ all → IsStrictlySortedBy peer_cmp (keys_of found) → found ≡ counted_peers all
    unfolding paired
    found-saturated_count all e sorted =
        let count = λ (p : Peer). saturated_count (finite.len (peer_routes all p)) in
        same_found found (counted_peers all) sorted (subst (IsStrictlySortedBy peer_cmp) (sym (keys-paired count (routed_peers all))) (peers-in_order all))
        (λ p. found-at p ∙ listed-routes all p (store_at (stores_in s) p) refl e ∙ sym (lookup-paired count p (routed_peers all) ∙ ap (λ b. cond b (Some (count p)) None) (has-routed_peers all p)))
