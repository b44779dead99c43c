-- The routes of one peer, those above a prefix, and the peers that have a route.
use Rattle.std.proofs.Common.{◌≡◌, ℕ, ◌<◌, ◌≤◌, Bool, true, false, cond, T, ◌&&◌, ◌||◌, nat_lt, List, [], ◌∷◌, map, take, length, Option, Some, None, is_some, slice_get, Bor, refl, sym, ap, ap₂, subst, ◌∙◌, arith, option_map, Less, Global}
use Rattle.std.specs.List.{list_any, filter, AllByRecursion}
use Rattle.std.specs.List.Sorted.{IsStrictlySortedBy}
use Rattle.std.specs.Map.{keys_of}
use Rattle.std.specs.Ordering.{eq_by_cmp, is_eq, is_lt}
use Rattle.std.specs.Cmp.{eq_by_cmp_equiv, tied_itself}
use Rattle.std.specs.FinMap as finite
use Rattle.std.specs.FinMap.{same_map, contains_key-keys, get-empty, get-entries, get-from_entries, len-entries, len-empty}
use Rattle.std.specs.FinMap.Entries.{find, is_sorted, below_all, same_entries}
use Rattle.std.specs.declared.rc.Rc.{Rc}
use Rattle.std.proofs.lemmas.Map.Keys.{sorted_head, sorted_tail}
use Rattle.std.proofs.lemmas.Bool.{and_parts, lt-ltb, le-ltb}
use Rattle.std.proofs.lemmas.Bool.Decides.{nat_tests}
use Rattle.std.proofs.lemmas.List.Elements.{filter_agree}
use Rattle.std.proofs.Math.Bool.{and_comm}
use Rattle.std.proofs.lemmas.List.{length-map, take-map, nil_from_length, map-id}
use Rattle.std.proofs.lemmas.Option.{same_Some, slice_get-map}
use Rattle.octet_forms.proofs.Options.{is_some-option_map}
use Rattle.ip_prefix.specs.Network.{Address, Network, network_cmp}
use Rattle.ip_prefix.specs.OrderLaws.{network_cmp_total, network_cmp-IsAntisymmetric}
use Rattle.prefix_store.specs.Stored as stored
use Rattle.prefix_store.specs.Stored.{saturated_count}
use Rattle.prefix_store.specs.Lookups.{above, dereferenced, IsLongestMatch, is_above_bound}
use Rattle.prefix_store.proofs.AboveLaws.{take-nil, is_less, is_true, keys-in_order, higher-next}
use Rattle.mrt_events.specs.declared.peer.Peer.{Peer}
use Rattle.mrt_events.specs.declared.event.Route.{Route}
use Rattle.mrt_events.specs.Event.{peer_cmp}
use Rattle.mrt_events.proofs.PeerLaws.{peer_cmp_total, peer_cmp-IsAntisymmetric}
use Rattle.rib_player.specs.declared.pair.Pair.{Pair}
use Rattle.rib_player.specs.History.{pair_cmp, pair_of}
use Rattle.rib_player.specs.Tables.{Routes, PeerStores, store_at, routes_in, peer_routes, routed_peers}
use Rattle.rib_player.specs.Lookups.{IsBest, pointed_routes, peers_above, value_of}
use Rattle.rib_player.specs.Representation.{IsUpdatedAt, routed_stores, peer_count}
use Rattle.rib_player.proofs.ListLaws.{all-then}
use Rattle.rib_player.proofs.StoreLaws.{same_peer, one_peer, peer_symm, tied_parts, any-pairs, get-found, routes_in-other}

-- ---- the routes of a peer

-- entries by the prefixes of their pairs
abbrev prefixed : List (Pair × Route) → List (Network × Route)
prefixed es = map (λ (e : Pair × Route). (e.0.prefix, e.1)) es

-- those of a peer
abbrev of_peer : Peer → List (Pair × Route) → List (Network × Route)
of_peer peer es = prefixed (filter (λ (e : Pair × Route). same_peer e.0.peer peer) es)

-- a prefix among those of a peer is the pair among all
find-peer : (peer : Peer) (n : Network) (es : List (Pair × Route)) → find network_cmp n (of_peer peer es) ≡ find pair_cmp (pair_of peer n) es
find-peer peer n [] = refl
find-peer peer n (e ∷ es) =
    let parts = tied_parts (pair_of peer n) e.0.peer e.0.prefix in
    grind (arith, find-peer peer n es, peer_symm e.0.peer peer)

-- the routes of a peer are those at its pairs
pub get-peer_routes : (routes : Routes) (peer : Peer) (n : Network) → finite.get (peer_routes routes peer) n ≡ finite.get routes (pair_of peer n)
unfolding peer_routes
get-peer_routes routes peer n =
    get-from_entries network_cmp_total (of_peer peer (finite.entries routes)) n
    ∙ find-peer peer n (finite.entries routes)
    ∙ sym (get-entries routes (pair_of peer n))

-- ---- those of a store, behind their pointers

-- routes by their values
abbrev valued : List (Network × Rc Route Global) → List (Network × Route)
valued es = map (λ (e : Network × Rc Route Global). (e.0, e.1.value)) es

find-valued : (n : Network) (es : List (Network × Rc Route Global)) → find network_cmp n (valued es) ≡ option_map value_of (find network_cmp n es)
find-valued n [] = refl
find-valued n (e ∷ es) = grind (arith, find-valued n es)

below-valued : (x : Network) (es : List (Network × Rc Route Global)) → below_all network_cmp x (valued es) ≡ below_all network_cmp x es
below-valued x [] = refl
below-valued x (e ∷ es) = ap (λ b. is_lt (network_cmp x e.0) && b) (below-valued x es)

sorted-valued : (es : List (Network × Rc Route Global)) → is_sorted network_cmp (valued es) ≡ is_sorted network_cmp es
sorted-valued [] = refl
sorted-valued (e ∷ es) = ap₂ (λ a b. a && b) (below-valued e.0 es) (sorted-valued es)

above-valued : (low : Option Network) (es : List (Network × Rc Route Global)) → above low (valued es) ≡ valued (above low es)
above-valued low [] = refl
above-valued low (e ∷ es) = grind (arith, above-valued low es)

values-valued : (es : List (Network × Rc Route Global)) → map (λ (e : Network × Route). e.1) (valued es) ≡ map value_of (map (λ (e : Network × Rc Route Global). e.1) es)
values-valued [] = refl
values-valued (e ∷ es) = ap (λ vs. e.1.value ∷ vs) (values-valued es)

keys-valued : (es : List (Network × Rc Route Global)) → map (λ (e : Network × Route). e.0) (valued es) ≡ map (λ (e : Network × Rc Route Global). e.0) es
keys-valued [] = refl
keys-valued (e ∷ es) = ap (λ ks. e.0 ∷ ks) (keys-valued es)

-- a pair is among those of a peer where it is the peer's and has a route
pub any-of_peer : (all : Routes) (peer : Peer) (q : Pair) → list_any (eq_by_cmp pair_cmp q) (map (pair_of peer) (finite.keys (peer_routes all peer))) ≡ (same_peer q.peer peer && is_some (finite.get all q))
any-of_peer all peer q =
    any-pairs q peer (finite.keys (peer_routes all peer))
    ∙ ap (λ b. same_peer q.peer peer && b) (sym (contains_key-keys (peer_routes all peer) q.prefix) ∙ ap is_some (get-peer_routes all peer q.prefix))
    ∙ (let one = one_peer q.peer peer in grind arith)

-- each entry in order is found
found-behind : (x : Network × Route) (es ys : List (Network × Route)) → below_all network_cmp x.0 ys ≡ true → AllByRecursion (λ e. find network_cmp e.0 es ≡ Some e.1) ys
    → AllByRecursion (λ e. find network_cmp e.0 (x ∷ es) ≡ Some e.1) ys
found-behind x es [] below found = tt
found-behind x es (y ∷ ys) below found =
    let parts = and_parts (is_lt (network_cmp x.0 y.0)) (below_all network_cmp x.0 ys) below in (
      ap (λ b. cond b (Some x.1) (find network_cmp y.0 es)) ((eq_by_cmp_equiv network_cmp_total).symm y.0 x.0 ∙ ap is_eq (is_less (network_cmp x.0 y.0) parts.0)) ∙ found.0,
      found-behind x es ys parts.1 found.1,
    )

found-each : (es : List (Network × Route)) → is_sorted network_cmp es ≡ true → AllByRecursion (λ e. find network_cmp e.0 es ≡ Some e.1) es
found-each [] sorted = tt
found-each (e ∷ es) sorted =
    let parts = and_parts (below_all network_cmp e.0 es) (is_sorted network_cmp es) sorted in
    (ap (λ r. cond (is_eq r) (Some e.1) (find network_cmp e.0 es)) (tied_itself network_cmp_total e.0), found-behind e es es parts.0 (found-each es parts.1))

pub each-of_peer : (all : Routes) (peer : Peer) → AllByRecursion (λ e. finite.get all (pair_of peer e.0) ≡ Some e.1) (finite.entries (peer_routes all peer))
each-of_peer all peer =
    let own = finite.entries (peer_routes all peer) in
    all-then (λ e. find network_cmp e.0 own ≡ Some e.1) (λ e. finite.get all (pair_of peer e.0) ≡ Some e.1) own
    (λ e found. sym (get-peer_routes all peer e.0) ∙ get-entries (peer_routes all peer) e.0 ∙ found) (found-each own (is_true _ (finite.entries_sorted (peer_routes all peer))))

-- ---- a peer that has the routes of its store

module _ (own : stored.Routes (Rc Route Global)) (all : Routes) (peer : Peer) (same : (n : Network) → option_map value_of (finite.get own n) ≡ finite.get all (pair_of peer n)) where
  entries-of_peer : finite.entries (peer_routes all peer) ≡ valued (finite.entries own)
  entries-of_peer =
      same_entries network_cmp network_cmp_total network_cmp-IsAntisymmetric (finite.entries (peer_routes all peer)) (valued (finite.entries own))
      (finite.entries_sorted (peer_routes all peer)) (subst T (sym (sorted-valued (finite.entries own))) (finite.entries_sorted own)) (λ n.
      sym (get-entries (peer_routes all peer) n)
      ∙ get-peer_routes all peer n
      ∙ sym (same n)
      ∙ ap (option_map value_of) (get-entries own n)
      ∙ sym (find-valued n (finite.entries own)))

  pub keys-of_peer : finite.keys own ≡ finite.keys (peer_routes all peer)
  keys-of_peer = sym (ap (map (λ (e : Network × Route). e.0)) entries-of_peer ∙ keys-valued (finite.entries own))

  pub values-of_peer : map value_of (finite.values own) ≡ finite.values (peer_routes all peer)
  values-of_peer = sym (ap (map (λ (f : Network × Route). f.1)) entries-of_peer ∙ values-valued (finite.entries own))

  pub len-of_peer : finite.len (peer_routes all peer) ≡ finite.len own
  len-of_peer =
      len-entries (peer_routes all peer)
      ∙ ap length entries-of_peer
      ∙ length-map (finite.entries own) (λ (f : Network × Rc Route Global). (f.0, f.1.value))
      ∙ sym (len-entries own)

  above-of_peer : (low : Option Network) → valued (above low (finite.entries own)) ≡ above low (finite.entries (peer_routes all peer))
  above-of_peer low = sym (above-valued low (finite.entries own)) ∙ ap (above low) (sym entries-of_peer)

  -- the first route above a prefix is that of the store
  pub first-above : (low : Option Network) (first : Option (Network × Bor (Rc Route Global))) → option_map (λ f. (f.0, f.1.now)) first ≡ slice_get (above low (finite.entries own)) 0
      → option_map {U = Network × Route} (λ f. (f.0, f.1.now.value)) first ≡ slice_get (above low (finite.entries (peer_routes all peer))) 0
  first-above low first is =
      at first
      ∙ ap (option_map {U = Network × Route} (λ f. (f.0, f.1.value))) is
      ∙ sym (slice_get-map (λ (f : Network × Rc Route Global). (f.0, f.1.value)) (above low (finite.entries own)) 0)
      ∙ ap (λ s. slice_get s 0) (above-of_peer low)
    where
      at : (first : Option (Network × Bor (Rc Route Global)))
          → option_map {U = Network × Route} (λ f. (f.0, f.1.now.value)) first ≡ option_map {U = Network × Route} (λ f. (f.0, f.1.value)) (option_map {U = Network × Rc Route Global} (λ f. (f.0, f.1.now)) first)
      at first = grind arith

  -- so are more
  pub front-above : (low : Option Network) (room : ℕ) (found : List (Network × Bor (Rc Route Global))) → dereferenced found ≡ take room (above low (finite.entries own))
      → pointed_routes found ≡ take room (above low (finite.entries (peer_routes all peer)))
  front-above low room found is =
      at found
      ∙ ap valued is
      ∙ sym (take-map (λ (f : Network × Rc Route Global). (f.0, f.1.value)) room (above low (finite.entries own)))
      ∙ ap (take room) (above-of_peer low)
    where
      at : (found : List (Network × Bor (Rc Route Global))) → pointed_routes found ≡ valued (dereferenced found)
      at [] = refl
      at (f ∷ found) = grind (arith, at found)

  -- and the best one
  pub best-of_peer : (address : Address) (best : Option (Network × Bor (Rc Route Global))) → IsLongestMatch own address (option_map (λ b. (b.0, b.1.now)) best) → IsBest all peer address (option_map (λ b. (b.0, b.1.now.value)) best)
  best-of_peer address None longest = λ n within. sym (same n) ∙ ap (option_map value_of) (longest n within)
  best-of_peer address (Some best) longest = (
    longest.0,
    sym (same best.0) ∙ ap (option_map value_of) longest.1,
    λ n within there. longest.2 n within (sym (is_some-option_map value_of (finite.get own n)) ∙ ap is_some (same n) ∙ there),
  )

-- ---- a peer that has no route

module _ (all : Routes) (peer : Peer) (none : (n : Network) → finite.get all (pair_of peer n) ≡ None) where
  no_routes : peer_routes all peer ≡ finite.empty
  no_routes = same_map network_cmp_total network_cmp-IsAntisymmetric (peer_routes all peer) finite.empty (λ n. get-peer_routes all peer n ∙ none n ∙ sym (get-empty network_cmp n))

  no_entries : finite.entries (peer_routes all peer) ≡ []
  no_entries = nil_from_length _ (sym (len-entries (peer_routes all peer)) ∙ ap finite.len no_routes ∙ len-empty network_cmp Route)

  pub no_keys : [] ≡ finite.keys (peer_routes all peer)
  no_keys = sym (ap (map (λ (e : Network × Route). e.0)) no_entries)

  pub no_values : [] ≡ finite.values (peer_routes all peer)
  no_values = sym (ap (map (λ (f : Network × Route). f.1)) no_entries)

  pub none-above : (low : Option Network) → None ≡ slice_get (above low (finite.entries (peer_routes all peer))) 0
  none-above low = sym (ap (λ s. slice_get (above low s) 0) no_entries)

  pub no_front-above : (low : Option Network) (room : ℕ) → [] ≡ take room (above low (finite.entries (peer_routes all peer)))
  no_front-above low room = sym (ap (λ s. take room (above low s)) no_entries ∙ take-nil room)

-- ---- the routes once those of a peer are taken

pub routes-taken : {S : Type 0} (routes : S → stored.Routes (Rc Route Global)) {old new : PeerStores S} {peer : Peer} {w : S} → IsUpdatedAt old new peer (Some w)
    → routes w ≡ finite.empty → (q : Pair) → finite.get (routes_in routes new) q ≡ cond (same_peer q.peer peer) None (finite.get (routes_in routes old) q)
routes-taken routes {old = old} {peer = peer} written none q =
    routes_in-other routes written q
    ∙ ap (λ r. cond (same_peer q.peer peer) r (finite.get (routes_in routes old) q)) (ap (option_map value_of) (ap (λ r. finite.get r q.prefix) none ∙ get-empty network_cmp q.prefix))

pub no_routes-taken : (all : Routes) (peer : Peer) → ((n : Network) → finite.get all (pair_of peer n) ≡ None) → (q : Pair) → finite.get all q ≡ cond (same_peer q.peer peer) None (finite.get all q)
no_routes-taken all peer none q = let one = one_peer q.peer peer in let no = none q.prefix in grind arith

-- ---- the peers that have a route

-- a peer is among these
abbrev pub has_peer : Peer → List Peer → Bool
has_peer p peers = list_any (same_peer p) peers

-- each peer as an entry
abbrev marked : {A : Type 0} → (A → Peer) → List A → List (Peer × Unit {0})
marked peer_of xs = map (λ x. (peer_of x, tt)) xs

-- what a mark is found as
abbrev mark_where : Bool → Option (Unit {0})
mark_where b = cond b (Some tt) None

find-marked : {A : Type 0} (peer_of : A → Peer) (p : Peer) (xs : List A) → find peer_cmp p (marked peer_of xs) ≡ mark_where (has_peer p (map peer_of xs))
find-marked peer_of p [] = refl
find-marked peer_of p (x ∷ xs) = grind (arith, find-marked peer_of p xs)

keys-marked : {A : Type 0} (peer_of : A → Peer) (xs : List A) → map (λ (e : Peer × Unit {0}). e.0) (marked peer_of xs) ≡ map peer_of xs
keys-marked peer_of [] = refl
keys-marked peer_of (x ∷ xs) = ap (λ s. peer_of x ∷ s) (keys-marked peer_of xs)

-- the first of some entries is found
some-entries : (e : Network × Route) (es : List (Network × Route)) → nat_lt 0 (finite.len (finite.from_entries {R = network_cmp} (e ∷ es))) ≡ true
some-entries e es =
    ap (λ n. nat_lt 0 n) (len-entries (finite.from_entries {R = network_cmp} (e ∷ es)))
    ∙ at (finite.entries (finite.from_entries {R = network_cmp} (e ∷ es)))
    (sym (get-entries (finite.from_entries {R = network_cmp} (e ∷ es)) e.0)
    ∙ get-from_entries network_cmp_total (e ∷ es) e.0
    ∙ ap (λ r. cond (is_eq r) (Some e.1) (find network_cmp e.0 es)) (tied_itself network_cmp_total e.0))
  where
    at : (xs : List (Network × Route)) → find network_cmp e.0 xs ≡ Some e.1 → nat_lt 0 (length xs) ≡ true
    at [] is = cc
    at (x ∷ xs) is = lt-ltb 0 (length (x ∷ xs)) (omega arith)

-- there are some where some were given
len-from_entries : (es : List (Network × Route)) → nat_lt 0 (finite.len (finite.from_entries {R = network_cmp} es)) ≡ nat_lt 0 (length es)
len-from_entries [] = ap (λ n. nat_lt 0 n) (len-empty network_cmp Route)
len-from_entries (e ∷ es) = some-entries e es ∙ sym (lt-ltb 0 (length (e ∷ es)) (omega arith))

some-of_peer : (p : Peer) (es : List (Pair × Route)) → has_peer p (map (λ (e : Pair × Route). e.0.peer) es) ≡ nat_lt 0 (length (of_peer p es))
some-of_peer p [] = refl
some-of_peer p (e ∷ es) = grind (arith, nat_tests, some-of_peer p es, peer_symm p e.0.peer)

-- a peer is among those of all routes where it has some
some-peer_routes : (all : Routes) (p : Peer) → has_peer p (map (λ (e : Pair × Route). e.0.peer) (finite.entries all)) ≡ nat_lt 0 (finite.len (peer_routes all p))
unfolding peer_routes
some-peer_routes all p = some-of_peer p (finite.entries all) ∙ sym (len-from_entries (of_peer p (finite.entries all)))

-- a peer that is below all is not among them
absent_peer : {A : Type 0} (p : Peer) (entries : List (Peer × A)) → AllByRecursion (λ y. peer_cmp p y ≡ Less) (keys_of entries) → has_peer p (keys_of entries) ≡ false
absent_peer p [] all = refl
absent_peer p (e ∷ entries) all = ap (λ r. is_eq r || has_peer p (keys_of entries)) all.0 ∙ absent_peer p entries all.1

-- where some go, a peer below all is below those that are left
below-filter : {A : Type 0} (has : Peer × A → Bool) (x : Peer) (es : List (Peer × A)) → AllByRecursion (λ y. peer_cmp x y ≡ Less) (keys_of es) → AllByRecursion (λ y. peer_cmp x y ≡ Less) (keys_of (filter has es))
below-filter has x [] all = tt
below-filter has x (e ∷ es) all =
    let rest = below-filter has x es all.1 in
    elim (has e) as (λ b. AllByRecursion (λ y. peer_cmp x y ≡ Less) (keys_of (cond b (e ∷ filter has es) (filter has es)))) [ true ↦ (all.0, rest) | false ↦ rest ]

below-marked : {A : Type 0} (x : Peer) (es : List (Peer × A)) → AllByRecursion (λ y. peer_cmp x y ≡ Less) (keys_of es) → below_all peer_cmp x (marked (λ e. e.0) es) ≡ true
below-marked x [] all = refl
below-marked x (e ∷ es) all = ap (λ r. is_lt r && below_all peer_cmp x (marked (λ e. e.0) es)) all.0 ∙ below-marked x es all.1

sorted-marked : {A : Type 0} (has : Peer × A → Bool) (es : List (Peer × A)) → IsStrictlySortedBy peer_cmp (keys_of es) → is_sorted peer_cmp (marked (λ e. e.0) (filter has es)) ≡ true
sorted-marked has [] sorted = refl
sorted-marked has (e ∷ es) sorted =
    let low = below-marked e.0 (filter has es) (below-filter has e.0 es (sorted_head peer_cmp e.0 (keys_of es) sorted)) in
    let rest = sorted-marked has es (sorted_tail peer_cmp e.0 (keys_of es) sorted) in
    grind arith

-- two filters are one
filter_twice : {A : Type 0} (p q : A → Bool) (xs : List A) → filter p (filter q xs) ≡ filter (λ x. q x && p x) xs
filter_twice p q [] = refl
filter_twice p q (x ∷ xs) = grind (arith, filter_twice p q xs)

keys-filter : {A : Type 0} (p : Peer → Bool) (es : List (Peer × A)) → keys_of (filter (λ e. p e.0) es) ≡ filter p (keys_of es)
keys-filter p [] = refl
keys-filter p (e ∷ es) = grind (arith, keys-filter p es)

-- the store of a peer that is below all others is not among those
not_below : {A : Type 0} (p : Peer) (es : List (Peer × A)) (a : A) → AllByRecursion (λ y. peer_cmp p y ≡ Less) (keys_of es) → store_at es p ≡ Some a → ⊥
not_below p [] a all found = cc
not_below p (e ∷ es) a all found = not_below p es a all.1 (sym (ap (λ r. cond (is_eq r) (Some e.1) (store_at es p)) all.0) ∙ found)

-- the first of those that pass is the store of its peer
first_found : {A : Type 0} (p : Peer × A → Bool) (es : List (Peer × A)) (e : Peer × A) → IsStrictlySortedBy peer_cmp (keys_of es) → slice_get (filter p es) 0 ≡ Some e → store_at es e.0 ≡ Some e.1
first_found p [] e sorted is = cc
first_found {A} p (x ∷ es) e sorted is =
    let later = first_found p es e (sorted_tail peer_cmp x.0 (keys_of es) sorted) in
    elim (p x) as (λ b. slice_get (cond b (x ∷ filter p es) (filter p es)) 0 ≡ Some e → store_at (x ∷ es) e.0 ≡ Some e.1) [
      | true ↦ λ is. ap (λ (y : Peer × A). store_at (x ∷ es) y.0) (sym (same_Some x e is)) ∙ ap (λ r. cond (is_eq r) (Some x.1) (store_at es x.0)) (tied_itself peer_cmp_total x.0) ∙ ap (λ (y : Peer × A). Some y.1) (same_Some x e is)
      | false ↦ λ is. elim (same_peer e.0 x.0) as (λ c. same_peer e.0 x.0 ≡ c → cond c (Some x.1) (store_at es e.0) ≡ Some e.1) [
        | true ↦ λ f. absurd (not_below x.0 es e.1 (sorted_head peer_cmp x.0 (keys_of es) sorted) (ap (store_at es) (sym (one_peer e.0 x.0 f)) ∙ later is))
        | false ↦ λ f. later is
      ] refl
    ] is

module _ {S : Type 0} (routes : S → stored.Routes (Rc Route Global)) where
  abbrev has_route : Peer × S → Bool
  has_route entry = nat_lt 0 (finite.len (routes entry.1))

  -- whether a store, if there is one, has a route
  abbrev store_has_route : Option S → Bool
  store_has_route None = false
  store_has_route (Some store) = nat_lt 0 (finite.len (routes store))

  has-routed_stores : (p : Peer) (stores : PeerStores S) → IsStrictlySortedBy peer_cmp (keys_of stores) → has_peer p (keys_of (routed_stores routes stores)) ≡ store_has_route (store_at stores p)
  has-routed_stores p [] sorted = refl
  has-routed_stores p (e ∷ stores) sorted =
      let later = has-routed_stores p stores (sorted_tail peer_cmp e.0 (keys_of stores) sorted) in
      let one = one_peer p e.0 in
      let none = absent_peer e.0 (routed_stores routes stores) (below-filter has_route e.0 stores (sorted_head peer_cmp e.0 (keys_of stores) sorted)) in
      grind arith

  pub some-routes_in : (stores : PeerStores S) (all : Routes) (p : Peer) (store : Option S) → store ≡ store_at stores p → routes_in routes stores ≡ all → nat_lt 0 (finite.len (peer_routes all p)) ≡ store_has_route store
  some-routes_in stores all p None found e = ap (λ n. nat_lt 0 n) (len-entries (peer_routes all p) ∙ ap length (no_entries all p (λ n. sym (get-found routes stores all (pair_of p n) None found e))))
  some-routes_in stores all p (Some store) found e = ap (λ n. nat_lt 0 n) (len-of_peer (routes store) all p (λ n. get-found routes stores all (pair_of p n) (Some store) found e))

  -- the peers with a route are those of the stores with a route
  keys-routed_stores : (stores : PeerStores S) (all : Routes) → IsStrictlySortedBy peer_cmp (keys_of stores) → routes_in routes stores ≡ all → routed_peers all ≡ keys_of (routed_stores routes stores)
  unfolding routed_peers
  keys-routed_stores stores all sorted e =
      let marks = marked (λ (entry : Peer × S). entry.0) (routed_stores routes stores) in
      let routed = marked (λ (entry : Pair × Route). entry.0.peer) (finite.entries all) in
      let peers = finite.from_entries {R = peer_cmp} routed in
      ap (map (λ (entry : Peer × Unit {0}). entry.0)) (same_entries peer_cmp peer_cmp_total peer_cmp-IsAntisymmetric (finite.entries peers) marks
      (finite.entries_sorted peers) (subst T (sym (sorted-marked has_route stores sorted)) tt) (λ p.
      sym (get-entries peers p)
      ∙ get-from_entries peer_cmp_total routed p
      ∙ find-marked (λ (entry : Pair × Route). entry.0.peer) p (finite.entries all)
      ∙ ap mark_where (some-peer_routes all p ∙ some-routes_in stores all p (store_at stores p) refl e ∙ sym (has-routed_stores p stores sorted))
      ∙ sym (find-marked (λ (entry : Peer × S). entry.0) p (routed_stores routes stores))))
      ∙ keys-marked (λ (entry : Peer × S). entry.0) (routed_stores routes stores)

  -- the stores above a peer that have a route
  abbrev stores_above : Option Peer → PeerStores S → PeerStores S
  stores_above low stores = filter (λ (entry : Peer × S). has_route entry && is_above_bound peer_cmp low entry.0) stores

  shown-above : (low : Option Peer) (test : Peer → Bool) (stores : PeerStores S) → ((p : Peer) → test p ≡ is_above_bound peer_cmp low p)
      → routed_stores routes (filter (λ (entry : Peer × S). test entry.0) stores) ≡ stores_above low stores
  shown-above low test stores same =
      filter_twice has_route (λ (entry : Peer × S). test entry.0) stores
      ∙ filter_agree (λ (entry : Peer × S). test entry.0 && has_route entry) (λ (entry : Peer × S). has_route entry && is_above_bound peer_cmp low entry.0)
      (λ entry. ap (λ b. b && has_route entry) (same entry.0) ∙ and_comm (is_above_bound peer_cmp low entry.0) (has_route entry)) stores

  keys-above : (low : Option Peer) (stores : PeerStores S) → keys_of (stores_above low stores) ≡ peers_above low (keys_of (routed_stores routes stores))
  keys-above low stores =
      ap keys_of (sym (filter_twice (λ (entry : Peer × S). is_above_bound peer_cmp low entry.0) has_route stores))
      ∙ keys-filter (is_above_bound peer_cmp low) (routed_stores routes stores)

  -- the first of these, and its count
  pub first_counted : (low : Option Peer) (test : Peer → Bool) (stores shown : PeerStores S) (all : Routes) → ((p : Peer) → test p ≡ is_above_bound peer_cmp low p)
      → IsStrictlySortedBy peer_cmp (keys_of stores) → shown ≡ filter (λ (entry : Peer × S). test entry.0) stores → routes_in routes stores ≡ all
      → option_map (peer_count routes) (slice_get (routed_stores routes shown) 0)
      ≡ option_map {U = Peer × ℕ} (λ p. (p, saturated_count (finite.len (peer_routes all p)))) (slice_get (peers_above low (routed_peers all)) 0)
  first_counted low test stores shown all same sorted is e =
      ap (λ s. option_map (peer_count routes) (slice_get s 0)) (ap (routed_stores routes) is ∙ shown-above low test stores same)
      ∙ at (slice_get (stores_above low stores) 0) refl
      ∙ ap (option_map {U = Peer × ℕ} (λ p. (p, saturated_count (finite.len (peer_routes all p))))) (sym (slice_get-map (λ (entry : Peer × S). entry.0) (stores_above low stores) 0)
      ∙ ap (λ s. slice_get s 0) (keys-above low stores ∙ ap (peers_above low) (sym (keys-routed_stores stores all sorted e))))
    where
      at : (first : Option (Peer × S)) → slice_get (stores_above low stores) 0 ≡ first
          → option_map (peer_count routes) first ≡ option_map {U = Peer × ℕ} (λ p. (p, saturated_count (finite.len (peer_routes all p)))) (option_map {U = Peer} (λ (entry : Peer × S). entry.0) first)
      at None f = refl
      at (Some entry) f =
          ap (λ n. Some (entry.0, saturated_count n)) (sym (len-of_peer (routes entry.1) all entry.0 (λ n. get-found routes stores all (pair_of entry.0 n) (Some entry.1)
          (sym (first_found (λ (entry : Peer × S). has_route entry && is_above_bound peer_cmp low entry.0) stores entry sorted f)) e)))

  -- a count of at least 1 is that of a store with a route
  pub routed-more : (peer : Peer) (store : S) (rest : PeerStores S) (n : ℕ) → n ≡ saturated_count (finite.len (routes store)) → 0 < n
      → routed_stores routes ((peer, store) ∷ rest) ≡ (peer, store) ∷ routed_stores routes rest
  routed-more peer store rest n is some = ap (λ b. cond b ((peer, store) ∷ routed_stores routes rest) (routed_stores routes rest)) (lt-ltb 0 (finite.len (routes store)) (omega (arith, is, some)))

  pub routed-none : (peer : Peer) (store : S) (rest : PeerStores S) (n : ℕ) → n ≡ saturated_count (finite.len (routes store)) → n ≤ 0
      → routed_stores routes ((peer, store) ∷ rest) ≡ routed_stores routes rest
  routed-none peer store rest n is none = ap (λ b. cond b ((peer, store) ∷ routed_stores routes rest) (routed_stores routes rest)) (le-ltb 0 (finite.len (routes store)) (omega (arith, is, none)))

-- ---- the list of peers

-- a peer is listed where it has a route
pub has-routed_peers : (all : Routes) (p : Peer) → has_peer p (routed_peers all) ≡ nat_lt 0 (finite.len (peer_routes all p))
unfolding routed_peers
has-routed_peers all p =
    let peers = marked (λ (entry : Pair × Route). entry.0.peer) (finite.entries all) in
    sym (contains_key-keys (finite.from_entries {R = peer_cmp} peers) p)
    ∙ ap is_some (get-from_entries peer_cmp_total peers p ∙ find-marked (λ (entry : Pair × Route). entry.0.peer) p (finite.entries all))
    ∙ (let some = some-peer_routes all p in grind arith)

pub peers-in_order : (all : Routes) → IsStrictlySortedBy peer_cmp (routed_peers all)
unfolding routed_peers
peers-in_order all = keys-in_order (finite.from_entries {X = Unit {0}} {R = peer_cmp} (marked (λ (entry : Pair × Route). entry.0.peer) (finite.entries all)))

-- the first above a peer, and those above it
pub peers-next : (low : Option Peer) (ps : List Peer) (p : Peer) → IsStrictlySortedBy peer_cmp ps → slice_get (peers_above low ps) 0 ≡ Some p
    → peers_above low ps ≡ p ∷ peers_above (Some p) ps
peers-next low ps p sorted is = higher-next peer_cmp_total (λ p. p) low ps p (subst (IsStrictlySortedBy peer_cmp) (sym (map-id ps)) sorted) is

pub all-peers : (ps : List Peer) → peers_above None ps ≡ ps
all-peers [] = refl
all-peers (p ∷ ps) = grind (arith, all-peers ps)
