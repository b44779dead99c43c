-- What the stores of all peers hold together, pair by pair.
pub use Rattle.std.proofs.lemmas.Option.{same_Some as one_of}
use Rattle.std.proofs.Common.{◌≡◌, ℕ, zero, suc, ◌+◌, ◌<◌, Bool, true, false, cond, not, nat_lt, ◌||◌, ◌&&◌, List, [], ◌∷◌, map, Option, Some, None, IfSome, IfNone, Result, Ok, Err, OnOk, OnErr, OnSome, Bor, MutBor, refl, sym, ap, subst, ◌∙◌, arith, Global}
use Rattle.std.specs.List.{list_any, flat_map, filter}
use Rattle.std.specs.Option.{option_map, option_copied, option_copied_mut}
use Rattle.std.specs.Map.{lookup}
use Rattle.std.specs.Ordering.{eq_by_cmp}
use Rattle.std.proofs.lemmas.Bool.{lt-ltb}
use Rattle.std.specs.Cmp.{eq_by_cmp_equiv, Equal-is, both_tied}
use Rattle.std.specs.FinMap as finite
use Rattle.std.specs.FinMap.{contains_key-keys}
use Rattle.std.specs.FinSet as set
use Rattle.std.specs.FinSet.{contains-from_list, contains-insert, contains-remove, contains-items, contains-empty, same_set, len-insert}
use Rattle.std.specs.declared.rc.Rc.{Rc}
use Rattle.std.proofs.lemmas.List.Folds.{list_any-append}
use Rattle.std.proofs.lemmas.Map.Views.{any-filter_same}
use Rattle.ip_prefix.specs.Network.{Network, network_cmp}
use Rattle.ip_prefix.specs.OrderLaws.{network_cmp_total}
use Rattle.prefix_store.specs.Stored as stored
use Rattle.prefix_store.proofs.PutLaws.{get-put}
use Rattle.mrt_events.specs.declared.peer.Peer.{Peer}
use Rattle.rib_player.specs.declared.pair.Pair.{Pair}
use Rattle.mrt_events.specs.declared.event.Route.{Route}
use Rattle.mrt_events.specs.Event.{peer_cmp}
use Rattle.rib_player.specs.History.{pair_cmp, pair_of}
use Rattle.prefix_store.specs.Stored.{put}
use Rattle.rib_player.specs.Tables.{Routes, Pairs, PeerStores, store_at, has_key, stored_route, pointed_route, keys_in, routes_in}
use Rattle.rib_player.specs.Representation.{HaveKeys, IsUpdatedAt, route_presence}
use Rattle.rib_player.specs.Lent.{IsLent}
use Rattle.rib_player.specs.StoresByPeer.{stores_in}
use Rattle.rib_player.specs.Noted.{routed_marks}
use Rattle.rib_player.specs.declared.stores.Stores as numbered
use Rattle.rib_player.specs.Lookups.{value_of}
use Rattle.octet_forms.proofs.Booleans.{cond_untested}
use Rattle.mrt_events.proofs.PeerLaws.{peer_cmp_total, peer_cmp-IsAntisymmetric}
use Rattle.rib_player.proofs.PairLaws.{pair_cmp_total, pair_cmp-IsAntisymmetric, same_pair}
use Rattle.rib_player.proofs.TableLaws.{same_routes, get-tabulation}

abbrev pub same_peer : Peer → Peer → Bool
same_peer = eq_by_cmp peer_cmp

abbrev pub same_network : Network → Network → Bool
same_network = eq_by_cmp network_cmp

-- what holds where an option is some
pub when_some : {A P : Type 0} (o : Option A) (x : A) → o ≡ Some x → OnSome o P → P
when_some {P = P} o x is on = subst (λ o. OnSome o P) is on

pub if_some : {A P : Type 0} (o : Option A) (x : A) → o ≡ Some x → IfSome o (λ _. P) → P
if_some {P = P} o x is on = subst (λ o. IfSome o (λ _. P)) is on

pub if_ever : {A P : Type 0} (o : Option A) → P → IfSome o (λ _. P)
if_ever None p = tt
if_ever (Some x) p = p

pub if_none : {A : Type 0} (P : Type 0) (o : Option A) → o ≡ None → IfSome o (λ _. P)
if_none P o is = subst (λ o. IfSome o (λ _. P)) (sym is) tt

pub always : {A P : Type 0} (o : Option A) → P → OnSome o P
always None p = tt
always (Some x) p = p

pub never : {A : Type 0} (P : Type 0) (o : Option A) → o ≡ None → OnSome o P
never P o is = subst (λ o. OnSome o P) (sym is) tt

-- peers that tie are one
pub one_peer : (a b : Peer) → same_peer a b ≡ true → a ≡ b
one_peer a b e = peer_cmp-IsAntisymmetric a b ((Equal-is (peer_cmp a b)).0 e)

pub peer_symm : (a b : Peer) → same_peer a b ≡ same_peer b a
peer_symm a b = (eq_by_cmp_equiv peer_cmp_total).symm a b

-- keys that contain the same pairs are one
pub same_pairs : (a b : Pairs) → ((q : Pair) → set.contains a q ≡ set.contains b q) → a ≡ b
same_pairs a b same = same_set pair_cmp_total pair_cmp-IsAntisymmetric a b same

-- pairs tie where their peers and their prefixes do
pub tied_parts : (q : Pair) (peer : Peer) (n : Network) → eq_by_cmp pair_cmp q (pair_of peer n) ≡ (same_peer q.peer peer && same_network q.prefix n)
tied_parts q peer n = sym (both_tied _ _ (peer_cmp q.peer peer) (network_cmp q.prefix n) refl refl)

-- a pair is among those of a peer where its prefix is among the prefixes
pub any-pairs : (q : Pair) (peer : Peer) (ns : List Network) → list_any (eq_by_cmp pair_cmp q) (map (pair_of peer) ns) ≡ (same_peer q.peer peer && list_any (same_network q.prefix) ns)
any-pairs q peer [] = grind arith
any-pairs q peer (n ∷ ns) = let parts = tied_parts q peer n in grind (arith, any-pairs q peer ns)

-- what is read of each pair's store, where a peer's store is another
module _ {S V : Type 0} (read : Option S → Network → V) {old new : PeerStores S} {peer : Peer} {w : Option S} (written : IsUpdatedAt old new peer w) where
  read-other : (q : Pair) → read (store_at new q.peer) q.prefix ≡ cond (same_peer q.peer peer) (read w q.prefix) (read (store_at old q.peer) q.prefix)
  read-other q = let is = written.each q.peer in grind (arith, peer_symm peer q.peer)

  read-changed : (change : Network → V → V) → ((x : Network) → read w x ≡ change x (read (store_at old peer) x)) → (q : Pair)
      → read (store_at new q.peer) q.prefix ≡ cond (same_peer q.peer peer) (change q.prefix (read (store_at old q.peer) q.prefix)) (read (store_at old q.peer) q.prefix)
  read-changed change is q =
      let one = one_peer q.peer peer in
      read-other q ∙ grind (arith, is q.prefix)

either_same : {A : Type 0} (b : Bool) (x : A) → cond b x x ≡ x
either_same b x = grind arith

-- of one peer, a key that is put or goes, and a route that is put
inserted-key : (keys : Pairs) (peer : Peer) (n : Network) (q : Pair)
    → cond (same_peer q.peer peer) (same_network q.prefix n || set.contains keys q) (set.contains keys q) ≡ set.contains (set.insert keys (pair_of peer n)) q
inserted-key keys peer n q = let more = contains-insert pair_cmp_total keys (pair_of peer n) q in grind (arith, tied_parts q peer n)

removed-key : (keys : Pairs) (peer : Peer) (n : Network) (q : Pair)
    → cond (same_peer q.peer peer) (not (same_network q.prefix n) && set.contains keys q) (set.contains keys q) ≡ set.contains (set.remove keys (pair_of peer n)) q
removed-key keys peer n q = let less = contains-remove pair_cmp_total keys (pair_of peer n) q in grind (arith, tied_parts q peer n)

put-route : (routes : Routes) (peer : Peer) (n : Network) (route : Option Route) (q : Pair)
    → cond (same_peer q.peer peer) (cond (same_network q.prefix n) route (finite.get routes q)) (finite.get routes q) ≡ finite.get (put routes (pair_of peer n) route) q
put-route routes peer n route q = let there = get-put pair_cmp_total routes (pair_of peer n) route q in grind (arith, tied_parts q peer n)

module _ {S : Type 0} (keys : S → stored.Keys) where
  abbrev key_pairs : PeerStores S → List Pair
  key_pairs stores = flat_map (λ (entry : Peer × S). map (pair_of entry.0) (set.items (keys entry.1))) stores

  -- a key of a pair's store is among the keys of all
  key_among : (stores : PeerStores S) (q : Pair) → (has_key keys (store_at stores q.peer) q.prefix && list_any (eq_by_cmp pair_cmp q) (key_pairs stores)) ≡ has_key keys (store_at stores q.peer) q.prefix
  key_among [] q = refl
  key_among (entry ∷ stores) q =
      let both = list_any-append (eq_by_cmp pair_cmp q) (map (pair_of entry.0) (set.items (keys entry.1))) (key_pairs stores) in
      let own = any-pairs q entry.0 (set.items (keys entry.1)) in
      let key = contains-items (keys entry.1) q.prefix in
      let later = key_among stores q in
      grind arith

  -- a pair is a key where its prefix is a key of its peer's store
  pub contains-keys_in : (stores : PeerStores S) (q : Pair) → set.contains (keys_in keys stores) q ≡ has_key keys (store_at stores q.peer) q.prefix
  unfolding keys_in
  contains-keys_in stores q =
      let test = λ (p : Pair). has_key keys (store_at stores p.peer) p.prefix in
      contains-from_list pair_cmp_total (filter test (key_pairs stores)) q
      ∙ any-filter_same (eq_by_cmp pair_cmp q) test (test q) (λ p e. ap test (sym (same_pair q p e))) (key_pairs stores)
      ∙ key_among stores q

  -- a peer's store is another, or goes
  module _ {old new : PeerStores S} {peer : Peer} {w : Option S} (written : IsUpdatedAt old new peer w) where
    pub keys_in-other : (q : Pair) → set.contains (keys_in keys new) q ≡ cond (same_peer q.peer peer) (has_key keys w q.prefix) (set.contains (keys_in keys old) q)
    keys_in-other q = contains-keys_in new q ∙ read-other (has_key keys) written q ∙ ap (cond (same_peer q.peer peer) (has_key keys w q.prefix)) (sym (contains-keys_in old q))

    keys_in-changed : (change : Network → Bool → Bool) → ((x : Network) → has_key keys w x ≡ change x (has_key keys (store_at old peer) x)) → (q : Pair)
        → set.contains (keys_in keys new) q ≡ cond (same_peer q.peer peer) (change q.prefix (set.contains (keys_in keys old) q)) (set.contains (keys_in keys old) q)
    keys_in-changed change is q =
        contains-keys_in new q ∙ read-changed (has_key keys) written change is q
        ∙ ap (λ b. cond (same_peer q.peer peer) (change q.prefix b) b) (sym (contains-keys_in old q))

    pub keys_in-insert : (n : Network) → ((x : Network) → has_key keys w x ≡ (same_network x n || has_key keys (store_at old peer) x))
        → keys_in keys new ≡ set.insert (keys_in keys old) (pair_of peer n)
    keys_in-insert n is = same_pairs _ _ (λ q. keys_in-changed (λ x b. same_network x n || b) is q ∙ inserted-key (keys_in keys old) peer n q)

    pub keys_in-remove : (n : Network) → ((x : Network) → has_key keys w x ≡ (not (same_network x n) && has_key keys (store_at old peer) x))
        → keys_in keys new ≡ set.remove (keys_in keys old) (pair_of peer n)
    keys_in-remove n is = same_pairs _ _ (λ q. keys_in-changed (λ x b. not (same_network x n) && b) is q ∙ removed-key (keys_in keys old) peer n q)

    pub keys_in-same : ((x : Network) → has_key keys w x ≡ has_key keys (store_at old peer) x)
        → keys_in keys new ≡ keys_in keys old
    keys_in-same is = same_pairs _ _ (λ q. keys_in-changed (λ x b. b) is q ∙ either_same (same_peer q.peer peer) _)

    -- no store without a key
    pub held-other : HaveKeys keys old → IfSome w (λ store. 0 < set.len (keys store)) → HaveKeys keys new
    held-other held one p =
        subst (λ s. IfSome s (λ store. 0 < set.len (keys store))) (sym (written.each p))
        (elim (same_peer peer p) as (λ a. IfSome (cond a w (store_at old p)) (λ store. 0 < set.len (keys store))) [ true ↦ one | false ↦ held p ])

module _ {S : Type 0} (routes : S → stored.Routes (Rc Route Global)) where
  abbrev route_pairs : PeerStores S → List Pair
  route_pairs stores = flat_map (λ (entry : Peer × S). map (pair_of entry.0) (finite.keys (routes entry.1))) stores

  -- a pair that is not among those with routes has none
  no_route : (stores : PeerStores S) (q : Pair) → list_any (eq_by_cmp pair_cmp q) (route_pairs stores) ≡ false → stored_route routes (store_at stores q.peer) q.prefix ≡ None
  no_route [] q e = refl
  no_route (entry ∷ stores) q e =
      let both = list_any-append (eq_by_cmp pair_cmp q) (map (pair_of entry.0) (finite.keys (routes entry.1))) (route_pairs stores) in
      let own = any-pairs q entry.0 (finite.keys (routes entry.1)) in
      let key = contains_key-keys (routes entry.1) q.prefix in
      let later = no_route stores q in
      grind arith

  -- the route at a pair is that of its peer's store
  pub get-routes_in : (stores : PeerStores S) (q : Pair) → finite.get (routes_in routes stores) q ≡ stored_route routes (store_at stores q.peer) q.prefix
  unfolding routes_in
  get-routes_in stores q =
      get-tabulation (λ p. stored_route routes (store_at stores p.peer) p.prefix) (route_pairs stores) q
      ∙ cond_untested (list_any (eq_by_cmp pair_cmp q) (route_pairs stores)) (stored_route routes (store_at stores q.peer) q.prefix) None (no_route stores q)

  -- a peer's store is another, or goes
  module _ {old new : PeerStores S} {peer : Peer} {w : Option S} (written : IsUpdatedAt old new peer w) where
    pub routes_in-other : (q : Pair) → finite.get (routes_in routes new) q ≡ cond (same_peer q.peer peer) (stored_route routes w q.prefix) (finite.get (routes_in routes old) q)
    routes_in-other q = get-routes_in new q ∙ read-other (stored_route routes) written q ∙ ap (cond (same_peer q.peer peer) (stored_route routes w q.prefix)) (sym (get-routes_in old q))

    routes_in-changed : (change : Network → Option Route → Option Route) → ((x : Network) → stored_route routes w x ≡ change x (stored_route routes (store_at old peer) x)) → (q : Pair)
        → finite.get (routes_in routes new) q ≡ cond (same_peer q.peer peer) (change q.prefix (finite.get (routes_in routes old) q)) (finite.get (routes_in routes old) q)
    routes_in-changed change is q =
        get-routes_in new q ∙ read-changed (stored_route routes) written change is q
        ∙ ap (λ r. cond (same_peer q.peer peer) (change q.prefix r) r) (sym (get-routes_in old q))

    pub routes_in-put : (n : Network) (route : Option Route) → ((x : Network) → stored_route routes w x ≡ cond (same_network x n) route (stored_route routes (store_at old peer) x))
        → routes_in routes new ≡ put (routes_in routes old) (pair_of peer n) route
    routes_in-put n route is = same_routes _ _ (λ q. routes_in-changed (λ x r. cond (same_network x n) route r) is q ∙ put-route (routes_in routes old) peer n route q)

    pub routes_in-same : ((x : Network) → stored_route routes w x ≡ stored_route routes (store_at old peer) x)
        → routes_in routes new ≡ routes_in routes old
    routes_in-same is = same_routes _ _ (λ q. routes_in-changed (λ x r. r) is q ∙ either_same (same_peer q.peer peer) _)

-- no stores
pub keys_in-none : {S : Type 0} (keys : S → stored.Keys) (stores : PeerStores S) → stores ≡ [] → keys_in keys stores ≡ set.empty
unfolding keys_in
keys_in-none keys stores e = ap (keys_in keys) e

pub routes_in-none : {S : Type 0} (routes : S → stored.Routes (Rc Route Global)) (stores : PeerStores S) → stores ≡ [] → routes_in routes stores ≡ finite.empty
unfolding routes_in
routes_in-none routes stores e = ap (routes_in routes) e

-- the route behind a reference to a slot's
pub route-copied : (shared : Option (Bor (Rc Route Global))) → option_map (λ route. route.now.value) shared ≡ option_map (λ shared. shared.value) (option_copied shared)
route-copied shared = grind arith

-- a table has the route that its peer's store has
pub get-found : {S : Type 0} (routes : S → stored.Routes (Rc Route Global)) (stores : PeerStores S) (all : Routes) (q : Pair) (store : Option S) → store ≡ store_at stores q.peer → routes_in routes stores ≡ all
    → stored_route routes store q.prefix ≡ finite.get all q
get-found routes stores all q store found e = ap (λ s. stored_route routes s q.prefix) found ∙ sym (get-routes_in routes stores q) ∙ ap (λ r. finite.get r q) e

-- and the key that it has
pub contains-found : {S : Type 0} (keys : S → stored.Keys) (stores : PeerStores S) (all : Pairs) (q : Pair) (store : Option S) → store ≡ store_at stores q.peer → keys_in keys stores ≡ all
    → has_key keys store q.prefix ≡ set.contains all q
contains-found keys stores all q store found e = ap (λ s. has_key keys s q.prefix) found ∙ sym (contains-keys_in keys stores q) ∙ ap (λ k. set.contains k q) e

-- the store that a look-up finds
pub store-keys : {S : Type 0} (keys : S → stored.Keys) (stores : PeerStores S) (all : Pairs) (peer : Peer) (found : Option (Bor S)) → option_copied found ≡ store_at stores peer → keys_in keys stores ≡ all
    → IfSome found (λ store. (n : Network) → set.contains (keys store.now) n ≡ set.contains all (pair_of peer n))
store-keys keys stores all peer None is e = tt
store-keys keys stores all peer (Some store) is e = λ n. contains-found keys stores all (pair_of peer n) (Some store.now) is e

pub store-routes : {S : Type 0} (routes : S → stored.Routes (Rc Route Global)) (stores : PeerStores S) (all : Routes) (peer : Peer) (found : Option (Bor S)) → option_copied found ≡ store_at stores peer → routes_in routes stores ≡ all
    → IfSome found (λ store. (n : Network) → option_map value_of (finite.get (routes store.now) n) ≡ finite.get all (pair_of peer n))
store-routes routes stores all peer None is e = tt
store-routes routes stores all peer (Some store) is e = λ n. get-found routes stores all (pair_of peer n) (Some store.now) is e

-- a peer without a store has no route
pub store-absent : {S : Type 0} (routes : S → stored.Routes (Rc Route Global)) (stores : PeerStores S) (all : Routes) (peer : Peer) (found : Option (Bor S)) → option_copied found ≡ store_at stores peer → routes_in routes stores ≡ all
    → IfNone found ((n : Network) → finite.get all (pair_of peer n) ≡ None)
store-absent routes stores all peer None is e = λ n. sym (get-found routes stores all (pair_of peer n) None is e)
store-absent routes stores all peer (Some store) is e = tt

pub store-some : {S : Type 0} (keys : S → stored.Keys) (stores : PeerStores S) (peer : Peer) (found : Option (Bor S)) → option_copied found ≡ store_at stores peer → HaveKeys keys stores
    → IfSome found (λ store. 0 < set.len (keys store.now))
store-some keys stores peer None is held = tt
store-some keys stores peer (Some store) is held = subst (λ s. IfSome s (λ store. 0 < set.len (keys store))) (sym is) (held peer)

pub store-none : {S : Type 0} (keys : S → stored.Keys) (stores : PeerStores S) (all : Pairs) (peer : Peer) (found : Option (Bor S)) → option_copied found ≡ store_at stores peer → keys_in keys stores ≡ all
    → IfNone found ((n : Network) → set.contains all (pair_of peer n) ≡ false)
store-none keys stores all peer None is e = λ n. sym (contains-found keys stores all (pair_of peer n) None is e)
store-none keys stores all peer (Some store) is e = tt

-- a key has a store
pub key-has-store : {S : Type 0} (keys : S → stored.Keys) (stores : PeerStores S) (all : Pairs) (q : Pair) → keys_in keys stores ≡ all → set.contains all q ≡ true → None ≡ store_at stores q.peer → ⊥
key-has-store keys stores all q e there none =
    let lost : false ≡ true = contains-found keys stores all q None none e ∙ there in
    cc

-- a route put into a store
pub stored-put : (old new : stored.Routes (Rc Route Global)) (n : Network) (route : Option (Rc Route Global)) → new ≡ stored.put old n route
    → (x : Network) → option_map value_of (finite.get new x) ≡ cond (same_network x n) (pointed_route route) (option_map value_of (finite.get old x))
stored-put old new n route e x =
    ap (λ r. option_map value_of (finite.get r x)) e
    ∙ ap (option_map value_of) (get-put network_cmp_total old n route x)
    ∙ at (same_network x n)
  where
    at : (b : Bool) → option_map value_of (cond b route (finite.get old x)) ≡ cond b (pointed_route route) (option_map value_of (finite.get old x))
    at true = refl
    at false = refl

-- keys with one more are some
pub some-insert : (keys keys' : stored.Keys) (n : Network) → keys' ≡ set.insert keys n → 0 < set.len keys'
some-insert keys keys' n e =
    let more : set.len keys' ≡ cond (set.contains keys n) (set.len keys) (set.len keys + 1) = ap set.len e ∙ len-insert network_cmp_total keys n in
    at (set.contains keys n) refl more
  where
    at : (b : Bool) → set.contains keys n ≡ b → set.len keys' ≡ cond b (set.len keys) (set.len keys + 1) → 0 < set.len keys'
    at true there more = subst (λ m. 0 < m) (sym more) (pos (set.len keys) refl)
      where
        pos : (m : ℕ) → set.len keys ≡ m → 0 < set.len keys
        pos zero none =
            let gone : set.contains keys n ≡ false = ap (λ k. set.contains k n) (set.empty_of_len keys none) ∙ contains-empty network_cmp n in
            let wrong : true ≡ false = sym there ∙ gone in
            cc
        pos (suc m) some = omega arith
    at false absent more = omega (arith, more)

-- what holds of an answer and of a refusal alike
pub either : {A E P : Type 0} (r : Result A E) → OnOk r P → OnErr r P → P
either (Ok a) p q = p
either (Err e) p q = q

pub no_value : (found : Option (Rc Route Global)) → option_map value_of found ≡ None → found ≡ None
no_value None e = refl
no_value (Some shared) e = cc

-- what was written and then written again
pub written-twice : {A : Type 0} {old between new : List (Peer × A)} {peer : Peer} {v w : Option A} → IsUpdatedAt old between peer v → IsUpdatedAt between new peer w → IsUpdatedAt old new peer w
written-twice {old = old} {peer = peer} {v = v} {w = w} first second = record { each = λ p. second.each p ∙ ap (cond (same_peer peer p) w) (first.each p) ∙ at (same_peer peer p) (store_at old p) }
  where
    at : (b : Bool) (x : Option _) → cond b w (cond b v x) ≡ cond b w x
    at true x = refl
    at false x = refl

-- a peer's store was written
pub record IsStored {S : Type 0} (old new : PeerStores S) (peer : Peer) (before after : S) : Type 0 where
  pub found : Some before ≡ store_at old peer
  pub written : IsUpdatedAt old new peer (Some after)

-- the store that is lent where a peer is looked for
pub stored-lent : {S : Type 0} (old new : numbered.Stores S) {peer : Peer} {after : S} (lent : Option (MutBor S)) (x : MutBor S) → lent ≡ Some x → option_copied_mut lent ≡ store_at (stores_in old) peer
    → OnSome lent (IsLent old new peer after) → IsStored (stores_in old) (stores_in new) peer x.now after
stored-lent old new lent x is value on = record { found = sym (ap option_copied_mut is) ∙ value; written = (when_some lent x is on).written }

-- and what was noted
abbrev pub AreNoted : {S : Type 0} → (S → stored.Routes (Rc Route Global)) → PeerStores S → List (Peer × Bool) → Type 0
AreNoted routes stores routed = (p : Peer) → lookup (same_peer p) routed ≡ route_presence routes (store_at stores p)

-- a count that is more than none
saturated_count-some : (n : ℕ) → nat_lt 0 (stored.saturated_count n) ≡ nat_lt 0 n
saturated_count-some zero = refl
saturated_count-some (suc n) = lt-ltb 0 (stored.saturated_count (suc n)) (omega arith) ∙ sym (lt-ltb 0 (suc n) (omega arith))

module _ {S : Type 0} (routes : S → stored.Routes (Rc Route Global)) where
  pub noted-other : {old new : PeerStores S} {routed routed' : List (Peer × Bool)} {peer : Peer} {w : Option S} {is : Option Bool} → IsUpdatedAt old new peer w → IsUpdatedAt routed routed' peer is
      → is ≡ route_presence routes w → AreNoted routes old routed → AreNoted routes new routed'
  noted-other {old = old} {routed = routed} {peer = peer} {w = w} {is = is} written noted same all p =
      noted.each p ∙ at (same_peer peer p) ∙ ap (route_presence routes) (sym (written.each p))
    where
      at : (b : Bool) → cond b is (lookup (same_peer p) routed) ≡ route_presence routes (cond b w (store_at old p))
      at true = same
      at false = all p

  -- a store without routes
  pub none-noted : (store : S) → routes store ≡ finite.empty → Some false ≡ route_presence routes (Some store)
  none-noted store none = ap (λ n. Some (nat_lt 0 n)) (sym (ap finite.len none ∙ finite.len-empty network_cmp (Rc Route Global)))

  pub count-noted : (store : S) (n : ℕ) → n ≡ stored.saturated_count (finite.len (routes store)) → Some (nat_lt 0 n) ≡ route_presence routes (Some store)
  count-noted store n is = ap (λ n. Some (nat_lt 0 n)) is ∙ ap Some (saturated_count-some (finite.len (routes store)))

  module _ (old between new : numbered.Stores S) {peer : Peer} {after : S} (lent : IsLent old between peer after) where
    -- what was noted of the store that was written
    pub noted-after : (number : ℕ) (has : Bool) → lookup (same_peer peer) old.order.entries ≡ Some number → stores_in new ≡ stores_in between
        → ((p : Peer) → lookup (same_peer p) between.order.entries ≡ Some number → IsUpdatedAt (routed_marks between) (routed_marks new) p (Some has)) → Some has ≡ route_presence routes (Some after)
        → AreNoted routes (stores_in old) (routed_marks old) → AreNoted routes (stores_in new) (routed_marks new)
    noted-after number has found same noted is all =
        subst (λ stores. AreNoted routes stores (routed_marks new)) (sym same)
        (noted-other lent.written (subst (λ routed. IsUpdatedAt routed (routed_marks new) peer (Some has)) lent.routed (noted peer (ap (lookup (same_peer peer)) lent.order ∙ found))) is all)

  -- it was written, and has the routes that it had
  pub noted-kept : (old new : numbered.Stores S) {peer : Peer} {before after : S} → IsLent old new peer after → Some before ≡ store_at (stores_in old) peer → routes after ≡ routes before
      → AreNoted routes (stores_in old) (routed_marks old) → AreNoted routes (stores_in new) (routed_marks new)
  noted-kept old new {peer = peer} {before = before} {after = after} lent found same all p =
      ap (lookup (same_peer p)) lent.routed ∙ all p ∙ at (same_peer peer p) refl ∙ ap (route_presence routes) (sym (lent.written.each p))
    where
      at : (b : Bool) → same_peer peer p ≡ b → route_presence routes (store_at (stores_in old) p) ≡ route_presence routes (cond b (Some after) (store_at (stores_in old) p))
      at true tied = ap (route_presence routes) (ap (store_at (stores_in old)) (sym (one_peer peer p tied)) ∙ sym found) ∙ ap (λ r. Some (nat_lt 0 (finite.len r))) (sym same)
      at false tied = refl

module _ {S : Type 0} (keys : S → stored.Keys) {old new : PeerStores S} {peer : Peer} {before after : S} (there : IsStored old new peer before after) where
  pub keys-kept : keys after ≡ keys before → keys_in keys new ≡ keys_in keys old
  keys-kept e = keys_in-same keys there.written (λ x. ap (λ k. set.contains k x) e ∙ ap (λ s. has_key keys s x) there.found)

  pub held-kept : keys after ≡ keys before → HaveKeys keys old → HaveKeys keys new
  held-kept e held = held-other keys there.written held (subst (λ k. 0 < set.len k) (sym e) (subst (λ s. IfSome s (λ store. 0 < set.len (keys store))) (sym there.found) (held peer)))

  pub keys-more : (n : Network) → keys after ≡ set.insert (keys before) n → keys_in keys new ≡ set.insert (keys_in keys old) (pair_of peer n)
  keys-more n e = keys_in-insert keys there.written n (λ x.
      ap (λ k. set.contains k x) e ∙ contains-insert network_cmp_total (keys before) n x ∙ ap (λ s. same_network x n || has_key keys s x) there.found)

  pub held-more : (n : Network) → keys after ≡ set.insert (keys before) n → HaveKeys keys old → HaveKeys keys new
  held-more n e held = held-other keys there.written held (some-insert (keys before) (keys after) n e)

  pub keys-less : (n : Network) → keys after ≡ set.remove (keys before) n → keys_in keys new ≡ set.remove (keys_in keys old) (pair_of peer n)
  keys-less n e = keys_in-remove keys there.written n (λ x.
      ap (λ k. set.contains k x) e ∙ contains-remove network_cmp_total (keys before) n x ∙ ap (λ s. not (same_network x n) && has_key keys s x) there.found)

module _ {S : Type 0} (routes : S → stored.Routes (Rc Route Global)) {old new : PeerStores S} {peer : Peer} {before after : S} (there : IsStored old new peer before after) where
  pub routes-kept : routes after ≡ routes before → routes_in routes new ≡ routes_in routes old
  routes-kept e = routes_in-same routes there.written (λ x. ap (λ r. option_map value_of (finite.get r x)) e ∙ ap (λ s. stored_route routes s x) there.found)

  pub routes-put : (n : Network) (route : Option (Rc Route Global)) → routes after ≡ stored.put (routes before) n route → routes_in routes new ≡ put (routes_in routes old) (pair_of peer n) (pointed_route route)
  routes-put n route e = routes_in-put routes there.written n (pointed_route route) (λ x.
      stored-put (routes before) (routes after) n route e x ∙ ap (λ s. cond (same_network x n) (pointed_route route) (stored_route routes s x)) there.found)

-- it has no key any more, and goes
none-left : (keys : stored.Keys) (x : Network) → set.len keys ≡ 0 → set.contains keys x ≡ false
none-left keys x none = ap (λ k. set.contains k x) (set.empty_of_len keys none) ∙ contains-empty network_cmp x

module _ {S : Type 0} (keys : S → stored.Keys) (routes : S → stored.Routes (Rc Route Global)) {old between new : PeerStores S} {peer : Peer} {before after : S} (there : IsStored old between peer before after) (removed : IsUpdatedAt between new peer None) where
  pub held-gone : HaveKeys keys old → HaveKeys keys new
  held-gone held = held-other keys (written-twice there.written removed) held tt

  pub keys-gone : (n : Network) → set.len (keys after) ≡ 0 → keys after ≡ set.remove (keys before) n → keys_in keys new ≡ set.remove (keys_in keys old) (pair_of peer n)
  keys-gone n none e = keys_in-remove keys (written-twice there.written removed) n (λ x.
      sym (none-left (keys after) x none) ∙ ap (λ k. set.contains k x) e ∙ contains-remove network_cmp_total (keys before) n x ∙ ap (λ s. not (same_network x n) && has_key keys s x) there.found)

  pub routes-gone : set.len (keys after) ≡ 0 → stored.ContainsDomain (keys after) (routes after) → routes after ≡ routes before → routes_in routes new ≡ routes_in routes old
  routes-gone none among e = routes_in-same routes (written-twice there.written removed) (λ x.
      sym (ap (option_map value_of) (among x (none-left (keys after) x none))) ∙ ap (λ r. option_map value_of (finite.get r x)) e ∙ ap (λ s. stored_route routes s x) there.found)

-- a store is added
module _ {S : Type 0} {old new : PeerStores S} {peer : Peer} {store : S} (absent : None ≡ store_at old peer) (added : IsUpdatedAt old new peer (Some store)) where
  pub keys-added : (keys : S → stored.Keys) (n : Network) → keys store ≡ set.insert set.empty n → keys_in keys new ≡ set.insert (keys_in keys old) (pair_of peer n)
  keys-added keys n e = keys_in-insert keys added n (λ x.
      ap (λ k. set.contains k x) e ∙ contains-insert network_cmp_total set.empty n x
      ∙ ap (λ b. same_network x n || b) (contains-empty network_cmp x ∙ ap (λ s. has_key keys s x) absent))

  pub routes-added : (routes : S → stored.Routes (Rc Route Global)) → routes store ≡ finite.empty → routes_in routes new ≡ routes_in routes old
  routes-added routes e = routes_in-same routes added (λ x.
      ap (λ r. option_map value_of (finite.get r x)) e ∙ ap (option_map value_of) (finite.get-empty network_cmp x) ∙ ap (λ s. stored_route routes s x) absent)
