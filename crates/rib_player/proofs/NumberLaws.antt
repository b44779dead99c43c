-- What is known of the numbers of peers, and of the stores that are found by them.
use Rattle.std.proofs.Common.{◌≡◌, ◌≢◌, ℕ, ◌<◌, Bool, true, false, cond, List, [], ◌∷◌, ◌++◌, set, length, Option, Some, None, is_some, IsSome, IfSome, MutBor, get_or, slice_get, refl, sym, ap, subst, ◌∙◌, inl, inr, arith, Less}
use Rattle.std.specs.List.{AllByRecursion, filter, cons_option}
use Rattle.std.specs.List.Sorted.{IsStrictlySortedBy}
use Rattle.std.specs.Map.{lookup, keys_of}
use Rattle.std.specs.Option.{option_map, option_copied_mut}
use Rattle.std.specs.Cmp.{eq_by_cmp_equiv}
use Rattle.std.proofs.lemmas.Bool.{cases_eq}
use Rattle.std.proofs.lemmas.List.{length-set, length_push}
use Rattle.std.proofs.lemmas.Option.{slice_get_within, slice_get-get_or}
use Rattle.mrt_events.specs.declared.peer.Peer.{Peer}
use Rattle.mrt_events.specs.Event.{peer_cmp}
use Rattle.mrt_events.proofs.PeerLaws.{peer_cmp_total}
use Rattle.rib_player.specs.Tables.{store_at}
use Rattle.rib_player.specs.StoresByPeer.{stores_of}
use Rattle.rib_player.specs.Representation.{IsUpdatedAt}
use Rattle.rib_player.specs.Numbered.{AreNumbered}
use Rattle.rib_player.specs.Indices.{IsSetAt}
use Rattle.rib_player.proofs.StoreLaws.{same_peer, one_peer, one_of}
use Rattle.rib_player.proofs.ListLaws.{get-set_same, get-set_other, get-push_last, get-push_other, get-within, get-past, IsSwapRemoved}

pub same_itself : (peer : Peer) → same_peer peer peer ≡ true
same_itself = (eq_by_cmp_equiv peer_cmp_total).refl

module _ {A : Type 0} where
  -- peers for which two things stand are two
  apart : (order : List (Peer × A)) (one other : Peer) → (lookup (same_peer one) order ≡ lookup (same_peer other) order → ⊥) → same_peer one other ≡ false
  apart order one other differ = let tie = one_peer one other in grind arith

  -- what stands where something was written
  module _ {old new : List (Peer × A)} {peer : Peer} {w : Option A} (written : IsUpdatedAt old new peer w) (p : Peer) where
    written-here : same_peer peer p ≡ true → lookup (same_peer p) new ≡ w
    written-here same = written.each p ∙ ap (λ b. cond b w (lookup (same_peer p) old)) same

    written-elsewhere : same_peer peer p ≡ false → lookup (same_peer p) new ≡ lookup (same_peer p) old
    written-elsewhere differ = written.each p ∙ ap (λ b. cond b w (lookup (same_peer p) old)) differ

moved-differs : (names' : List Peer) (number : ℕ) (other : Peer) → slice_get names' number ≡ Some other → number ≢ length names'
moved-differs names' number other is same = let within = slice_get_within names' number other is in absurd (omega (arith, within, same))

none-either : (b : Bool) (o : Option ℕ) → o ≡ None → cond b None o ≡ None
none-either b o is = grind arith

-- where one peer goes, the one that stood last has its number
pub record IsRenumbered (order order' : List (Peer × ℕ)) (peer : Peer) (last number : ℕ) : Type 0 where
  pub gone : lookup (same_peer peer) order' ≡ None
  pub moved : (p : Peer) → same_peer peer p ≡ false → lookup (same_peer p) order ≡ Some last → lookup (same_peer p) order' ≡ Some number
  pub kept : (p : Peer) (n : ℕ) → same_peer peer p ≡ false → n ≢ last → lookup (same_peer p) order ≡ Some n → lookup (same_peer p) order' ≡ Some n
  pub none : (p : Peer) → lookup (same_peer p) order ≡ None → lookup (same_peer p) order' ≡ None

module _ {S : Type 0} where
  -- the store at a number, where there is one
  abbrev pub stored : List S → Option ℕ → Option S
  stored held None = None
  stored held (Some number) = slice_get held number

  -- what is lent at a number where a store stands
  pub lent-at : (held : List S) (n : ℕ) (r : Option (MutBor S)) → n < length held → IsSome r → IfSome r (λ x. x.now ≡ get_or held n x.now)
      → option_copied_mut r ≡ slice_get held n
  lent-at held n None within some value = cc
  lent-at held n (Some x) within some value = ap Some value ∙ sym (slice_get-get_or held n x.now within)

  -- what stands at a number, if the peer is that one's
  abbrev first_of : Option S → Bool → Option S → Option S
  first_of None b rest = rest
  first_of (Some store) b rest = cond b (Some store) rest

  -- a peer's store is that at its number, if one stands there
  at-number : (held : List S) (p : Peer) (order : List (Peer × ℕ)) → ((n : ℕ) → lookup (same_peer p) order ≡ Some n → is_some (slice_get held n) ≡ true)
      → store_at (stores_of held order) p ≡ stored held (lookup (same_peer p) order)
  at-number held p [] all = refl
  at-number held p (e ∷ es) all =
      let later = at-number held p es in
      let here = all e.1 in
      elim (same_peer p e.0) as (λ b. same_peer p e.0 ≡ b → store_at (stores_of held (e ∷ es)) p ≡ stored held (cond b (Some e.1) (lookup (same_peer p) es))) [
        | true ↦ λ same. grind arith
        | false ↦ λ differ. let rest = later (λ n found. all n (grind arith)) in grind arith
      ] refl

  module _ {held : List S} {names : List Peer} {order : List (Peer × ℕ)} (are : AreNumbered held names order) where
    -- a name stands at a number that is found
    pub named-there : (p : Peer) (number : ℕ) → lookup (same_peer p) order ≡ Some number → number < length names
    named-there p number found = slice_get_within names number p (are.there p number found)

    -- and a store
    pub held-there : (p : Peer) (number : ℕ) → lookup (same_peer p) order ≡ Some number → number < length held
    held-there p number found = omega (arith, named-there p number found, are.even)

    -- a peer's store is that at its number
    pub at-stores_of : (p : Peer) → store_at (stores_of held order) p ≡ stored held (lookup (same_peer p) order)
    at-stores_of p = at-number held p order (λ n found. get-within held n (held-there p n found))

    -- a peer's store, by what is answered where its number is
    pub found-store : (p : Peer) (number : Option ℕ) → number ≡ lookup (same_peer p) order → stored held number ≡ store_at (stores_of held order) p
    found-store p number is = ap (stored held) is ∙ sym (at-stores_of p)

    -- two peers don't have one number
    one-named : (one other : Peer) (number : ℕ) → slice_get names number ≡ Some one → slice_get names number ≡ Some other → one ≡ other
    one-named one other number is is' = one_of one other (sym is ∙ is')

    numbers-differ : (one other : Peer) (number number' : ℕ) → lookup (same_peer one) order ≡ Some number → lookup (same_peer other) order ≡ Some number'
        → same_peer one other ≡ false → number' ≢ number
    numbers-differ one other number number' is is' differ same =
        let peer : one ≡ other = one-named one other number (are.there one number is) (ap (slice_get names) (sym same) ∙ are.there other number' is') in
        let lost : true ≡ false = sym (same_itself one) ∙ ap (same_peer one) peer ∙ differ in
        cc

    -- a peer without a store has no number
    pub no-number : (p : Peer) → store_at (stores_of held order) p ≡ None → lookup (same_peer p) order ≡ None
    no-number p none =
        let has = at-stores_of p in
        elim (lookup (same_peer p) order) as (λ o. lookup (same_peer p) order ≡ o → o ≡ None) [
          | None ↦ λ is. refl
          | Some n ↦ λ is. let there = get-within held n (held-there p n is) in grind arith
        ] refl

    -- nothing goes of a peer without a store
    pub stores-absent : {order' : List (Peer × ℕ)} {peer : Peer} → lookup (same_peer peer) order ≡ None → order' ≡ order → IsUpdatedAt (stores_of held order) (stores_of held order') peer None
    stores-absent {peer = peer} none same = record { each = λ p. let one = one_peer peer p in grind (arith, at-stores_of p) }

    -- a store is written
    pub numbered-write : (number : ℕ) (w : S) → AreNumbered (set held number w) names order
    numbered-write number w = record { there = are.there; back = are.back; even = omega (arith, are.even, length-set held number w) }

    -- as many other things stand at the numbers
    pub numbered-along : {X : Type 0} {others : List X} → length held ≡ length others → AreNumbered others names order
    numbered-along many = record { there = are.there; back = are.back; even = are.even ∙ many }

    -- where one was taken out, the peer that stands there then stood last
    moved-last : {names' : List Peer} {number : ℕ} → IsSwapRemoved names names' number → (other : Peer) → slice_get names' number ≡ Some other → lookup (same_peer other) order ≡ Some (length names')
    moved-last {names' = names'} {number = number} peers other is = are.back other (length names') (sym (peers.last (slice_get_within names' number other is)) ∙ is)

  module _ {held : List S} {names : List Peer} {order : List (Peer × ℕ)} (are : AreNumbered held names order) {peer : Peer} {number : ℕ} (found : lookup (same_peer peer) order ≡ Some number) (w : S) where
    pub stores-write : IsUpdatedAt (stores_of held order) (stores_of (set held number w) order) peer (Some w)
    stores-write = record { each = λ p. at-stores_of (numbered-write are number w) p ∙ at p ∙ ap (cond (same_peer peer p) (Some w)) (sym (at-stores_of are p)) }
      where
        at : (p : Peer) → stored (set held number w) (lookup (same_peer p) order) ≡ cond (same_peer peer p) (Some w) (stored held (lookup (same_peer p) order))
        at p =
            let one = one_peer peer p in
            let here = get-set_same held number w (held-there are peer number found) in
            let other = λ (n : ℕ) (is : lookup (same_peer p) order ≡ Some n) (same : same_peer peer p ≡ false). get-set_other held number n w (numbers-differ are peer p number n found is same) in
            grind arith

  -- what stands at a peer's number is another
  pub stores-replaced : {held held' : List S} {names : List Peer} {order : List (Peer × ℕ)} → AreNumbered held names order → {number : ℕ} {w : S} → IsSetAt held held' number w
      → (peer : Peer) → lookup (same_peer peer) order ≡ Some number → IsUpdatedAt (stores_of held order) (stores_of held' order) peer (Some w)
  stores-replaced {held = held} {held' = held'} {order = order} are {number = number} {w = w} new peer found =
      let are' = numbered-along are (sym new.len) in
      record { each = λ p. at-stores_of are' p ∙ at p ∙ ap (cond (same_peer peer p) (Some w)) (sym (at-stores_of are p)) }
    where
      at : (p : Peer) → stored held' (lookup (same_peer p) order) ≡ cond (same_peer peer p) (Some w) (stored held (lookup (same_peer p) order))
      at p =
          let one = one_peer peer p in
          let here = new.here in
          let other = λ (n : ℕ) (is : lookup (same_peer p) order ≡ Some n) (same : same_peer peer p ≡ false). new.others n (numbers-differ are peer p number n found is same) in
          grind arith

  -- a store is added, of a peer that has none, behind all others
  module _ {held : List S} {names : List Peer} {order order' : List (Peer × ℕ)} (are : AreNumbered held names order) {peer : Peer} (store : S) (none : lookup (same_peer peer) order ≡ None)
      (updated : IsUpdatedAt order order' peer (Some (length held))) where
    there-insert : (p : Peer) (n : ℕ) → lookup (same_peer p) order' ≡ Some n → slice_get (names ++ peer ∷ []) n ≡ Some p
    there-insert p n is =
        let has = updated.each p in
        let one = one_peer peer p in
        elim (same_peer peer p) as (λ b. same_peer peer p ≡ b → slice_get (names ++ peer ∷ []) n ≡ Some p) [
          | true ↦ λ same. let last = get-push_last names peer in grind (arith, are.even)
          | false ↦ λ differ. let was = are.there p n (grind arith) in get-push_other names peer n (slice_get_within names n p was) ∙ was
        ] refl

    back-insert : (p : Peer) (n : ℕ) → slice_get (names ++ peer ∷ []) n ≡ Some p → lookup (same_peer p) order' ≡ Some n
    back-insert p n is = elim (cases_eq n (length names)) [
      | inl last ↦
          let this : peer ≡ p = one_of peer p (sym (get-push_last names peer) ∙ ap (slice_get (names ++ peer ∷ [])) (sym last) ∙ is) in
          written-here updated p (ap (same_peer peer) (sym this) ∙ same_itself peer) ∙ ap Some (sym are.even ∙ sym last)
      | inr differs ↦
          let within = slice_get_within (names ++ peer ∷ []) n p is in
          let was : lookup (same_peer p) order ≡ Some n = are.back p n (sym (get-push_other names peer n (omega (arith, within, differs, length_push names peer))) ∙ is) in
          written-elsewhere updated p (apart order peer p (λ e. let lost : Some n ≡ None = sym was ∙ sym e ∙ none in cc)) ∙ was
    ]

    numbered-insert : AreNumbered (held ++ store ∷ []) (names ++ peer ∷ []) order'
    numbered-insert = record {
      there = there-insert;
      back = back-insert;
      even = omega (arith, are.even, length_push names peer, length_push held store);
    }

    stores-insert : IsUpdatedAt (stores_of held order) (stores_of (held ++ store ∷ []) order') peer (Some store)
    stores-insert = record { each = λ p. at-stores_of numbered-insert p ∙ ap (stored (held ++ store ∷ [])) (updated.each p) ∙ at p ∙ ap (cond (same_peer peer p) (Some store)) (sym (at-stores_of are p)) }
      where
        at : (p : Peer) → stored (held ++ store ∷ []) (cond (same_peer peer p) (Some (length held)) (lookup (same_peer p) order)) ≡ cond (same_peer peer p) (Some store) (stored held (lookup (same_peer p) order))
        at p =
            let here = get-push_last held store in
            let other = λ (n : ℕ) (is : lookup (same_peer p) order ≡ Some n). get-push_other held store n (held-there are p n is) in
            grind arith

  -- the same, by what the lists are then
  pub numbered-added : {held held' : List S} {names names' : List Peer} {order order' : List (Peer × ℕ)} {peer : Peer} {store : S} {number : ℕ} → AreNumbered held names order
      → lookup (same_peer peer) order ≡ None → number ≡ length held → held' ≡ held ++ store ∷ [] → names' ≡ names ++ peer ∷ [] → IsUpdatedAt order order' peer (Some number)
      → AreNumbered held' names' order' × IsUpdatedAt (stores_of held order) (stores_of held' order') peer (Some store)
  numbered-added {held = held} {names = names} {names' = names'} {order = order} {order' = order'} {peer = peer} {store = store} are none last stores peers updated =
      let at-last = subst (λ n. IsUpdatedAt order order' peer (Some n)) last updated in (
        subst (λ hs. AreNumbered hs names' order') (sym stores) (subst (λ ns. AreNumbered (held ++ store ∷ []) ns order') (sym peers) (numbered-insert are store none at-last)),
        subst (λ hs. IsUpdatedAt (stores_of held order) (stores_of hs order') peer (Some store)) (sym stores) (stores-insert are store none at-last),
      )

  module _ {held : List S} {names : List Peer} {order : List (Peer × ℕ)} (are : AreNumbered held names order) {peer : Peer} {number : ℕ} (found : lookup (same_peer peer) order ≡ Some number) where
    -- the peer that goes stood last itself
    renumbered-last : {order' : List (Peer × ℕ)} (last : ℕ) → number ≡ last → IsUpdatedAt order order' peer None → IsRenumbered order order' peer last number
    renumbered-last last is removed = record {
      gone = written-here removed peer (same_itself peer);
      moved = λ p differ here. absurd (numbers-differ are peer p number last found here differ (sym is));
      kept = λ p n differ _ here. written-elsewhere removed p differ ∙ here;
      none = λ p here. removed.each p ∙ none-either (same_peer peer p) (lookup (same_peer p) order) here;
    }

    -- another one stood last, and gets its number
    renumbered-other : {order1 order' : List (Peer × ℕ)} (other : Peer) (last : ℕ) → number ≢ last → lookup (same_peer other) order ≡ Some last
        → IsUpdatedAt order order1 peer None → IsUpdatedAt order1 order' other (Some number) → IsRenumbered order order' peer last number
    renumbered-other other last differs at-last removed written = record {
      gone = written-elsewhere written peer (apart order other peer (λ e. differs (one_of number last (sym found ∙ sym e ∙ at-last)))) ∙ written-here removed peer (same_itself peer);
      moved = λ p differ here.
          let same : other ≡ p = one-named are other p last (are.there other last at-last) (are.there p last here) in
          written-here written p (ap (same_peer other) (sym same) ∙ same_itself other);
      kept = λ p n differ not_last here.
          written-elsewhere written p (apart order other p (λ e. not_last (one_of n last (sym here ∙ sym e ∙ at-last)))) ∙ written-elsewhere removed p differ ∙ here;
      none = λ p here.
          written-elsewhere written p (apart order other p (λ e. let lost : Some last ≡ None = sym at-last ∙ e ∙ here in cc))
          ∙ removed.each p ∙ none-either (same_peer peer p) (lookup (same_peer p) order) here;
    }

    module _ {names' : List Peer} (peers : IsSwapRemoved names names' number) where
      pub moved-found : {order1 : List (Peer × ℕ)} → IsUpdatedAt order order1 peer None → (other : Peer) → slice_get names' number ≡ Some other → lookup (same_peer other) order1 ≡ Some (length names')
      moved-found removed other is =
          written-elsewhere removed other (apart order peer other (λ e. moved-differs names' number other is (one_of number (length names') (sym found ∙ e ∙ moved-last are peers other is)))) ∙ moved-last are peers other is

      pub renumbered-moved : {order1 order' : List (Peer × ℕ)} → IsUpdatedAt order order1 peer None → (other : Peer) → slice_get names' number ≡ Some other → IsUpdatedAt order1 order' other (Some number)
          → IsRenumbered order order' peer (length names') number
      renumbered-moved removed other is written = renumbered-other other (length names') (moved-differs names' number other is) (moved-last are peers other is) removed written

      pub renumbered-gone : {order1 : List (Peer × ℕ)} → IsUpdatedAt order order1 peer None → slice_get names' number ≡ None → IsRenumbered order order1 peer (length names') number
      renumbered-gone removed none =
          renumbered-last (length names') (omega (arith, named-there are peer number found, peers.len, get-past names' number none)) removed

    -- a store goes
    module _ {held' : List S} {names' : List Peer} {order' : List (Peer × ℕ)} (stores : IsSwapRemoved held held' number) (peers : IsSwapRemoved names names' number)
        (new : IsRenumbered order order' peer (length names') number) where
      there-remove : (p : Peer) (n : ℕ) → lookup (same_peer p) order' ≡ Some n → slice_get names' n ≡ Some p
      there-remove p n is = at (same_peer peer p) refl (lookup (same_peer p) order) refl
        where
          at : (b : Bool) → same_peer peer p ≡ b → (o : Option ℕ) → lookup (same_peer p) order ≡ o → slice_get names' n ≡ Some p
          at true same o was = let lost : Some n ≡ None = sym is ∙ ap (λ q. lookup (same_peer q) order') (sym (one_peer peer p same)) ∙ new.gone in cc
          at false same None was = let lost : Some n ≡ None = sym is ∙ new.none p was in cc
          at false same (Some m) was =
              let differs = numbers-differ are peer p number m found was same in
              elim (cases_eq m (length names')) [
                | inl last ↦
                    let here : number ≡ n = one_of number n (sym (new.moved p same (was ∙ ap Some last)) ∙ is) in
                    ap (slice_get names') (sym here) ∙ peers.last (omega (arith, named-there are peer number found, differs, last, peers.len)) ∙ ap (slice_get names) (sym last) ∙ are.there p m was
                | inr not_last ↦
                    let here : m ≡ n = one_of m n (sym (new.kept p m same not_last was) ∙ is) in
                    ap (slice_get names') (sym here) ∙ peers.others m differs (omega (arith, named-there are p m was, not_last, peers.len)) ∙ are.there p m was
              ]

      back-remove : (p : Peer) (n : ℕ) → slice_get names' n ≡ Some p → lookup (same_peer p) order' ≡ Some n
      back-remove p n is =
          let within = slice_get_within names' n p is in
          elim (cases_eq n number) [
            | inl here ↦
                let was : lookup (same_peer p) order ≡ Some (length names') = are.back p (length names') (sym (peers.last (omega (arith, within, here))) ∙ ap (slice_get names') (sym here) ∙ is) in
                new.moved p (other (length names') was (omega (arith, within, here))) was ∙ ap Some (sym here)
            | inr differs ↦
                let was : lookup (same_peer p) order ≡ Some n = are.back p n (sym (peers.others n differs within) ∙ is) in
                new.kept p n (other n was differs) (omega (arith, within)) was
          ]
        where
          other : (m : ℕ) → lookup (same_peer p) order ≡ Some m → m ≢ number → same_peer peer p ≡ false
          other m was differs = apart order peer p (λ e. differs (one_of m number (sym was ∙ sym e ∙ found)))

      numbered-remove : AreNumbered held' names' order'
      numbered-remove = record { there = there-remove; back = back-remove; even = omega (arith, are.even, stores.len, peers.len) }

      pub stores-remove : AreNumbered held' names' order' × IsUpdatedAt (stores_of held order) (stores_of held' order') peer None
      stores-remove = (
        numbered-remove,
        record {
          each = λ p.
              at-stores_of numbered-remove p ∙ at p (same_peer peer p) refl (lookup (same_peer p) order) refl ∙ ap (cond (same_peer peer p) None) (sym (at-stores_of are p));
        },
      )
        where
          at : (p : Peer) (b : Bool) → same_peer peer p ≡ b → (o : Option ℕ) → lookup (same_peer p) order ≡ o → stored held' (lookup (same_peer p) order') ≡ cond b None (stored held o)
          at p true same o was = ap (stored held') (ap (λ q. lookup (same_peer q) order') (sym (one_peer peer p same)) ∙ new.gone)
          at p false same None was = ap (stored held') (new.none p was)
          at p false same (Some m) was =
              let differs = numbers-differ are peer p number m found was same in
              elim (cases_eq m (length names')) [
                | inl last ↦
                    ap (stored held') (new.moved p same (was ∙ ap Some last))
                    ∙ stores.last (omega (arith, held-there are peer number found, differs, last, stores.len, peers.len, are.even))
                    ∙ ap (slice_get held) (omega (arith, last, stores.len, peers.len, are.even))
                | inr not_last ↦
                    ap (stored held') (new.kept p m same not_last was)
                    ∙ stores.others m differs (omega (arith, held-there are p m was, not_last, stores.len, peers.len, are.even))
              ]

  -- the stores of some peers more
  pub stores_of-some : (held : List S) (peer : Peer) (number : ℕ) (rest : List (Peer × ℕ)) (store : S) → slice_get held number ≡ Some store → stores_of held ((peer, number) ∷ rest) ≡ (peer, store) ∷ stores_of held rest
  stores_of-some held peer number rest store is = ap (λ o. cons_option (option_map (λ store. (peer, store)) o) (stores_of held rest)) is

  pub stores_of-none : (held : List S) (peer : Peer) (number : ℕ) (rest : List (Peer × ℕ)) → slice_get held number ≡ None → stores_of held ((peer, number) ∷ rest) ≡ stores_of held rest
  stores_of-none held peer number rest is = ap (λ o. cons_option (option_map (λ store. (peer, store)) o) (stores_of held rest)) is

  -- the stores stand in the order of their peers
  less-stores_of : (held : List S) (p : Peer) (order : List (Peer × ℕ)) → AllByRecursion (λ q. peer_cmp p q ≡ Less) (keys_of order) → AllByRecursion (λ q. peer_cmp p q ≡ Less) (keys_of (stores_of held order))
  less-stores_of held p [] all = tt
  less-stores_of held p (e ∷ es) all =
      let rest = less-stores_of held p es all.1 in
      elim (slice_get held e.1) as (λ o. AllByRecursion (λ q. peer_cmp p q ≡ Less) (keys_of (cons_option (option_map (λ store. (e.0, store)) o) (stores_of held es)))) [ None ↦ rest | Some store ↦ (all.0, rest) ]

  pub sorted-stores_of : (held : List S) (order : List (Peer × ℕ)) → IsStrictlySortedBy peer_cmp (keys_of order) → IsStrictlySortedBy peer_cmp (keys_of (stores_of held order))
  unfolding IsStrictlySortedBy
  sorted-stores_of held [] sorted = tt
  sorted-stores_of held (e ∷ es) sorted =
      let rest = sorted-stores_of held es sorted.1 in
      elim (slice_get held e.1) as (λ o. IsStrictlySortedBy peer_cmp (keys_of (cons_option (option_map (λ store. (e.0, store)) o) (stores_of held es)))) [ None ↦ rest | Some store ↦ (less-stores_of held e.0 es sorted.0, rest) ]

  -- the stores of some peers
  pub stores_of-filter : (held : List S) (test : Peer → Bool) (order : List (Peer × ℕ))
      → stores_of held (filter (λ (e : Peer × ℕ). test e.0) order) ≡ filter (λ (e : Peer × S). test e.0) (stores_of held order)
  stores_of-filter held test [] = refl
  stores_of-filter held test (e ∷ es) = grind (arith, stores_of-filter held test es)
