-- Rows of pairs whose peers differ, and lists of peers that are pointed to.
use Rattle.std.proofs.Common.{◌≡◌, ◌⊎◌, inl, inr, ℕ, ◌+◌, ◌<◌, true, false, List, [], ◌∷◌, ◌++◌, take, length, get_or, Option, Some, None, IfSome, slice_get, refl, sym, ap, ◌∙◌, arith, Bor, option_map, option_copied, unwrap_or, Less, Greater, Global}
use Rattle.std.specs.List.{AllByRecursion, IsDistinct}
use Rattle.std.specs.Map.{lookup, keys_of}
use Rattle.std.specs.Slice.{IsItemAt}
use Rattle.std.specs.Ordering.{eq_by_cmp, ordering_reverse}
use Rattle.std.specs.declared.rc.Rc.{Rc}
use Rattle.std.proofs.lemmas.List.{map-append, take_more}
use Rattle.std.proofs.lemmas.Option.{slice_get-map}
use Rattle.mrt_events.specs.declared.peer.Peer.{Peer}
use Rattle.rib_player.specs.declared.pair.Pair.{Pair}
use Rattle.rib_player.specs.declared.seen_peers.SeenPeers.{SeenPeers}
use Rattle.rib_player.specs.Entries.{Entry}
use Rattle.rib_player.specs.History.{pair_cmp}
use Rattle.rib_player.specs.Journal.{side_of, sides_of}
use Rattle.rib_player.specs.Numbered.{peers_in, was_seen}
use Rattle.rib_player.proofs.PairLaws.{same_pair, pair_cmp_total}
use Rattle.rib_player.proofs.StoreLaws.{same_peer}
use Rattle.rib_player.proofs.ListLaws.{copied-at, all-then}

module _ {R : Type 0} where
  -- a pair more, which is none of those before it
  pub apart-more : (e s : Pair × R) (es : List (Pair × R)) → eq_by_cmp pair_cmp e.0 s.0 ≡ false → AllByRecursion (λ q. eq_by_cmp pair_cmp e.0 q ≡ false) (keys_of es)
      → AllByRecursion (λ q. eq_by_cmp pair_cmp e.0 q ≡ false) (keys_of (es ++ s ∷ []))
  apart-more e s [] this rest = (this, tt)
  apart-more e s (f ∷ es) this rest = (rest.0, apart-more e s es this rest.1)

  pub distinct-apart : (s : Pair × R) (es : List (Pair × R)) → AllByRecursion (λ e. eq_by_cmp pair_cmp e.0 s.0 ≡ false) es
      → IsDistinct (eq_by_cmp pair_cmp) (keys_of es) → IsDistinct (eq_by_cmp pair_cmp) (keys_of (es ++ s ∷ []))
  unfolding IsDistinct
  distinct-apart s [] apart distinct = (tt, tt)
  distinct-apart s (e ∷ es) apart distinct = (apart-more e s es apart.0 distinct.0, distinct-apart s es apart.1 distinct.1)

  pub all-apart : (s : Pair) (e : Pair × R) (es : List (Pair × R)) → eq_by_cmp pair_cmp e.0 s ≡ false → AllByRecursion (λ f. eq_by_cmp pair_cmp f.0 s ≡ false) es
      → AllByRecursion (λ f. eq_by_cmp pair_cmp f.0 s ≡ false) (es ++ e ∷ [])
  all-apart s e [] this rest = (this, tt)
  all-apart s e (f ∷ es) this rest = (rest.0, all-apart s e es this rest.1)

-- the sides of one entry more
pub sides-more : (entries : List Entry) (i : ℕ) (e : Entry) → e ≡ get_or entries i e → i < length entries → sides_of (take (i + 1) entries) ≡ sides_of (take i entries) ++ side_of e ∷ []
sides-more entries i e at within =
    ap sides_of (take_more entries i e within ∙ ap (λ x. take i entries ++ x ∷ []) (sym at)) ∙ map-append side_of (take i entries) (e ∷ [])

-- pairs that aren't the same don't tie
pub not-tied : (a b : Pair) → (a ≡ b → ⊥) → eq_by_cmp pair_cmp a b ≡ false
not-tied a b differ = let one = same_pair a b in grind arith

-- none of the pairs is below this one
abbrev pub AreNotBelow : {R : Type 0} → Pair → List (Pair × R) → Type 0
AreNotBelow last es = AllByRecursion (λ e. (e.0 ≡ last) ⊎ (pair_cmp last e.0 ≡ Less)) es

-- one pair alone
pub falling-one : {R : Type 0} (s : Pair × R) → IsDistinct (eq_by_cmp pair_cmp) (keys_of (s ∷ [])) × AreNotBelow s.0 (s ∷ [])
unfolding IsDistinct
falling-one s = ((tt, tt), (inl refl, tt))

-- no pair is below itself
less-itself : (p : Pair) → pair_cmp p p ≡ Less → ⊥
less-itself p less = let both : Less ≡ Greater = sym less ∙ pair_cmp_total.antisymm p p ∙ ap ordering_reverse less in cc

module _ {R : Type 0} (last : Pair) (s : Pair × R) (below : pair_cmp s.0 last ≡ Less) where
  -- a pair below one is below those that aren't below that one
  below-each : (e : Pair × R) → (e.0 ≡ last) ⊎ (pair_cmp last e.0 ≡ Less) → pair_cmp s.0 e.0 ≡ Less
  below-each e (inl same) = ap (pair_cmp s.0) same ∙ below
  below-each e (inr over) = pair_cmp_total.trans s.0 last e.0 below over

  -- a pair more, below the last one
  pub falling-more : (es : List (Pair × R)) → IsDistinct (eq_by_cmp pair_cmp) (keys_of es) × AreNotBelow last es
      → IsDistinct (eq_by_cmp pair_cmp) (keys_of (es ++ s ∷ [])) × AreNotBelow s.0 (es ++ s ∷ [])
  falling-more es so_far =
      let up = all-then (λ e. (e.0 ≡ last) ⊎ (pair_cmp last e.0 ≡ Less)) (λ e. pair_cmp s.0 e.0 ≡ Less) es below-each so_far.1 in
      let apart = all-then (λ e. pair_cmp s.0 e.0 ≡ Less) (λ e. eq_by_cmp pair_cmp e.0 s.0 ≡ false) es (λ e less. not-tied e.0 s.0 (λ same. less-itself s.0 (ap (pair_cmp s.0) (sym same) ∙ less))) up in
      (distinct-apart s es apart so_far.0, last-more es up)
    where
      last-more : (es : List (Pair × R)) → AllByRecursion (λ e. pair_cmp s.0 e.0 ≡ Less) es → AreNotBelow s.0 (es ++ s ∷ [])
      last-more [] up = (inl refl, tt)
      last-more (e ∷ es) up = (inr up.0, last-more es up.1)

module _ {R : Type 0} (order : List (Peer × ℕ)) where
  -- the pair's peer has a number, which was seen
  abbrev pub IsSeen : SeenPeers → Pair × R → Type 0
  IsSeen marks e = (n : ℕ) × (lookup (same_peer e.0.peer) order ≡ Some n) × (was_seen marks n ≡ true)

  module _ (marks marks' : SeenPeers) (s : Pair × R) (number : ℕ) (is : lookup (same_peer s.0.peer) order ≡ Some number) where
    -- a pair of a number that wasn't seen is another
    apart : was_seen marks number ≡ false → (e : Pair × R) → IsSeen marks e → eq_by_cmp pair_cmp e.0 s.0 ≡ false
    apart new e seen =
        let one = same_pair e.0 s.0 in
        grind (arith, is, seen.1, seen.2)

    pub distinct-more : was_seen marks number ≡ false → (es : List (Pair × R)) → AllByRecursion (IsSeen marks) es
        → IsDistinct (eq_by_cmp pair_cmp) (keys_of es) → IsDistinct (eq_by_cmp pair_cmp) (keys_of (es ++ s ∷ []))
    distinct-more new es seen distinct = distinct-apart s es (all-then (IsSeen marks) (λ e. eq_by_cmp pair_cmp e.0 s.0 ≡ false) es (apart new) seen) distinct

    pub seen-more : was_seen marks' number ≡ true → ((n : ℕ) → was_seen marks n ≡ true → was_seen marks' n ≡ true)
        → (es : List (Pair × R)) → AllByRecursion (IsSeen marks) es → AllByRecursion (IsSeen marks') (es ++ s ∷ [])
    seen-more marked others [] seen = ((number, is, marked), tt)
    seen-more marked others (e ∷ es) seen = ((seen.0.0, seen.0.1, others seen.0.0 seen.0.2), seen-more marked others es seen.1)

-- no pairs are distinct
pub distinct-none : IsDistinct (eq_by_cmp pair_cmp) []
unfolding IsDistinct
distinct-none = tt

-- ---- what stands in a list of peers that are pointed to

value : Rc Peer Global → Peer
value shared = shared.value

-- the peer that stands where one is found
pub name-there : (names : List (Rc Peer Global)) (k : ℕ) (found : Option (Bor (Rc Peer Global))) (name : Bor (Rc Peer Global)) → found ≡ Some name → IsItemAt names k found
    → slice_get (peers_in names) k ≡ Some name.now.value
unfolding value
name-there names k found name is item =
    slice_get-map value names k ∙ ap (option_map value) (sym (copied-at names k found item) ∙ ap option_copied is)

pub no-name : (names : List (Rc Peer Global)) (k : ℕ) (found : Option (Bor (Rc Peer Global))) → found ≡ None → IsItemAt names k found → slice_get (peers_in names) k ≡ None
unfolding value
no-name names k found is item =
    slice_get-map value names k ∙ ap (option_map value) (sym (copied-at names k found item) ∙ ap option_copied is)

-- it is the peer that stands there
pub name-at : (names : List (Rc Peer Global)) (k : ℕ) (p : Peer) (found : Option (Bor (Rc Peer Global))) → IsItemAt names k found
    → slice_get (peers_in names) k ≡ Some p → IfSome found (λ shared. shared.now.value ≡ p)
name-at names k p None item named = tt
name-at names k p (Some shared) item named = ap (λ o. unwrap_or o p) (sym (name-there names k (Some shared) shared refl item) ∙ named)
