-- The route to the longest prefix that contains an address.
use Rattle.std.proofs.Common.{◌≡◌, true, false, inl, inr, cond, nat_lt, List, [], ◌∷◌, length, Option, Some, None, is_some, refl, sym, ap, subst, ◌∙◌, arith, filter}
use Rattle.std.specs.FinMap.Entries.{find}
use Rattle.std.specs.Ordering.{eq_by_cmp, is_eq}
use Rattle.std.specs.Cmp.{tied_itself}
use Rattle.std.specs.FinMap as finite
use Rattle.std.specs.FinMap.{get-entries}
use Rattle.std.proofs.lemmas.Bool.{cases_Bool, cond_both, ltb-true, ltb-false}
use Rattle.ip_prefix.specs.Network.{Address, Network, contains, network_cmp}
use Rattle.ip_prefix.specs.OrderLaws.{network_cmp_total}
use Rattle.mrt_events.specs.declared.peer.Peer.{Peer}
use Rattle.mrt_events.specs.declared.event.Route.{Route}
use Rattle.prefix_store.specs.Lookups.{IsLongestMatchOf}
use Rattle.prefix_store.proofs.LongestLaws.{longest-one}
use Rattle.prefix_store.proofs.StoredLaws.{same_prefix}
use Rattle.rib_player.specs.Tables.{Routes, peer_routes}
use Rattle.rib_player.specs.Lookups.{IsBest}
use Rattle.rib_player.proofs.PeerLaws.{get-peer_routes}
use Rattle.bgpdump_tool.specs.Replies.{longer, longest, longest_match}

-- the route that entries have at a prefix
abbrev route_at : {R : Type 0} → List (Network × R) → Network → Option R
route_at entries n = find network_cmp n entries

-- the longest of those that contain an address
abbrev longest_at : {R : Type 0} → Address → List (Network × R) → Option (Network × R)
longest_at address entries = longest (filter (λ entry. contains entry.0 address) entries)

module _ {R : Type 0} (address : Address) (entry : Network × R) (entries : List (Network × R)) where
  -- the entry in front is found
  found_there : route_at (entry ∷ entries) entry.0 ≡ Some entry.1
  found_there = ap (λ o. cond (is_eq o) (Some entry.1) (route_at entries entry.0)) (tied_itself network_cmp_total entry.0)

  -- a prefix is that of the entry in front, or has its route behind it
  front_or : {A : Type 0} (n : Network) → (n ≡ entry.0 → A) → (route_at (entry ∷ entries) n ≡ route_at entries n → A) → A
  front_or n here behind = elim (cases_Bool (eq_by_cmp network_cmp n entry.0)) [
    | inl same ↦ here (same_prefix n entry.0 same)
    | inr other ↦ behind (ap (λ b. cond b (Some entry.1) (route_at entries n)) other)
  ]

  -- a prefix that contains the address is not that of an entry that does not
  elsewhere : {A : Type 0} (n : Network) → contains entry.0 address ≡ false → contains n address ≡ true → n ≡ entry.0 → A
  elsewhere n out inside is = let no : true ≡ false = sym inside ∙ ap (λ m. contains m address) is ∙ out in cc

  -- such an entry changes nothing
  longest-outside : contains entry.0 address ≡ false → (found : Option (Network × R)) → IsLongestMatchOf (route_at entries) address found → IsLongestMatchOf (route_at (entry ∷ entries)) address found
  longest-outside out None p = λ n inside. front_or n (elsewhere n out inside) (λ same. same ∙ p n inside)
  longest-outside out (Some other) p =
      (p.0, front_or other.0 (elsewhere other.0 out p.0) (λ same. same ∙ p.1), λ n inside some. front_or n (elsewhere n out inside) (λ same. p.2 n inside (ap is_some (sym same) ∙ some)))

  -- one that contains it is the longest, unless there is a longer one behind it
  longest-inside : contains entry.0 address ≡ true → (found : Option (Network × R)) → IsLongestMatchOf (route_at entries) address found → IsLongestMatchOf (route_at (entry ∷ entries)) address (longer entry found)
  longest-inside within None p = (
    within,
    found_there,
    λ n inside some. front_or n (λ is. omega (arith, ap (λ m. length m.bits) is)) (λ same.
        let no : false ≡ true = ap is_some (sym (same ∙ p n inside)) ∙ some in
        cc),
  )
  longest-inside within (Some other) p =
      cond_both (nat_lt (length entry.0.bits) (length other.0.bits)) other entry (λ e. IsLongestMatchOf (route_at (entry ∷ entries)) address (Some e)) (λ less.
      let below = ltb-true (length entry.0.bits) (length other.0.bits) less in (
        p.0,
        front_or other.0 (λ is. absurd (omega (arith, below, ap (λ m. length m.bits) is))) (λ same. same ∙ p.1),
        λ n inside some. front_or n (λ is. omega (arith, below, ap (λ m. length m.bits) is)) (λ same. p.2 n inside (ap is_some (sym same) ∙ some)),
      )) (λ less.
      let below = ltb-false (length entry.0.bits) (length other.0.bits) less in (
        within,
        found_there,
        λ n inside some. front_or n (λ is. omega (arith, ap (λ m. length m.bits) is)) (λ same.
            let shorter = p.2 n inside (ap is_some (sym same) ∙ some) in
            omega (arith, below, shorter)),
      ))

-- the longest of entries is that of the routes that they have
longest-entries : {R : Type 0} (address : Address) (entries : List (Network × R)) → IsLongestMatchOf (route_at entries) address (longest_at address entries)
longest-entries address [] = λ n inside. refl
longest-entries {R} address (entry ∷ entries) =
    let rest = filter (λ (e : Network × R). contains e.0 address) entries in
    cond_both (contains entry.0 address) (entry ∷ rest) rest (λ kept. IsLongestMatchOf (route_at (entry ∷ entries)) address (longest kept))
    (λ within. longest-inside address entry entries within (longest rest) (longest-entries address entries))
    (λ out. longest-outside address entry entries out (longest rest) (longest-entries address entries))

-- what the definition gives is a best route
pub best_is : (routes : Routes) (peer : Peer) (address : Address) → IsBest routes peer address (longest_match routes peer address)
best_is routes peer address =
    subst (λ route. IsLongestMatchOf route address (longest_match routes peer address)) (λ i n. (sym (get-entries (peer_routes routes peer) n) ∙ get-peer_routes routes peer n) i) (longest-entries address (finite.entries (peer_routes routes peer)))

-- and it alone is
pub one_best : (routes : Routes) (peer : Peer) (address : Address) (found : Option (Network × Route)) → IsBest routes peer address found → found ≡ longest_match routes peer address
one_best routes peer address found p =
    let stored = λ (o : Option (Network × Route)). subst (λ route. IsLongestMatchOf route address o) (λ i n. sym (get-peer_routes routes peer n) i) in
    longest-one (peer_routes routes peer) address found (longest_match routes peer address) (stored found p) (stored (longest_match routes peer address) (best_is routes peer address))
