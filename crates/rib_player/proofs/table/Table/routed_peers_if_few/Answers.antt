use Rattle.std.proofs.Common.{◌≡◌, ◌+◌, BTreeMap, ℕ, Some, None, ◌∷◌, ◌++◌, [], take, get_or, sym, ap, subst, ◌∙◌, option_map, take_all}
use Rattle.std.specs.Map.{lookup, keys_of}
use Rattle.std.specs.List.Sorted.{IsStrictlySortedBy}
use Rattle.mrt_events.specs.Event.{peer_cmp}
use Rattle.rib_player.specs.Tables.{store_at}
use Rattle.rib_player.specs.StoresByPeer.{stores_in}
use Rattle.std.proofs.lemmas.List.{take_more}
use Rattle.std.proofs.lemmas.Option.{same_Some}
use Rattle.mrt_events.specs.declared.peer.Peer.{Peer}
use Rattle.rib_player.proofs.StoreLaws.{same_peer}
use Rattle.rib_player.proofs.table.Table.routed_peers_if_few.Given.{Over}
use Rattle.rib_player.proofs.FewLaws.{IsFound, if_found, found-absent, found-empty, found-more, found-saturated_count}
use Rattle.rib_player.proofs.table.Table.routed_peers_if_few.Goals as goal
use Rattle.rib_player.proofs.table.Table.routed_peers_if_few.Goals.{Joined-peer_and_store_at, in-Some+then-count-gt0+in_ok-insert, in-Some+else-count-gt0, in_default}

-- the numbers so far are these, and the list is this one then
more : (g : Over) (c : Joined-peer_and_store_at g) (found : BTreeMap Peer ℕ) → c.match-peer_and_store_at.found ≡ found
    → IsFound g.S.PrefixStore.routes (stores_in c.self.inside.stores) c.self.inside.stores.order.entries (take c.numbers.number-index c.numbers-numbers.result.now ++ get_or c.numbers-numbers.result.now c.numbers.number-index 0 ∷ []) found.entries
    → IsFound g.S.PrefixStore.routes (stores_in c.self.inside.stores) c.self.inside.stores.order.entries (take (c.numbers.number-index + 1) c.numbers-numbers.result.now) c.match-peer_and_store_at.found.entries
more g c found is so_far =
    let s = c.self.inside.stores in
    subst (λ f. IsFound g.S.PrefixStore.routes (stores_in s) s.order.entries (take (c.numbers.number-index + 1) c.numbers-numbers.result.now) f.entries) (sym is)
    (subst (λ ns. IsFound g.S.PrefixStore.routes (stores_in s) s.order.entries ns found.entries) (sym (take_more c.numbers-numbers.result.now c.numbers.number-index 0 c.numbers-test.true)) so_far)

sorted_then : (g : Over) (c : Joined-peer_and_store_at g) (found : BTreeMap Peer ℕ) → c.match-peer_and_store_at.found ≡ found → IsStrictlySortedBy peer_cmp (keys_of found.entries) → IsStrictlySortedBy peer_cmp (keys_of c.match-peer_and_store_at.found.entries)
sorted_then g c found is = subst (λ f. IsStrictlySortedBy peer_cmp (keys_of f.entries)) (sym is)

-- the peer that has the number, if one has it
peer_of : (g : Over) (c : Joined-peer_and_store_at g) (peer : Peer) → option_map (λ found. found.0.now) c.peer_and_store_at.result ≡ Some peer → (p : Peer)
    → lookup (same_peer p) c.self.inside.stores.order.entries ≡ Some (get_or c.numbers-numbers.result.now c.numbers.number-index 0) → peer ≡ p
peer_of g c peer is p at = same_Some peer p (sym is ∙ c.peer_and_store_at.ensures.peer p at)

pub numbers-preserved : goal.numbers-preserved
numbers-preserved g c =
    let routes = g.S.PrefixStore.routes in
    let stores = stores_in c.self.inside.stores in
    let number = get_or c.numbers-numbers.result.now c.numbers.number-index 0 in
    elim c.match-peer_and_store_at.branch [
      | in-Some+then-count-gt0+in_ok-insert w ↦
          let peer = w.in-Some.named.0.now in
          let there : store_at stores peer ≡ Some w.in-Some.named.1.now = if_found (λ found. store_at stores found.0.now ≡ Some found.1.now) c.peer_and_store_at.result w.in-Some.named w.in-Some.is c.peer_and_store_at.ensures.store in
          record {
            found = more g c w.insert.new.self w.found-is
                (found-more routes c.numbers.invariant.found number peer w.in-Some.named.1.now there (peer_of g c peer (ap (option_map (λ found. found.0.now)) w.in-Some.is))
                w.route_count-count.result w.route_count-count.ensures w.if-count-gt0.true (record { each = w.in_ok-insert.ensures.updates.0 }));
            sorted = sorted_then g c w.insert.new.self w.found-is w.in_ok-insert.ensures.ordered;
          }
      | in-Some+else-count-gt0 w ↦
          let peer = w.in-Some.named.0.now in
          let there : store_at stores peer ≡ Some w.in-Some.named.1.now = if_found (λ found. store_at stores found.0.now ≡ Some found.1.now) c.peer_and_store_at.result w.in-Some.named w.in-Some.is c.peer_and_store_at.ensures.store in
          record {
            found = more g c c.numbers.found w.found-is
                (found-empty routes c.numbers.invariant.found number peer w.in-Some.named.1.now there (peer_of g c peer (ap (option_map (λ found. found.0.now)) w.in-Some.is))
                w.route_count-count.result w.route_count-count.ensures w.if-count-gt0.false);
            sorted = sorted_then g c c.numbers.found w.found-is c.numbers.invariant.sorted;
          }
      | in_default w ↦ record {
        found = more g c c.numbers.found w.found-is (found-absent routes c.numbers.invariant.found number (λ p at.
            let lost : None ≡ Some p = sym (ap (option_map (λ found. found.0.now)) w.in_default.is) ∙ c.peer_and_store_at.ensures.peer p at in
            cc));
        sorted = sorted_then g c c.numbers.found w.found-is c.numbers.invariant.sorted;
      }
    ]

pub returns : goal.returns
returns g c =
    let s = c.self.inside.stores in
    found-saturated_count g.S.PrefixStore.routes s
    (subst (λ ns. IsFound g.S.PrefixStore.routes (stores_in s) s.order.entries ns c.numbers.found.entries) (take_all c.numbers.number-index c.numbers-numbers.result.now c.numbers-test.false) c.numbers.invariant.found)
    c.numbers-numbers.ensures c.self.invariant.noted c.args.self.now.routes (ap (λ t. t.routes) c.self.view_is) c.numbers.invariant.sorted
