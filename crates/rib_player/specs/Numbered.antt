-- Private.
-- How peers, their stores and their numbers fit together, and which numbers were seen.
use Rattle.std.specs.Prelude.{◌≡◌, ℕ, Bool, ◌==◌, false, List, map, Some, slice_get, length}
use Rattle.std.specs.Option.{option_map_or}
use Rattle.std.specs.Map.{lookup}
use Rattle.std.specs.Ordering.{eq_by_cmp}
use Rattle.std.specs.declared.alloc.Global.{Global}
use Rattle.std.specs.declared.rc.Rc.{Rc}
use Rattle.mrt_events.specs.declared.peer.Peer.{Peer}
use Rattle.mrt_events.specs.Event.{peer_cmp}
use Rattle.rib_player.specs.declared.seen_peers.SeenPeers.{SeenPeers}

-- the peers that pointers point to
abbrev pub peers_in : List (Rc Peer Global) → List Peer
peers_in names = map (λ shared. shared.value) names

-- a peer has a number in `order` exactly if it is at this index of `names`, and each index of `names` has a
-- store
pub record AreNumbered {S : Type 0} (held : List S) (names : List Peer) (order : List (Peer × ℕ)) : Type 0 where
  pub there : (peer : Peer) (number : ℕ) → lookup (eq_by_cmp peer_cmp peer) order ≡ Some number → slice_get names number ≡ Some peer
  pub back : (peer : Peer) (number : ℕ) → slice_get names number ≡ Some peer → lookup (eq_by_cmp peer_cmp peer) order ≡ Some number
  pub even : length names ≡ length held

-- whether the round in which a number was last seen is the current one; a round begins when the set is
-- cleared. False for a number past the end of the list of these rounds
abbrev pub was_seen : SeenPeers → ℕ → Bool
was_seen marks number = option_map_or (λ seen. seen == marks.round) (slice_get marks.last_rounds.items number) false
