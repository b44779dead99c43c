use Rattle.std.proofs.Common.{take}
use Rattle.std.specs.List.Sorted.{IsStrictlySortedBy}
use Rattle.std.specs.Map.{keys_of}
use Rattle.mrt_events.specs.Event.{peer_cmp}
use Rattle.rib_player.specs.StoresByPeer.{stores_in}
use Rattle.rib_player.proofs.FewLaws.{IsFound}
use Rattle.rib_player.proofs.table.Table.routed_peers_if_few.Given as goal

-- the peers of the numbers so far are listed
abbrev pub invariant-numbers : goal.invariant-numbers
invariant-numbers g l = record {
  found : IsFound g.S.PrefixStore.routes (stores_in l.self-inside.stores) l.self-inside.stores.order.entries (take l.number-index l.numbers) l.found.entries;
  sorted : IsStrictlySortedBy peer_cmp (keys_of l.found.entries);
}
