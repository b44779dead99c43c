-- What the laws of the player's definitions say, as it is shown elsewhere.
use Rattle.rib_player.proofs.ClaimLaws.{StandsFor-claimed, claims-forgotten, claims-dropped, claims-played}
use Rattle.rib_player.proofs.FloorLaws.{table_at-after_forget, current-after_forget, after_forget-none, after_forget-twice}
use Rattle.rib_player.proofs.TimelineLaws.{StandsFor-table, StandsFor-step, StandsFor-end, StandsFor-routes}
use Rattle.rib_player.proofs.HistoryLaws.{table-append}
use Rattle.rib_player.proofs.BackAndForth.{current-after_undo-after_play, after_redo-after_undo, current-played_undone, current-played_redone}
use Rattle.rib_player.proofs.PairLaws.{pair_cmp_total, pair_cmp-IsAntisymmetric}
use Rattle.rib_player.proofs.TableLaws.{get-table, get-table_after, contains-named_pairs}
use Rattle.rib_player.proofs.PeerLaws.{get-peer_routes, has-routed_peers, peers-in_order, all-peers, peers-next}
use Rattle.prefix_store.proofs.AboveLaws.{none-above}
use Rattle.rib_player.proofs.KeyLaws.{contains-needed_keys}

pub ruleset law_lemmas = (
  StandsFor-claimed,
  claims-forgotten,
  claims-dropped,
  claims-played,
  table_at-after_forget,
  current-after_forget,
  after_forget-none,
  after_forget-twice,
  StandsFor-table,
  StandsFor-step,
  StandsFor-end,
  StandsFor-routes,
  table-append,
  current-after_undo-after_play,
  after_redo-after_undo,
  current-played_undone,
  current-played_redone,
  pair_cmp_total,
  pair_cmp-IsAntisymmetric,
  get-table,
  get-table_after,
  contains-named_pairs,
  get-peer_routes,
  has-routed_peers,
  peers-in_order,
  all-peers,
  peers-next,
  none-above,
  contains-needed_keys,
)
