use Rattle.std.proofs.Common.{◌≡◌, ◌≤◌, ◌+◌, ◌++◌, take, drop, length}
use Rattle.rib_player.specs.Representation.{cleared_entries}
use Rattle.rib_player.proofs.journal.apply_session_loss.Given as goal

-- the entries so far have their routes; with the routes that are left the others are what they will be
abbrev pub invariant-routes : goal.invariant-routes
invariant-routes g l = record {
  within : l.index + length l.route-iterator.rest.items ≤ length l.entries;
  entries : take l.index l.entries ++ cleared_entries (drop l.index l.entries) l.route-iterator.rest.items ≡ cleared_entries l.fn.entries l.initial.route-iterator.rest.items;
}
