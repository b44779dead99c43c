use Rattle.std.proofs.Common.{◌≡◌, ◌++◌, take, drop}
use Rattle.rib_player.specs.Journal.{sides_of, routes_across}
use Rattle.rib_player.specs.Sides.{sides_across, AreDistinctKeys, marks_of}
use Rattle.rib_player.proofs.journal.swap_routes.Given as goal

-- the entries that are left are as they were; crossing them too gives what crossing all gives
abbrev pub invariant-entries : goal.invariant-entries
invariant-entries g l =
    let rest = drop l.index l.fn.entries in
    record {
      unchanged : drop l.index l.entries ≡ rest;
      keys : l.table.keys ≡ l.fn.table.keys;
      kept : AreDistinctKeys l.table.keys (sides_of rest);
      routes : routes_across (sides_of rest) l.table.routes ≡ routes_across (sides_of l.fn.entries) l.fn.table.routes;
      entries : sides_of (take l.index l.entries) ++ sides_across l.table.routes (sides_of rest) ≡ sides_across l.fn.table.routes (sides_of l.fn.entries);
      marks : marks_of (take l.index l.entries) ++ marks_of rest ≡ marks_of l.fn.entries;
    }
