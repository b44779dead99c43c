use Rattle.std.proofs.Common.{◌≡◌, ◌+◌, ◌-◌, ◌≤◌, true, length, take, drop}
use Rattle.rib_player.specs.declared.pair.Pair.{Pair}
use Rattle.rib_player.specs.declared.entry.JournalEnd.TheVariants.{Last}
use Rattle.rib_player.specs.Claims.{one_if, claims_beyond, held_claims, OnlyKeysHaveExtraClaims}
use Rattle.std.specs.List.{AllByRecursion}
use Rattle.std.specs.FinSet.{contains}
use Rattle.prefix_store.specs.Stored.{ContainsDomain}
use Rattle.rib_player.specs.Journal.{sides_of, pairs_in, routes_across}
use Rattle.rib_player.specs.Sides.{sides_across, marks_of, marks_across, any_releases_claim_of}
use Rattle.rib_player.proofs.journal.apply_entries.Given as goal

-- the entries so far are crossed, marked and claimed; the others are as they were
abbrev pub invariant-entries : goal.invariant-entries
invariant-entries g l = record {
  within : l.made ≤ length l.entries;
  unchanged : drop l.made l.entries ≡ drop l.made l.fn.entries;
  keys : AllByRecursion (λ p. contains l.table.keys p ≡ true) (pairs_in (sides_of (take l.made l.fn.entries)));
  among : ContainsDomain l.table.keys l.table.routes;
  held : OnlyKeysHaveExtraClaims l.table.keys (claims_beyond l.claims);
  claimed : (q : Pair) → held_claims l.table.keys (claims_beyond l.claims) q
      ≡ held_claims l.fn.table.keys (claims_beyond l.fn.claims) q + one_if (any_releases_claim_of Last (marks_of (take l.made l.entries)) q);
  marks : marks_of (take l.made l.entries) ≡ marks_across l.fn.table.routes (sides_of (take l.made l.fn.entries));
  routes : l.table.routes ≡ routes_across (sides_of (take l.made l.fn.entries)) l.fn.table.routes;
  crossed : sides_of (take l.made l.entries) ≡ sides_across l.fn.table.routes (sides_of (take l.made l.fn.entries));
}

abbrev pub decreases-entries : goal.decreases-entries
decreases-entries g l = length l.entries - l.made
