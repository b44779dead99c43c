use Rattle.std.proofs.Common.{◌≡◌, ◌+◌, take}
use Rattle.rib_player.specs.declared.pair.Pair.{Pair}
use Rattle.rib_player.specs.Claims.{one_if, claims_beyond, held_claims, OnlyKeysHaveExtraClaims}
use Rattle.rib_player.specs.Sides.{marks_of, any_releases_claim_of}
use Rattle.rib_player.proofs.claims.release_claims.Given as goal

-- the claims of the entries so far are given up
abbrev pub invariant-entries : goal.invariant-entries
invariant-entries g l = record {
  held : OnlyKeysHaveExtraClaims l.table.keys (claims_beyond l.claims);
  claimed : (q : Pair) → held_claims l.table.keys (claims_beyond l.claims) q + one_if (any_releases_claim_of l.end (marks_of (take l.entry-index l.entries)) q)
      ≡ held_claims l.fn.table.keys (claims_beyond l.fn.claims) q;
  routes : l.table.routes ≡ l.fn.table.routes;
}
