use Rattle.std.proofs.Common.{◌≡◌, ℕ, ◌+◌, take, true, false, ◌||◌, ◌&&◌, sym, ap, ap₂, subst, ◌∙◌, arith}
use Rattle.std.specs.FinMap as finite
use Rattle.std.specs.FinSet as set
use Rattle.rib_player.specs.declared.pair.Pair.{Pair}
use Rattle.rib_player.specs.Claims.{one_if, claims_beyond, held_claims, OnlyKeysHaveExtraClaims}
use Rattle.rib_player.specs.declared.claims.ExtraKeyClaims.{ExtraKeyClaims}
use Rattle.rib_player.specs.Tables.{Contents}
use Rattle.std.proofs.Math.Bool.{or-false}
use Rattle.rib_player.specs.Sides.{mark_of, marks_of, releases_claim, any_releases_claim_of}
use Rattle.rib_player.proofs.PairLaws.{same_pair}
use Rattle.rib_player.proofs.MarkLaws.{tied, gives-at, gives-before, gives-more}
use Rattle.rib_player.proofs.HeldLaws.{some-key, one_true, one_false, one-or, none-counted_beyond, removed-held, removed-claimed}
use Rattle.rib_player.proofs.claims.release_claims.Goals as goal
use Rattle.rib_player.proofs.claims.release_claims.Given.{Over}
use Rattle.rib_player.proofs.claims.release_claims.Goals.{After-entry-item, Then-not-try_decrement, Joined-releases_claim, then-releases_claim+then-not-try_decrement, then-releases_claim+else-not-try_decrement, else-releases_claim}

-- the entry gives up a claim
gives : (g : Over) (c : After-entry-item g) → releases_claim c.args.end (mark_of c.entry-item.result) ≡ true → any_releases_claim_of c.args.end (marks_of c.args.entries.now) c.entry-item.result.pair ≡ true
gives g c e =
    subst (λ x. releases_claim c.args.end (mark_of x) ≡ true → any_releases_claim_of c.args.end (marks_of c.args.entries.now) x.pair ≡ true) (sym c.entry-item.is)
    (gives-at c.args.end c.args.entries.now c.entries.entry-index c.entry-item.result (omega arith)) e

-- that those before it didn't
before : (g : Over) (c : After-entry-item g) → any_releases_claim_of c.args.end (marks_of (take c.entries.entry-index c.args.entries.now)) c.entry-item.result.pair ≡ false
before g c =
    ap (λ x. any_releases_claim_of c.args.end (marks_of (take c.entries.entry-index c.args.entries.now)) x.pair) c.entry-item.is
    ∙ gives-before c.args.end c.args.entries.now c.entries.entry-index c.entry-item.result (omega arith) c.requires.distinct

-- so the pair is claimed as at first
same : (g : Over) (c : After-entry-item g) → held_claims c.entries.table.keys (claims_beyond c.entries.claims) c.entry-item.result.pair ≡ held_claims c.args.table.now.keys (claims_beyond c.args.claims.now) c.entry-item.result.pair
same g c = omega (arith, c.entries.invariant.claimed c.entry-item.result.pair, one_false _ (before g c))

key : (g : Over) (c : After-entry-item g) → releases_claim c.args.end (mark_of c.entry-item.result) ≡ true → set.contains c.entries.table.keys c.entry-item.result.pair ≡ true
key g c e =
    some-key c.entries.table.keys (claims_beyond c.entries.claims) c.entry-item.result.pair c.entries.invariant.held
    (omega (arith, same g c, one_true _ (c.requires.keys c.entry-item.result.pair (gives g c e))))

pub discard-requires-clause-key : goal.discard-requires-clause-key
discard-requires-clause-key g c =
    let b = (goal.at.discard-requires-clause-key g c).After-entry-item in
    ap (set.contains c.entries.table.keys) c.pair-pair.ensures ∙ key g b (sym c.releases_claim.ensures ∙ c.if-releases_claim.true)

-- nothing is counted beyond the key
none : (g : Over) (c : Then-not-try_decrement g) → claims_beyond c.entries.claims c.pair-pair.result ≡ 0
none g c = none-counted_beyond (claims_beyond c.entries.claims c.pair-pair.result) c.try_decrement.result c.try_decrement.ensures.some c.if-not-try_decrement.true

pub discard-requires-clause-free : goal.discard-requires-clause-free
discard-requires-clause-free g c =
    let b = (goal.at.discard-requires-clause-free g c).After-entry-item in
    let e = sym c.releases_claim.ensures ∙ c.if-releases_claim.true in
    let p = c.entry-item.result.pair in
    let none = none g (goal.at.discard-requires-clause-free g c).Then-not-try_decrement in
    ap (finite.get c.entries.table.routes) c.pair-pair.ensures ∙ ap (λ r. finite.get r p) c.entries.invariant.routes
    ∙ c.requires.free p (gives g b e)
    (omega (arith, same g b, ap (claims_beyond c.entries.claims) (sym c.pair-pair.ensures) ∙ none, one_true _ (key g b e), one_true _ (c.requires.keys p (gives g b e))))

-- where the entry gives a claim up, all that were to be are given up with it
claimed-more : (g : Over) (c : After-entry-item g) → releases_claim c.args.end (mark_of c.entry-item.result) ≡ true → (now : Pair → ℕ)
    → ((q : Pair) → now q + one_if (tied q c.entry-item.result.pair) ≡ held_claims c.entries.table.keys (claims_beyond c.entries.claims) q)
    → (q : Pair) → now q + one_if (any_releases_claim_of c.args.end (marks_of (take (c.entries.entry-index + 1) c.args.entries.now)) q)
    ≡ held_claims c.args.table.now.keys (claims_beyond c.args.claims.now) q
claimed-more g c gives now less q =
    let p = c.entry-item.result.pair in
    let end = c.args.end in
    let marks = marks_of (take c.entries.entry-index c.args.entries.now) in
    let more = gives-more end c.args.entries.now c.entries.entry-index c.entry-item.result q (omega arith) c.entry-item.is in
    let one = ap one_if more ∙ ap (λ x. one_if (any_releases_claim_of end marks q || (x && tied q p))) gives
    ∙ one-or (any_releases_claim_of end marks q) (tied q p) (λ t. ap (any_releases_claim_of end marks) (same_pair q p t) ∙ before g c) in
    omega (arith, one, less q, c.entries.invariant.claimed q)

pub entries-preserved : goal.entries-preserved
entries-preserved g c =
    let b = (goal.at.entries-preserved g c).After-entry-item in
    let p = c.entry-item.result.pair in
    let end = c.args.end in
    let marks = marks_of (take c.entries.entry-index c.args.entries.now) in
    let keys = c.entries.table.keys in
    let beyond = claims_beyond c.entries.claims in
    let claimed : (t : Contents) (k : ExtraKeyClaims) → c.if-releases_claim.table ≡ t → c.if-releases_claim.claims ≡ k → (q : Pair)
    → held_claims c.if-releases_claim.table.keys (claims_beyond c.if-releases_claim.claims) q + one_if (any_releases_claim_of end (marks_of (take (c.entries.entry-index + 1) c.args.entries.now)) q)
    ≡ held_claims t.keys (claims_beyond k) q + one_if (any_releases_claim_of end (marks_of (take (c.entries.entry-index + 1) c.args.entries.now)) q) =
    λ t k is is' q. ap₂ (λ (t : Contents) (k : ExtraKeyClaims). held_claims t.keys (claims_beyond k) q + one_if (any_releases_claim_of end (marks_of (take (c.entries.entry-index + 1) c.args.entries.now)) q)) is is' in
    let held : (t : Contents) (k : ExtraKeyClaims) → c.if-releases_claim.table ≡ t → c.if-releases_claim.claims ≡ k → OnlyKeysHaveExtraClaims t.keys (claims_beyond k) → OnlyKeysHaveExtraClaims c.if-releases_claim.table.keys (claims_beyond c.if-releases_claim.claims) =
    λ t k is is' h. subst (λ t. OnlyKeysHaveExtraClaims t.keys (claims_beyond c.if-releases_claim.claims)) (sym is) (subst (λ k. OnlyKeysHaveExtraClaims t.keys (claims_beyond k)) (sym is') h) in
    elim c.if-releases_claim.branch [
      | then-releases_claim+then-not-try_decrement w ↦
          let gives = sym c.releases_claim.ensures ∙ w.if-releases_claim.true in
          let own = w.pair-pair.result in
          let none : beyond own ≡ 0 = none-counted_beyond (beyond own) w.try_decrement.result w.try_decrement.ensures.some w.if-not-try_decrement.true in
          let same : (q : Pair) → claims_beyond w.try_decrement.new.self q ≡ beyond q = λ q. omega (arith, w.try_decrement.ensures.counted q, ap (λ b. one_if (b && tied q own)) w.if-not-try_decrement.true) in
          let there = ap (set.contains keys) w.pair-pair.ensures ∙ key g b gives in
          record {
            held = held _ _ w.table-is w.claims-is (removed-held keys w.discard.new.self.keys beyond (claims_beyond w.try_decrement.new.self) own w.discard.ensures.keys same none c.entries.invariant.held);
            claimed = λ q. claimed _ _ w.table-is w.claims-is q
                ∙ claimed-more g b gives (held_claims w.discard.new.self.keys (claims_beyond w.try_decrement.new.self))
                (λ q. omega (arith, removed-claimed keys w.discard.new.self.keys beyond (claims_beyond w.try_decrement.new.self) own q w.discard.ensures.keys (same q) there, ap (λ x. one_if (tied q x)) w.pair-pair.ensures)) q;
            routes = ap (λ t. t.routes) w.table-is ∙ w.discard.ensures.routes ∙ c.entries.invariant.routes;
          }
      | then-releases_claim+else-not-try_decrement w ↦
          let gives = sym c.releases_claim.ensures ∙ w.if-releases_claim.true in
          let less : (q : Pair) → claims_beyond w.try_decrement.new.self q + one_if (tied q p) ≡ beyond q =
          λ q. omega (arith, w.try_decrement.ensures.counted q, ap (λ b. one_if (b && tied q w.pair-pair.result)) w.if-not-try_decrement.false, ap (λ x. one_if (tied q x)) w.pair-pair.ensures) in
          record {
            held = held _ _ w.table-is w.claims-is (λ q absent. omega (arith, less q, c.entries.invariant.held q absent));
            claimed = λ q. claimed _ _ w.table-is w.claims-is q ∙ claimed-more g b gives (held_claims keys (claims_beyond w.try_decrement.new.self)) (λ q. omega (arith, less q)) q;
            routes = ap (λ t. t.routes) w.table-is ∙ c.entries.invariant.routes;
          }
      | else-releases_claim w ↦
          let gives : releases_claim end (mark_of c.entry-item.result) ≡ false = sym c.releases_claim.ensures ∙ w.if-releases_claim.false in
          record {
            held = held _ _ w.table-is w.claims-is c.entries.invariant.held;
            claimed = λ q. claimed _ _ w.table-is w.claims-is q
                ∙ ap (λ x. held_claims keys beyond q + one_if x) (gives-more end c.args.entries.now c.entries.entry-index c.entry-item.result q (omega arith) c.entry-item.is
                ∙ ap (λ x. any_releases_claim_of end marks q || (x && tied q p)) gives ∙ or-false (any_releases_claim_of end marks q))
                ∙ c.entries.invariant.claimed q;
            routes = ap (λ t. t.routes) w.table-is ∙ c.entries.invariant.routes;
          }
    ]
