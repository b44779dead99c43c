use Rattle.std.proofs.Common.{◌≡◌, Some, None, Option, Bor, slice_get, sym, ap, ap₂, ◌∙◌, option_map, option_copied}
use Rattle.std.specs.Prelude.{MatchOption}
use Rattle.std.specs.FinMap as finite
use Rattle.ip_prefix.specs.declared.addr.Family.TheVariants.{V4}
use Rattle.ip_prefix.specs.Network.{Network}
use Rattle.prefix_store.specs.Contents.{Contents}
use Rattle.prefix_store.specs.Lookups.{above}
use Rattle.rib_store.specs.Store.{Trees, trees_of, contents_of, AreRadixTrees}
use Rattle.rib_store.specs.Walks.{first_some, first, first_after}
use Rattle.rib_store.proofs.WalkLaws.{found_is}
use Rattle.rib_store.proofs.FillLaws.{after_none, after_v4, after_v6}
use Rattle.rib_store.proofs.radix_store.RadixStorePrefixStore.after.Goals as goal
use Rattle.rib_store.proofs.radix_store.RadixStorePrefixStore.after.Goals.{in-None, in-Some+in-V4}

-- what a walk that came to a prefix finds next
abbrev next : {R : Type 0} → Contents R → Option (Bor Network) → Option (Network × R)
next contents prefix = slice_get (above (option_copied prefix) (finite.entries contents.routes)) 0

-- what was found in the tree of IPv4, or else the first of IPv6
abbrev found_or_first : {R : Type 0} → Trees R → Option (Network × Bor R) → Option (Network × R)
found_or_first trees found = first_some (option_map (λ p. (p.0, p.1.now)) found) (first trees.v6)

from_start : {R : Type 0} (trees : Trees R) (contents : Contents R) (prefix : Option (Bor Network)) (found : Option (Network × Bor R)) → AreRadixTrees trees → contents_of trees ≡ contents → prefix ≡ None
    → MatchOption found (first trees.v4 ≡ None) (λ p. first trees.v4 ≡ Some (p.0, p.1.now)) → found_or_first trees found ≡ next contents prefix
from_start f contents prefix found planted holds is told =
    ap (λ found. first_some found (first f.v6)) (found_is (λ p. (p.0, p.1.now)) found (first f.v4) told) ∙ after_none f planted ∙ ap₂ next holds (sym is)

from_v4 : {R : Type 0} (trees : Trees R) (contents : Contents R) (prefix : Option (Bor Network)) (low : Bor Network) (found : Option (Network × Bor R)) → AreRadixTrees trees → contents_of trees ≡ contents → prefix ≡ Some low → low.now.family ≡ V4
    → MatchOption found (first_after trees.v4 low.now ≡ None) (λ p. first_after trees.v4 low.now ≡ Some (p.0, p.1.now)) → found_or_first trees found ≡ next contents prefix
from_v4 f contents prefix low found planted holds is family told =
    ap (λ found. first_some found (first f.v6)) (found_is (λ p. (p.0, p.1.now)) found (first_after f.v4 low.now) told) ∙ after_v4 f planted low.now family ∙ ap₂ next holds (sym is)

pub returns-in-V6 : goal.returns-in-V6
returns-in-V6 g c =
    let f = trees_of c.self.inside.v4 c.self.inside.v6 in
    found_is (λ p. (p.0, p.1.now)) c.after-in-V6.result (first_after f.v6 c.in-Some.low.now) c.after-in-V6.ensures
    ∙ after_v6 f c.self.invariant.planted c.in-Some.low.now (sym c.family.ensures ∙ c.in-V6.is)
    ∙ ap₂ next c.self.view_is (sym c.in-Some.is)

pub returns-in-Some-found : goal.returns-in-Some-found
returns-in-Some-found g c =
    let f = trees_of c.self.inside.v4 c.self.inside.v6 in
    ap (found_or_first f) (sym c.in-Some-found.is) ∙ elim c.match-prefix.branch [
      | in-None w ↦ ap (found_or_first f) w.found-is ∙ from_start f c.args.self.now c.args.prefix w.first-found.result c.self.invariant.planted c.self.view_is w.in-None.is w.first-found.ensures
      | in-Some+in-V4 w ↦ ap (found_or_first f) w.found-is ∙ from_v4 f c.args.self.now c.args.prefix w.in-Some.low w.after.result c.self.invariant.planted c.self.view_is w.in-Some.is (sym w.family.ensures ∙ w.in-V4.is) w.after.ensures
    ]

pub returns-in-None-found : goal.returns-in-None-found
returns-in-None-found g c =
    let f = trees_of c.self.inside.v4 c.self.inside.v6 in
    found_is (λ p. (p.0, p.1.now)) c.first.result (first f.v6) c.first.ensures ∙ ap (found_or_first f) (sym c.in-None-found.is) ∙ elim c.match-prefix.branch [
      | in-None w ↦ ap (found_or_first f) w.found-is ∙ from_start f c.args.self.now c.args.prefix w.first-found.result c.self.invariant.planted c.self.view_is w.in-None.is w.first-found.ensures
      | in-Some+in-V4 w ↦ ap (found_or_first f) w.found-is ∙ from_v4 f c.args.self.now c.args.prefix w.in-Some.low w.after.result c.self.invariant.planted c.self.view_is w.in-Some.is (sym w.family.ensures ∙ w.in-V4.is) w.after.ensures
    ]
