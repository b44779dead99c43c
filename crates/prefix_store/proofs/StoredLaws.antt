-- What is put into a map of routes.
use Rattle.std.proofs.Common.{◌≡◌, Bool, true, cond, Option, None, sym, ap, ◌∙◌, arith, ◌≢◌}
use Rattle.std.specs.Ordering.{eq_by_cmp, is_eq}
use Rattle.std.specs.Cmp.{Equal-is, tied_itself}
use Rattle.std.specs.FinMap as finite
use Rattle.std.specs.FinMap.{same_map}
use Rattle.std.specs.FinSet as set
use Rattle.std.specs.FinSet.{same_set}
use Rattle.ip_prefix.specs.Network.{Network, network_cmp}
use Rattle.ip_prefix.specs.OrderLaws.{network_cmp_total, network_cmp-IsAntisymmetric}
use Rattle.prefix_store.specs.Stored.{Keys, Routes, put}
use Rattle.prefix_store.proofs.PutLaws.{get-put as get-put-by}

abbrev pub tied : Network → Network → Bool
tied = eq_by_cmp network_cmp

-- prefixes that tie are one
pub same_prefix : (a b : Network) → tied a b ≡ true → a ≡ b
same_prefix a b e = network_cmp-IsAntisymmetric a b ((Equal-is (network_cmp a b)).0 e)

pub same_routes : {R : Type 0} (a b : Routes R) → ((q : Network) → finite.get a q ≡ finite.get b q) → a ≡ b
same_routes a b same = same_map network_cmp_total network_cmp-IsAntisymmetric a b same

pub same_keys : (a b : Keys) → ((q : Network) → set.contains a q ≡ set.contains b q) → a ≡ b
same_keys a b same = same_set network_cmp_total network_cmp-IsAntisymmetric a b same

pub get-put : {R : Type 0} (routes : Routes R) (prefix : Network) (new : Option R) (q : Network) → finite.get (put routes prefix new) q ≡ cond (tied q prefix) new (finite.get routes q)
get-put = get-put-by network_cmp_total

-- what is put is there
pub get-put-there : {R : Type 0} (routes : Routes R) (prefix : Network) (new : Option R) → finite.get (put routes prefix new) prefix ≡ new
get-put-there routes prefix new = get-put routes prefix new prefix ∙ ap (λ b. cond b new (finite.get routes prefix)) (ap is_eq (tied_itself network_cmp_total prefix))

-- and nothing else goes
pub get-put-others : {R : Type 0} (routes : Routes R) (q prefix : Network) (new : Option R) → q ≢ prefix → finite.get (put routes prefix new) q ≡ finite.get routes q
get-put-others routes q prefix new other = let put = get-put routes prefix new q in let same = same_prefix q prefix in grind arith

-- what is there may be put there again
pub put-same : {R : Type 0} (routes : Routes R) (prefix : Network) → put routes prefix (finite.get routes prefix) ≡ routes
put-same routes prefix =
    same_routes _ _ (λ q. let put = get-put routes prefix (finite.get routes prefix) q in let one = same_prefix q prefix in grind arith)

-- one key more has no route
pub put-none : {R : Type 0} (routes : Routes R) (prefix : Network) → finite.get routes prefix ≡ None → put routes prefix None ≡ routes
put-none routes prefix none = ap (put routes prefix) (sym none) ∙ put-same routes prefix
