use Rattle.std.proofs.Common.{[], refl, ap, ◌∙◌, arith}
use Rattle.std.specs.FinMap as finite
use Rattle.std.specs.FinMap.{len-empty}
use Rattle.std.specs.FinSet as set
use Rattle.ip_prefix.specs.Network.{network_cmp}
use Rattle.rib_store.proofs.SlotLaws.{keys_in-none, routes_in-none}
use Rattle.rib_store.proofs.radix_store.RadixStorePrefixStore.new.Goals as goal

pub invariant_of-result : goal.invariant_of-result
invariant_of-result g c = record {
  planted = record { sides = record { left = tt; right = tt }; v4 = tt; v6 = tt };
  v4_marks = tt;
  v6_marks = tt;
  keys = omega (arith, ap set.len (keys_in-none {R = g.row.R.Denot} [] refl) ∙ set.len-empty network_cmp);
  routes = omega (arith, ap finite.len (routes_in-none {R = g.row.R.Denot} [] refl) ∙ len-empty network_cmp g.row.R.Denot);
}

pub returns-clause-keys : goal.returns-clause-keys
returns-clause-keys g c = keys_in-none _ refl

pub returns-clause-routes : goal.returns-clause-routes
returns-clause-routes g c = routes_in-none _ refl
